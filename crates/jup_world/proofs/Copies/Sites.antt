-- Any two copies of the board.
use Rattle.std.proofs.Common.{◌≡◌, ◌⊎◌, ℕ, ◌+◌, ◌≤◌, inl, inr, Bool, true, false, List, [], ◌∷◌, length, nat_eq, nat_le, refl, ap, sym, Some, arith, eqb-true, leb-false, leb-true, le_refl, length-append, subst}
use Rattle.jup_world.specs.Prelude.{Operations, AreLawful, Windows, board_batches, batch_laws, LinkState, StarOf, link_of, most_batches}
use Rattle.jup_world.specs.Traces.{joined_at, OrdersAgree}
use Rattle.jup_world.specs.Worlds.{attached, WorldOf, EventOf, opened_world, happens, run, only_fetched, AttachedOf}
use Rattle.jup_world.specs.Sound.{moment_of, IsSound}
use Rattle.jup_world.specs.Boards as boards
use Rattle.jup_world.specs.Happenings as happenings
use Rattle.jup_world.specs.Lanes.{LaneEvent, Plain, PushUp, PushDown, LaneWorld, messages_of, messages_after, Steps, AllTried, IsSparedBy}
use Rattle.jup_site.specs.Moments.{told_count}
use Rattle.jup_site.proofs.Copies as meeting
use Rattle.jup_site.proofs.Courses.{becomes-adds}
use Rattle.jup_world.proofs.Sound.Runs.{sound-happens, sound-run}
use Rattle.jup_world.proofs.Sound.Steps.{star-becomes}
use Rattle.jup_world.proofs.Orders as orders
use Rattle.jup_world.proofs.Copies.Boards as past_boards
use Rattle.jup_world.proofs.Copies.Stars as past_stars
use Rattle.jup_world.proofs.Lanes.Worlds as lane_worlds

-- A board that a site once showed, and what another site shows: both agree with a star that the world once had, and that knew what both sites know.

module _ (O : Operations) (L : AreLawful O) (symmetric : (x y : O.State) → O.t.keeps_order x y → O.t.keeps_order y x) (most : ℕ) where
  -- of two worlds the later has what each event keeps, and each fetch of one message
  abbrev pub IsKept : WorldOf O → WorldOf O → Type 1
  IsKept u v = (P : WorldOf O → Type 0) → ((w : WorldOf O) → IsSound O most w → (e : EventOf O) → P w → P (happens O w e))
      → ((w : WorldOf O) → IsSound O most w → (i : ℕ) (l : LinkState O.Op) (a : AttachedOf O) → link_of i w.star.links ≡ Some l → attached i w.sites ≡ Some a → P w → P (only_fetched O w i 1 l)) → P u → P v

  -- # Past stars

  -- for each length that the order has had, a star that the world had then
  abbrev pub HasPastStars : WorldOf O → Type 0
  HasPastStars w = (k : ℕ) → k ≤ length w.star.order → (z : StarOf O) × (length z.order ≡ k) × past_stars.WasStar O L symmetric most w z

  pub past_stars_opened : (limit : ℕ) (board : O.State) → IsSound O most (opened_world O board limit) → HasPastStars (opened_world O board limit)
  past_stars_opened limit board s k h = ((opened_world O board limit).star, omega arith, past_stars.was_now O L symmetric most (opened_world O board limit) s)

  -- each event keeps this, since the order grows by one entry at the most
  module _ (w : WorldOf O) (s : IsSound O most w) (e : EventOf O) where
    longer : length (happens O w e).star.order ≤ length w.star.order + 1
    longer = let adds = becomes-adds O L most (O.t.content w.opening) w.star (happens O w e).star (star-becomes O w e) in omega (arith, adds.one, ap length adds.grows, length-append w.star.order adds.more)

    next : IsSound O most (happens O w e)
    next = sound-happens O L most w e s

    -- a longer order is that of the star after it
    length_next : (k : ℕ) → k ≤ length (happens O w e).star.order → nat_le k (length w.star.order) ≡ false → length (happens O w e).star.order ≡ k
    length_next k h f = let above = leb-false k (length w.star.order) f in omega (arith, longer, h, above)

    pub past_stars_happens : HasPastStars w → HasPastStars (happens O w e)
    past_stars_happens past k h = cases (nat_le k (length w.star.order)) refl
      where
        cases : (b : Bool) → nat_le k (length w.star.order) ≡ b → (z : StarOf O) × (length z.order ≡ k) × past_stars.WasStar O L symmetric most (happens O w e) z
        cases true f = let was = past k (leb-true k (length w.star.order) f) in (was.0, was.1, past_stars.was_star_happens O L symmetric most w s was.0 was.2 e)
        cases false f = ((happens O w e).star, length_next k h f, past_stars.was_now O L symmetric most (happens O w e) next)

  -- and so does a fetch
  pub past_stars_fetched : (w : WorldOf O) → IsSound O most w → (i n : ℕ) (l : LinkState O.Op) (a : AttachedOf O) → link_of i w.star.links ≡ Some l → attached i w.sites ≡ Some a
      → HasPastStars w → HasPastStars (only_fetched O w i n l)
  past_stars_fetched w s i n l a fl fa past k h = let was = past k h in (was.0, was.1, past_stars.was_star_fetched O L symmetric most w s was.0 was.2 i n l a fl fa)

  -- what each event keeps, and a fetch, is kept over any run
  run_keeps : (es : List (EventOf O)) (w : WorldOf O) → IsSound O most w → IsKept w (run O w es)
  run_keeps [] w s P event fetch p = p
  run_keeps (e ∷ es) w s P event fetch p = run_keeps es (happens O w e) (next w s e) P event fetch (event w s e p)

  pub past_stars_run : (es : List (EventOf O)) (w : WorldOf O) → IsSound O most w → HasPastStars w → HasPastStars (run O w es)
  past_stars_run es w s = run_keeps es w s HasPastStars past_stars_happens (λ v t i l a fl fa. past_stars_fetched v t i 1 l a fl fa)

  -- # A past board of a site

  -- A board that the site of a number once showed, when so many entries had reached it, beside a star of each length.
  pub record WasCopy (w : WorldOf O) (i count : ℕ) (x : O.State) : Type 0 where
    pub shown : past_boards.WasShown O L symmetric most w i x
    pub within : count ≤ length w.star.order
    pub stars : (k : ℕ) → k ≤ length w.star.order → (z : StarOf O) × (length z.order ≡ k) × past_stars.WasStar O L symmetric most w z × meeting.Meets O L symmetric most (O.t.content w.opening) i count x z

  -- how many entries have reached a site
  abbrev pub count_of : (w : WorldOf O) → IsSound O most w → (i : ℕ) (a : AttachedOf O) → attached i w.sites ≡ Some a → ℕ
  count_of w s i a fa = told_count O (joined_at O i w.trace) i (moment_of O w i (s.sites i a fa).link a)

  -- the site of the moment
  pub copy_now : (w : WorldOf O) (s : IsSound O most w) → HasPastStars w → (i : ℕ) (a : AttachedOf O) (fa : attached i w.sites ≡ Some a) → WasCopy w i (count_of w s i a fa) a.site.board
  copy_now w s past i a fa =
      let here = s.sites i a fa in
      let m = moment_of O w i here.link a in
      record {
        shown = past_boards.was_here O L symmetric most w s i a fa;
        within = meeting.told-within O L symmetric most (O.t.content w.opening) (joined_at O i w.trace) i m here.beside;
        stars = λ k h. (let was = past k h in (
          was.0,
          was.1,
          was.2,
          meeting.meets-now O L symmetric most (O.t.content w.opening) (joined_at O i w.trace) i m here.beside was.0 (was.2.sites i here.link a here.linked fa),
        ));
      }

  -- each event keeps it: a star that the event adds has more entries than had reached the site
  module _ (w : WorldOf O) (s : IsSound O most w) (i count : ℕ) (x : O.State) (was : WasCopy w i count x) where
    copy_happens : (e : EventOf O) → WasCopy (happens O w e) i count x
    copy_happens e = record { shown = shown_on; within = (let adds = becomes-adds O L most (O.t.content w.opening) w.star (happens O w e).star (star-becomes O w e) in omega (arith, was.within, ap length adds.grows, length-append w.star.order adds.more)); stars = λ k h. cases k h (nat_le k (length w.star.order)) refl }
      where
        shown_on : past_boards.WasShown O L symmetric most (happens O w e) i x
        shown_on = past_boards.was_happens O L symmetric most w s i x was.shown e

        cases : (k : ℕ) → k ≤ length (happens O w e).star.order → (b : Bool) → nat_le k (length w.star.order) ≡ b
            → (z : StarOf O) × (length z.order ≡ k) × past_stars.WasStar O L symmetric most (happens O w e) z × meeting.Meets O L symmetric most (O.t.content w.opening) i count x z
        cases k h true f = let z = was.stars k (leb-true k (length w.star.order) f) in (z.0, z.1, past_stars.was_star_happens O L symmetric most w s z.0 z.2 e, z.3)
        cases k h false f =
            let z = was.stars (length w.star.order) (le_refl _) in
            let above = leb-false k (length w.star.order) f in
            let low = was.within in
            let is = length_next w s e k h f in (
              (happens O w e).star,
              is,
              past_stars.was_now O L symmetric most (happens O w e) (next w s e),
              meeting.meets-new O L symmetric most (O.t.content w.opening) i count x z.0 (happens O w e).star z.3 (omega (arith, low, z.1)) (omega (arith, above, is, z.1))
                  (past_stars.was_star_happens O L symmetric most w s z.0 z.2 e).was.follows (past_boards.was_order O L symmetric most (happens O w e) i x shown_on),
            )

    -- and so does a fetch
    copy_fetched : (j n : ℕ) (l : LinkState O.Op) (a : AttachedOf O) → link_of j w.star.links ≡ Some l → attached j w.sites ≡ Some a → WasCopy (only_fetched O w j n l) i count x
    copy_fetched j n l a fl fa = record {
      shown = past_boards.was_fetched O L symmetric most w s i x was.shown j n l a fl fa;
      within = was.within;
      stars = λ k h. (let z = was.stars k h in (z.0, z.1, past_stars.was_star_fetched O L symmetric most w s z.0 z.2 j n l a fl fa, z.3));
    }

    -- So it and what another site shows have one order
    copies_meet : (j : ℕ) → nat_eq i j ≡ false → (b : AttachedOf O) → attached j w.sites ≡ Some b → O.t.keeps_order x b.site.board
    copies_meet j apart b fb =
        let here = s.sites j b fb in
        let m = moment_of O w j here.link b in
        meeting.copies-agree O L symmetric most (O.t.content w.opening) i count x (joined_at O j w.trace) j apart m here.beside (length w.star.order) was.within
        (meeting.told-within O L symmetric most (O.t.content w.opening) (joined_at O j w.trace) j m here.beside) (λ k h. (let z = was.stars k h in (z.0, z.1, z.2.sites j here.link b here.linked fb, z.3)))

  -- # Any two copies

  -- Of two moments both stars and all sites show in one order what both show: four cases.
  module _ (u v : WorldOf O) (su : IsSound O most u) (sv : IsSound O most v) (past : HasPastStars u) (keeps : IsKept u v) (star_star : O.t.keeps_order u.star.board v.star.board)
      (same_site : (i : ℕ) (a b : AttachedOf O) → attached i u.sites ≡ Some a → attached i v.sites ≡ Some b → O.t.keeps_order a.site.board b.site.board) where
    -- the star, and a site at the later moment
    star_site : (j : ℕ) (b : AttachedOf O) → attached j v.sites ≡ Some b → O.t.keeps_order u.star.board b.site.board
    star_site j b fb =
        let here = sv.sites j b fb in
        let was = keeps (λ w. past_stars.WasStar O L symmetric most w u.star) (λ w s e was. past_stars.was_star_happens O L symmetric most w s u.star was e)
        (λ w s i l a fl fa was. past_stars.was_star_fetched O L symmetric most w s u.star was i 1 l a fl fa) (past_stars.was_now O L symmetric most u su) in
        past_stars.past_order O L symmetric most v u.star was j here.link b here.linked fb

    -- what a site showed at the first moment is a past board at the later one
    copy_later : (i : ℕ) (a : AttachedOf O) (fa : attached i u.sites ≡ Some a) → WasCopy v i (count_of u su i a fa) a.site.board
    copy_later i a fa = keeps (λ w. WasCopy w i (count_of u su i a fa) a.site.board) (λ w s e was. copy_happens w s i (count_of u su i a fa) a.site.board was e)
        (λ w s j l b fl fb was. copy_fetched w s i (count_of u su i a fa) a.site.board was j 1 l b fl fb) (copy_now u su past i a fa)

    -- a site, and the star at the later moment
    site_star : (i : ℕ) (a : AttachedOf O) → attached i u.sites ≡ Some a → O.t.keeps_order a.site.board v.star.board
    site_star i a fa = past_boards.was_order O L symmetric most v i a.site.board (copy_later i a fa).shown

    -- a site, and a site at the later moment: the same, or another
    site_site : (i j : ℕ) (a b : AttachedOf O) → attached i u.sites ≡ Some a → attached j v.sites ≡ Some b → O.t.keeps_order a.site.board b.site.board
    site_site i j a b fa fb = cases (nat_eq i j) refl
      where
        cases : (c : Bool) → nat_eq i j ≡ c → O.t.keeps_order a.site.board b.site.board
        cases true e = same_site i a b fa (rw (eqb-true i j e) fb)
        cases false e = copies_meet v sv i (count_of u su i a fa) a.site.board (copy_later i a fa) j e b fb

    pub all_copies : OrdersAgree O u v
    all_copies x y (inl p) (inl q) = rw (p, q) star_star
    all_copies x y (inl p) (inr c) = rw (p, c.3) (star_site c.0 c.1 c.2)
    all_copies x y (inr d) (inl q) = rw (d.3, q) (site_star d.0 d.1 d.2)
    all_copies x y (inr d) (inr c) = rw (d.3, c.3) (site_site d.0 c.0 d.1 c.1 d.2 c.2)

  -- over any run
  pub run_copies : (w : WorldOf O) → IsSound O most w → HasPastStars w → (es : List (EventOf O)) → OrdersAgree O w (run O w es)
  run_copies w s past es = all_copies w (run O w es) s (sound-run O L es most w s) past (run_keeps es w s) (orders.run-follows O L es most w s).order
      (λ i a b fa fb. (orders.run_follows O L es most w s i a b fa fb).order)

-- Any two copies of the board in a world whose links carry bytes, after events of which some were refused because an allocation failed.

-- What each event keeps, and a fetch without more, is kept by events in turn of which each happened or was refused.
lane_keeps : (P : boards.BoardWorld → Type 0) → ((w : boards.BoardWorld) → happenings.IsWorld w → (e : boards.BoardEvent) → P w → P (happens board_batches w e))
    → ((w : boards.BoardWorld) → happenings.IsWorld w → (i : ℕ) (l : boards.BoardLink) (a : boards.BoardAttached) → link_of i w.star.links ≡ Some l → attached i w.sites ≡ Some a → P w → P (only_fetched board_batches w i 1 l))
    → (events : List LaneEvent) (w v : LaneWorld) → happenings.IsLaneWorld w → AllTried w events v → P (messages_of w) → P (messages_of v)
lane_keeps P event fetch [] w v is same p = subst (λ (u : LaneWorld). P (messages_of u)) (sym same) p
lane_keeps P event fetch (e ∷ es) w v is next p = lane_keeps P event fetch es next.0 v (lane_worlds.try_keeps w e next.0 is next.1) next.2 (one next.1)
  where
    spared : (u : boards.BoardWorld) → happenings.IsSpared (messages_of w) u → P u
    spared u (inl same) = subst P (sym same) p
    spared u (inr more) = subst P (sym more.5) (fetch (messages_of w) is.world more.0 more.1 more.2 more.3 more.4 p)

    after : (e : LaneEvent) → P (messages_after w e)
    after (Plain e) = event (messages_of w) is.world e p
    after (PushUp i n) = subst P (sym (lane_worlds.after_up w i n)) p
    after (PushDown i n) = spared (messages_after w (PushDown i n)) (lane_worlds.pushed_spared w i n)

    one : Steps w e next.0 ⊎ IsSparedBy w e next.0 → P (messages_of next.0)
    one (inl step) = subst P (sym step.messages) (after e)
    one (inr refused) = spared (messages_of next.0) (lane_worlds.spared_messages w next.0 e refused)

module _ (symmetric : (x y : Windows) → board_batches.t.keeps_order x y → board_batches.t.keeps_order y x) (u v : LaneWorld) (is : happenings.IsLaneWorld u) (past : HasPastStars board_batches batch_laws symmetric most_batches (messages_of u))
    (events : List LaneEvent) (steps : AllTried u events v) where
  kept : IsKept board_batches batch_laws symmetric most_batches (messages_of u) (messages_of v)
  kept P event fetch = lane_keeps P (λ w is. event w is.board.sound) (λ w is. fetch w is.board.sound) events u v is steps

  -- any two copies
  pub tried_copies : OrdersAgree board_batches (messages_of u) (messages_of v)
  tried_copies =
      let order = lane_worlds.tried_order events u v is steps in
      all_copies board_batches batch_laws symmetric most_batches (messages_of u) (messages_of v) is.world.board.sound (lane_worlds.tried_keeps events u v is steps).world.board.sound past kept order.star order.sites

  -- for each length of the order a past star: events in turn keep that
  pub lane_past_stars : HasPastStars board_batches batch_laws symmetric most_batches (messages_of v)
  lane_past_stars = kept (HasPastStars board_batches batch_laws symmetric most_batches) (past_stars_happens board_batches batch_laws symmetric most_batches)
      (λ w s i l a fl fa. past_stars_fetched board_batches batch_laws symmetric most_batches w s i 1 l a fl fa) past
