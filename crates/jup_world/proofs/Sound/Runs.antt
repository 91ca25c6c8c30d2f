-- A sound world over any events, and what it answers.
use Rattle.std.proofs.Common.{◌≡◌, ℕ, ◌+◌, ◌<◌, ◌≤◌, ◌⊎◌, List, [], ◌∷◌, ◌++◌, drop, length, refl, ap, sym, ◌∙◌, subst, Option, Some, None, arith, inl, inr, false, nat_lt, Result, Ok, Err, lt-ltb, Bool, true, nat_le, leb-true, leb-false}
use Rattle.std.proofs.lemmas.Bool.{false_from_ne_true, ltb-true}
use Rattle.jup_world.specs.Prelude.{most_beyond, last_site, most_attached, Msg, Operations, AreLawful, Up, UpOp, UpAck, UpPing, DownOp, DownAck, DownPong, LogFull, Full, SitesSpent, Down, StarFault, downs, LinkState, link_fetched, link_of, fetched, up_fault, StarOf, join_fault, left, deliver_fault, edit_answer, test, EditFault, Asked, Left, Taken, Detached, Nothing}
use Rattle.jup_world.specs.Traces as traces
use Rattle.jup_world.specs.Worlds.{attached, WorldOf, EventOf, opened_world, Outcome, outcome, happens, run, only_fetched, ReplyOf, at_number, at_linked, at_attached, join_outcome, edit_outcome, up_outcome, first_up, down_outcome, first_down, unchanged, stray_joins, stray_sends, stray_leaves, at_stray, AttachedOf, with_fetched}
use Rattle.jup_world.specs.Sound.{moment_of, StandsBeside, IsSound, IsIdle, JoinReplies, edit_reply, UpReplies, DownReplies, SiteReplies, RepliesTo, IsAnswered, StrayReplies, StrayRepliesTo, SitesHold, OnlyFull}
use Rattle.jup_world.specs.Events as event
use Rattle.jup_site.proofs.Pairs.Places.{place-fits}
use Rattle.jup_site.specs.Moments as moments
use Rattle.jup_site.proofs.Numbers.{at_one, either}
use Rattle.jup_site.proofs.Stars as stars
use Rattle.jup_site.proofs.Beside.{fits, runs-beside}
use Rattle.jup_site.proofs.Views as views
use Rattle.jup_world.proofs.Sound.Comes.{ComesTo}
use Rattle.jup_world.proofs.Sound.Steps.{sound-step}
use Rattle.jup_world.proofs.Sound.Traces.{beside}
use Rattle.jup_world.proofs.Stars.{accepted}
use Rattle.jup_site.proofs.Fits as fitting

-- A world is sound as it is opened, and after any events; and what that promises.

module _ (O : Operations) (L : AreLawful O) where
  -- every event keeps a world sound
  pub sound-happens : (most : ℕ) (w : WorldOf O) (e : EventOf O) → IsSound O most w → IsSound O most (happens O w e)
  sound-happens most w e s = sound-step O L most w s e

  -- after any events
  pub sound-run : (es : List (EventOf O)) (most : ℕ) (w : WorldOf O) → IsSound O most w → IsSound O most (run O w es)
  sound-run [] most w s = s
  sound-run (e ∷ es) most w s = sound-run es most (happens O w e) (sound-happens most w e s)

  -- as it is opened
  pub sound-opened : (most limit : ℕ) (board : O.State) → O.t.is_distinct board → O.t.is_small most board → limit + most_beyond ≤ most → most ≤ 4294967295
      → ((n : O.t.Name) → O.t.holds board n → O.site_of n ≡ 0) → IsSound O most (opened_world O board limit)
  sound-opened most limit board distinct small room counted layout = record {
    order_is = refl;
    keeps = refl;
    star = record { star = stars.star-opened O L most limit board distinct small room counted layout; no_entry = λ i above. refl };
    sites = λ i a none. absurd (cc);
    no_edit = λ i above. refl;
    no_shown = λ i above. refl;
  }

  -- what a sound world says of a site
  module _ (most : ℕ) (w : WorldOf O) (s : IsSound O most w) (i : ℕ) (l : LinkState O.Op) (a : AttachedOf O) (h : StandsBeside O most w i l a) where
    -- it shows the meaning of what has reached it and of what it made
    pub shows_view : O.t.content a.site.board ≡ O.t.meaning (O.t.content w.opening) (traces.view O i w.trace)
    shows_view = rw s.order_is (views.beside-view O L most (O.t.content w.opening) (traces.joined_at O i w.trace) i (moment_of O w i l a) h)

    -- if no message is on its way between them it is level with the star, and the order has all its edits
    pub level : IsIdle O l a → a.site.board ≡ w.star.board
    level q = views.beside-equal O L most (O.t.content w.opening) (traces.joined_at O i w.trace) i (moment_of O w i l a) h q.0 q.1 q.2

    pub all_taken : IsIdle O l a → traces.own_edits (traces.turns i (traces.order_of O w.trace)) ≡ traces.made i w.trace
    all_taken q = rw s.order_is (views.beside-whole O L most (O.t.content w.opening) (traces.joined_at O i w.trace) i (moment_of O w i l a) h q.0)

  -- what a sound world promises
  pub sound-promises : (most : ℕ) (w : WorldOf O) → IsSound O most w → traces.AreLinked O w → traces.Promises O w
  sound-promises most w s links = record {
    order = sym s.order_is;
    keeps = s.keeps;
    star_content = rw s.order_is s.star.star.content_is;
    site_content = λ i a fa. (let at = s.sites i a fa in shows_view most w s i at.link a at.beside);
    equal = λ q i a fa. (let at = s.sites i a fa in level most w s i at.link a at.beside (q i at.link a at.linked fa));
    whole = λ q i a fa. (let at = s.sites i a fa in all_taken most w s i at.link a at.beside (q i at.link a at.linked fa));
    linked = links;
    running = λ i a fa. (s.sites i a fa).beside.stands.pair.goes_on;
  }

  -- its backlogs are short
  pub sound-backlog : (most : ℕ) (w : WorldOf O) → IsSound O most w → traces.BacklogIsShort O w
  sound-backlog most w s = record {
    backlog = λ i a fa. (s.sites i a fa).beside.counts.sent;
    bounded = λ i a fa. (s.sites i a fa).beside.stands.pair.backlog;
    quiet = λ none i a fa. (let at = s.sites i a fa in
        let q = none i at.link a at.linked fa in
        views.beside-backlog O L most (O.t.content w.opening) (traces.joined_at O i w.trace) i (moment_of O w i at.link a) at.beside q.0 q.1 q.2);
  }

-- A world of which messages were fetched, and no more, is sound: so a world is sound after a failed allocation.

module _ (O : Operations) (L : AreLawful O) (most : ℕ) (w : WorldOf O) (s : IsSound O most w) (i n : ℕ) (l : LinkState O.Op) (a : AttachedOf O) (fl : link_of i w.star.links ≡ Some l) (fa : attached i w.sites ≡ Some a) where
  -- a site that has the number had it before, and came there by one move
  abbrev From : ℕ → Option (LinkState O.Op) → Option (AttachedOf O) → Type 0
  From j ol oa = (c : AttachedOf O) → oa ≡ Some c → (b : AttachedOf O) × (fb : attached j w.sites ≡ Some b) × (k : LinkState O.Op) × (ol ≡ Some k)
      × moments.Runs O j (moment_of O w j (s.sites j b fb).link b) (moment_of O (only_fetched O w i n l) j k c)

  own : From i (Some (link_fetched n l)) (Some (with_fetched O n l a))
  own c is =
      let site : c ≡ with_fetched O n l a = cc in
      let link : (s.sites i a fa).link ≡ l = (let there = (s.sites i a fa).linked in cc) in
      (a, fa, link_fetched n l, refl, rw (site, link) (moments.Then _ (moments.FetchesOwn n fl) moments.Stays))

  each : (j : ℕ) → From j (link_of j (fetched i n w.star).links) (attached j (only_fetched O w i n l).sites)
  each = at_one (λ k. k.site) (λ b. b.site.number) From i (link_fetched n) (with_fetched O n l) (λ k. refl) (λ b. refl) w.star.links w.sites l (Some a) fl fa own
      (λ j apart c is. (c, is, (s.sites j c is).link, (s.sites j c is).linked, moments.Then _ (moments.Fetches i n apart) moments.Stays))

  pub fetched-from : (j : ℕ) (c : AttachedOf O) → attached j (only_fetched O w i n l).sites ≡ Some c
      → (b : AttachedOf O) × (fb : attached j w.sites ≡ Some b) × ComesTo O w (only_fetched O w i n l) j (s.sites j b fb).link b c
  fetched-from j c fc = let from = each j c fc in (from.0, from.1, record { link = from.2; linked = from.3; since = refl; run = from.4 })

  -- nobody comes or goes
  pub fetched-none : (j : ℕ) → (attached j (only_fetched O w i n l).sites ≡ None → attached j w.sites ≡ None) × (attached j w.sites ≡ None → attached j (only_fetched O w i n l).sites ≡ None)
  fetched-none = at_one (λ k. k.site) (λ b. b.site.number) (λ j ol oa. (oa ≡ None → attached j w.sites ≡ None) × (attached j w.sites ≡ None → oa ≡ None)) i (link_fetched n) (with_fetched O n l) (λ k. refl) (λ b. refl)
      w.star.links w.sites l (Some a) fl fa ((λ none. absurd (cc)), (λ none. absurd (cc))) (λ j apart. ((λ none. none), (λ none. none)))

  -- so it is sound
  pub sound-fetched : IsSound O most (only_fetched O w i n l)
  sound-fetched = record {
    order_is = s.order_is;
    keeps = s.keeps;
    star = (stars.called-fetched O L most (O.t.content w.opening) w.star s.star i n).called;
    sites = λ j c fc. (let from = fetched-from j c fc in
        let was = s.sites j from.0 from.1 in
        record {
          link = from.2.link;
          linked = from.2.linked;
          beside = runs-beside O L most (O.t.content w.opening) (traces.joined_at O j w.trace) j (moment_of O w j was.link from.0) (moment_of O (only_fetched O w i n l) j from.2.link c) from.2.run was.beside;
        });
    no_edit = s.no_edit;
    no_shown = s.no_shown;
  }

-- Only a full order refuses an attached site anything, and that is an edit.

module _ (O : Operations) (L : AreLawful O) (most : ℕ) (w : WorldOf O) (s : IsSound O most w) (i : ℕ) (l : LinkState O.Op) (a : AttachedOf O) (fl : link_of i w.star.links ≡ Some l) (fa : attached i w.sites ≡ Some a) where
  -- an honest operation is taken, or the order is full
  pub take_cases : (m : Msg O.Op) (us : List (Up O.Op)) → a.up ≡ UpOp m ∷ us
      → ((up_fault O w.star l (UpOp m) ≡ None) × (length w.star.order < w.star.limit)) ⊎ ((up_fault O w.star l (UpOp m) ≡ Some LogFull) × (w.star.limit ≤ length w.star.order))
  take_cases = views.beside-answers O L most (O.t.content w.opening) (traces.joined_at O i w.trace) i (moment_of O w i l a) (beside O L most w s i l a fl fa)

  -- the oldest message of an attached site's up stream is taken if it is an acknowledgement
  pub ack_fits : (n : ℕ) (us : List (Up O.Op)) → a.up ≡ UpAck n ∷ us → up_fault O w.star l (UpAck n) ≡ None
  ack_fits = views.beside-heard O L most (O.t.content w.opening) (traces.joined_at O i w.trace) i (moment_of O w i l a) (beside O L most w s i l a fl fa)

  -- the oldest message on an attached site's way down is delivered
  pub fall_fits : (d : Down O.Op) (gone : ℕ) (falling : List (Down O.Op)) → downs (a.down ++ l.outbox) ≡ downs (d ∷ (falling ++ drop gone l.outbox)) → deliver_fault O d a.site ≡ None
  fall_fits = (let h = beside O L most w s i l a fl fa in
      place-fits O L most (O.t.content w.opening) w.star (traces.made i w.trace) i (traces.joined_at O i w.trace) (traces.shown_count i w.trace) l a h.stands (fits O L most (O.t.content w.opening) (traces.joined_at O i w.trace) i (moment_of O w i l a) h))

-- In a sound world each event answers what it should, and nothing is withheld.

-- a test that fails
not_below : (m n : ℕ) → n ≤ m → nat_lt m n ≡ false
not_below m n le = false_from_ne_true (nat_lt m n) (λ less. let below : m < n = ltb-true m n less in absurd (omega arith))

module _ (O : Operations) (L : AreLawful O) where
  -- what a join is refused for
  pub join_faults : (s : StarOf O) → (most_attached ≤ length s.links → join_fault s ≡ Some Full) × (length s.links < most_attached → last_site ≤ s.given → join_fault s ≡ Some SitesSpent) × (length s.links < most_attached → s.given < last_site → join_fault s ≡ None)
  join_faults s = (
    (λ full. fitting.first_to_fail [] (test (nat_lt (length s.links) most_attached) Full) (test (nat_lt s.given last_site) SitesSpent ∷ []) tt (not_below _ most_attached full)),
    (λ few spent. fitting.first_to_fail (test (nat_lt (length s.links) most_attached) Full ∷ []) (test (nat_lt s.given last_site) SitesSpent) [] (lt-ltb _ most_attached few, tt) (not_below _ last_site spent)),
    (λ few left. fitting.no_fault (test (nat_lt (length s.links) most_attached) Full ∷ test (nat_lt s.given last_site) SitesSpent ∷ []) (lt-ltb _ most_attached few, (lt-ltb _ last_site left, tt))),
  )

  -- a join
  join_replies : (w : WorldOf O) → JoinReplies O w.star (join_outcome O w (join_fault w.star)).reply
  join_replies w =
      let faults = join_faults w.star in
      record {
        full = λ full. ap (λ f. (join_outcome O w f).reply) (faults.0 full);
        spent = λ few spent. ap (λ f. (join_outcome O w f).reply) (faults.1 few spent);
        joined = λ few left. ap (λ f. (join_outcome O w f).reply) (faults.2 few left);
      }

  -- an event at a site
  absent_at : (w : WorldOf O) (i : ℕ) (f : LinkState O.Op → AttachedOf O → Outcome O) → attached i w.sites ≡ None → (at_number O w i f).reply ≡ Nothing
  absent_at w i f none = cases (link_of i w.star.links)
    where
      cases : (o : Option (LinkState O.Op)) → (at_linked O w i f o).reply ≡ Nothing
      cases None = refl
      cases (Some l) = ap (λ o. (at_attached O w l f o).reply) none

  -- an event at an attached site
  present_at : (w : WorldOf O) (i : ℕ) (f : LinkState O.Op → AttachedOf O → Outcome O) (l : LinkState O.Op) (a : AttachedOf O)
      → link_of i w.star.links ≡ Some l → attached i w.sites ≡ Some a → at_number O w i f ≡ f l a
  present_at w i f l a fl fa = ap (λ o. at_linked O w i f o) fl ∙ ap (λ o. at_attached O w l f o) fa

  -- so it answers nothing, or what it answers there
  replies_at : (w : WorldOf O) (i : ℕ) (f : LinkState O.Op → AttachedOf O → Outcome O) (P : ReplyOf O → LinkState O.Op → AttachedOf O → Type 0)
      → ((l : LinkState O.Op) (a : AttachedOf O) → link_of i w.star.links ≡ Some l → attached i w.sites ≡ Some a → P (f l a).reply l a)
      → SiteReplies O w i (at_number O w i f).reply (P (at_number O w i f).reply)
  replies_at w i f P here = record {
    absent = absent_at w i f;
    present = λ l a fl fa. subst (λ o. P o.reply l a) (sym (present_at w i f l a fl fa)) (here l a fl fa);
  }

  -- an edit
  edit_replies : (w : WorldOf O) (i : ℕ) (r : Result O.Op EditFault) → (edit_outcome O w i r).reply ≡ edit_reply O r
  edit_replies w i (Ok op) = refl
  edit_replies w i (Err n) = refl

  module _ (most : ℕ) (w : WorldOf O) (s : IsSound O most w) (i : ℕ) (l : LinkState O.Op) (a : AttachedOf O) (fl : link_of i w.star.links ≡ Some l) (fa : attached i w.sites ≡ Some a) where
    -- a message that is taken
    heard : (up : Up O.Op) → up_fault O w.star l up ≡ None → (up_outcome O w i l up (up_fault O w.star l up)).reply ≡ (up_outcome O w i l up None).reply
    heard up none = ap (λ f. (up_outcome O w i l up f).reply) none

    -- an edit is taken, or the order is full
    taken_or_full : (m : Msg O.Op) → ((up_fault O w.star l (UpOp m) ≡ None) × (length w.star.order < w.star.limit)) ⊎ ((up_fault O w.star l (UpOp m) ≡ Some LogFull) × (w.star.limit ≤ length w.star.order))
        → (length w.star.order < w.star.limit → (up_outcome O w i l (UpOp m) (up_fault O w.star l (UpOp m))).reply ≡ Taken (length w.star.order))
        × (w.star.limit ≤ length w.star.order → (up_outcome O w i l (UpOp m) (up_fault O w.star l (UpOp m))).reply ≡ Detached LogFull)
    taken_or_full m (inl fits) = (λ less. heard (UpOp m) fits.0, λ full. absurd (let less = fits.1 in omega arith))
    taken_or_full m (inr full) = (λ less. absurd (let le = full.1 in omega arith), λ le. ap (λ f. (up_outcome O w i l (UpOp m) f).reply) full.0)

    -- the oldest message up
    up_replies : (us : List (Up O.Op)) → a.up ≡ us → UpReplies O w.star us (first_up O w i l us).reply
    up_replies [] e = refl
    up_replies (UpOp m ∷ us) e = taken_or_full m (take_cases O L most w s i l a fl fa m us e)
    up_replies (UpAck n ∷ us) e = heard (UpAck n) (ack_fits O L most w s i l a fl fa n us e)
    up_replies (UpPing k ∷ us) e = refl

    -- a message that is handed on
    handed : (gone : ℕ) (d : Down O.Op) (ds rest : List (Down O.Op)) → downs (a.down ++ l.outbox) ≡ downs (d ∷ (ds ++ drop gone l.outbox)) → DownReplies O (d ∷ rest) (down_outcome O w i gone d ds (deliver_fault O d a.site)).reply
    handed gone (DownOp m) ds rest e = ap (λ f. (down_outcome O w i gone (DownOp m) ds f).reply) (fall_fits O L most w s i l a fl fa (DownOp m) gone ds e)
    handed gone (DownAck n) ds rest e = ap (λ f. (down_outcome O w i gone (DownAck n) ds f).reply) (fall_fits O L most w s i l a fl fa (DownAck n) gone ds e)
    handed gone (DownPong k) ds rest e = ap (λ f. (down_outcome O w i gone (DownPong k) ds f).reply) (fall_fits O L most w s i l a fl fa (DownPong k) gone ds e)

    -- the oldest message down
    down_replies : (ds os : List (Down O.Op)) → a.down ≡ ds → l.outbox ≡ os → DownReplies O (ds ++ os) (first_down O w i a ds os).reply
    down_replies (d ∷ ds) os e q = handed 0 d ds (ds ++ os) (ap (λ x. downs (x ++ l.outbox)) e)
    down_replies [] (d ∷ os) e q = handed 1 d [] os (ap (λ x. downs (x ++ l.outbox)) e ∙ ap downs (q ∙ ap (λ x. d ∷ drop 1 x) (sym q)))
    down_replies [] [] e q = refl

  -- each event answers what it should
  pub replies : (most : ℕ) (w : WorldOf O) → IsSound O most w → (e : EventOf O) → RepliesTo O w e (outcome O w e).reply
  replies most w s event.Join = join_replies w
  replies most w s (event.Leave i) = replies_at w i _ (λ r l a. r ≡ Left) (λ l a fl fa. refl)
  replies most w s (event.Edit i command) = replies_at w i _ (λ r l a. r ≡ edit_reply O (edit_answer O command a.site)) (λ l a fl fa. edit_replies w i (edit_answer O command a.site))
  replies most w s (event.Up i) = replies_at w i _ (λ r l a. UpReplies O w.star a.up r) (λ l a fl fa. up_replies most w s i l a fl fa a.up refl)
  replies most w s (event.Down i) = replies_at w i _ (λ r l a. DownReplies O (a.down ++ l.outbox) r) (λ l a fl fa. down_replies most w s i l a fl fa a.down l.outbox refl refl)
  replies most w s (event.Ping i k) = replies_at w i _ (λ r l a. r ≡ Asked) (λ l a fl fa. refl)
  replies most w s e = tt

-- What a sound world says of each of its sites, however many strangers there are, and what each event of a stranger answers.

module _ (O : Operations) (L : AreLawful O) where
  -- each site beside its link
  pub sites-hold : (most : ℕ) (w : WorldOf O) → IsSound O most w → SitesHold O w
  sites-hold most w s i l a fl fa =
      let h = beside O L most w s i l a fl fa in
      let st = h.stands in
      record {
        content = shows_view O L most w s i l a h;
        in_step = record {
          client_side = st.pair.site_side;
          server_side = st.pair.link_side;
          base = st.pair.from;
          client_ahead = st.pair.site_ahead;
          server_ahead = st.pair.star_ahead;
          meets = st.pair.in_step;
        };
        running = st.pair.goes_on;
        equal = level O L most w s i l a h;
        whole = all_taken O L most w s i l a h;
      }

  -- a full order alone detaches it
  pub only-full : (most : ℕ) (w : WorldOf O) → IsSound O most w → OnlyFull O w
  only-full most w s i a fault fa is =
      let at = s.sites i a fa in
      cases a.up ((replies O L most w s (event.Up i)).present at.link a at.linked fa)
    where
      cases : (us : List (Up O.Op)) → UpReplies O w.star us (outcome O w (event.Up i)).reply → (fault ≡ LogFull) × (w.star.limit ≤ length w.star.order)
      cases [] r = absurd cc
      cases (UpOp m ∷ us) r = room (nat_le w.star.limit (length w.star.order)) refl
        where
          room : (b : Bool) → nat_le w.star.limit (length w.star.order) ≡ b → (fault ≡ LogFull) × (w.star.limit ≤ length w.star.order)
          room true e = (let full = r.1 (leb-true w.star.limit (length w.star.order) e) in let same : fault ≡ LogFull = cc in same, leb-true w.star.limit (length w.star.order) e)
          room false e = absurd (let taken = r.0 (leb-false w.star.limit (length w.star.order) e) in cc)
      cases (UpAck n ∷ us) r = absurd cc
      cases (UpPing k ∷ us) r = absurd cc

  module _ (most : ℕ) (w : WorldOf O) (s : IsSound O most w) where
    -- a stranger joins
    join_strays : StrayRepliesTo O w event.JoinStray (outcome O w event.JoinStray)
    join_strays =
        let faults = join_faults O L w.star in (
          record {
            full = λ full. ap (λ f. (stray_joins O w f).reply) (faults.0 full);
            spent = λ few spent. ap (λ f. (stray_joins O w f).reply) (faults.1 few spent);
            joined = λ few rest. ap (λ f. (stray_joins O w f).reply) (faults.2 few rest);
          },
          kept (join_fault w.star),
        )
      where
        kept : (f : Option StarFault) → (stray_joins O w f).sites ≡ w.sites
        kept None = refl
        kept (Some fault) = refl

    -- an event of a stranger
    stray_replies : (i : ℕ) (f : LinkState O.Op → Outcome O) (P : LinkState O.Op → Outcome O → Type 0) → ((l : LinkState O.Op) → (f l).sites ≡ w.sites) → ((l : LinkState O.Op) → link_of i w.star.links ≡ Some l → P l (f l))
        → StrayReplies O w i (at_stray O w f (attached i w.sites) (link_of i w.star.links)) (λ l. P l (at_stray O w f (attached i w.sites) (link_of i w.star.links)))
    stray_replies i f P same here = record {
      sites = kept (attached i w.sites) (link_of i w.star.links);
      absent = λ gone. (ap (λ ol. at_stray O w f (attached i w.sites) ol) gone ∙ none (attached i w.sites));
      own = λ a fa. ap (λ oa. at_stray O w f oa (link_of i w.star.links)) fa;
      present = λ l fl alone. subst (P l) (sym (ap (λ oa. at_stray O w f oa (link_of i w.star.links)) alone ∙ ap (λ ol. at_stray O w f None ol) fl)) (here l fl);
    }
      where
        kept : (oa : Option (AttachedOf O)) (ol : Option (LinkState O.Op)) → (at_stray O w f oa ol).sites ≡ w.sites
        kept (Some a) ol = refl
        kept None None = refl
        kept None (Some l) = same l

        none : (oa : Option (AttachedOf O)) → at_stray O w f oa None ≡ unchanged O w Nothing
        none (Some a) = refl
        none None = refl

    -- its message is refused or taken
    sent_one : (i : ℕ) (up : Up O.Op) (l : LinkState O.Op) → link_of i w.star.links ≡ Some l
        → (let o = stray_sends O w i l up (up_fault O w.star l up) in IsAnswered O w.star i l up o.reply o.star)
    sent_one i up l fl = either (up_fault O w.star l up) (λ f. let o = stray_sends O w i l up f in IsAnswered O w.star i l up o.reply o.star)
        (λ fits. inr (accepted O L most (O.t.content w.opening) w.star s.star.star i l fl up fits)) (λ fault is. inl (record { fault = fault; cause = is; reply = refl; star = refl }))

    sends_kept : (i : ℕ) (up : Up O.Op) (l : LinkState O.Op) (f : Option StarFault) → (stray_sends O w i l up f).sites ≡ w.sites
    sends_kept i up l None = refl
    sends_kept i up l (Some fault) = refl

    -- each event of a stranger
    pub stray-replies : (e : EventOf O) → StrayRepliesTo O w e (outcome O w e)
    stray-replies event.JoinStray = join_strays
    stray-replies (event.Stray i up) = stray_replies i (λ l. stray_sends O w i l up (up_fault O w.star l up)) (λ l o. IsAnswered O w.star i l up o.reply o.star) (λ l. sends_kept i up l (up_fault O w.star l up)) (sent_one i up)
    stray-replies (event.LeaveStray i) = stray_replies i (λ l. stray_leaves O w i) (λ l o. o ≡ record { reply = Left; star = left i w.star; sites = w.sites }) (λ l. refl) (λ l fl. refl)
    stray-replies e = tt
