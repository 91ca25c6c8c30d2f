-- A star as it once was, beside a site as it goes on.
use Rattle.std.proofs.Common.{◌≡◌, ◌⊎◌, ℕ, ◌+◌, ◌≤◌, inl, inr, List, [], ◌∷◌, ◌++◌, drop, take, length, refl, ap, sym, ◌∙◌, subst, Ok, arith, append_assoc, append-nil, add-zero, drop_of_length-le, ◌<◌, Bool, true, false, cond, nat_eq, nat_le, take-append-drop, take_all, le_refl, leb-true, leb-false, length-append}
use Rattle.std.proofs.lemmas.List.{take-append-le}
use Rattle.jup_site.specs.Prelude.{most_beyond, mirror, Comes, Comes-nil, Operations, AreLawful, Entry, Down, DownOp, DownAck, DownPong, downs, LinkState, link_fetched, StarOf, joined, SiteOf, edit_answer, edited, received, UpOp, UpAck, UpPing}
use Rattle.jup_site.specs.Turns.{brings, turns, others}
use Rattle.jup_site.specs.Sites.{AttachedOf, with_edit, one_handed}
use Rattle.jup_site.specs.Sound.{named_by, named_in, IsKnown, own_counts, HoldsKnown, Inherits, told_of, IsSoundStar, Standing}
use Rattle.jup_site.proofs.Known as known_names
use Rattle.jup_site.proofs.Turns.{length-turns, turns-append, named-turns}
use Rattle.jup_site.proofs.Pairs.Streams as streams
use Rattle.jup_site.proofs.Pairs.Places as places
use Rattle.jup_site.proofs.Follows as following
use Rattle.jup_site.specs.Moments.{next_number, newcomer, Moment, Moves, Edits, Hands, FetchesOwn, Takes, TakesOwn, Runs, Stays, Then, told, told_count, Knows, IsCalled, IsBeside}
use Rattle.jup_site.proofs.Beside.{moves-beside}
use Rattle.jup_site.proofs.Later as site_later

module _ (O : Operations) (L : AreLawful O) where
  -- A site has still to receive some of what a past star had sent to it, and these messages come first of all on their way to it. That past star may
  -- replace the present one: then star and link are those of a star that takes nothing more.
  pub record IsBeingTold (most : ℕ) (first : O.t.Content) (s : StarOf O) (i joined shown : ℕ) (l : LinkState O.Op) (b : AttachedOf O) : Type 0 where
    pub mine : List O.Edit
    pub link : LinkState O.Op
    pub site : AttachedOf O
    pub stands : Standing O most first (turns i s.order) s.board mine joined shown i link site
    pub outbox : link.outbox ≡ []
    pub same : site.site ≡ b.site
    pub later : List (Down O.Op)
    pub down : b.down ++ l.outbox ≡ site.down ++ later

  -- The site received all of it: it knows each name that the past star knew, and of these it holds none that this star did not hold.
  pub record IsTold (s : StarOf O) (knows : O.t.Name → Type 0) (b : AttachedOf O) : Type 0 where
    pub since : known_names.Since O L (following.StarKnows O L s) s.board b.site.board
    pub all : (n : O.t.Name) → following.StarKnows O L s n → knows n

  -- once all is delivered, it stays so as the site goes on
  pub told_on : (s : StarOf O) (knows knows' : O.t.Name → Type 0) (a b : AttachedOf O) → (known : (n : O.t.Name) → O.t.holds s.board n → following.StarKnows O L s n)
      → O.t.keeps_order a.site.board b.site.board → ((n : O.t.Name) → knows n → knows' n) → ((n : O.t.Name) → knows n → O.t.holds b.site.board n → O.t.holds a.site.board n)
      → IsTold s knows a → IsTold s knows' b
  told_on s knows knows' a b known order more none_back t = record {
    since = record {
      order = L.keeps.order_chain s.board a.site.board b.site.board t.since.order order (λ n there here. none_back n (t.all n (known n there)) here);
      none_back = λ n k here. t.since.none_back n k (none_back n (t.all n k) here);
    };
    all = λ n k. more n (t.all n k);
  }

  -- the star of the moment is one of whose messages the site may still receive some
  pub telling_now : (most : ℕ) (first : O.t.Content) (s : StarOf O) (mine : List O.Edit) (i joined shown : ℕ) (l : LinkState O.Op) (a : AttachedOf O)
      → Standing O most first (turns i s.order) s.board mine joined shown i l a → IsBeingTold most first s i joined shown l a
  telling_now most first s mine i joined shown l a st = record {
    mine = mine;
    link = streams.link_with O L l l.end [];
    site = streams.site_with O L a a.site.end a.up (a.down ++ l.outbox);
    stands = places.stand-pair O L most first (turns i s.order) s.board mine joined shown i l a st s.board mine (streams.link_with O L l l.end []) (streams.site_with O L a a.site.end a.up (a.down ++ l.outbox))
        (streams.pair-streams O L most i first _ _ s.board mine l a st.pair a.up (a.down ++ l.outbox) [] refl (ap downs (append-nil (a.down ++ l.outbox))));
    outbox = refl;
    same = refl;
    later = [];
    down = sym (append-nil (a.down ++ l.outbox));
  }

  module _ (symmetric : (x y : O.State) → O.t.keeps_order x y → O.t.keeps_order y x) (most : ℕ) (first : O.t.Content) (s : StarOf O) (sound : IsSoundStar O most first s) (i joined shown : ℕ)
      (l : LinkState O.Op) (b : AttachedOf O) (h : IsBeingTold most first s i joined shown l b) where
    -- there is room for what may still come
    fits : length s.order + most_beyond ≤ most
    fits = omega (arith, sound.few, sound.limited)

    -- the star knew what its board held, counted as the site counts
    abbrev counts : ℕ → ℕ
    counts = λ j. named_by O i j (places.past O L most first s h.mine i joined shown h.link h.site h.stands fits ++ places.rest O L most first s h.mine i joined shown h.link h.site h.stands fits)

    counted : (j : ℕ) → counts j ≡ named_in O s.order j
    counted j = ap (named_by O i j) (places.whole O L most first s h.mine i joined shown h.link h.site h.stands fits) ∙ named-turns O L i 0 j s.order

    held_known : HoldsKnown O counts s.board
    held_known n held = known_names.known_more O L (named_in O s.order) counts n (λ j. omega (arith, counted j)) (sound.board_known n held)

    -- the past star's board and the site's show in one order what both show
    pub telling_order : O.t.keeps_order s.board b.site.board
    telling_order = subst (λ (z : SiteOf O). O.t.keeps_order s.board z.board) h.same
        (symmetric h.site.site.board s.board (known_names.pair_order O L symmetric most i first _ _ s.board h.mine h.link h.site h.stands.pair held_known))

    -- no more entries of the order, which has grown since, have reached the site than of that star's: as many, and the same
    pub told_same : (order more : List (Entry O.Edit)) → order ≡ s.order ++ more → told_of O joined shown (turns i order) ≡ told_of O joined shown (turns i s.order)
    told_same order more grows = ap (told_of O joined shown) (ap (turns i) grows ∙ turns-append i s.order more)
        ∙ places.told_end O L joined shown (turns i s.order) (turns i more) h.stands.joined_within h.stands.shown_within

    pub turns_same : (order more : List (Entry O.Edit)) → order ≡ s.order ++ more → take (told_of O joined shown (turns i order)) (turns i order) ≡ take (told_of O joined shown (turns i s.order)) (turns i s.order)
    turns_same order more grows = ap (λ k. take k (turns i order)) (told_same order more grows)
        ∙ ap (take (told_of O joined shown (turns i s.order))) (ap (turns i) grows ∙ turns-append i s.order more)
        ∙ take-append-le (told_of O joined shown (turns i s.order)) (turns i s.order) (turns i more)
        (places.told_within O L joined shown (turns i s.order) h.stands.joined_within h.stands.shown_within)

    -- if nothing that the star made is ahead of the site, all of it has reached the site
    module _ (knows : O.t.Name → Type 0)
        (bridge : (n : O.t.Name) → IsKnown O (own_counts O i b.site.named (λ k. named_by O i k (take (told_of O joined shown (turns i s.order)) (turns i s.order)))) n → knows n) where
      told_from : h.stands.pair.star_ahead ≡ [] → IsTold s knows b
      told_from none = record {
        since = record {
          order = telling_order;
          none_back = λ n k here. (known_names.told_all O L symmetric most i first _ _ s.board h.mine h.link h.site h.stands.pair none held_known).none_back n
              (known_names.known_more O L (named_in O s.order) counts n (λ j. omega (arith, counted j)) k) (subst (λ (z : SiteOf O). O.t.holds z.board n) (sym h.same) here);
        };
        all = λ n k. bridge n (subst (λ (z : SiteOf O). IsKnown O (own_counts O i z.named (λ k. named_by O i k (take (told_of O joined shown (turns i s.order)) (turns i s.order)))) n) h.same
            (known_names.knows_all O L symmetric most i first _ _ s.board h.mine h.link h.site h.stands.pair no_others n (known_names.known_more O L (named_in O s.order) counts n (λ j. omega (arith, counted j)) k)));
      }
        where
          left : (es : List O.Edit) → Inherits O [] es → es ≡ []
          left [] g = refl
          left (e ∷ es) g = absurd g

          no_others : others (drop (told_of O joined shown (turns i s.order)) (turns i s.order)) ≡ []
          no_others = left _ (subst (λ os. Inherits O os (others (drop (told_of O joined shown (turns i s.order)) (turns i s.order)))) none h.stands.pair.down_inherits)

      -- since nothing is left on its way
      pub all_handed : h.site.down ≡ [] → IsTold s knows b
      all_handed none = told_from (Comes-nil (mirror O.t) h.site.site.end.received h.site.site.end.acknowledged h.stands.pair.in_step.near_queue.before h.stands.pair.star_ahead
          (subst (λ ms. Comes (mirror O.t) h.site.site.end.received h.site.site.end.acknowledged h.stands.pair.in_step.near_queue.before ms h.stands.pair.star_ahead)
          (ap downs (ap (λ ds. ds ++ h.link.outbox) none ∙ h.outbox)) h.stands.pair.in_step.near_queue.comes))

      -- or since the whole of that star's order has reached the site
      pub all_told : told_of O joined shown (turns i s.order) ≡ length s.order → IsTold s knows b
      all_told whole_told = told_from (ahead h.stands.pair.star_ahead (subst (λ ts. Inherits O h.stands.pair.star_ahead (others ts)) nothing h.stands.pair.down_inherits))
        where
          nothing : drop (told_of O joined shown (turns i s.order)) (turns i s.order) ≡ []
          nothing = ap (λ k. drop k (turns i s.order)) (whole_told ∙ sym (length-turns i s.order)) ∙ drop_of_length-le (turns i s.order) (omega arith)

          ahead : (os : List O.Op) → Inherits O os [] → os ≡ []
          ahead [] g = refl
          ahead (o ∷ os) g = absurd g

    -- the site stays, and more is sent to it
    pub telling_more : (k : LinkState O.Op) (c : AttachedOf O) (more : List (Down O.Op)) → c.site ≡ b.site → c.down ++ k.outbox ≡ (b.down ++ l.outbox) ++ more → IsBeingTold most first s i joined shown k c
    telling_more k c more site down = record {
      mine = h.mine;
      link = h.link;
      site = h.site;
      stands = h.stands;
      outbox = h.outbox;
      same = h.same ∙ sym site;
      later = h.later ++ more;
      down = down ∙ ap (λ r. r ++ more) h.down ∙ append_assoc h.site.down h.later more;
    }

    -- the site makes an edit
    pub telling_makes : (command : O.Command) (op : O.Op) → edit_answer O command b.site ≡ Ok op → IsBeingTold most first s i joined shown l (with_edit O op b)
    telling_makes command op ok = record {
      mine = h.mine ++ O.t.edit_of op ∷ [];
      link = h.link;
      site = with_edit O op h.site;
      stands = places.stand-makes O L most first (turns i s.order) s.board h.mine joined shown i h.link h.site h.stands command op
          (subst (λ z. edit_answer O command z ≡ Ok op) (sym h.same) ok) (omega (arith, fits, length-turns i s.order)) sound.counted;
      outbox = h.outbox;
      same = ap (edited O op) h.same;
      later = h.later;
      down = h.down;
    }

    -- the site receives the oldest message to it, which is the past star's if any of those is left
    module _ (gone : ℕ) (d : Down O.Op) (ds : List (Down O.Op)) (comes : b.down ++ l.outbox ≡ d ∷ (ds ++ drop gone l.outbox)) where
      heads : (h.site.down ≡ []) ⊎ ((vs : List (Down O.Op)) × (h.site.down ≡ d ∷ vs) × (ds ++ drop gone l.outbox ≡ vs ++ h.later))
      heads = cases h.site.down refl
        where
          cases : (r : List (Down O.Op)) → h.site.down ≡ r → (h.site.down ≡ []) ⊎ ((vs : List (Down O.Op)) × (h.site.down ≡ d ∷ vs) × (ds ++ drop gone l.outbox ≡ vs ++ h.later))
          cases [] q = inl q
          cases (v ∷ vs) q =
              let both : d ∷ (ds ++ drop gone l.outbox) ≡ v ∷ (vs ++ h.later) = sym comes ∙ h.down ∙ ap (λ r. r ++ h.later) q in
              let one : v ≡ d = cc in
              let more : ds ++ drop gone l.outbox ≡ vs ++ h.later = cc in
              inr (vs, q ∙ ap (λ z. z ∷ vs) one, more)

      -- once it is delivered, the others come first
      carried : (n : ℕ) (vs : List (Down O.Op)) → ds ++ drop gone l.outbox ≡ vs ++ h.later
          → Standing O most first (turns i s.order) s.board h.mine joined n i (link_fetched 0 h.link) (one_handed O d vs h.site)
          → IsBeingTold most first s i joined n (link_fetched gone l) (one_handed O d ds b)
      carried n vs more st = record {
        mine = h.mine;
        link = link_fetched 0 h.link;
        site = one_handed O d vs h.site;
        stands = st;
        outbox = h.outbox;
        same = ap (received O d) h.same;
        later = h.later;
        down = more;
      }

    pub telling_handed : (gone : ℕ) (d : Down O.Op) (ds : List (Down O.Op)) → b.down ++ l.outbox ≡ d ∷ (ds ++ drop gone l.outbox)
        → (h.site.down ≡ []) ⊎ IsBeingTold most first s i joined (shown + brings d) (link_fetched gone l) (one_handed O d ds b)
    telling_handed gone (DownOp m) ds comes = elim (heads gone (DownOp m) ds comes) [
      | inl none ↦ inl none
      | inr more ↦ inr (carried gone (DownOp m) ds comes (shown + 1) more.0 more.2
          (places.place-shown O L most first s h.mine i joined shown h.link h.site h.stands fits m 0 more.0 (ap (λ x. downs (x ++ h.link.outbox)) more.1)))
    ]
    telling_handed gone (DownAck n) ds comes = elim (heads gone (DownAck n) ds comes) [
      | inl none ↦ inl none
      | inr more ↦ inr (subst (λ k. IsBeingTold most first s i joined k (link_fetched gone l) (one_handed O (DownAck n) ds b)) (sym (add-zero shown))
          (carried gone (DownAck n) ds comes shown more.0 more.2
          (places.place-told O L most first s h.mine i joined shown h.link h.site h.stands fits n 0 more.0 (ap (λ x. downs (x ++ h.link.outbox)) more.1))))
    ]
    telling_handed gone (DownPong k) ds comes = elim (heads gone (DownPong k) ds comes) [
      | inl none ↦ inl none
      | inr more ↦ inr (subst (λ j. IsBeingTold most first s i joined j (link_fetched gone l) (one_handed O (DownPong k) ds b)) (sym (add-zero shown))
          (carried gone (DownPong k) ds comes shown more.0 more.2
          (places.place-answered O L most first s h.mine i joined shown h.link h.site h.stands fits k 0 more.0 (ap (λ x. downs (x ++ h.link.outbox)) more.1))))
    ]

module _ (O : Operations) (L : AreLawful O) (symmetric : (x y : O.State) → O.t.keeps_order x y → O.t.keeps_order y x) (most : ℕ) (first : O.t.Content) (since i : ℕ) where
  -- A star that was, from which the present one went on. The site received all that it had sent, or still has some of it to receive
  pub record WasStar (z : StarOf O) (m : Moment O) : Type 0 where
    pub sound : IsSoundStar O most first z
    pub follows : following.Follows O L z m.star
    pub more : List (Entry O.Edit)
    pub grows : m.star.order ≡ z.order ++ more
    pub told : IsBeingTold O L most first z i since m.shown m.link m.at ⊎ IsTold O L z (Knows O since i m) m.at

  -- the star of the moment is one
  pub was-now : (m : Moment O) → IsBeside O most first since i m → WasStar m.star m
  was-now m h = record {
    sound = h.star.star;
    follows = following.follows-same O L m.star m.star (omega arith) refl refl;
    more = [];
    grows = sym (append-nil m.star.order);
    told = inl (telling_now O L most first m.star m.mine i since m.shown m.link m.at h.stands);
  }

  module _ (z : StarOf O) (m : Moment O) (was : WasStar z m) where
    -- what both show they show in one order
    pub was-order : O.t.keeps_order z.board m.at.site.board
    was-order = elim was.told [
      | inl t ↦ telling_order O L symmetric most first z was.sound i since m.shown m.link m.at t
      | inr t ↦ t.since.order
    ]

    -- what the site knows by the past star's order
    bridge : IsBeingTold O L most first z i since m.shown m.link m.at → (x : O.t.Name)
        → IsKnown O (own_counts O i m.at.site.named (λ k. named_by O i k (take (told_of O since m.shown (turns i z.order)) (turns i z.order)))) x → Knows O since i m x
    bridge t x k = subst (λ ts. IsKnown O (own_counts O i m.at.site.named (λ k. named_by O i k ts)) x)
        (sym (turns_same O L symmetric most first z was.sound i since m.shown m.link m.at t m.star.order was.more was.grows)) k

    -- if as many entries have reached the site as the star had, the star showed what it knew of all that the site shows
    pub was-since : told_count O since i m ≡ length z.order → known_names.Since O L (following.StarKnows O L z) z.board m.at.site.board
    was-since e = elim was.told [
      | inl t ↦ (all_told O L symmetric most first z was.sound i since m.shown m.link m.at t (Knows O since i m) (bridge t)
          (sym (told_same O L symmetric most first z was.sound i since m.shown m.link m.at t m.star.order was.more was.grows) ∙ e)).since
      | inr t ↦ t.since
    ]

  -- each move keeps it
  told_later : (z : StarOf O) (m n : Moment O) → WasStar z m → site_later.Later O L most first since i m n → IsTold O L z (Knows O since i m) m.at → IsTold O L z (Knows O since i n) n.at
  told_later z m n was later t = told_on O L z (Knows O since i m) (Knows O since i n) m.at n.at was.sound.board_known later.order later.knows later.none_back t

  abbrev Told : StarOf O → Moment O → Type 0
  Told z n = IsBeingTold O L most first z i since n.shown n.link n.at ⊎ IsTold O L z (Knows O since i n) n.at

  tells : (z : StarOf O) (m n : Moment O) → WasStar z m → IsBeside O most first since i m → Moves O i m n → IsBeingTold O L most first z i since m.shown m.link m.at → Told z n
  tells z m n was h (Edits command op ok) t = inl (telling_makes O L symmetric most first z was.sound i since m.shown m.link m.at t command op ok)
  tells z m n was h (Hands d ds e) t = elim (telling_handed O L symmetric most first z was.sound i since m.shown m.link m.at t 0 d ds (ap (λ x. x ++ m.link.outbox) e)) [
    | inl none ↦ inr (told_later z m n was (site_later.moves-later O L most first since i m n h (Hands d ds e))
        (all_handed O L symmetric most first z was.sound i since m.shown m.link m.at t (Knows O since i m) (bridge z m was t) none))
    | inr more ↦ inl more
  ]
  tells z m n was h (FetchesOwn k fl) t = inl (telling_more O L symmetric most first z was.sound i since m.shown m.link m.at t n.link n.at [] refl
      (append_assoc m.at.down (take k m.link.outbox) (drop k m.link.outbox) ∙ ap (λ r. m.at.down ++ r) (take-append-drop k m.link.outbox) ∙ sym (append-nil (m.at.down ++ m.link.outbox))))
  tells z m n was h (Takes j apart l fl (UpOp x) none) t = inl (telling_more O L symmetric most first z was.sound i since m.shown m.link m.at t n.link n.at _ refl (sym (append_assoc m.at.down m.link.outbox _)))
  tells z m n was h (Takes j apart l fl (UpAck k) none) t = inl t
  tells z m n was h (Takes j apart l fl (UpPing k) none) t = inl t
  tells z m n was h (TakesOwn (UpOp x) us rising fl none) t = inl (telling_more O L symmetric most first z was.sound i since m.shown m.link m.at t n.link n.at _ refl (sym (append_assoc m.at.down m.link.outbox _)))
  tells z m n was h (TakesOwn (UpAck k) us rising fl none) t = inl (telling_more O L symmetric most first z was.sound i since m.shown m.link m.at t n.link n.at [] refl (sym (append-nil (m.at.down ++ m.link.outbox))))
  tells z m n was h (TakesOwn (UpPing k) us rising fl none) t = inl (telling_more O L symmetric most first z was.sound i since m.shown m.link m.at t n.link n.at _ refl (sym (append_assoc m.at.down m.link.outbox _)))
  tells z m n was h move t = inl (telling_more O L symmetric most first z was.sound i since m.shown m.link m.at t n.link n.at [] refl (sym (append-nil (m.at.down ++ m.link.outbox))))

  pub moves-was : (z : StarOf O) (m n : Moment O) → IsBeside O most first since i m → Moves O i m n → WasStar z m → WasStar z n
  moves-was z m n h move was =
      let later = site_later.moves-later O L most first since i m n h move in
      let grown = site_later.moves-grow O L most first since i m n move in
      record {
        sound = was.sound;
        follows = following.follows-chain O L z m.star n.star was.sound.board_known was.follows later.star;
        more = was.more ++ grown.more;
        grows = grown.grows ∙ ap (λ es. es ++ grown.more) was.grows ∙ append_assoc z.order was.more grown.more;
        told = elim was.told [ inl t ↦ tells z m n was h move t | inr t ↦ inr (told_later z m n was later t) ];
      }

  -- and each run
  pub runs-was : (z : StarOf O) (m n : Moment O) → Runs O i m n → IsBeside O most first since i m → WasStar z m → WasStar z n
  runs-was z m n Stays h was = was
  runs-was z m n (Then o move run) h was = runs-was z o n run (moves-beside O L most first since i m o move h) (moves-was z m o h move was)

  -- # A past star for each length of the order

  -- `stars` gives, for each length that the order has had, the first star with that length
  pub record Recalls (stars : ℕ → StarOf O) (m : Moment O) : Type 0 where
    pub long : (k : ℕ) → k ≤ length m.star.order → length (stars k).order ≡ k
    pub was : (k : ℕ) → k ≤ length m.star.order → WasStar (stars k) m

  -- the star of a longer order is recalled once it is there
  abbrev pub Adds : (stars : ℕ → StarOf O) → StarOf O → StarOf O → Type 0
  Adds stars s t = (k : ℕ) → length s.order < k → k ≤ length t.order → stars k ≡ t

  pub moves-recall : (stars : ℕ → StarOf O) (m n : Moment O) → IsBeside O most first since i m → Moves O i m n → Adds stars m.star n.star → Recalls stars m → Recalls stars n
  moves-recall stars m n h move adds was = record { long = λ k low. (each k low).0; was = λ k low. (each k low).1 }
    where
      each : (k : ℕ) → k ≤ length n.star.order → (length (stars k).order ≡ k) × WasStar (stars k) n
      each k low = cases (nat_le k (length m.star.order)) refl
        where
          cases : (b : Bool) → nat_le k (length m.star.order) ≡ b → (length (stars k).order ≡ k) × WasStar (stars k) n
          cases true e = let within = leb-true k (length m.star.order) e in (was.long k within, moves-was (stars k) m n h move (was.was k within))
          cases false e =
              let above = leb-false k (length m.star.order) e in
              let grown = site_later.moves-grow O L most first since i m n move in
              let is = adds k above low in
              let told_whole : length n.star.order ≡ k = omega (arith, above, low, grown.one, ap length grown.grows, length-append m.star.order grown.more) in
              (ap (λ (s : StarOf O). length s.order) is ∙ told_whole, subst (λ s. WasStar s n) (sym is) (was-now n (moves-beside O L most first since i m n move h)))

  -- # What a past star with enough entries knows

  module _ (z : StarOf O) (m : Moment O) (more : List (Entry O.Edit)) (grows : m.star.order ≡ z.order ++ more) (enough : told_count O since i m ≤ length z.order) where
    pub told_below : (k : ℕ) → named_by O i k (told O since i m) ≤ named_in O z.order k
    told_below k = rw part (omega (arith, known_names.named_by-append O L i k (take t (turns i z.order)) (drop t (turns i z.order)), ap (named_by O i k) (take-append-drop t (turns i z.order)), named-turns O L i 0 k z.order))
      where
        t : ℕ
        t = told_count O since i m

        part : told O since i m ≡ take t (turns i z.order)
        part = ap (take t) (ap (turns i) grows ∙ turns-append i z.order more) ∙ take-append-le t (turns i z.order) (turns i more) (omega (arith, enough, length-turns i z.order))

    -- so it knows what the site knows of others
    pub knows_others : (x : O.t.Name) → Knows O since i m x → nat_eq (O.site_of x) i ≡ false → following.StarKnows O L z x
    knows_others x (inl q) apart = inl q
    knows_others x (inr p) apart = inr (below (nat_eq (O.site_of x) i) apart p)
      where
        below : (c : Bool) → c ≡ false → O.number_of x ≤ cond c m.at.site.named (named_by O i (O.site_of x) (told O since i m)) → O.number_of x ≤ named_in O z.order (O.site_of x)
        below false e p = omega (arith, p, told_below (O.site_of x))
        below true e p = absurd (cc)

-- A site that joins knows what each past star knew.

module _ (O : Operations) (L : AreLawful O) (symmetric : (x y : O.State) → O.t.keeps_order x y → O.t.keeps_order y x) (most : ℕ) (first : O.t.Content) (s : StarOf O) (h : IsCalled O most first s) where
  -- its number
  abbrev i : ℕ
  i = next_number O s

  no_name : named_by O i i (turns i s.order) ≡ 0
  no_name = named-turns O L i 0 i s.order ∙ h.star.no_name i (omega arith)

  told_whole : told O (length s.order) i (newcomer O s) ≡ turns i s.order
  told_whole = ap (λ k. take k (turns i s.order)) (add-zero (length s.order) ∙ sym (length-turns i s.order)) ∙ take_all (length (turns i s.order)) (turns i s.order) (le_refl _)

  knows_now : (x : O.t.Name) → following.StarKnows O L s x → Knows O (length s.order) i (newcomer O s) x
  knows_now x k = subst (λ ts. IsKnown O (own_counts O i 0 (λ n. named_by O i n ts)) x) (sym told_whole)
      (known_names.known_more O L (λ n. named_by O 0 n (turns 0 s.order)) (own_counts O i 0 (λ n. named_by O i n (turns i s.order))) x counts k)
    where
      counts : (n : ℕ) → named_by O 0 n (turns 0 s.order) ≤ own_counts O i 0 (λ n. named_by O i n (turns i s.order)) n
      counts n = let up = known_names.own_counts-above O L i 0 (λ n. named_by O i n (turns i s.order)) (omega (arith, no_name)) n in omega (arith, named-turns O L 0 i n s.order)

  pub was-new : (z : StarOf O) → IsSoundStar O most first z → following.Follows O L z s → (more : List (Entry O.Edit)) → s.order ≡ z.order ++ more
      → WasStar O L symmetric most first (length s.order) i z (newcomer O s)
  was-new z sound follows more grows = record {
    sound = sound;
    follows = record { given = omega (arith, follows.given); order = follows.order; knows = follows.knows; none_back = follows.none_back };
    more = more;
    grows = grows;
    told = inr (record { since = record { order = follows.order; none_back = follows.none_back }; all = λ x k. knows_now x (follows.knows x k) });
  }
