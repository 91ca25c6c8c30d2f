-- A board that the site once showed, beside the star as it goes on.
use Rattle.std.proofs.Common.{sym, ◌≡◌, ◌⊎◌, ℕ, ◌+◌, ◌≤◌, inl, inr, false, List, [], ◌∷◌, ◌++◌, drop, length, nat_eq, refl, ap, ◌∙◌, subst, Some, None, arith, append-nil, append_assoc}
use Rattle.jup_site.specs.Prelude.{most_beyond, Msg, after_send, after_count, answered, Comes, Comes-nil, Operations, AreLawful, Windows, board_batches, Up, UpOp, UpAck, UpPing, ups, LinkState, operation_at, end_after, link_heard, link_sent, link_acked, link_ponged, StarOf, up_fault, entry, taken, link_of}
use Rattle.jup_site.specs.Turns.{turns}
use Rattle.jup_site.specs.Sites.{AttachedOf, one_taken}
use Rattle.jup_site.specs.Sound as soundness
use Rattle.jup_site.specs.Moments as moments
use Rattle.jup_site.proofs.Known as known_names
use Rattle.jup_site.proofs.Stars as stars
use Rattle.jup_site.proofs.Turns.{named-turns}
use Rattle.jup_site.proofs.Pairs.Places as places
use Rattle.jup_site.proofs.Follows.{StarKnows, Follows}
use Rattle.jup_site.proofs.Beside.{moves-beside}
use Rattle.jup_site.proofs.Later.{moves-follow}

-- Between boards, to keep the order of the other's items is symmetric.

pub order_symmetric : (x y : Windows) → board_batches.t.keeps_order x y → board_batches.t.keeps_order y x
order_symmetric x y kept = λ p m n hm hn gm gn. sym (kept p m n gm gn hm hn)

-- What a site once showed, at a later moment.

module _ (O : Operations) (L : AreLawful O) where
  -- The star has still to take some of what the site had sent when it showed this board, and these messages come first of all on their way up. That
  -- earlier site may replace the present one: then star and link are those of a site that receives nothing and makes nothing more.
  pub record IsBeingTaken (most : ℕ) (first : O.t.Content) (i : ℕ) (x : O.State) (m : moments.Moment O) : Type 0 where
    pub joined : ℕ
    pub shown : ℕ
    pub mine : List O.Edit
    pub link : LinkState O.Op
    pub site : AttachedOf O
    pub stands : soundness.Standing O most first (turns i m.star.order) m.star.board mine joined shown i link site
    pub board : site.site.board ≡ x
    pub ends : link.end ≡ m.link.end
    pub later : List (Up O.Op)
    pub up : m.at.up ≡ site.up ++ later

  -- the star has taken all of it, and knows each name that the board held
  pub record IsTaken (s : StarOf O) (x : O.State) : Type 0 where
    pub order : O.t.keeps_order x s.board
    pub known : (n : O.t.Name) → O.t.holds x n → StarKnows O L s n

  -- once all is taken, it stays so as the star goes on
  pub taken_on : (s v : StarOf O) (x : O.State) → Follows O L s v → IsTaken s x → IsTaken v x
  taken_on s v x f t = record {
    order = L.keeps.order_chain x s.board v.board t.order f.order (λ n here later. f.none_back n (t.known n here) later);
    known = λ n here. f.knows n (t.known n here);
  }

  module _ (symmetric : (x y : O.State) → O.t.keeps_order x y → O.t.keeps_order y x) (most : ℕ) (first : O.t.Content) (i : ℕ) (x : O.State) (m : moments.Moment O) (sound : soundness.IsSoundStar O most first m.star)
      (h : IsBeingTaken most first i x m) where
    -- there is room for what may still come
    fits : length m.star.order + most_beyond ≤ most
    fits = omega (arith, sound.few, sound.limited)

    -- the star knows what its board holds, counted as the site counts
    abbrev counts : ℕ → ℕ
    counts = known_names.star_counts O L symmetric most i first (places.past O L most first m.star h.mine i h.joined h.shown h.link h.site h.stands fits) (places.rest O L most first m.star h.mine i h.joined h.shown h.link h.site h.stands fits)
        m.star.board h.mine h.link h.site h.stands.pair

    counted : (j : ℕ) → counts j ≡ soundness.named_in O m.star.order j
    counted j = ap (soundness.named_by O i j) (places.whole O L most first m.star h.mine i h.joined h.shown h.link h.site h.stands fits) ∙ named-turns O L i 0 j m.star.order

    held_known : soundness.HoldsKnown O counts m.star.board
    held_known n held = known_names.known_more O L (soundness.named_in O m.star.order) counts n (λ j. omega (arith, counted j)) (sound.board_known n held)

    -- the past board and the star's show in one order what both show
    pub taking_order : O.t.keeps_order x m.star.board
    taking_order = subst (λ y. O.t.keeps_order y m.star.board) h.board (known_names.pair_order O L symmetric most i first _ _ m.star.board h.mine h.link h.site h.stands.pair held_known)

    -- if nothing is left on its way of what the site had sent, all is taken
    all_taken : h.site.up ≡ [] → IsTaken m.star x
    all_taken none = record {
      order = taking_order;
      known = λ n held. known_names.known_more O L counts (soundness.named_in O m.star.order) n (λ j. omega (arith, counted j))
          (known_names.sent_all O L symmetric most i first _ _ m.star.board h.mine h.link h.site h.stands.pair nothing n (subst (λ y. O.t.holds y n) (sym h.board) held));
    }
      where
        nothing : h.stands.pair.site_ahead ≡ []
        nothing = Comes-nil O.t h.link.end.received h.link.end.acknowledged h.stands.pair.in_step.far_queue.before h.stands.pair.site_ahead
            (subst (λ r. Comes O.t h.link.end.received h.link.end.acknowledged h.stands.pair.in_step.far_queue.before (ups r) h.stands.pair.site_ahead) none h.stands.pair.in_step.far_queue.comes)

    -- the star's board and order stay, and the site sends more at the most
    pub taking_kept : (n : moments.Moment O) → n.star.board ≡ m.star.board → n.star.order ≡ m.star.order → m.link.end ≡ n.link.end → (more : List (Up O.Op)) → n.at.up ≡ m.at.up ++ more → IsBeingTaken most first i x n
    taking_kept n b o ends more grown = record {
      joined = h.joined;
      shown = h.shown;
      mine = h.mine;
      link = h.link;
      site = h.site;
      stands = rw (b, o) h.stands;
      board = h.board;
      ends = h.ends ∙ ends;
      later = h.later ++ more;
      up = grown ∙ ap (λ r. r ++ more) h.up ∙ append_assoc h.site.up h.later more;
    }

    -- the star takes an edit of another number
    pub taking_other : (j : ℕ) (l : LinkState O.Op) (fl : link_of j m.star.links ≡ Some l) (y : Msg O.Op) (none : up_fault O m.star l (UpOp y) ≡ None) → nat_eq j i ≡ false
        → IsBeingTaken most first i x (record m { star = taken O j (UpOp y) l m.star; link = link_sent (operation_at O l.end y) m.link })
    taking_other j l fl y none apart = record {
      joined = h.joined;
      shown = h.shown;
      mine = h.mine;
      link = link_sent (operation_at O l.end y) h.link;
      site = h.site;
      stands = places.place-sent O L most first m.star h.mine i h.joined h.shown h.link h.site h.stands fits sound.counted j y (operation_at O l.end y)
          (stars.valid O L most first m.star sound j l fl y none) (stars.same O L most first m.star sound j l fl y none) (stars.inserts O L most first m.star sound j l fl y none)
          positive apart (stars.next O L most first m.star sound j l fl y none) (stars.changes O L most first m.star sound j l fl y none);
      board = h.board;
      ends = ap (λ e. after_send e (operation_at O l.end y)) h.ends;
      later = h.later;
      up = h.up;
    }
      where
        positive : 1 ≤ j
        positive = (subst (λ o. soundness.SoundLinkAt O m.star.order j o) fl (sound.links j)).positive

    -- The star takes the oldest message of the site itself. If any is left of what the past site had sent, it is the oldest of these.
    heads : (u : Up O.Op) (us : List (Up O.Op)) → m.at.up ≡ u ∷ us → (h.site.up ≡ []) ⊎ ((vs : List (Up O.Op)) × (h.site.up ≡ u ∷ vs) × (us ≡ vs ++ h.later))
    heads u us e = cases h.site.up refl
      where
        cases : (r : List (Up O.Op)) → h.site.up ≡ r → (h.site.up ≡ []) ⊎ ((vs : List (Up O.Op)) × (h.site.up ≡ u ∷ vs) × (us ≡ vs ++ h.later))
        cases [] q = inl q
        cases (w ∷ vs) q =
            let both : u ∷ us ≡ w ∷ (vs ++ h.later) = sym e ∙ h.up ∙ ap (λ r. r ++ h.later) q in
            let one : w ≡ u = cc in
            let more : us ≡ vs ++ h.later = cc in
            inr (vs, q ∙ ap (λ z. z ∷ vs) one, more)

    -- once it is taken, the others are the oldest
    others_left : (u : Up O.Op) (us vs : List (Up O.Op)) → m.at.up ≡ u ∷ us → h.site.up ≡ u ∷ vs → us ≡ vs ++ h.later → (one_taken O m.at).up ≡ (one_taken O h.site).up ++ h.later
    others_left u us vs e q f = ap (drop 1) e ∙ f ∙ ap (λ r. r ++ h.later) (sym (ap (drop 1) q))

    -- an edit
    pub taking_own : (y : Msg O.Op) (us : List (Up O.Op)) → m.at.up ≡ UpOp y ∷ us
        → IsTaken m.star x ⊎ IsBeingTaken most first i x (record m { star = taken O i (UpOp y) m.link m.star; link = link_heard O y m.link; at = one_taken O m.at })
    taking_own y us e = elim (heads (UpOp y) us e) [
      | inl none ↦ inl (all_taken none)
      | inr more ↦ inr (record {
        joined = h.joined;
        shown = h.shown;
        mine = h.mine;
        link = link_heard O y h.link;
        site = one_taken O h.site;
        stands = subst (λ z. soundness.Standing O most first (turns i (m.star.order ++ entry O i y ∷ [])) (O.t.after (operation_at O z y) m.star.board) h.mine h.joined h.shown i (link_heard O y h.link) (one_taken O h.site)) h.ends
            (places.place-taken O L most first m.star h.mine i h.joined h.shown h.link h.site h.stands fits y more.0 more.1);
        board = h.board;
        ends = ap (λ z. answered (end_after O z y)) h.ends;
        later = h.later;
        up = others_left (UpOp y) us more.0 e more.1 more.2;
      })
    ]

    -- an acknowledgement
    pub taking_ack : (n : ℕ) (us : List (Up O.Op)) → m.at.up ≡ UpAck n ∷ us
        → IsTaken m.star x ⊎ IsBeingTaken most first i x (record m { star = taken O i (UpAck n) m.link m.star; link = link_acked n m.link; at = one_taken O m.at })
    taking_ack n us e = elim (heads (UpAck n) us e) [
      | inl none ↦ inl (all_taken none)
      | inr more ↦ inr (record {
        joined = h.joined;
        shown = h.shown;
        mine = h.mine;
        link = link_acked n h.link;
        site = one_taken O h.site;
        stands = places.place-acked O L most first m.star h.mine i h.joined h.shown h.link h.site h.stands fits n more.0 more.1;
        board = h.board;
        ends = ap (λ z. after_count z n) h.ends;
        later = h.later;
        up = others_left (UpAck n) us more.0 e more.1 more.2;
      })
    ]

    -- a ping
    pub taking_ping : (k : ℕ) (us : List (Up O.Op)) → m.at.up ≡ UpPing k ∷ us
        → IsTaken m.star x ⊎ IsBeingTaken most first i x (record m { star = taken O i (UpPing k) m.link m.star; link = link_ponged k m.link; at = one_taken O m.at })
    taking_ping k us e = elim (heads (UpPing k) us e) [
      | inl none ↦ inl (all_taken none)
      | inr more ↦ inr (record {
        joined = h.joined;
        shown = h.shown;
        mine = h.mine;
        link = link_ponged k h.link;
        site = one_taken O h.site;
        stands = places.place-asked O L most first m.star h.mine i h.joined h.shown h.link h.site h.stands fits k more.0 more.1;
        board = h.board;
        ends = h.ends;
        later = h.later;
        up = others_left (UpPing k) us more.0 e more.1 more.2;
      })
    ]

-- # By moves

module _ (O : Operations) (L : AreLawful O) (symmetric : (x y : O.State) → O.t.keeps_order x y → O.t.keeps_order y x) (most : ℕ) (first : O.t.Content) (since i : ℕ) (x : O.State) where
  -- the star has still to take some of what the site had sent when it showed this board, or has taken all of it
  abbrev pub WasShown : moments.Moment O → Type 0
  WasShown m = IsBeingTaken O L most first i x m ⊎ IsTaken O L m.star x

  moves_taking : (m n : moments.Moment O) → moments.IsBeside O most first since i m → moments.Moves O i m n → IsBeingTaken O L most first i x m → WasShown n
  moves_taking m n h (moments.Takes j apart l fl (UpOp y) none) t = inl (taking_other O L symmetric most first i x m h.star.star t j l fl y none apart)
  moves_taking m n h (moments.Takes j apart l fl (UpAck k) none) t = inl (taking_kept O L symmetric most first i x m h.star.star t n refl refl refl [] (sym (append-nil m.at.up)))
  moves_taking m n h (moments.Takes j apart l fl (UpPing k) none) t = inl (taking_kept O L symmetric most first i x m h.star.star t n refl refl refl [] (sym (append-nil m.at.up)))
  moves_taking m n h (moments.TakesOwn (UpOp y) us rising fl none) t = elim (taking_own O L symmetric most first i x m h.star.star t y us rising) [
    | inl all ↦ inr (taken_on O L m.star n.star x (moves-follow O L most first since i m n h (moments.TakesOwn (UpOp y) us rising fl none)) all)
    | inr more ↦ inl more
  ]
  moves_taking m n h (moments.TakesOwn (UpAck k) us rising fl none) t = elim (taking_ack O L symmetric most first i x m h.star.star t k us rising) [
    | inl all ↦ inr (record { order = all.order; known = all.known })
    | inr more ↦ inl more
  ]
  moves_taking m n h (moments.TakesOwn (UpPing k) us rising fl none) t = elim (taking_ping O L symmetric most first i x m h.star.star t k us rising) [
    | inl all ↦ inr (record { order = all.order; known = all.known })
    | inr more ↦ inl more
  ]
  moves_taking m n h (moments.Edits command op ok) t = inl (taking_kept O L symmetric most first i x m h.star.star t n refl refl refl _ refl)
  moves_taking m n h (moments.Asks k) t = inl (taking_kept O L symmetric most first i x m h.star.star t n refl refl refl _ refl)
  moves_taking m n h (moments.Hands d ds e) t = inl (taking_kept O L symmetric most first i x m h.star.star t n refl refl refl _ refl)
  moves_taking m n h move t = inl (taking_kept O L symmetric most first i x m h.star.star t n refl refl refl [] (sym (append-nil m.at.up)))

  -- each move keeps it
  pub moves-shown : (m n : moments.Moment O) → moments.IsBeside O most first since i m → moments.Moves O i m n → WasShown m → WasShown n
  moves-shown m n h move was = elim was [
    | inl t ↦ moves_taking m n h move t
    | inr t ↦ inr (taken_on O L m.star n.star x (moves-follow O L most first since i m n h move) t)
  ]

  -- and each run
  pub runs-shown : (m n : moments.Moment O) → moments.Runs O i m n → moments.IsBeside O most first since i m → WasShown m → WasShown n
  runs-shown m n moments.Stays h was = was
  runs-shown m n (moments.Then o move run) h was = runs-shown o n run (moves-beside O L most first since i m o move h) (moves-shown m o h move was)

  -- what it showed and what the star shows are in one order
  pub shown-order : (m : moments.Moment O) → moments.IsBeside O most first since i m → WasShown m → O.t.keeps_order x m.star.board
  shown-order m h was = elim was [ inl t ↦ taking_order O L symmetric most first i x m h.star.star t | inr t ↦ t.order ]

module _ (O : Operations) (L : AreLawful O) (symmetric : (x y : O.State) → O.t.keeps_order x y → O.t.keeps_order y x) (most : ℕ) (first : O.t.Content) (since i : ℕ) (m : moments.Moment O) (h : moments.IsBeside O most first since i m) where
  -- the board of the moment is one
  pub shown-now : WasShown O L symmetric most first since i m.at.site.board m
  shown-now = inl (record {
    joined = since;
    shown = m.shown;
    mine = m.mine;
    link = m.link;
    site = m.at;
    stands = h.stands;
    board = refl;
    ends = refl;
    later = [];
    up = sym (append-nil m.at.up);
  })
