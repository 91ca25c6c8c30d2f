-- A site stays in step with a star that anyone calls.
use Rattle.std.proofs.Common.{◌≡◌, ℕ, ◌+◌, ◌≤◌, ◌⊎◌, inl, inr, Bool, true, false, List, ◌∷◌, ◌++◌, take, drop, length, nat_eq, refl, ap, sym, ◌∙◌, subst, Option, Some, None, option_map, arith, append_assoc, add-zero, take-append-drop, eqb-true, ne_eqb, eq-eqb}
use Rattle.jup_site.specs.Prelude.{most_beyond, Operations, AreLawful, Up, UpOp, UpAck, UpPing, Down, DownOp, DownAck, DownPong, downs, LinkState, opened_link, link_of, operation_at, link_sent, link_fetched, link_acked, link_ponged, StarOf, joined, left, taken, up_fault, deliver_fault, found-end, found-end_other, found-without, found-without_other}
use Rattle.jup_site.specs.Sites.{one_handed}
use Rattle.jup_site.specs.Turns as site_turns
use Rattle.jup_site.specs.Sound.{SoundLinkAt, Standing}
use Rattle.jup_site.proofs.Turns.{length-turns}
use Rattle.jup_site.proofs.Pairs.Streams.{pair-asked}
use Rattle.jup_site.proofs.Pairs.Places as places
use Rattle.jup_site.proofs.Joins.{stands-new}
use Rattle.jup_site.proofs.Counts as counting
use Rattle.jup_site.proofs.Stars as stars
use Rattle.jup_site.specs.Moments.{next_number, newcomer, Moment, Moves, Edits, Asks, Hands, Joins, Leaves, Fetches, FetchesOwn, Takes, TakesOwn, Runs, Stays, Then, link_told, IsCalled, IsBeside}

-- an element that is found is this one, before a change of each and after it
found_same : {A : Type 0} (f : A → A) (x : A) (o : Option A) → ((y : A) → o ≡ Some y → y ≡ x) → (z : A) → option_map f o ≡ Some z → z ≡ f x
found_same f x None h z e = absurd (cc)
found_same f x (Some y) h z e = let is : y ≡ x = h y refl in cc

module _ (O : Operations) (L : AreLawful O) (most : ℕ) (first : O.t.Content) (since i : ℕ) where
  module _ (m : Moment O) (h : IsBeside O most first since i m) where
    -- there is room for what may still come
    pub fits : length m.star.order + most_beyond ≤ most
    fits = let s = h.star.star in omega (arith, s.few, s.limited)

    -- the oldest message to it is one that it takes
    pub beside-accepts : (d : Down O.Op) (falling : List (Down O.Op)) → m.at.down ≡ d ∷ falling → deliver_fault O d m.at.site ≡ None
    beside-accepts d falling e = places.place-fits O L most first m.star m.mine i since m.shown m.link m.at h.stands fits d 0 falling (ap (λ x. downs (x ++ m.link.outbox)) e)

    -- it receives it
    handed : (d : Down O.Op) (falling : List (Down O.Op)) → m.at.down ≡ d ∷ falling
        → Standing O most first (site_turns.turns i m.star.order) m.star.board m.mine since (m.shown + site_turns.brings d) i m.link (one_handed O d falling m.at)
    handed (DownOp x) falling e = places.place-shown O L most first m.star m.mine i since m.shown m.link m.at h.stands fits x 0 falling (ap (λ x. downs (x ++ m.link.outbox)) e)
    handed (DownAck n) falling e = rw (add-zero m.shown)
        (places.place-told O L most first m.star m.mine i since m.shown m.link m.at h.stands fits n 0 falling (ap (λ x. downs (x ++ m.link.outbox)) e))
    handed (DownPong n) falling e = rw (add-zero m.shown)
        (places.place-answered O L most first m.star m.mine i since m.shown m.link m.at h.stands fits n 0 falling (ap (λ x. downs (x ++ m.link.outbox)) e))

    -- the star takes a message of another
    module _ (j : ℕ) (apart : nat_eq j i ≡ false) (l : LinkState O.Op) (fl : link_of j m.star.links ≡ Some l) where
      told_other : (up : Up O.Op) → up_fault O m.star l up ≡ None
          → Standing O most first (site_turns.turns i (taken O j up l m.star).order) (taken O j up l m.star).board m.mine since m.shown i (link_told O up l m.link) m.at
      told_other (UpOp x) none =
          let s = h.star.star in
          places.place-sent O L most first m.star m.mine i since m.shown m.link m.at h.stands fits s.counted j x (operation_at O l.end x)
          (stars.valid O L most first m.star s j l fl x none) (stars.same O L most first m.star s j l fl x none) (stars.inserts O L most first m.star s j l fl x none)
          (subst (λ o. SoundLinkAt O m.star.order j o) fl (s.links j)).positive apart
          (stars.next O L most first m.star s j l fl x none) (stars.changes O L most first m.star s j l fl x none)
      told_other (UpAck n) none = h.stands
      told_other (UpPing k) none = h.stands

      told_counts : (up : Up O.Op) → site_turns.Counts O (link_told O up l m.link) m.at
      told_counts (UpOp x) = counting.sent_counts O L m.link m.at (operation_at O l.end x) h.counts
      told_counts (UpAck n) = h.counts
      told_counts (UpPing k) = h.counts

      told_is : (up : Up O.Op) → up_fault O m.star l up ≡ None → (k : LinkState O.Op) → link_of i (taken O j up l m.star).links ≡ Some k → k ≡ link_told O up l m.link
      told_is (UpOp x) none k fk = found_same (link_sent (operation_at O l.end x)) m.link (link_of i m.star.links) h.is k (sym (stars.link_there O L most first m.star h.star.star j l fl x none i apart) ∙ fk)
      told_is (UpAck n) none k fk = h.is k (sym (stars.at_there O L most first m.star h.star.star j i (link_acked n) (λ k. refl) apart) ∙ fk)
      told_is (UpPing n) none k fk = h.is k (sym (stars.at_there O L most first m.star h.star.star j i (link_ponged n) (λ k. refl) apart) ∙ fk)

    -- a link goes
    left_is : (j : ℕ) (k : LinkState O.Op) → link_of i (left j m.star).links ≡ Some k → k ≡ m.link
    left_is j k fk = cases (nat_eq j i) refl
      where
        cases : (b : Bool) → nat_eq j i ≡ b → k ≡ m.link
        cases true e = let gone : link_of i (left j m.star).links ≡ None = subst (λ n. link_of n (left j m.star).links ≡ None) (eqb-true j i e) (found-without (λ k. k.site) j m.star.links) in absurd (cc)
        cases false e = h.is k (sym (found-without_other (λ k. k.site) j i m.star.links e) ∙ fk)

    -- one comes
    joined_is : (k : LinkState O.Op) → link_of i (joined m.star).links ≡ Some k → k ≡ m.link
    joined_is k fk = h.is k (sym (found-end_other (λ k. k.site) i m.star.links (opened_link (m.star.given + 1)) (ne_eqb (m.star.given + 1) i (λ e. let low = h.given in absurd (omega arith)))) ∙ fk)

  -- each move keeps it
  pub moves-beside : (m n : Moment O) → Moves O i m n → IsBeside O most first since i m → IsBeside O most first since i n
  moves-beside m n (Edits command op ok) h = record {
    star = h.star;
    given = h.given;
    stands = places.stand-makes O L most first (site_turns.turns i m.star.order) m.star.board m.mine since m.shown i m.link m.at h.stands command op ok (omega (arith, length-turns i m.star.order, fits m h)) h.star.star.counted;
    counts = counting.edit_counts O L m.link m.at op h.counts;
    is = h.is;
  }
  moves-beside m n (Asks k) h = record {
    star = h.star;
    given = h.given;
    stands = places.stand-pair O L most first (site_turns.turns i m.star.order) m.star.board m.mine since m.shown i m.link m.at h.stands m.star.board m.mine m.link n.at
        (pair-asked O L most i first _ _ m.star.board m.mine m.link m.at h.stands.pair k);
    counts = counting.pinged_counts O L m.link m.at k h.counts;
    is = h.is;
  }
  moves-beside m n (Hands d falling e) h = record {
    star = h.star;
    given = h.given;
    stands = handed m h d falling e;
    counts = counting.handed_counts O L m.link m.at 0 d falling (ap (λ x. x ++ m.link.outbox) e) (beside-accepts m h d falling e) h.counts;
    is = h.is;
  }
  moves-beside m n Joins h = record {
    star = (stars.called-joined O L most first m.star h.star).called;
    given = omega (arith, h.given);
    stands = h.stands;
    counts = h.counts;
    is = joined_is m h;
  }
  moves-beside m n (Leaves j) h = record { star = (stars.called-left O L most first m.star h.star j).called; given = h.given; stands = h.stands; counts = h.counts; is = left_is m h j }
  moves-beside m n (Fetches j k apart) h = record {
    star = (stars.called-fetched O L most first m.star h.star j k).called;
    given = h.given;
    stands = h.stands;
    counts = h.counts;
    is = λ l fl. h.is l (sym (stars.at_there O L most first m.star h.star.star j i (link_fetched k) (λ k. refl) apart) ∙ fl);
  }
  moves-beside m n (FetchesOwn k fl) h = record {
    star = (stars.called-fetched O L most first m.star h.star i k).called;
    given = h.given;
    stands = places.place-fetched O L most first m.star m.mine i since m.shown m.link m.at h.stands (fits m h) k;
    counts = record {
      short = h.counts.short;
      told = ap (λ z. site_turns.told_count m.at.site.end.acknowledged z + m.link.end.unanswered)
          (append_assoc m.at.down (take k m.link.outbox) (drop k m.link.outbox) ∙ ap (λ z. m.at.down ++ z) (take-append-drop k m.link.outbox)) ∙ h.counts.told;
      sent = h.counts.sent;
    };
    is = λ l gl. (let there = stars.at_here O L most first m.star h.star.star i (link_fetched k) (λ k. refl) ∙ ap (option_map (link_fetched k)) fl in cc);
  }
  moves-beside m n (Takes j apart l fl up none) h = record {
    star = (stars.called-taken O L most first m.star h.star j l fl up none).called;
    given = same_given up;
    stands = told_other m h j apart l fl up none;
    counts = told_counts m h j apart l fl up;
    is = told_is m h j apart l fl up none;
  }
    where
      same_given : (up : Up O.Op) → i ≤ (taken O j up l m.star).given
      same_given (UpOp x) = h.given
      same_given (UpAck k) = h.given
      same_given (UpPing k) = h.given
  moves-beside m n (TakesOwn (UpOp x) us rising fl none) h = record {
    star = (stars.called-taken O L most first m.star h.star i m.link fl (UpOp x) none).called;
    given = h.given;
    stands = places.place-taken O L most first m.star m.mine i since m.shown m.link m.at h.stands (fits m h) x us rising;
    counts = counting.heard_counts O L m.link m.at x h.counts;
    is = λ l gl. (let there = stars.link_here O L most first m.star h.star.star i m.link fl x none in cc);
  }
  moves-beside m n (TakesOwn (UpAck k) us rising fl none) h = record {
    star = (stars.called-taken O L most first m.star h.star i m.link fl (UpAck k) none).called;
    given = h.given;
    stands = places.place-acked O L most first m.star m.mine i since m.shown m.link m.at h.stands (fits m h) k us rising;
    counts = counting.acked_counts O L m.link m.at k h.counts;
    is = λ l gl. (let there = stars.at_here O L most first m.star h.star.star i (link_acked k) (λ k. refl) ∙ ap (option_map (link_acked k)) fl in cc);
  }
  moves-beside m n (TakesOwn (UpPing k) us rising fl none) h = record {
    star = (stars.called-taken O L most first m.star h.star i m.link fl (UpPing k) none).called;
    given = h.given;
    stands = places.place-asked O L most first m.star m.mine i since m.shown m.link m.at h.stands (fits m h) k us rising;
    counts = counting.ponged_counts O L m.link m.at k h.counts;
    is = λ l gl. (let there = stars.at_here O L most first m.star h.star.star i (link_ponged k) (λ k. refl) ∙ ap (option_map (link_ponged k)) fl in cc);
  }

  -- and each run
  pub runs-beside : (m n : Moment O) → Runs O i m n → IsBeside O most first since i m → IsBeside O most first since i n
  runs-beside m n Stays h = h
  runs-beside m n (Then o move run) h = runs-beside o n run (moves-beside m o move h)

  -- # Its link

  -- the star has the link
  abbrev pub Linked : Moment O → Type 0
  Linked m = link_of i m.star.links ≡ Some m.link

  -- it has it if it has any for the site
  pub linked-by : (m : Moment O) → IsBeside O most first since i m → (l : LinkState O.Op) → link_of i m.star.links ≡ Some l → Linked m
  linked-by m h l fl = let is = h.is l fl in cc

  -- a link that is gone does not come back
  pub none-stays : (m n : Moment O) → Moves O i m n → IsBeside O most first since i m → link_of i m.star.links ≡ None → link_of i n.star.links ≡ None
  none-stays m n Joins h none = found-end_other (λ k. k.site) i m.star.links (opened_link (m.star.given + 1)) (ne_eqb (m.star.given + 1) i (λ e. let low = h.given in absurd (omega arith))) ∙ none
  none-stays m n (Leaves j) h none = cases (nat_eq j i) refl
    where
      cases : (b : Bool) → nat_eq j i ≡ b → link_of i (left j m.star).links ≡ None
      cases true e = subst (λ n. link_of n (left j m.star).links ≡ None) (eqb-true j i e) (found-without (λ k. k.site) j m.star.links)
      cases false e = found-without_other (λ k. k.site) j i m.star.links e ∙ none
  none-stays m n (Fetches j k apart) h none = stars.at_there O L most first m.star h.star.star j i (link_fetched k) (λ k. refl) apart ∙ none
  none-stays m n (FetchesOwn k gl) h none = absurd (cc)
  none-stays m n (Takes j apart l gl (UpOp x) ok) h none = stars.link_there O L most first m.star h.star.star j l gl x ok i apart ∙ ap (option_map (link_sent (operation_at O l.end x))) none
  none-stays m n (Takes j apart l gl (UpAck k) ok) h none = stars.at_there O L most first m.star h.star.star j i (link_acked k) (λ k. refl) apart ∙ none
  none-stays m n (Takes j apart l gl (UpPing k) ok) h none = stars.at_there O L most first m.star h.star.star j i (link_ponged k) (λ k. refl) apart ∙ none
  none-stays m n (TakesOwn up us rising gl ok) h none = absurd (cc)
  none-stays m n move h none = none

  pub linked-before : (m n : Moment O) → Moves O i m n → IsBeside O most first since i m → (l : LinkState O.Op) → link_of i n.star.links ≡ Some l → Linked m
  linked-before m n move h l fl = cases (link_of i m.star.links) refl
    where
      cases : (o : Option (LinkState O.Op)) → link_of i m.star.links ≡ o → Linked m
      cases None e = let none = none-stays m n move h e in absurd (cc)
      cases (Some k) e = linked-by m h k e

  -- a move takes it away only if it is its leave
  abbrev pub IsLeave : {m n : Moment O} → Moves O i m n → Type 0
  IsLeave (Leaves j) = j ≡ i
  IsLeave move = ⊥

  pub leave-left : (m n : Moment O) (move : Moves O i m n) → IsLeave move → n.star ≡ left i m.star
  leave-left m n (Leaves j) is = ap (λ k. left k m.star) is
  leave-left m n (Edits command op ok) is = absurd is
  leave-left m n (Asks k) is = absurd is
  leave-left m n (Hands d falling e) is = absurd is
  leave-left m n Joins is = absurd is
  leave-left m n (Fetches j k apart) is = absurd is
  leave-left m n (FetchesOwn k fl) is = absurd is
  leave-left m n (Takes j apart l fl up none) is = absurd is
  leave-left m n (TakesOwn up us rising fl none) is = absurd is

  pub moves-remain : (m n : Moment O) (move : Moves O i m n) → IsBeside O most first since i m → Linked m → IsLeave move ⊎ Linked n
  moves-remain m n (Edits command op ok) h fl = inr fl
  moves-remain m n (Asks k) h fl = inr fl
  moves-remain m n (Hands d falling e) h fl = inr fl
  moves-remain m n Joins h fl = inr (found-end_other (λ k. k.site) i m.star.links (opened_link (m.star.given + 1)) (ne_eqb (m.star.given + 1) i (λ e. let low = h.given in absurd (omega arith))) ∙ fl)
  moves-remain m n (Leaves j) h fl = cases (nat_eq j i) refl
    where
      cases : (b : Bool) → nat_eq j i ≡ b → (j ≡ i) ⊎ Linked (record m { star = left j m.star })
      cases true e = inl (eqb-true j i e)
      cases false e = inr (found-without_other (λ k. k.site) j i m.star.links e ∙ fl)
  moves-remain m n (Fetches j k apart) h fl = inr (stars.at_there O L most first m.star h.star.star j i (link_fetched k) (λ k. refl) apart ∙ fl)
  moves-remain m n (FetchesOwn k gl) h fl = inr (stars.at_here O L most first m.star h.star.star i (link_fetched k) (λ k. refl) ∙ ap (option_map (link_fetched k)) fl)
  moves-remain m n (Takes j apart l gl (UpOp x) none) h fl = inr (stars.link_there O L most first m.star h.star.star j l gl x none i apart ∙ ap (option_map (link_sent (operation_at O l.end x))) fl)
  moves-remain m n (Takes j apart l gl (UpAck k) none) h fl = inr (stars.at_there O L most first m.star h.star.star j i (link_acked k) (λ k. refl) apart ∙ fl)
  moves-remain m n (Takes j apart l gl (UpPing k) none) h fl = inr (stars.at_there O L most first m.star h.star.star j i (link_ponged k) (λ k. refl) apart ∙ fl)
  moves-remain m n (TakesOwn (UpOp x) us rising gl none) h fl = inr (stars.link_here O L most first m.star h.star.star i m.link fl x none)
  moves-remain m n (TakesOwn (UpAck k) us rising gl none) h fl = inr (stars.at_here O L most first m.star h.star.star i (link_acked k) (λ k. refl) ∙ ap (option_map (link_acked k)) fl)
  moves-remain m n (TakesOwn (UpPing k) us rising gl none) h fl = inr (stars.at_here O L most first m.star h.star.star i (link_ponged k) (λ k. refl) ∙ ap (option_map (link_ponged k)) fl)

-- A site that joins is beside the star, at the end of its order.

module _ (O : Operations) (L : AreLawful O) (most : ℕ) (first : O.t.Content) (s : StarOf O) (h : IsCalled O most first s) where
  pub beside-new : IsBeside O most first (length s.order) (next_number O s) (newcomer O s)
  beside-new = record {
    star = (stars.called-joined O L most first s h).called;
    given = omega arith;
    stands = stands-new O L most first s h.star (next_number O s) refl (h.no_entry (next_number O s) (omega arith));
    counts = record { short = omega arith; told = refl; sent = refl };
    is = λ l fl. (let there = found-end (λ k. k.site) (next_number O s) s.links (opened_link (next_number O s)) (h.star.no_link (next_number O s) (omega arith)) (eq-eqb (next_number O s) (next_number O s) refl) in cc);
  }
