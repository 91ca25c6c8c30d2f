-- What a site once showed, and what another site shows: both agree with a star of the past that knew what both know.
use Rattle.std.proofs.Common.{◌≡◌, ◌⊎◌, ℕ, ◌≤◌, ◌<◌, inl, inr, Bool, true, false, length, nat_eq, nat_le, refl, ap, sym, arith, le_refl, length-append, eqb-true, leb-false, leb-true}
use Rattle.jup_site.specs.Prelude.{Operations, AreLawful, StarOf}
use Rattle.jup_site.specs.Turns.{turns}
use Rattle.jup_site.specs.Moments.{Moment, Moves, told_count, Knows, IsBeside}
use Rattle.jup_site.proofs.Turns.{length-turns}
use Rattle.jup_site.proofs.Pairs.Places as places
use Rattle.jup_site.proofs.Follows.{StarKnows, Follows}
use Rattle.jup_site.proofs.Past as past
use Rattle.jup_site.proofs.PastBoards.{WasShown, shown-now, moves-shown, shown-order}
use Rattle.jup_site.proofs.Beside.{moves-beside}
use Rattle.jup_site.proofs.Later.{moves-grow}

module _ (O : Operations) (L : AreLawful O) (symmetric : (x y : O.State) → O.t.keeps_order x y → O.t.keeps_order y x) (most : ℕ) (first : O.t.Content) where
  -- A board that the site of a number showed when so many entries had reached it, beside a star of the past. Both show in one order what both show.
  -- With as many entries the star knew what the board held of others. If it had no more, it held what it knew of the board
  pub record Meets (i count : ℕ) (x : O.State) (z : StarOf O) : Type 0 where
    pub order : O.t.keeps_order x z.board
    pub knows : count ≤ length z.order → (n : O.t.Name) → O.t.holds x n → nat_eq (O.site_of n) i ≡ false → StarKnows O L z n
    pub level : count ≡ length z.order → (n : O.t.Name) → StarKnows O L z n → O.t.holds x n → O.t.holds z.board n

  -- no more entries have reached a site than there are
  pub told-within : (since i : ℕ) (m : Moment O) → IsBeside O most first since i m → told_count O since i m ≤ length m.star.order
  told-within since i m h = omega (arith, places.told_within O L since m.shown (turns i m.star.order) h.stands.joined_within h.stands.shown_within, length-turns i m.star.order)

  -- what a site shows meets each star of the past
  pub meets-now : (since i : ℕ) (m : Moment O) → IsBeside O most first since i m → (z : StarOf O) → past.WasStar O L symmetric most first since i z m → Meets i (told_count O since i m) m.at.site.board z
  meets-now since i m h z was = record {
    order = symmetric z.board m.at.site.board (past.was-order O L symmetric most first since i z m was);
    knows = λ enough n held apart. past.knows_others O L symmetric most first since i z m was.more was.grows enough n (h.stands.pair.board_known n held) apart;
    level = λ e n known held. (past.was-since O L symmetric most first since i z m was e).none_back n known held;
  }

  -- and so it meets a star with more entries, which goes on from one of them
  pub meets-new : (i count : ℕ) (x : O.State) (z s : StarOf O) → Meets i count x z → count ≤ length z.order → length z.order < length s.order → Follows O L z s → O.t.keeps_order x s.board → Meets i count x s
  meets-new i count x z s f low more follows order = record {
    order = order;
    knows = λ enough n held apart. follows.knows n (f.knows low n held apart);
    level = λ e n known held. absurd (omega (arith, e, low, more));
  }

  module _ (i count : ℕ) (x : O.State) (since j : ℕ) (apart : nat_eq i j ≡ false) (n : Moment O) (b : IsBeside O most first since j n) where
    module _ (z : StarOf O) (f : Meets i count x z) (was : past.WasStar O L symmetric most first since j z n) (low : count ≤ length z.order) (high : told_count O since j n ≤ length z.order) where
      -- a name that both sites know is known to a star whose order had all the entries that had reached either
      knows_both : (y : O.t.Name) → O.t.holds x y → Knows O since j n y → StarKnows O L z y
      knows_both y here there = cases (nat_eq (O.site_of y) i) refl
        where
          cases : (c : Bool) → nat_eq (O.site_of y) i ≡ c → StarKnows O L z y
          cases false e = f.knows low y here e
          cases true e = past.knows_others O L symmetric most first since j z n was.more was.grows high y there (rw (eqb-true (O.site_of y) i e) apart)

      -- such a star connects them, if it had no more than that of one
      through : (count ≡ length z.order) ⊎ (told_count O since j n ≡ length z.order) → O.t.keeps_order x n.at.site.board
      through which =
          L.keeps.order_chain x z.board n.at.site.board f.order (past.was-order O L symmetric most first since j z n was)
          (λ y here there.
          let known = knows_both y here (b.stands.pair.board_known y there) in
          elim which [
            | inl e ↦ f.level e y known here
            | inr e ↦ (past.was-since O L symmetric most first since j z n was e).none_back y known there
          ])

    -- So both show in one order what both show, if there is a star of the past for each length of the order. The one to take has as many entries as had reached the site that knows more
    pub copies-agree : (long : ℕ) → count ≤ long → told_count O since j n ≤ long
        → ((k : ℕ) → k ≤ long → (z : StarOf O) × (length z.order ≡ k) × past.WasStar O L symmetric most first since j z n × Meets i count x z) → O.t.keeps_order x n.at.site.board
    copies-agree long low high stars = cases (nat_le count (told_count O since j n)) refl
      where
        cases : (c : Bool) → nat_le count (told_count O since j n) ≡ c → O.t.keeps_order x n.at.site.board
        cases true e = let z = stars (told_count O since j n) high in
            let more = leb-true count (told_count O since j n) e in through z.0 z.3 z.2 (omega (arith, z.1, more)) (omega (arith, z.1)) (inr (sym z.1))
        cases false e = let z = stars count low in
            let more = leb-false count (told_count O since j n) e in through z.0 z.3 z.2 (omega (arith, z.1)) (omega (arith, z.1, more)) (inl (sym z.1))

  -- # A board that a site once showed, as the site goes on

  -- `stars` gives, for each length that the order has had, the first star with that length
  pub record IsCopy (stars : ℕ → StarOf O) (since i count : ℕ) (x : O.State) (m : Moment O) : Type 0 where
    pub shown : WasShown O L symmetric most first since i x m
    pub within : count ≤ length m.star.order
    pub meets : (k : ℕ) → k ≤ length m.star.order → Meets i count x (stars k)

  -- the board of the moment is one
  pub copy-now : (stars : ℕ → StarOf O) (since i : ℕ) (m : Moment O) → IsBeside O most first since i m → past.Recalls O L symmetric most first since i stars m → IsCopy stars since i (told_count O since i m) m.at.site.board m
  copy-now stars since i m h r = record {
    shown = shown-now O L symmetric most first since i m h;
    within = told-within since i m h;
    meets = λ k low. meets-now since i m h (stars k) (r.was k low);
  }

  -- each move keeps it
  pub moves-copy : (stars : ℕ → StarOf O) (since i count : ℕ) (x : O.State) (m n : Moment O) → IsBeside O most first since i m → Moves O i m n → past.Adds O L symmetric most first since i stars m.star n.star
      → past.Recalls O L symmetric most first since i stars m → IsCopy stars since i count x m → IsCopy stars since i count x n
  moves-copy stars since i count x m n h move adds r c = record { shown = shown; within = omega (arith, low, longer); meets = λ k within. each k within (nat_le k (length m.star.order)) refl }
    where
      shown : WasShown O L symmetric most first since i x n
      shown = moves-shown O L symmetric most first since i x m n h move c.shown

      low : count ≤ length m.star.order
      low = c.within

      longer : length m.star.order ≤ length n.star.order
      longer = let grown = moves-grow O L most first since i m n move in omega (arith, ap length grown.grows, length-append m.star.order grown.more)

      each : (k : ℕ) → k ≤ length n.star.order → (b : Bool) → nat_le k (length m.star.order) ≡ b → Meets i count x (stars k)
      each k within true e = c.meets k (leb-true k (length m.star.order) e)
      each k within false e =
          let z = stars (length m.star.order) in
          let above = leb-false k (length m.star.order) e in
          let is = adds k above within in
          let long = r.long (length m.star.order) (le_refl _) in
          let was = past.moves-was O L symmetric most first since i z m n h move (r.was (length m.star.order) (le_refl _)) in
          rw is (meets-new i count x z n.star (c.meets (length m.star.order) (le_refl _)) (omega (arith, low, long)) (omega (arith, long, above, within)) was.follows
          (shown-order O L symmetric most first since i x n (moves-beside O L most first since i m n move h) shown))

  -- what it showed and what another site shows are in one order
  pub copy-agrees : (since later i j : ℕ) → nat_eq i j ≡ false → (stars : ℕ → StarOf O) (count : ℕ) (x : O.State) (m n : Moment O) → n.star ≡ m.star → IsCopy stars since i count x m
      → past.Recalls O L symmetric most first since i stars m → IsBeside O most first later j n → past.Recalls O L symmetric most first later j stars n → O.t.keeps_order x n.at.site.board
  copy-agrees since later i j apart stars count x m n one c ra b rb =
      let same : length n.star.order ≡ length m.star.order = ap (λ (s : StarOf O). length s.order) one in
      let within = told-within later j n b in
      copies-agree i count x later j apart n b (length m.star.order) c.within (omega (arith, within, same)) (λ k low. (stars k, ra.long k low, rb.was k (omega (arith, low, same)), c.meets k low))
