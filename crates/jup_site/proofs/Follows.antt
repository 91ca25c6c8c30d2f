-- A star follows another, and a site learns more as the order grows.
use Rattle.std.proofs.Common.{◌≡◌, ℕ, ◌≤◌, List, [], ◌∷◌, sym, subst, arith, ◌+◌, ◌++◌, drop, take, length, zero, suc}
use Rattle.jup_site.specs.Prelude.{Operations, AreLawful, StarOf}
use Rattle.jup_site.specs.Turns as site_turns
use Rattle.jup_site.specs.Sound.{named_by, IsKnown, told_of}
use Rattle.jup_site.proofs.Pairs.Places.{told_end, told_within}

-- One star after another.

module _ (O : Operations) (L : AreLawful O) where
  -- a name that a star knows: of the layout, or of an entry of its order
  abbrev pub StarKnows : StarOf O → O.t.Name → Type 0
  StarKnows star n = IsKnown O (λ j. named_by O 0 j (site_turns.turns 0 star.order)) n

  -- one star after another: numbers are given on, the order of items is kept, and no name that was known comes back
  pub record Follows (one two : StarOf O) : Type 0 where
    pub given : one.given ≤ two.given
    pub order : O.t.keeps_order one.board two.board
    pub knows : (n : O.t.Name) → StarKnows one n → StarKnows two n
    pub none_back : (n : O.t.Name) → StarKnows one n → O.t.holds two.board n → O.t.holds one.board n

  -- a star whose board and order stay
  pub follows-same : (one two : StarOf O) → one.given ≤ two.given → two.board ≡ one.board → two.order ≡ one.order → Follows one two
  follows-same one two g b o = record {
    given = g;
    order = subst (λ x. O.t.keeps_order one.board x) (sym b) (L.keeps.order_self one.board);
    knows = λ n k. subst (λ os. IsKnown O (λ j. named_by O 0 j (site_turns.turns 0 os)) n) (sym o) k;
    none_back = λ n k h. subst (λ x. O.t.holds x n) b h;
  }

  -- one star after another
  pub follows-chain : (one two three : StarOf O) → ((n : O.t.Name) → O.t.holds one.board n → StarKnows one n) → Follows one two → Follows two three → Follows one three
  follows-chain one two three known f g = record {
    given = omega (arith, f.given, g.given);
    order = L.keeps.order_chain one.board two.board three.board f.order g.order (λ n h k. g.none_back n (f.knows n (known n h)) k);
    knows = λ n k. g.knows n (f.knows n k);
    none_back = λ n k h. f.none_back n k (g.none_back n (f.knows n k) h);
  }

-- What has reached a site, as the order and the number of those shown grow.

-- further entries of others reach no less far
through-more : {Edit : Type 0} → (n m : ℕ) (ts : List (site_turns.Turn Edit)) → n ≤ m → site_turns.through_others n ts ≤ site_turns.through_others m ts
through-more zero m ts h = omega arith
through-more (suc n) zero ts h = absurd (omega arith)
through-more (suc n) (suc m) [] h = omega arith
through-more (suc n) (suc m) (site_turns.Own e ∷ ts) h = omega (arith, through-more (suc n) (suc m) ts h)
through-more (suc n) (suc m) (site_turns.Other j e ∷ ts) h = omega (arith, through-more n m ts (omega arith))

module _ (O : Operations) (L : AreLawful O) where
  -- a longer part of the order names no fewer
  named_by-take : (i j k m : ℕ) (ts : List (site_turns.Turn O.Edit)) → k ≤ m → named_by O i j (take k ts) ≤ named_by O i j (take m ts)
  named_by-take i j zero m ts h = omega arith
  named_by-take i j (suc k) zero ts h = absurd (omega arith)
  named_by-take i j (suc k) (suc m) [] h = omega arith
  named_by-take i j (suc k) (suc m) (site_turns.Own e ∷ ts) h = omega (arith, named_by-take i j k m ts (omega arith))
  named_by-take i j (suc k) (suc m) (site_turns.Other s e ∷ ts) h = omega (arith, named_by-take i j k m ts (omega arith))

  -- what is named among the entries that have reached a site, as the order and the number of those shown grow
  pub told_more : (i j joined n m : ℕ) (ts us : List (site_turns.Turn O.Edit)) → joined ≤ length ts → n ≤ length (site_turns.others (drop joined ts)) → n ≤ m
      → named_by O i j (take (told_of O joined n ts) ts) ≤ named_by O i j (take (told_of O joined m (ts ++ us)) (ts ++ us))
  told_more i j joined n m ts us within shown more =
      let same : take (told_of O joined n ts) (ts ++ us) ≡ take (told_of O joined n ts) ts = Rattle.std.proofs.lemmas.List.take-append-le (told_of O joined n ts) ts us (told_within O L joined n ts within shown) in
      let told : told_of O joined n (ts ++ us) ≡ told_of O joined n ts = told_end O L joined n ts us within shown in
      let further = through-more n m (drop joined (ts ++ us)) more in
      let longer = named_by-take i j (told_of O joined n ts) (told_of O joined m (ts ++ us)) (ts ++ us) (omega arith) in
      subst (λ p. named_by O i j p ≤ named_by O i j (take (told_of O joined m (ts ++ us)) (ts ++ us))) same longer
