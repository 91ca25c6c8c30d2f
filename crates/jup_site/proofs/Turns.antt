-- The star's order as a site sees it.
use Rattle.std.proofs.Common.{◌≡◌, ℕ, zero, suc, ◌+◌, ◌≤◌, Bool, true, false, cond, List, [], ◌∷◌, ◌++◌, length, drop, nat_eq, refl, ap, sym, arith, eqb-true}
use Rattle.jup_site.specs.Prelude.{Operations, AreLawful, Entry}
use Rattle.jup_site.specs.Turns.{Turn, Own, Other, turn, turns, edits, through_others, others}
use Rattle.jup_site.specs.Sound.{named_by}

-- two lists of entries
pub turns-append : {Edit : Type 0} → (i : ℕ) (rs qs : List (Entry Edit)) → turns i (rs ++ qs) ≡ turns i rs ++ turns i qs
turns-append i [] qs = refl
turns-append i (r ∷ rs) qs = ap (λ ts. turn i r ∷ ts) (turns-append i rs qs)

-- a list of entries
pub length-turns : {Edit : Type 0} → (i : ℕ) (rs : List (Entry Edit)) → length (turns i rs) ≡ length rs
length-turns i [] = refl
length-turns i (r ∷ rs) = ap suc (length-turns i rs)

-- all see the same edits
pub edits-turns : {Edit : Type 0} → (i j : ℕ) (rs : List (Entry Edit)) → edits (turns i rs) ≡ edits (turns j rs)
edits-turns i j [] = refl
edits-turns i j (r ∷ rs) = both (nat_eq r.site i) (nat_eq r.site j) (edits-turns i j rs)
  where
    both : (b c : Bool) → edits (turns i rs) ≡ edits (turns j rs) → edits (cond b (Own r.edit) (Other r.site r.edit) ∷ turns i rs) ≡ edits (cond c (Own r.edit) (Other r.site r.edit) ∷ turns j rs)
    both true true ih = ap (λ es. r.edit ∷ es) ih
    both true false ih = ap (λ es. r.edit ∷ es) ih
    both false true ih = ap (λ es. r.edit ∷ es) ih
    both false false ih = ap (λ es. r.edit ∷ es) ih

-- further entries do not change what has reached a site
pub through-append : {Edit : Type 0} → (n : ℕ) (ts us : List (Turn Edit)) → n ≤ length (others ts) → through_others n (ts ++ us) ≡ through_others n ts
through-append zero ts us h = refl
through-append (suc n) [] us h = absurd (omega arith)
through-append (suc n) (Own e ∷ ts) us h = ap suc (through-append (suc n) ts us h)
through-append (suc n) (Other j e ∷ ts) us h = ap suc (through-append n ts us (omega arith))

-- one entry of another further
pub through-next : {Edit : Type 0} → (n : ℕ) (ts : List (Turn Edit)) → suc n ≤ length (others ts)
    → through_others (suc n) ts ≡ through_others n ts + through_others 1 (drop (through_others n ts) ts)
through-next zero ts h = omega arith
through-next (suc n) [] h = absurd (omega arith)
through-next (suc n) (Own e ∷ ts) h = omega (arith, through-next (suc n) ts h)
through-next (suc n) (Other j e ∷ ts) h = omega (arith, through-next n ts (omega arith))

-- the entries of others that are left
pub others-left : {Edit : Type 0} → (n : ℕ) (ts : List (Turn Edit)) → n ≤ length (others ts) → length (others (drop (through_others n ts) ts)) + n ≡ length (others ts)
others-left zero ts h = omega arith
others-left (suc n) [] h = absurd (omega arith)
others-left (suc n) (Own e ∷ ts) h = others-left (suc n) ts h
others-left (suc n) (Other j e ∷ ts) h = omega (arith, others-left n ts (omega arith))

-- they are within the list
pub through-within : {Edit : Type 0} → (n : ℕ) (ts : List (Turn Edit)) → n ≤ length (others ts) → through_others n ts ≤ length ts
through-within zero ts h = omega arith
through-within (suc n) [] h = absurd (omega arith)
through-within (suc n) (Own e ∷ ts) h = omega (arith, through-within (suc n) ts h)
through-within (suc n) (Other j e ∷ ts) h = omega (arith, through-within n ts (omega arith))

module _ (O : Operations) (L : AreLawful O) where
  -- how many insertions of a site are in the order does not depend on who looks
  pub named-turns : (i j k : ℕ) (rs : List (Entry O.Edit)) → named_by O i k (turns i rs) ≡ named_by O j k (turns j rs)
  named-turns i j k [] = refl
  named-turns i j k (r ∷ rs) = both (nat_eq r.site i) refl (nat_eq r.site j) refl (named-turns i j k rs)
    where
      one : (m : ℕ) → nat_eq r.site m ≡ true → cond (nat_eq m k) (O.insertions r.edit) 0 ≡ cond (nat_eq r.site k) (O.insertions r.edit) 0
      one m e = ap (λ s. cond (nat_eq s k) (O.insertions r.edit) 0) (sym (eqb-true r.site m e))

      both : (b : Bool) → nat_eq r.site i ≡ b → (c : Bool) → nat_eq r.site j ≡ c → named_by O i k (turns i rs) ≡ named_by O j k (turns j rs)
          → named_by O i k (cond b (Own r.edit) (Other r.site r.edit) ∷ turns i rs) ≡ named_by O j k (cond c (Own r.edit) (Other r.site r.edit) ∷ turns j rs)
      both true e true f ih = omega (arith, one i e, one j f, ih)
      both true e false f ih = omega (arith, one i e, ih)
      both false e true f ih = omega (arith, one j f, ih)
      both false e false f ih = omega (arith, ih)
