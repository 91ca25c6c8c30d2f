-- Bytes, and where they are cut.
use Rattle.std.proofs.Common.{◌≡◌, ◌≢◌, ℕ, List, [], ◌∷◌, ◌++◌, Bool, true, false, not, refl, sym, ap, ◌∙◌, subst}
use Rattle.std.specs.List.{AllByRecursion}
use Rattle.std.specs.Str.{bytes_eq}
use Rattle.std.proofs.lemmas.Slice.Eq.{bytes_eq-Decides}
use Rattle.jup_resume.specs.Texts.{Lacks}

-- Two texts that lack a separator and are followed by it are the same, and so is what follows.
pub cut_same : (separator : ℕ) (p l w m : List ℕ) → Lacks separator p → Lacks separator l → p ++ separator ∷ w ≡ l ++ separator ∷ m → (p ≡ l) × (w ≡ m)
cut_same separator [] [] w m np nl e = (refl, (let same : w ≡ m = cc in same))
cut_same separator [] (c ∷ l) w m np nl e = absurd (nl.0 (let is : c ≡ separator = cc in is))
cut_same separator (b ∷ p) [] w m np nl e = absurd (np.0 (let is : b ≡ separator = cc in is))
cut_same separator (b ∷ p) (c ∷ l) w m np nl e =
    let head : b ≡ c = cc in
    let tail : p ++ separator ∷ w ≡ l ++ separator ∷ m = cc in
    let rest = cut_same separator p l w m np.1 nl.1 tail in
    (ap (λ x. x ∷ p) head ∙ ap (λ q. c ∷ q) rest.0, rest.1)

-- what lacks a separator has it nowhere
pub lacks_it : (separator : ℕ) (l m : List ℕ) → Lacks separator (l ++ separator ∷ m) → ⊥
lacks_it separator [] m free = free.0 refl
lacks_it separator (c ∷ l) m free = lacks_it separator l m free.1

-- bytes that lack a separator are no two texts with it between them
pub whole_lacks : (separator : ℕ) (bytes l m : List ℕ) → Lacks separator bytes → bytes ≢ l ++ separator ∷ m
whole_lacks separator bytes l m lacks same = lacks_it separator l m (subst (Lacks separator) same lacks)

-- what a test of two texts for a difference says
pub tells_difference : (a b : List ℕ) (differ : Bool) → differ ≡ not (bytes_eq a b) → differ ≡ true → a ≢ b
tells_difference a b differ is told same =
    let equal : bytes_eq a b ≡ true = (bytes_eq-Decides a b).1 same in
    let clash : true ≡ false = sym told ∙ is ∙ ap not equal in
    absurd cc

-- Facts of each element.

module _ {A : Type 0} (P : A → Type 0) where
  pub all_both : (xs ys : List A) → AllByRecursion P xs → AllByRecursion P ys → AllByRecursion P (xs ++ ys)
  all_both [] ys one two = two
  all_both (x ∷ xs) ys one two = (one.0, all_both xs ys one.1 two)

  pub all_left : (xs ys : List A) → AllByRecursion P (xs ++ ys) → AllByRecursion P xs
  all_left [] ys all = tt
  all_left (x ∷ xs) ys all = (all.0, all_left xs ys all.1)

  pub all_right : (xs ys : List A) → AllByRecursion P (xs ++ ys) → AllByRecursion P ys
  all_right [] ys all = all
  all_right (x ∷ xs) ys all = all_right xs ys all.1
