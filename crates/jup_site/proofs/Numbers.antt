-- What holds under each number of two lists, after a change of both.
use Rattle.std.proofs.Common.{◌≡◌, ℕ, Bool, true, false, cond, not, List, [], ◌∷◌, map, filter, nat_eq, refl, ap, sym, ◌∙◌, subst, Option, Some, None, option_map, eqb-true, Result, Ok, Err}
use Rattle.jup_site.specs.Prelude.{found, found-map, found-map_other, found-without, found-without_other}

-- nothing is changed
pub option_map-self : {A : Type 0} → (o : Option A) → option_map (λ x. x) o ≡ o
option_map-self None = refl
option_map-self (Some x) = refl

-- a list of which one element is changed into itself
pub map_kept : {A : Type 0} (key : A → ℕ) (i : ℕ) → (xs : List A) → map (λ z. cond (nat_eq (key z) i) z z) xs ≡ xs
map_kept key i [] = refl
map_kept {A = A} key i (x ∷ xs) = both (cond (nat_eq (key x) i) x x) (itself (nat_eq (key x) i)) (map_kept key i xs)
  where
    itself : (b : Bool) → cond b x x ≡ x
    itself true = refl
    itself false = refl

    both : (y : A) → y ≡ x → {ys : List A} → ys ≡ xs → y ∷ ys ≡ x ∷ xs
    both y p q = cc

-- a list of which no element has the number, if that one is changed or taken away
module _ {A : Type 0} (key : A → ℕ) (i : ℕ) where
  found_here : (x : A) (xs : List A) (b : Bool) → nat_eq (key x) i ≡ b → found key i (x ∷ xs) ≡ None → (nat_eq (key x) i ≡ false) × (found key i xs ≡ None)
  found_here x xs true e none = absurd (let some : found key i (x ∷ xs) ≡ Some x = ap (λ b. cond b (Some x) (found key i xs)) e in cc)
  found_here x xs false e none = (e, sym (ap (λ b. cond b (Some x) (found key i xs)) e) ∙ none)

  pub map_absent : (g : A → A) (xs : List A) → found key i xs ≡ None → map (λ z. cond (nat_eq (key z) i) (g z) z) xs ≡ xs
  map_absent g [] none = refl
  map_absent g (x ∷ xs) none =
      let apart = found_here x xs (nat_eq (key x) i) refl none in
      ap (λ b. cond b (g x) x ∷ map (λ z. cond (nat_eq (key z) i) (g z) z) xs) apart.0 ∙ ap (λ ys. x ∷ ys) (map_absent g xs apart.1)

  pub filter_absent : (xs : List A) → found key i xs ≡ None → filter (λ z. not (nat_eq (key z) i)) xs ≡ xs
  filter_absent [] none = refl
  filter_absent (x ∷ xs) none =
      let apart = found_here x xs (nat_eq (key x) i) refl none in
      ap (λ b. cond (not b) (x ∷ filter (λ z. not (nat_eq (key z) i)) xs) (filter (λ z. not (nat_eq (key z) i)) xs)) apart.0 ∙ ap (λ ys. x ∷ ys) (filter_absent xs apart.1)

-- what holds at each number of two lists, after a change
module _ {A B : Type 0} (ka : A → ℕ) (kb : B → ℕ) (S : ℕ → Option A → Option B → Type 0) where
  -- at one number, and at all others
  pub by_number : (i : ℕ) (P : ℕ → Type 0) → P i → ((j : ℕ) → nat_eq i j ≡ false → P j) → (j : ℕ) → P j
  by_number i P here there j = cases (nat_eq i j) refl
    where
      cases : (b : Bool) → nat_eq i j ≡ b → P j
      cases true e = subst P (eqb-true i j e) here
      cases false e = there j e

  -- one element of the first list is changed one way and all others another way, one of the second is changed
  pub at_each : (i : ℕ) (f h : A → A) (g : B → B) → ((x : A) → ka (f x) ≡ ka x) → ((x : A) → ka (h x) ≡ ka x) → ((y : B) → kb (g y) ≡ kb y) → (xs : List A) (ys : List B)
      → S i (option_map f (found ka i xs)) (option_map g (found kb i ys)) → ((j : ℕ) → nat_eq i j ≡ false → S j (option_map h (found ka j xs)) (found kb j ys))
      → (j : ℕ) → S j (found ka j (map (λ z. cond (nat_eq (ka z) i) (f z) (h z)) xs)) (found kb j (map (λ z. cond (nat_eq (kb z) i) (g z) z) ys))
  at_each i f h g kf kh kg xs ys here there =
      by_number i (λ j. S j (found ka j (map (λ z. cond (nat_eq (ka z) i) (f z) (h z)) xs)) (found kb j (map (λ z. cond (nat_eq (kb z) i) (g z) z) ys)))
      (subst (λ o. S i o (found kb i (map (λ z. cond (nat_eq (kb z) i) (g z) z) ys))) (sym (found-map ka i f h kf kh xs))
      (subst (λ o. S i (option_map f (found ka i xs)) o) (sym (found-map kb i g (λ z. z) kg (λ z. refl) ys)) here))
      (λ j e. subst (λ o. S j o (found kb j (map (λ z. cond (nat_eq (kb z) i) (g z) z) ys))) (sym (found-map_other ka i j f h kf kh xs e))
      (subst (λ o. S j (option_map h (found ka j xs)) o) (sym (found-map_other kb i j g (λ z. z) kg (λ z. refl) ys e ∙ option_map-self (found kb j ys))) (there j e)))

  -- an element of the first list is there, and one of the second or none
  pub at_all : (i : ℕ) (f h : A → A) (g : B → B) → ((x : A) → ka (f x) ≡ ka x) → ((x : A) → ka (h x) ≡ ka x) → ((y : B) → kb (g y) ≡ kb y) → (xs : List A) (ys : List B) (x : A) (oy : Option B)
      → found ka i xs ≡ Some x → found kb i ys ≡ oy → S i (Some (f x)) (option_map g oy) → ((j : ℕ) → nat_eq i j ≡ false → S j (option_map h (found ka j xs)) (found kb j ys))
      → (j : ℕ) → S j (found ka j (map (λ z. cond (nat_eq (ka z) i) (f z) (h z)) xs)) (found kb j (map (λ z. cond (nat_eq (kb z) i) (g z) z) ys))
  at_all i f h g kf kh kg xs ys x oy fx fy here there =
      at_each i f h g kf kh kg xs ys (subst (λ o. S i (option_map f o) (option_map g (found kb i ys))) (sym fx) (subst (λ o. S i (Some (f x)) (option_map g o)) (sym fy) here)) there

  -- all others stay
  pub at_one : (i : ℕ) (f : A → A) (g : B → B) → ((x : A) → ka (f x) ≡ ka x) → ((y : B) → kb (g y) ≡ kb y) → (xs : List A) (ys : List B) (x : A) (oy : Option B)
      → found ka i xs ≡ Some x → found kb i ys ≡ oy → S i (Some (f x)) (option_map g oy) → ((j : ℕ) → nat_eq i j ≡ false → S j (found ka j xs) (found kb j ys))
      → (j : ℕ) → S j (found ka j (map (λ z. cond (nat_eq (ka z) i) (f z) z) xs)) (found kb j (map (λ z. cond (nat_eq (kb z) i) (g z) z) ys))
  at_one i f g kf kg xs ys x oy fx fy here there =
      at_all i f (λ z. z) g kf (λ z. refl) kg xs ys x oy fx fy here (λ j e. subst (λ o. S j o (found kb j ys)) (sym (option_map-self (found ka j xs))) (there j e))

  -- one element of each is taken away
  pub at_removal : (i : ℕ) (xs : List A) (ys : List B) → S i None None → ((j : ℕ) → nat_eq i j ≡ false → S j (found ka j xs) (found kb j ys))
      → (j : ℕ) → S j (found ka j (filter (λ z. not (nat_eq (ka z) i)) xs)) (found kb j (filter (λ z. not (nat_eq (kb z) i)) ys))
  at_removal i xs ys here there =
      by_number i (λ j. S j (found ka j (filter (λ z. not (nat_eq (ka z) i)) xs)) (found kb j (filter (λ z. not (nat_eq (kb z) i)) ys)))
      (subst (λ o. S i o (found kb i (filter (λ z. not (nat_eq (kb z) i)) ys))) (sym (found-without ka i xs)) (subst (λ o. S i None o) (sym (found-without kb i ys)) here))
      (λ j e. subst (λ o. S j o (found kb j (filter (λ z. not (nat_eq (kb z) i)) ys))) (sym (found-without_other ka i j xs e)) (subst (λ o. S j (found ka j xs) o) (sym (found-without_other kb i j ys e)) (there j e)))

-- the two cases of what may be absent, each with its equation
pub either : {A : Type 0} → (o : Option A) (P : Option A → Type 0) → (o ≡ None → P None) → ((x : A) → o ≡ Some x → P (Some x)) → P o
either None P f g = f refl
either (Some x) P f g = g x refl

-- the two cases of an answer, each with its equation
pub result_cases : {A B : Type 0} → (r : Result A B) (P : Result A B → Type 0) → ((x : A) → r ≡ Ok x → P (Ok x)) → ((e : B) → r ≡ Err e → P (Err e)) → P r
result_cases (Ok x) P f g = f x refl
result_cases (Err e) P f g = g e refl
