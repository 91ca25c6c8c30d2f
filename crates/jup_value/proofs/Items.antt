-- Lists of items, and the texts of labels.
use Rattle.std.proofs.Common.{◌≡◌, ℕ, zero, suc, ◌+◌, ◌<◌, ◌≤◌, Bool, true, false, ◌||◌, cond, eqb, List, [], ◌∷◌, set, get_or, length, Option, Some, None, refl, sym, ap, ◌∙◌, arith, inl, inr, insert, remove, IsNone, ◌↔◌, ◌++◌, drop, replicate}
use Rattle.std.specs.List.{position_from}
use Rattle.std.specs.Option.{option_map}
use Rattle.std.proofs.lemmas.Bool.{eqb-true, eq-eqb, cases_Bool, and_parts, or_parts, or_from, or_right, false_from_ne_true, false≢true}
use Rattle.std.proofs.lemmas.List.{take_at, drop-replicate}
use Rattle.jup_value.specs.declared.names.Name.{Name}
use Rattle.jup_value.specs.declared.names.Item.{Item}
use Rattle.jup_value.specs.Items.{name_eq, has_name, AreDistinct, name_at, place_of, value_of, stands_before, with_value}
use Rattle.jup_value.specs.Labels.{IsLabelText, AreLabelFields, padded}

-- Lists of items.

-- # Names

-- a name is the same as itself
pub name_eq_refl : (a : Name) → name_eq a a ≡ true
name_eq_refl a = rw (eq-eqb a.site a.site refl, eq-eqb a.number a.number refl)

-- names that the test calls the same are equal
pub name_eq_same : (a b : Name) → name_eq a b ≡ true → a ≡ b
name_eq_same a b h =
    let parts = and_parts (eqb a.site b.site) (eqb a.number b.number) h in
    let sites = eqb-true a.site b.site parts.0 in
    let numbers = eqb-true a.number b.number parts.1 in
    λ i. record { site = sites i; number = numbers i }

-- names that the test tells apart are not equal
pub name_eq_apart : (a b : Name) → name_eq a b ≡ false → a ≡ b → ⊥
name_eq_apart a b h e = false≢true (sym h ∙ ap (λ x. name_eq a x) (sym e) ∙ name_eq_refl a)

-- two names that are apart are not both the same as a third
pub apart_both : (a b n : Name) → name_eq a b ≡ false → name_eq a n ≡ true → name_eq b n ≡ true → ⊥
apart_both a b n h e f = name_eq_apart a b h (name_eq_same a n e ∙ sym (name_eq_same b n f))

-- names that are apart are so either way round
pub name_eq_sym : (a b : Name) → name_eq a b ≡ false → name_eq b a ≡ false
name_eq_sym a b h = false_from_ne_true (name_eq b a) (λ e. name_eq_apart a b h (sym (name_eq_same b a e)))

-- the test asks the same either way round
pub name_eq_comm : (a b : Name) → name_eq a b ≡ name_eq b a
name_eq_comm a b =
    elim (cases_Bool (name_eq a b)) [
      | inl same ↦ ap (λ x. name_eq x b) (name_eq_same a b same) ∙ ap (λ x. name_eq b x) (sym (name_eq_same a b same))
      | inr apart ↦ apart ∙ sym (name_eq_sym a b apart)
    ]

-- two names that are the same as a third are the same
same_third : (a b n : Name) → name_eq a n ≡ true → name_eq b n ≡ true → name_eq a b ≡ true
same_third a b n e f = let k = name_eq_same a n e ∙ sym (name_eq_same b n f) in rw k (name_eq_refl b)

-- # Choices

-- of three tests the first two may change places
pub or_swap : (a b c : Bool) → (a || (b || c)) ≡ (b || (a || c))
or_swap true true c = refl
or_swap true false c = refl
or_swap false true c = refl
or_swap false false c = refl

-- two choices change places if their tests do not both pass
pub swap_cond : {A : Type 0} → (s t : Bool) (a b c : A) → (s ≡ true → t ≡ true → ⊥) → cond s a (cond t b c) ≡ cond t b (cond s a c)
swap_cond true true a b c h = absurd (h refl refl)
swap_cond true false a b c h = refl
swap_cond false true a b c h = refl
swap_cond false false a b c h = refl

-- a choice that is left out if it had nothing to give
none_or_kept : {A : Type 0} → (s : Bool) (a : A) (o : Option A) → (s ≡ true → o ≡ None) → o ≡ cond s None (cond s (Some a) o)
none_or_kept true a o h = h refl
none_or_kept false a o h = refl

-- # An item at a place

-- the name at a place is a name of the list
pub has_name_at : {V : Type 0} → (xs : List (Item V)) (i : ℕ) (n : Name) → name_at i xs ≡ Some n → has_name n xs ≡ true
has_name_at [] i n h = absurd cc
has_name_at (x ∷ xs) zero n h = let e : x.name ≡ n = cc in rw (← e) (rw (name_eq_refl x.name) refl)
has_name_at (x ∷ xs) (suc i) n h = or_right (name_eq x.name n) (has_name n xs) (has_name_at xs i n h)

-- a place that has a name is one of the list's
pub name_at_within : {V : Type 0} → (xs : List (Item V)) (i : ℕ) (n : Name) → name_at i xs ≡ Some n → i < length xs
name_at_within [] i n h = absurd cc
name_at_within (x ∷ xs) zero n h = omega arith
name_at_within (x ∷ xs) (suc i) n h = omega (arith, name_at_within xs i n h)

-- the name at a place is none that the list does not have
pub name_at_apart : {V : Type 0} → (xs : List (Item V)) (i : ℕ) (m n : Name) → name_at i xs ≡ Some n → has_name m xs ≡ false → name_eq m n ≡ true → ⊥
name_at_apart xs i m n h out same = false≢true (sym out ∙ ap (λ k. has_name k xs) (name_eq_same m n same) ∙ has_name_at xs i n h)

-- if names are distinct, a name is at one place
pub same_place : {V : Type 0} → (xs : List (Item V)) (i k : ℕ) (n : Name) → AreDistinct xs → name_at i xs ≡ Some n → name_at k xs ≡ Some n → i ≡ k
same_place [] i k n d h g = absurd cc
same_place (x ∷ xs) zero zero n d h g = refl
same_place (x ∷ xs) zero (suc k) n d h g = let e : x.name ≡ n = cc in absurd (name_at_apart xs k x.name n g d.0 (rw e (name_eq_refl n)))
same_place (x ∷ xs) (suc i) zero n d h g = let e : x.name ≡ n = cc in absurd (name_at_apart xs i x.name n h d.0 (rw e (name_eq_refl n)))
same_place (x ∷ xs) (suc i) (suc k) n d h g = ap suc (same_place xs i k n d.1 h g)

-- a list without a name has no value under it
pub value_of-none : {V : Type 0} → (n : Name) (xs : List (Item V)) → has_name n xs ≡ false → value_of n xs ≡ None
value_of-none n [] h = refl
value_of-none n (x ∷ xs) h = let parts = or_parts (name_eq x.name n) (has_name n xs) h in rw parts.0 (value_of-none n xs parts.1)

-- from any number on, a name has no place exactly if the list does not have it
absent_from : {V : Type 0} (k : ℕ) (n : Name) (xs : List (Item V)) → IsNone (position_from (λ x. name_eq x.name n) k xs) ↔ (has_name n xs ≡ false)
absent_from k n [] = (λ h. refl, λ h. refl)
absent_from k n (x ∷ xs) = first_or_later (name_eq x.name n) k _ _ (absent_from (k + 1) n xs)
  where
    first_or_later : (s : Bool) (k : ℕ) (later : Option ℕ) (held : Bool) → (IsNone later ↔ (held ≡ false)) → IsNone (cond s (Some k) later) ↔ ((s || held) ≡ false)
    first_or_later true k later held h = (λ none. absurd cc, λ out. absurd cc)
    first_or_later false k later held h = h

-- a name has no place exactly if the list does not have it
pub absent_place : {V : Type 0} → (n : Name) (xs : List (Item V)) (place : Option ℕ) → place ≡ place_of n xs → IsNone place ↔ (has_name n xs ≡ false)
absent_place n xs place e = rw e (absent_from 0 n xs)

-- # An insertion

-- an insertion adds the name of its item, and no other
pub has_name-insert : {V : Type 0} → (n : Name) (xs : List (Item V)) (i : ℕ) (y : Item V) → has_name n (insert xs i y) ≡ (name_eq y.name n || has_name n xs)
has_name-insert n [] zero y = refl
has_name-insert n [] (suc i) y = refl
has_name-insert n (x ∷ xs) zero y = refl
has_name-insert n (x ∷ xs) (suc i) y = rw (has_name-insert n xs i y) (or_swap (name_eq x.name n) (name_eq y.name n) (has_name n xs))

-- an insertion of a new name keeps names distinct
pub AreDistinct-insert : {V : Type 0} → (xs : List (Item V)) (i : ℕ) (y : Item V) → AreDistinct xs → has_name y.name xs ≡ false → AreDistinct (insert xs i y)
AreDistinct-insert [] zero y d h = (refl, tt)
AreDistinct-insert [] (suc i) y d h = (refl, tt)
AreDistinct-insert (x ∷ xs) zero y d h = (h, d)
AreDistinct-insert (x ∷ xs) (suc i) y d h =
    let parts = or_parts (name_eq x.name y.name) (has_name y.name xs) h in
    (has_name-insert x.name xs i y ∙ or_from (name_eq y.name x.name) (has_name x.name xs) (name_eq_sym x.name y.name parts.0) d.0, AreDistinct-insert xs i y d.1 parts.1)

-- after an insertion of a new name, that name has the item's value and each other what it had
pub value_of-insert : {V : Type 0} → (n : Name) (xs : List (Item V)) (i : ℕ) (y : Item V) → has_name y.name xs ≡ false → value_of n (insert xs i y) ≡ cond (name_eq y.name n) (Some y.value) (value_of n xs)
value_of-insert n [] zero y h = refl
value_of-insert n [] (suc i) y h = refl
value_of-insert n (x ∷ xs) zero y h = refl
value_of-insert n (x ∷ xs) (suc i) y h =
    let parts = or_parts (name_eq x.name y.name) (has_name y.name xs) h in
    rw (value_of-insert n xs i y parts.1) (swap_cond (name_eq x.name n) (name_eq y.name n) (Some x.value) (Some y.value) (value_of n xs) (apart_both x.name y.name n parts.0))

-- an insertion leaves the order of all other names
pub stands_before-insert : {V : Type 0} → (m n : Name) (xs : List (Item V)) (i : ℕ) (y : Item V) → name_eq y.name m ≡ false → name_eq y.name n ≡ false → stands_before m n (insert xs i y) ≡ stands_before m n xs
stands_before-insert m n [] zero y hm hn = rw hm refl
stands_before-insert m n [] (suc i) y hm hn = rw hm refl
stands_before-insert m n (x ∷ xs) zero y hm hn = rw hm refl
stands_before-insert m n (x ∷ xs) (suc i) y hm hn = rw (has_name-insert n xs i y, hn, stands_before-insert m n xs i y hm hn) refl

-- below an insertion names stay at their places
pub name_at-insert_below : {V : Type 0} → (xs : List (Item V)) (i k : ℕ) (y : Item V) → k < i → i ≤ length xs → name_at k (insert xs i y) ≡ name_at k xs
name_at-insert_below xs zero k y l h = absurd (omega arith)
name_at-insert_below [] (suc i) k y l h = absurd (omega arith)
name_at-insert_below (x ∷ xs) (suc i) zero y l h = refl
name_at-insert_below (x ∷ xs) (suc i) (suc k) y l h = name_at-insert_below xs i k y (omega arith) (omega arith)

-- from an insertion on names move up by one place
pub name_at-insert_above : {V : Type 0} → (xs : List (Item V)) (i k : ℕ) (y : Item V) → i ≤ k → i ≤ length xs → name_at (suc k) (insert xs i y) ≡ name_at k xs
name_at-insert_above xs zero k y l h = refl
name_at-insert_above [] (suc i) k y l h = absurd (omega arith)
name_at-insert_above (x ∷ xs) (suc i) zero y l h = absurd (omega arith)
name_at-insert_above (x ∷ xs) (suc i) (suc k) y l h = name_at-insert_above xs i k y (omega arith) (omega arith)

-- # A removal

-- a removal adds no name
pub has_name-remove_none : {V : Type 0} → (n : Name) (xs : List (Item V)) (i : ℕ) → has_name n xs ≡ false → has_name n (remove xs i) ≡ false
has_name-remove_none n [] zero h = refl
has_name-remove_none n [] (suc i) h = refl
has_name-remove_none n (x ∷ xs) zero h = (or_parts (name_eq x.name n) (has_name n xs) h).1
has_name-remove_none n (x ∷ xs) (suc i) h =
    let parts = or_parts (name_eq x.name n) (has_name n xs) h in
    or_from (name_eq x.name n) (has_name n (remove xs i)) parts.0 (has_name-remove_none n xs i parts.1)

-- a removal takes no name but that at its place
pub has_name-remove_other : {V : Type 0} → (n m : Name) (xs : List (Item V)) (i : ℕ) → name_at i xs ≡ Some m → name_eq m n ≡ false → has_name n (remove xs i) ≡ has_name n xs
has_name-remove_other n m [] i h apart = absurd cc
has_name-remove_other n m (x ∷ xs) zero h apart = let e : x.name ≡ m = cc in rw (e, apart) refl
has_name-remove_other n m (x ∷ xs) (suc i) h apart = rw (has_name-remove_other n m xs i h apart) refl

-- if names are distinct, a removal takes the name at its place
pub has_name-remove_same : {V : Type 0} → (m : Name) (xs : List (Item V)) (i : ℕ) → AreDistinct xs → name_at i xs ≡ Some m → has_name m (remove xs i) ≡ false
has_name-remove_same m [] i d h = absurd cc
has_name-remove_same m (x ∷ xs) zero d h = let e : x.name ≡ m = cc in rw (← e) d.0
has_name-remove_same m (x ∷ xs) (suc i) d h =
    or_from (name_eq x.name m) (has_name m (remove xs i)) (false_from_ne_true (name_eq x.name m) (name_at_apart xs i x.name m h d.0)) (has_name-remove_same m xs i d.1 h)

-- a removal keeps names distinct
pub AreDistinct-remove : {V : Type 0} → (xs : List (Item V)) (i : ℕ) → AreDistinct xs → AreDistinct (remove xs i)
AreDistinct-remove [] zero d = tt
AreDistinct-remove [] (suc i) d = tt
AreDistinct-remove (x ∷ xs) zero d = d.1
AreDistinct-remove (x ∷ xs) (suc i) d = (has_name-remove_none x.name xs i d.0, AreDistinct-remove xs i d.1)

-- if names are distinct, after a removal its name has no value and each other what it had
pub value_of-remove : {V : Type 0} → (n m : Name) (xs : List (Item V)) (i : ℕ) → AreDistinct xs → name_at i xs ≡ Some m → value_of n (remove xs i) ≡ cond (name_eq m n) None (value_of n xs)
value_of-remove n m [] i d h = absurd cc
value_of-remove n m (x ∷ xs) zero d h =
    let e : x.name ≡ m = cc in
    rw (← e) (none_or_kept (name_eq x.name n) x.value (value_of n xs) (λ same. let f = name_eq_same x.name n same in rw (← f) (value_of-none x.name xs d.0)))
value_of-remove n m (x ∷ xs) (suc i) d h =
    rw (value_of-remove n m xs i d.1 h) (swap_cond (name_eq x.name n) (name_eq m n) (Some x.value) None (value_of n xs) (λ s t. name_at_apart xs i x.name m h d.0 (same_third x.name m n s t)))

-- a removal leaves the order of all other names
pub stands_before-remove : {V : Type 0} → (m n k : Name) (xs : List (Item V)) (i : ℕ) → name_at i xs ≡ Some k → name_eq k m ≡ false → name_eq k n ≡ false → stands_before m n (remove xs i) ≡ stands_before m n xs
stands_before-remove m n k [] i h hm hn = absurd cc
stands_before-remove m n k (x ∷ xs) zero h hm hn = let e : x.name ≡ k = cc in rw (e, hm) refl
stands_before-remove m n k (x ∷ xs) (suc i) h hm hn = rw (has_name-remove_other n k xs i h hn, stands_before-remove m n k xs i h hm hn) refl

-- below a removal names stay at their places
pub name_at-remove_below : {V : Type 0} → (xs : List (Item V)) (i k : ℕ) → k < i → name_at k (remove xs i) ≡ name_at k xs
name_at-remove_below xs zero k l = absurd (omega arith)
name_at-remove_below [] (suc i) k l = refl
name_at-remove_below (x ∷ xs) (suc i) zero l = refl
name_at-remove_below (x ∷ xs) (suc i) (suc k) l = name_at-remove_below xs i k (omega arith)

-- past a removal names move down by one place
pub name_at-remove_above : {V : Type 0} → (xs : List (Item V)) (i k : ℕ) → i ≤ k → i < length xs → name_at k (remove xs i) ≡ name_at (suc k) xs
name_at-remove_above [] i k l h = absurd (omega arith)
name_at-remove_above (x ∷ xs) zero k l h = refl
name_at-remove_above (x ∷ xs) (suc i) zero l h = absurd (omega arith)
name_at-remove_above (x ∷ xs) (suc i) (suc k) l h = name_at-remove_above xs i k (omega arith) (omega arith)

-- # Another value

-- an item whose value is written in place
pub set-with_value : {V : Type 0} → (xs : List (Item V)) (i : ℕ) (x : Item V) (v : V) → x ≡ get_or xs i x → set xs i (record x { value = v }) ≡ with_value xs i v
set-with_value [] i x v h = refl
set-with_value {V} (x ∷ xs) zero y v h = ap (λ (z : Item V). record z { value = v } ∷ xs) h
set-with_value (x ∷ xs) (suc i) y v h = ap (λ ys. x ∷ ys) (set-with_value xs i y v h)

-- as many items are there
pub length-with_value : {V : Type 0} → (xs : List (Item V)) (i : ℕ) (v : V) → length (with_value xs i v) ≡ length xs
length-with_value [] i v = refl
length-with_value (x ∷ xs) zero v = refl
length-with_value (x ∷ xs) (suc i) v = ap suc (length-with_value xs i v)

-- and the same names
pub has_name-with_value : {V : Type 0} → (n : Name) (xs : List (Item V)) (i : ℕ) (v : V) → has_name n (with_value xs i v) ≡ has_name n xs
has_name-with_value n [] i v = refl
has_name-with_value n (x ∷ xs) zero v = refl
has_name-with_value n (x ∷ xs) (suc i) v = rw (has_name-with_value n xs i v) refl

-- which stay distinct
pub AreDistinct-with_value : {V : Type 0} → (xs : List (Item V)) (i : ℕ) (v : V) → AreDistinct xs → AreDistinct (with_value xs i v)
AreDistinct-with_value [] i v d = tt
AreDistinct-with_value (x ∷ xs) zero v d = d
AreDistinct-with_value (x ∷ xs) (suc i) v d = (has_name-with_value x.name xs i v ∙ d.0, AreDistinct-with_value xs i v d.1)

-- at their places
pub name_at-with_value : {V : Type 0} → (xs : List (Item V)) (k i : ℕ) (v : V) → name_at k (with_value xs i v) ≡ name_at k xs
name_at-with_value [] k i v = refl
name_at-with_value (x ∷ xs) zero zero v = refl
name_at-with_value (x ∷ xs) zero (suc i) v = refl
name_at-with_value (x ∷ xs) (suc k) zero v = refl
name_at-with_value (x ∷ xs) (suc k) (suc i) v = name_at-with_value xs k i v

-- and in their order
pub stands_before-with_value : {V : Type 0} → (m n : Name) (xs : List (Item V)) (i : ℕ) (v : V) → stands_before m n (with_value xs i v) ≡ stands_before m n xs
stands_before-with_value m n [] i v = refl
stands_before-with_value m n (x ∷ xs) zero v = refl
stands_before-with_value m n (x ∷ xs) (suc i) v = rw (has_name-with_value n xs i v, stands_before-with_value m n xs i v) refl

-- of two choices by one test the second is not made
cond_again : {A : Type 0} (s : Bool) (a b c : A) → cond s a c ≡ cond s a (cond s b c)
cond_again true a b c = refl
cond_again false a b c = refl

-- if names are distinct, the name at the place has the value and each other what it had
pub value_of-with_value : {V : Type 0} → (n m : Name) (xs : List (Item V)) (i : ℕ) (v : V) → AreDistinct xs → name_at i xs ≡ Some m → value_of n (with_value xs i v) ≡ cond (name_eq m n) (Some v) (value_of n xs)
value_of-with_value n m [] i v d h = absurd cc
value_of-with_value n m (x ∷ xs) zero v d h =
    let e : x.name ≡ m = cc in
    rw (← e) (cond_again (name_eq x.name n) (Some v) (Some x.value) (value_of n xs))
value_of-with_value n m (x ∷ xs) (suc i) v d h =
    rw (value_of-with_value n m xs i v d.1 h) (swap_cond (name_eq x.name n) (name_eq m n) (Some x.value) (Some v) (value_of n xs) (λ s t. name_at_apart xs i x.name m h d.0 (same_third x.name m n s t)))

-- another value in place of that of a name that a list has
held_first : {A : Type 0} (s : Bool) (a v : A) (held : Bool) (later : Option A) → (s || held) ≡ true → (held ≡ true → option_map (λ w. v) later ≡ Some v) → option_map (λ w. v) (cond s (Some a) later) ≡ Some v
held_first true a v held later h f = refl
held_first false a v held later h f = f h

pub value_of-held : {V : Type 0} → (n : Name) (xs : List (Item V)) (v : V) → has_name n xs ≡ true → option_map (λ w. v) (value_of n xs) ≡ Some v
value_of-held n [] v h = absurd (false≢true h)
value_of-held n (x ∷ xs) v h = held_first (name_eq x.name n) x.value v (has_name n xs) (value_of n xs) h (value_of-held n xs v)

-- # Two changes, in either order

-- an insertion at p, and another value at q from p on
pub with_value-insert_below : {V : Type 0} → (xs : List (Item V)) (p q : ℕ) (a : Item V) (v : V) → p ≤ q → p ≤ length xs → with_value (insert xs p a) (suc q) v ≡ insert (with_value xs q v) p a
with_value-insert_below xs zero q a v l h = refl
with_value-insert_below [] (suc p) q a v l h = absurd (omega arith)
with_value-insert_below (x ∷ xs) (suc p) zero a v l h = absurd (omega arith)
with_value-insert_below (x ∷ xs) (suc p) (suc q) a v l h = ap (λ ys. x ∷ ys) (with_value-insert_below xs p q a v (omega arith) (omega arith))

-- an insertion past another value at q
pub with_value-insert_above : {V : Type 0} → (xs : List (Item V)) (p q : ℕ) (a : Item V) (v : V) → q < p → p ≤ length xs → with_value (insert xs p a) q v ≡ insert (with_value xs q v) p a
with_value-insert_above xs zero q a v l h = absurd (omega arith)
with_value-insert_above [] (suc p) q a v l h = absurd (omega arith)
with_value-insert_above (x ∷ xs) (suc p) zero a v l h = refl
with_value-insert_above (x ∷ xs) (suc p) (suc q) a v l h = ap (λ ys. x ∷ ys) (with_value-insert_above xs p q a v (omega arith) (omega arith))

-- a removal at q, and another value past it
pub with_value-remove_below : {V : Type 0} → (xs : List (Item V)) (p q : ℕ) (v : V) → q ≤ p → q < length xs → with_value (remove xs q) p v ≡ remove (with_value xs (suc p) v) q
with_value-remove_below [] p q v l h = absurd (omega arith)
with_value-remove_below (x ∷ xs) p zero v l h = refl
with_value-remove_below (x ∷ xs) zero (suc q) v l h = absurd (omega arith)
with_value-remove_below (x ∷ xs) (suc p) (suc q) v l h = ap (λ ys. x ∷ ys) (with_value-remove_below xs p q v (omega arith) (omega arith))

-- a removal past another value at p
pub with_value-remove_above : {V : Type 0} → (xs : List (Item V)) (p q : ℕ) (v : V) → p < q → with_value (remove xs q) p v ≡ remove (with_value xs p v) q
with_value-remove_above xs p zero v l = absurd (omega arith)
with_value-remove_above [] p (suc q) v l = refl
with_value-remove_above (x ∷ xs) zero (suc q) v l = refl
with_value-remove_above (x ∷ xs) (suc p) (suc q) v l = ap (λ ys. x ∷ ys) (with_value-remove_above xs p q v (omega arith))

-- an item that is removed may have any value
pub remove-with_value : {V : Type 0} → (xs : List (Item V)) (p : ℕ) (v : V) → remove (with_value xs p v) p ≡ remove xs p
remove-with_value [] p v = refl
remove-with_value (x ∷ xs) zero v = refl
remove-with_value (x ∷ xs) (suc p) v = ap (λ ys. x ∷ ys) (remove-with_value xs p v)

-- of two values at one place the last remains
pub with_value-with_value : {V : Type 0} → (xs : List (Item V)) (p : ℕ) (v w : V) → with_value (with_value xs p v) p w ≡ with_value xs p w
with_value-with_value [] p v w = refl
with_value-with_value (x ∷ xs) zero v w = refl
with_value-with_value (x ∷ xs) (suc p) v w = ap (λ ys. x ∷ ys) (with_value-with_value xs p v w)

-- and of two at different places both, in either order
pub with_value_comm : {V : Type 0} → (xs : List (Item V)) (p q : ℕ) (v w : V) → (p ≡ q → ⊥) → with_value (with_value xs p v) q w ≡ with_value (with_value xs q w) p v
with_value_comm [] p q v w h = refl
with_value_comm (x ∷ xs) zero zero v w h = absurd (h refl)
with_value_comm (x ∷ xs) zero (suc q) v w h = refl
with_value_comm (x ∷ xs) (suc p) zero v w h = refl
with_value_comm (x ∷ xs) (suc p) (suc q) v w h = ap (λ ys. x ∷ ys) (with_value_comm xs p q v w (λ e. h (ap suc e)))

-- an insertion at p and one at q, from p on
pub insert-insert : {X : Type 0} → (xs : List X) (p q : ℕ) (a b : X) → p ≤ q → q ≤ length xs → insert (insert xs p a) (suc q) b ≡ insert (insert xs q b) p a
insert-insert xs zero q a b l h = refl
insert-insert xs (suc p) zero a b l h = absurd (omega arith)
insert-insert [] (suc p) (suc q) a b l h = absurd (omega arith)
insert-insert (x ∷ xs) (suc p) (suc q) a b l h = ap (λ ys. x ∷ ys) (insert-insert xs p q a b (omega arith) (omega arith))

-- an insertion at p and a removal at q, from p on
pub remove-insert_below : {X : Type 0} → (xs : List X) (p q : ℕ) (a : X) → p ≤ q → q < length xs → remove (insert xs p a) (suc q) ≡ insert (remove xs q) p a
remove-insert_below xs zero q a l h = refl
remove-insert_below xs (suc p) zero a l h = absurd (omega arith)
remove-insert_below [] (suc p) (suc q) a l h = absurd (omega arith)
remove-insert_below (x ∷ xs) (suc p) (suc q) a l h = ap (λ ys. x ∷ ys) (remove-insert_below xs p q a (omega arith) (omega arith))

-- a removal at q and an insertion past it
pub remove-insert_above : {X : Type 0} → (xs : List X) (p q : ℕ) (a : X) → q ≤ p → p < length xs → remove (insert xs (suc p) a) q ≡ insert (remove xs q) p a
remove-insert_above [] p q a l h = absurd (omega arith)
remove-insert_above (x ∷ xs) p zero a l h = refl
remove-insert_above (x ∷ xs) zero (suc q) a l h = absurd (omega arith)
remove-insert_above (x ∷ xs) (suc p) (suc q) a l h = ap (λ ys. x ∷ ys) (remove-insert_above xs p q a (omega arith) (omega arith))

-- a removal at q and one past it
pub remove-remove : {X : Type 0} → (xs : List X) (p q : ℕ) → q ≤ p → suc p < length xs → remove (remove xs q) p ≡ remove (remove xs (suc p)) q
remove-remove [] p q l h = absurd (omega arith)
remove-remove (x ∷ xs) p zero l h = refl
remove-remove (x ∷ xs) zero (suc q) l h = absurd (omega arith)
remove-remove (x ∷ xs) (suc p) (suc q) l h = ap (λ ys. x ∷ ys) (remove-remove xs p q (omega arith) (omega arith))

-- The texts of labels.

-- what `read` writes are the fields of a label: the text over the front of 48 zeros
pub label_fields : (text start : List ℕ) → start ≡ text → IsLabelText text → AreLabelFields (length text) (start ++ drop (length text) (replicate 48 0))
label_fields text start e h =
    let front = take_at start (drop (length text) (replicate 48 0)) (length text) (ap length e) ∙ e in
    let rest = drop-replicate {X = ℕ} (length text) 48 0 in
    record {
      long = ap length front;
      zeros = ap padded front ∙ ap (λ zeros. text ++ zeros) (sym rest) ∙ ap (λ t. t ++ drop (length text) (replicate 48 0)) (sym e);
      text = rw front h;
    }
