use Rattle.std.proofs.Common.{◌≡◌, ℕ, zero, suc, ◌+◌, ◌<◌, ◌≤◌, Bool, true, false, ◌||◌, ◌&&◌, cond, eqb, ltb, get_or, length, List, [], ◌∷◌, set, Option, Some, None, refl, sym, ap, ◌∙◌, arith, inl, inr, insert, remove, slice_get, nat_lt, nat_le}
use Rattle.std.proofs.lemmas.Bool.{eqb-true, eq-eqb, cases_Bool, and_parts, or_parts, or_from, or_right, or_left, false_from_ne_true, false≢true, ltb-true, ltb-false, leb-true, lt-ltb, le-ltb, le-leb}
use Rattle.std.specs.List.{position_from}
use Rattle.jup_value.specs.declared.names.Name.{Name}
use Rattle.jup_value.specs.declared.names.Item.{Item}
use Rattle.jup_value.specs.Items.{name_eq, has_name, place_of, with_value, is_marked, AreMarked, marks_below, raised, AreAbove, AreAscending}
use Rattle.jup_value.proofs.Items.{name_eq_same}

-- a name that is not marked is none of the items'
pub unmarked_absent : {V : Type 0} → (n : Name) (ms : List Name) (xs : List (Item V)) → AreMarked ms xs → is_marked n ms ≡ false → has_name n xs ≡ false
unmarked_absent n ms [] a h = refl
unmarked_absent n ms (x ∷ xs) a h =
    or_from (name_eq x.name n) (has_name n xs)
    (false_from_ne_true (name_eq x.name n) (λ same. false≢true (sym h ∙ ap (λ k. is_marked k ms) (sym (name_eq_same x.name n same)) ∙ a.0)))
    (unmarked_absent n ms xs a.1 h)

-- the mark of a name, as the code makes it
abbrev by_place : Name → List Name → ℕ → Option Name → List Name
by_place n ms at None = insert ms at n
by_place n ms at (Some m) = cond (eqb m.site n.site) (cond (nat_lt m.number n.number) (set ms at n) ms) (insert ms at n)

by_place-cons : (n m : Name) (ms : List Name) (at : ℕ) (o : Option Name) → by_place n (m ∷ ms) (suc at) o ≡ m ∷ by_place n ms at o
by_place-cons n m ms at None = refl
by_place-cons n m ms at (Some k) = by_tests (eqb k.site n.site) (nat_lt k.number n.number)
  where
    by_tests : (s t : Bool) → cond s (cond t (set (m ∷ ms) (suc at) n) (m ∷ ms)) (insert (m ∷ ms) (suc at) n) ≡ m ∷ cond s (cond t (set ms at n) ms) (insert ms at n)
    by_tests true true = refl
    by_tests true false = refl
    by_tests false t = refl

raised_by_place : (n : Name) (ms : List Name) → raised n ms ≡ by_place n ms (marks_below n.site ms) (slice_get ms (marks_below n.site ms))
raised_by_place n [] = refl
raised_by_place n (m ∷ ms) =
    elim (cases_Bool (nat_lt m.site n.site)) [
      | inl below ↦ rw (below, raised_by_place n ms) (sym (by_place-cons n m ms (marks_below n.site ms) (slice_get ms (marks_below n.site ms))))
      | inr here ↦ rw here refl
    ]

pub raised_new : (n : Name) (ms : List Name) (at : ℕ) → at ≡ marks_below n.site ms → slice_get ms at ≡ None → insert ms at n ≡ raised n ms
raised_new n ms at e h = sym (raised_by_place n ms ∙ rw (← e, h) refl)

pub raised_between : (n m : Name) (ms : List Name) (at : ℕ) → at ≡ marks_below n.site ms → slice_get ms at ≡ Some m → eqb m.site n.site ≡ false → insert ms at n ≡ raised n ms
raised_between n m ms at e h s = sym (raised_by_place n ms ∙ rw (← e, h, s) refl)

pub raised_set : (n m : Name) (ms : List Name) (at : ℕ) → at ≡ marks_below n.site ms → slice_get ms at ≡ Some m → m.site ≡ n.site → m.number < n.number → set ms at n ≡ raised n ms
raised_set n m ms at e h s l = sym (raised_by_place n ms ∙ rw (← e, h, eq-eqb m.site n.site s, lt-ltb m.number n.number l) refl)

pub raised_same : (n m : Name) (ms : List Name) (at : ℕ) → at ≡ marks_below n.site ms → slice_get ms at ≡ Some m → m.site ≡ n.site → n.number ≤ m.number → ms ≡ raised n ms
raised_same n m ms at e h s l = sym (raised_by_place n ms ∙ rw (← e, h, eq-eqb m.site n.site s, le-ltb m.number n.number l) refl)

-- whether a mark is at or above a name
abbrev pub covers : Name → Name → Bool
covers m k = (eqb m.site k.site) && nat_le k.number m.number

covers_own : (n : Name) → covers n n ≡ true
covers_own n = rw (eq-eqb n.site n.site refl, le-leb n.number n.number (omega arith)) refl

covers_more : (m n k : Name) → m.site ≡ n.site → m.number ≤ n.number → covers m k ≡ true → covers n k ≡ true
covers_more m n k s l h =
    let parts = and_parts (eqb m.site k.site) (nat_le k.number m.number) h in
    let site : n.site ≡ k.site = sym s ∙ eqb-true m.site k.site parts.0 in
    let number = leb-true k.number m.number parts.1 in
    rw (eq-eqb n.site k.site site, le-leb k.number n.number (omega arith)) refl

or_rest : (x y : Bool) → (x || y) ≡ true → x ≡ false → y ≡ true
or_rest true y h e = absurd cc
or_rest false y h e = h

-- a raised mark marks its name
pub marked-raised : (n : Name) (ms : List Name) → is_marked n (raised n ms) ≡ true
marked-raised n [] = or_left (covers n n) false (covers_own n)
marked-raised n (m ∷ ms) =
    elim (cases_Bool (nat_lt m.site n.site)) [
      | inl below ↦ rw below (or_right (covers m n) (is_marked n (raised n ms)) (marked-raised n ms))
      | inr here ↦ rw here (elim (cases_Bool (eqb m.site n.site)) [
        | inl same ↦ rw same (elim (cases_Bool (nat_lt m.number n.number)) [
          | inl lower ↦ rw lower (or_left (covers n n) (is_marked n ms) (covers_own n))
          | inr kept ↦ rw kept (or_left (covers m n) (is_marked n ms) (covers_more n m n (sym (eqb-true m.site n.site same)) (ltb-false m.number n.number kept) (covers_own n)))
        ])
        | inr other ↦ rw other (or_left (covers n n) (is_marked n (m ∷ ms)) (covers_own n))
      ])
    ]

-- what was marked stays so
pub kept-raised : (k n : Name) (ms : List Name) → is_marked k ms ≡ true → is_marked k (raised n ms) ≡ true
kept-raised k n [] h = absurd cc
kept-raised k n (m ∷ ms) h =
    elim (cases_Bool (nat_lt m.site n.site)) [
      | inl below ↦ rw below (elim (cases_Bool (covers m k)) [
        | inl held ↦ or_left (covers m k) (is_marked k (raised n ms)) held
        | inr later ↦ or_right (covers m k) (is_marked k (raised n ms)) (kept-raised k n ms (or_rest (covers m k) (is_marked k ms) h later))
      ])
      | inr here ↦ rw here (elim (cases_Bool (eqb m.site n.site)) [
        | inl same ↦ rw same (elim (cases_Bool (nat_lt m.number n.number)) [
          | inl lower ↦ rw lower (elim (cases_Bool (covers m k)) [
            | inl held ↦ or_left (covers n k) (is_marked k ms) (covers_more m n k (eqb-true m.site n.site same) (omega (arith, ltb-true m.number n.number lower)) held)
            | inr later ↦ or_right (covers n k) (is_marked k ms) (or_rest (covers m k) (is_marked k ms) h later)
          ])
          | inr kept ↦ rw kept h
        ])
        | inr other ↦ rw other (or_right (covers n k) (is_marked k (m ∷ ms)) h)
      ])
    ]

-- marks stay in ascending order

above_same : (s t : ℕ) (ms : List Name) → s ≡ t → AreAbove s ms → AreAbove t ms
above_same s t ms e a = rw (← e) a

AreAbove-raised : (site : ℕ) (n : Name) (ms : List Name) → site < n.site → AreAbove site ms → AreAbove site (raised n ms)
AreAbove-raised site n [] l a = l
AreAbove-raised site n (m ∷ ms) l a = by_tests (nat_lt m.site n.site) (eqb m.site n.site) (nat_lt m.number n.number)
  where
    by_tests : (s t u : Bool) → AreAbove site (cond s (m ∷ raised n ms) (cond t (cond u (n ∷ ms) (m ∷ ms)) (n ∷ m ∷ ms)))
    by_tests true t u = a
    by_tests false true true = l
    by_tests false true false = a
    by_tests false false u = l

apart_sites : (a b : ℕ) → eqb a b ≡ false → b ≤ a → b < a
apart_sites a b h l =
    elim (cases_Bool (nat_lt b a)) [
      | inl less ↦ ltb-true b a less
      | inr more ↦ let same : a ≡ b = omega (arith, ltb-false b a more) in absurd (false≢true (sym h ∙ eq-eqb a b same))
    ]

pub AreAscending-raised : (n : Name) (ms : List Name) → AreAscending ms → AreAscending (raised n ms)
AreAscending-raised n [] a = (tt, tt)
AreAscending-raised n (m ∷ ms) a =
    elim (cases_Bool (nat_lt m.site n.site)) [
      | inl below ↦ rw below (AreAbove-raised m.site n ms (ltb-true m.site n.site below) a.0, AreAscending-raised n ms a.1)
      | inr here ↦ rw here (elim (cases_Bool (eqb m.site n.site)) [
        | inl same ↦ rw same (elim (cases_Bool (nat_lt m.number n.number)) [
          | inl lower ↦ rw lower (above_same m.site n.site ms (eqb-true m.site n.site same) a.0, a.1)
          | inr kept ↦ rw kept a
        ])
        | inr other ↦ rw other (apart_sites m.site n.site other (ltb-false m.site n.site here), a)
      ])
    ]

-- every item stays marked

AreMarked-raised : {V : Type 0} → (n : Name) (ms : List Name) (xs : List (Item V)) → AreMarked ms xs → AreMarked (raised n ms) xs
AreMarked-raised n ms [] a = tt
AreMarked-raised n ms (x ∷ xs) a = (kept-raised x.name n ms a.0, AreMarked-raised n ms xs a.1)

AreMarked-with : {V : Type 0} → (ms : List Name) (xs : List (Item V)) (i : ℕ) (y : Item V) → AreMarked ms xs → is_marked y.name ms ≡ true → AreMarked ms (insert xs i y)
AreMarked-with ms [] zero y a h = (h, tt)
AreMarked-with ms [] (suc i) y a h = (h, tt)
AreMarked-with ms (x ∷ xs) zero y a h = (h, a)
AreMarked-with ms (x ∷ xs) (suc i) y a h = (a.0, AreMarked-with ms xs i y a.1 h)

pub AreMarked-insert : {V : Type 0} → (ms : List Name) (xs : List (Item V)) (i : ℕ) (y : Item V) → AreMarked ms xs → AreMarked (raised y.name ms) (insert xs i y)
AreMarked-insert ms xs i y a = AreMarked-with (raised y.name ms) xs i y (AreMarked-raised y.name ms xs a) (marked-raised y.name ms)

pub AreMarked-remove : {V : Type 0} → (ms : List Name) (xs : List (Item V)) (i : ℕ) → AreMarked ms xs → AreMarked ms (remove xs i)
AreMarked-remove ms [] zero a = tt
AreMarked-remove ms [] (suc i) a = tt
AreMarked-remove ms (x ∷ xs) zero a = a.1
AreMarked-remove ms (x ∷ xs) (suc i) a = (a.0, AreMarked-remove ms xs i a.1)

pub AreMarked-with_value : {V : Type 0} → (ms : List Name) (xs : List (Item V)) (i : ℕ) (v : V) → AreMarked ms xs → AreMarked ms (with_value xs i v)
AreMarked-with_value ms [] i v a = tt
AreMarked-with_value ms (x ∷ xs) zero v a = a
AreMarked-with_value ms (x ∷ xs) (suc i) v a = (a.0, AreMarked-with_value ms xs i v a.1)

-- a name that no item has is at no place
none_from : {V : Type 0} (k : ℕ) (n : Name) (xs : List (Item V)) → has_name n xs ≡ false → position_from (λ x. name_eq x.name n) k xs ≡ None
none_from k n [] h = refl
none_from k n (x ∷ xs) h = let parts = or_parts (name_eq x.name n) (has_name n xs) h in rw parts.0 (none_from (k + 1) n xs parts.1)

pub place_of-absent : {V : Type 0} → (n : Name) (xs : List (Item V)) → has_name n xs ≡ false → place_of n xs ≡ None
place_of-absent n xs h = none_from 0 n xs h

-- marks are looked up by their order

-- a mark is below all after it
below_rest : (site : ℕ) (ms : List Name) → AreAbove site ms → AreAscending ms → (k : ℕ) (d : Name) → k < length ms → site < (get_or ms k d).site
below_rest site [] above a k d l = absurd (omega arith)
below_rest site (m ∷ ms) above a zero d l = above
below_rest site (m ∷ ms) above a (suc k) d l = omega (arith, above, below_rest m.site ms a.0 a.1 k d (omega arith))

pub sites_rise : (ms : List Name) → AreAscending ms → (i j : ℕ) (d : Name) → i ≤ j → j < length ms → (get_or ms i d).site ≤ (get_or ms j d).site
sites_rise [] a i j d o l = absurd (omega arith)
sites_rise (m ∷ ms) a zero zero d o l = omega arith
sites_rise (m ∷ ms) a zero (suc j) d o l = omega (arith, below_rest m.site ms a.0 a.1 j d (omega arith))
sites_rise (m ∷ ms) a (suc i) zero d o l = absurd (omega arith)
sites_rise (m ∷ ms) a (suc i) (suc j) d o l = sites_rise ms a.1 i j d (omega arith) (omega arith)

-- the place between the marks below a site and the others
pub point_below : (site : ℕ) (ms : List Name) (i : ℕ) → i ≤ length ms → ((k : ℕ) (d : Name) → 0 ≤ k → k < i → ltb (get_or ms k d).site site ≡ true) → ((k : ℕ) (d : Name) → i ≤ k → k < length ms → ltb (get_or ms k d).site site ≡ false)
    → i ≡ marks_below site ms
point_below site [] zero l below above = refl
point_below site [] (suc i) l below above = absurd (omega arith)
point_below site (m ∷ ms) zero l below above = rw (above 0 m (omega arith) (omega arith)) refl
point_below site (m ∷ ms) (suc i) l below above =
    rw (below 0 m (omega arith) (omega arith))
    (ap suc (point_below site ms i (omega arith) (λ k d o h. below (suc k) d (omega arith) (omega arith)) (λ k d o h. above (suc k) d (omega arith) (omega arith))))

covers_apart : (m n : Name) → (m.site ≡ n.site → ⊥) → covers m n ≡ false
covers_apart m n apart = rw (false_from_ne_true (eqb m.site n.site) (λ same. apart (eqb-true m.site n.site same))) refl

-- no mark after that of a name's site marks it
unmarked_behind : (n : Name) (site : ℕ) (ms : List Name) → n.site ≤ site → AreAbove site ms → AreAscending ms → is_marked n ms ≡ false
unmarked_behind n site [] l above a = refl
unmarked_behind n site (m ∷ ms) l above a =
    or_from (covers m n) (is_marked n ms) (covers_apart m n (λ same. omega (arith, above, same))) (unmarked_behind n m.site ms (omega (arith, above)) a.0 a.1)

or_none : (x y : Bool) → y ≡ false → (x || y) ≡ x
or_none true y e = refl
or_none false y e = e

-- whether the mark at a place covers a name
abbrev mark_covers : Option Name → Name → Bool
mark_covers None n = false
mark_covers (Some m) n = covers m n

marked_at : (n : Name) (ms : List Name) → AreAscending ms → is_marked n ms ≡ mark_covers (slice_get ms (marks_below n.site ms)) n
marked_at n [] a = refl
marked_at n (m ∷ ms) a =
    elim (cases_Bool (nat_lt m.site n.site)) [
      | inl below ↦ let apart = covers_apart m n (λ same. omega (arith, ltb-true m.site n.site below, same)) in rw (below, apart) (marked_at n ms a.1)
      | inr here ↦ rw here (or_none (covers m n) (is_marked n ms) (unmarked_behind n m.site ms (ltb-false m.site n.site here) a.0 a.1))
    ]

pub marked_none : (n : Name) (ms : List Name) (at : ℕ) → AreAscending ms → at ≡ marks_below n.site ms → slice_get ms at ≡ None → is_marked n ms ≡ false
marked_none n ms at a e h = marked_at n ms a ∙ rw (← e, h) refl

pub marked_some : (n m : Name) (ms : List Name) (at : ℕ) → AreAscending ms → at ≡ marks_below n.site ms → slice_get ms at ≡ Some m → is_marked n ms ≡ covers m n
marked_some n m ms at a e h = marked_at n ms a ∙ rw (← e, h) refl

-- the mark of a site is at the place with as many below it
above_at : (site : ℕ) (ms : List Name) (k : ℕ) (m : Name) → AreAbove site ms → AreAscending ms → slice_get ms k ≡ Some m → site < m.site
above_at site [] k m above a h = absurd cc
above_at site (n ∷ ns) zero m above a h = let same : n ≡ m = cc in omega (arith, above, ap (λ x. x.site) same)
above_at site (n ∷ ns) (suc k) m above a h = omega (arith, above, above_at n.site ns k m a.0 a.1 h)

pub place_held : (site : ℕ) (ms : List Name) (k : ℕ) (m : Name) → AreAscending ms → slice_get ms k ≡ Some m → m.site ≡ site → k ≡ marks_below site ms
place_held site [] k m a h e = absurd cc
place_held site (n ∷ ns) zero m a h e =
    let same : n ≡ m = cc in
    let over : site ≤ n.site = omega (arith, ap (λ x. x.site) same) in
    rw (le-ltb n.site site over) refl
place_held site (n ∷ ns) (suc k) m a h e =
    let below : n.site < site = omega (arith, above_at n.site ns k m a.0 a.1 h) in
    rw (lt-ltb n.site site below) (ap suc (place_held site ns k m a.1 h e))

pub held_within : (ms : List Name) (k : ℕ) (m : Name) → slice_get ms k ≡ Some m → k < length ms
held_within [] k m h = absurd cc
held_within (n ∷ ns) zero m h = omega arith
held_within (n ∷ ns) (suc k) m h = omega (arith, held_within ns k m h)
