-- What is known of a sequence after operations.
use Rattle.std.proofs.Common.{◌≡◌, ℕ, zero, suc, ◌+◌, ◌-◌, ◌<◌, ◌≤◌, Bool, true, false, cond, ◌||◌, List, [], ◌∷◌, length, insert, remove, Option, Some, None, refl, sym, ap, ◌∙◌, arith, inl, inr, ◌↔◌, subst, eq-eqb, nat_le, nat_lt, nat_eq, if◌then◌else◌}
use Rattle.std.specs.List.{position_from}
use Rattle.std.proofs.lemmas.Bool.{cases_lt, cases_order, lt-ltb, le-ltb, le-leb, lt-leb, false≢true, ne_eqb, or_from}
use Rattle.std.proofs.lemmas.Option.{same_Some}
use Rattle.std.proofs.lemmas.List.Edits.{length-insert, length-remove}
use Rattle.jup_seq.specs.Prelude.{small_length, Name, Item, Items, name_eq, has_name, name_at, SeqOp, Insert, Delete, Relabel, Nothing}
use Rattle.jup_value.specs.Items.{place_of}
use Rattle.jup_value.proofs.Items.{name_eq_same, has_name_at, name_at_within, has_name-insert, has_name-remove_none, has_name-remove_same, name_at-insert_below, name_at-insert_above, name_at-remove_below, name_at-remove_above, same_place, has_name-with_value, name_at-with_value, length-with_value}
use Rattle.jup_seq.specs.declared.singles.SeqTrace.{SeqTrace}
use Rattle.jup_seq.specs.declared.sources.Source.{Source}
use Rattle.jup_seq.specs.declared.sources.Source.TheVariants.{Inserted, Place}
use Rattle.jup_seq.specs.Operations.{HasDistinctNames, IsValid, after, next_place}
use Rattle.jup_seq.specs.Laws.Squares.{distinct_after, next_place-small}

-- What determines whether an operation may be applied after others: where the item of its name is, and how long the sequence is

-- where a name is after an operation, from where it was
abbrev pub place_after : {V : Type 0} → Name → Option ℕ → SeqOp V → Option ℕ
place_after n None (Insert r y) = if name_eq y.name n then Some r else None
place_after n (Some q) (Insert r y) = Some (if nat_le r q then next_place q else q)
place_after n None (Delete r m) = None
place_after n (Some q) (Delete r m) = if nat_eq r q then None else Some (if nat_lt r q then q - 1 else q)
place_after n place (Relabel r m v) = place
place_after n place Nothing = place

-- how many items there are after an operation
abbrev pub length_after : {V : Type 0} → ℕ → SeqOp V → ℕ
length_after k (Insert r y) = next_place k
length_after k (Delete r m) = k - 1
length_after k (Relabel r m v) = k
length_after k Nothing = k

abbrev pub name_trace : {V : Type 0} → Name → SeqTrace → SeqOp V → SeqTrace
name_trace n r e = record { place = place_after n r.place e; len = length_after r.len e }

-- a trace past an operation, of an operation
abbrev pub trace_past : {V : Type 0} → SeqOp V → SeqTrace → SeqOp V → SeqTrace
trace_past (Insert p y) r e = name_trace y.name r e
trace_past (Delete p n) r e = name_trace n r e
trace_past (Relabel p n v) r e = name_trace n r e
trace_past Nothing r e = r

-- whether it allows its operation
abbrev pub Allows : {V : Type 0} → SeqOp V → SeqTrace → Type 0
Allows (Insert p y) r = (p ≤ r.len) × (r.place ≡ None) × (r.len < small_length)
Allows (Delete p n) r = r.place ≡ Some p
Allows (Relabel p n v) r = r.place ≡ Some p
Allows Nothing r = Unit {0}

-- where a name is
abbrev pub Stands : {V : Type 0} → Name → Option ℕ → Items V → Type 0
Stands n None x = has_name n x.items ≡ false
Stands n (Some q) x = name_at q x.items ≡ Some n

pub record IsNameTrace {V : Type 0} (n : Name) (x : Items V) (r : SeqTrace) : Type 0 where
  pub distinct : HasDistinctNames x
  pub stands : Stands n r.place x
  pub long : length x.items ≡ r.len

-- a trace of an operation is one of its name
abbrev pub IsTrace : {V : Type 0} → SeqOp V → Items V → SeqTrace → Type 0
IsTrace (Insert p y) x r = IsNameTrace y.name x r
IsTrace (Delete p n) x r = IsNameTrace n x r
IsTrace (Relabel p n v) x r = IsNameTrace n x r
IsTrace Nothing x r = Unit {0}

-- where a name is after an operation

pub name_at-insert : {V : Type 0} (xs : List (Item V)) (r : ℕ) (y : Item V) → r ≤ length xs → name_at r (insert xs r y) ≡ Some y.name
name_at-insert xs zero y l = refl
name_at-insert [] (suc r) y l = absurd (omega (arith, l))
name_at-insert (x ∷ xs) (suc r) y l = name_at-insert xs r y (omega (arith, l))

none_insert : {V : Type 0} (b : Bool) (n : Name) (r : ℕ) (y : Item V) (x : Items V) → name_eq y.name n ≡ b → r ≤ length x.items → has_name n x.items ≡ false
    → Stands n (cond b (Some r) None) (after (Insert r y) x)
none_insert true n r y x e l h = name_at-insert x.items r y l ∙ ap Some (name_eq_same y.name n e)
none_insert false n r y x e l h = has_name-insert n x.items r y ∙ ap (λ b. b || has_name n x.items) e ∙ h

at_place : {V : Type 0} (n : Name) (p q : ℕ) (x : Items V) → p ≡ q → name_at q x.items ≡ Some n → Stands n (Some p) x
at_place n p q x e h = ap (λ j. name_at j x.items) e ∙ h

some_insert : {V : Type 0} (n : Name) (q r : ℕ) (y : Item V) (x : Items V) → IsValid (Insert r y) x → name_at q x.items ≡ Some n
    → Stands n (Some (cond (nat_le r q) (next_place q) q)) (after (Insert r y) x)
some_insert n q r y x v h =
    let within = name_at_within x.items q n h in
    elim (cases_lt q r) [
      | inl l ↦ at_place n _ q (after (Insert r y) x) (rw (lt-leb r q l) refl) (name_at-insert_below x.items r q y l v.0 ∙ h)
      | inr l ↦ at_place n _ (suc q) (after (Insert r y) x) (rw (le-leb r q l) (next_place-small q (omega (arith, within, v.2)))) (name_at-insert_above x.items r q y l v.0 ∙ h)
    ]

some_delete : {V : Type 0} (n m : Name) (q r : ℕ) (x : Items V) → HasDistinctNames x → name_at r x.items ≡ Some m → name_at q x.items ≡ Some n
    → Stands n (cond (nat_eq r q) None (Some (cond (nat_lt r q) (q - 1) q))) (after (Delete r m) x)
some_delete n m q r x d v h =
    elim (cases_order r q) [
      | inl same ↦ rw (eq-eqb r q same) (gone (sym (ap (λ j. name_at j x.items) same) ∙ v) h)
      | inr (inl below) ↦ rw (ne_eqb r q (λ e. absurd (omega (arith, below, e))), lt-ltb r q below) (shifted q below h)
      | inr (inr above) ↦ rw (ne_eqb r q (λ e. absurd (omega (arith, above, e))), le-ltb r q (omega (arith, above))) (name_at-remove_below x.items r q above ∙ h)
    ]
  where
    gone : name_at q x.items ≡ Some m → name_at q x.items ≡ Some n → has_name n (remove x.items r) ≡ false
    gone a b = rw (← same_Some m n (sym a ∙ b)) (has_name-remove_same m x.items r d v)

    shifted : (k : ℕ) → r < k → name_at k x.items ≡ Some n → name_at (k - 1) (remove x.items r) ≡ Some n
    shifted zero l e = absurd (omega (arith, l))
    shifted (suc k) l e =
        let p : suc k - 1 ≡ k = omega arith in
        rw p (name_at-remove_above x.items r k (omega (arith, l)) (name_at_within x.items r m v) ∙ e)

stands_after : {V : Type 0} (n : Name) (place : Option ℕ) (e : SeqOp V) (x : Items V) → HasDistinctNames x → IsValid e x → Stands n place x → Stands n (place_after n place e) (after e x)
stands_after n None (Insert r y) x d v h = none_insert (name_eq y.name n) n r y x refl v.0 h
stands_after n (Some q) (Insert r y) x d v h = some_insert n q r y x v h
stands_after n None (Delete r m) x d v h = has_name-remove_none n x.items r h
stands_after n (Some q) (Delete r m) x d v h = some_delete n m q r x d v h
stands_after n None (Relabel r m w) x d v h = has_name-with_value n x.items r w ∙ h
stands_after n (Some q) (Relabel r m w) x d v h = name_at-with_value x.items q r w ∙ h
stands_after n None Nothing x d v h = h
stands_after n (Some q) Nothing x d v h = h

pub length_is : {V : Type 0} (k : ℕ) (e : SeqOp V) (x : Items V) → IsValid e x → length x.items ≡ k → length (after e x).items ≡ length_after k e
length_is k (Insert r y) x v h = omega (arith, length-insert x.items r y v.0, h, v.2)
length_is k (Delete r m) x v h = omega (arith, length-remove x.items r (name_at_within x.items r m v), h)
length_is k (Relabel r m w) x v h = length-with_value x.items r w ∙ h
length_is k Nothing x v h = h

name_traced : {V : Type 0} (n : Name) (e : SeqOp V) (x : Items V) (r : SeqTrace) → IsValid e x → IsNameTrace n x r → IsNameTrace n (after e x) (name_trace n r e)
name_traced n e x r valid is = record {
  distinct = distinct_after x e is.distinct valid;
  stands = stands_after n r.place e x is.distinct valid is.stands;
  long = length_is r.len e x valid is.long;
}

-- a trace stays one past a valid operation
pub traced : {V : Type 0} (o e : SeqOp V) (x : Items V) (r : SeqTrace) → IsValid e x → IsTrace o x r → IsTrace o (after e x) (trace_past o r e)
traced (Insert p y) e x r valid is = name_traced y.name e x r valid is
traced (Delete p n) e x r valid is = name_traced n e x r valid is
traced (Relabel p n v) e x r valid is = name_traced n e x r valid is
traced Nothing e x r valid is = tt

-- and determines whether its operation is valid
absent_told : {V : Type 0} (n : Name) (place : Option ℕ) (x : Items V) → Stands n place x → (place ≡ None) ↔ (has_name n x.items ≡ false)
absent_told n None x h = ((λ e. h), (λ e. refl))
absent_told n (Some q) x h = ((λ e. absurd cc), (λ e. absurd (false≢true (sym e ∙ has_name_at x.items q n h))))

place_told : {V : Type 0} (n : Name) (place : Option ℕ) (p : ℕ) (x : Items V) → HasDistinctNames x → Stands n place x → (place ≡ Some p) ↔ (name_at p x.items ≡ Some n)
place_told n None p x d h = ((λ e. absurd cc), (λ e. absurd (false≢true (sym h ∙ has_name_at x.items p n e))))
place_told n (Some q) p x d h = ((λ e. subst (λ place. Stands n place x) e h), (λ e. ap Some (same_place x.items q p n d h e)))

pub told : {V : Type 0} (o : SeqOp V) (x : Items V) (r : SeqTrace) → IsTrace o x r → (Allows o r ↔ IsValid o x)
told (Insert p y) x r is =
    let long = is.long in
    let absent = absent_told y.name r.place x is.stands in
    ((λ h. (omega (arith, long, h.0), absent.0 h.1, omega (arith, long, h.2))), (λ h. (omega (arith, long, h.0), absent.1 h.1, omega (arith, long, h.2))))
told (Delete p n) x r is = place_told n r.place p x is.distinct is.stands
told (Relabel p n v) x r is = place_told n r.place p x is.distinct is.stands
told Nothing x r is = ((λ h. tt), (λ h. tt))

-- the place of a name is where it is

stands_from : {V : Type 0} (k : ℕ) (n : Name) (xs : List (Item V)) (j : ℕ) → position_from (λ x. name_eq x.name n) k xs ≡ Some j → (k ≤ j) × (name_at (j - k) xs ≡ Some n)
stands_from k n [] j h = absurd cc
stands_from k n (x ∷ xs) j h = by_name (name_eq x.name n) refl h (stands_from (k + 1) n xs j)
  where
    by_name : (b : Bool) → name_eq x.name n ≡ b → cond b (Some k) (position_from (λ y. name_eq y.name n) (k + 1) xs) ≡ Some j
        → (position_from (λ y. name_eq y.name n) (k + 1) xs ≡ Some j → (k + 1 ≤ j) × (name_at (j - (k + 1)) xs ≡ Some n)) → (k ≤ j) × (name_at (j - k) (x ∷ xs) ≡ Some n)
    by_name true e g further =
        let same = same_Some k j g in
        let none : j - k ≡ 0 = omega (arith, same) in
        (omega (arith, same), rw none (ap Some (name_eq_same x.name n e)))
    by_name false e g further =
        let rest = further g in
        let next : j - k ≡ suc (j - (k + 1)) = omega (arith, rest.0) in
        (omega (arith, rest.0), rw next rest.1)

absent_from : {V : Type 0} (k : ℕ) (n : Name) (xs : List (Item V)) → position_from (λ x. name_eq x.name n) k xs ≡ None → has_name n xs ≡ false
absent_from k n [] e = refl
absent_from k n (x ∷ xs) e = by_name (name_eq x.name n) refl e (absent_from (k + 1) n xs)
  where
    by_name : (b : Bool) → name_eq x.name n ≡ b → cond b (Some k) (position_from (λ y. name_eq y.name n) (k + 1) xs) ≡ None
        → (position_from (λ y. name_eq y.name n) (k + 1) xs ≡ None → has_name n xs ≡ false) → (name_eq x.name n || has_name n xs) ≡ false
    by_name true is g further = absurd cc
    by_name false is g further = or_from (name_eq x.name n) (has_name n xs) is (further g)

pub stands_first : {V : Type 0} (n : Name) (x : Items V) → Stands n (place_of n x.items) x
stands_first n x = by_place (place_of n x.items) refl
  where
    by_place : (place : Option ℕ) → place_of n x.items ≡ place → Stands n place x
    by_place None e = absent_from 0 n x.items e
    by_place (Some j) e =
        let at = (stands_from 0 n x.items j e).1 in
        let zero_less : j - 0 ≡ j = omega arith in
        rw zero_less at at

-- the trace that is taken of a sequence
pub first_trace : {V : Type 0} (n : Name) (x : Items V) (place : Option ℕ) (k : ℕ) → HasDistinctNames x → place ≡ place_of n x.items → k ≡ length x.items
    → IsNameTrace n x (record { place = place; len = k })
first_trace n x place k distinct is long = record { distinct = distinct; stands = subst (λ p. Stands n p x) (sym is) (stands_first n x); long = sym long }

-- Where the item at a place after an operation came from

-- the name under which the operation put the item there, or the place where it was before
abbrev pub source : {V : Type 0} → ℕ → SeqOp V → Source
source p (Insert r y) = if nat_eq p r then Inserted y.name else Place (if nat_lt p r then p else p - 1)
source p (Delete r m) = Place (if nat_lt p r then p else next_place p)
source p (Relabel r m v) = Place p
source p Nothing = Place p

-- the name of the item of a source, in the sequence before the operation
abbrev pub source_name : {V : Type 0} → Source → Items V → Option Name
source_name (Inserted n) x = Some n
source_name (Place q) x = name_at q x.items

-- the place of a source is one of the sequence
abbrev pub IsWithin : {V : Type 0} → Source → Items V → Type 0
IsWithin (Inserted n) x = Unit {0}
IsWithin (Place q) x = q < length x.items

-- in each sequence that the operation may be applied to, it is where the item at the place came from
abbrev pub IsSource : {V : Type 0} → ℕ → SeqOp V → Source → Type 0
IsSource {V} p e s =
    (x : Items V) → length x.items ≤ 4294967295 → IsValid e x → p < length (after e x).items → (name_at p (after e x).items ≡ source_name s x) × IsWithin s x

insert_sourced : {V : Type 0} (p r : ℕ) (y : Item V) → IsSource p (Insert r y) (source p (Insert r y))
insert_sourced p r y x few v l =
    elim (cases_order p r) [
      | inl same ↦ rw (eq-eqb p r same) (ap (λ j. name_at j (insert x.items r y)) same ∙ name_at-insert x.items r y v.0, tt)
      | inr (inl below) ↦ rw (ne_eqb p r (λ e. absurd (omega (arith, below, e))), lt-ltb p r below) (name_at-insert_below x.items r p y below v.0, omega (arith, below, v.0))
      | inr (inr above) ↦ rw (ne_eqb p r (λ e. absurd (omega (arith, above, e))), le-ltb p r (omega (arith, above))) (moved p above l)
    ]
  where
    moved : (k : ℕ) → r < k → k < length (insert x.items r y) → (name_at k (insert x.items r y) ≡ name_at (k - 1) x.items) × (k - 1 < length x.items)
    moved zero a b = absurd (omega (arith, a))
    moved (suc k) a b =
        let e : suc k - 1 ≡ k = omega arith in
        rw e (name_at-insert_above x.items r k y (omega (arith, a)) v.0, omega (arith, b, length-insert x.items r y v.0))

delete_sourced : {V : Type 0} (p r : ℕ) (m : Name) → IsSource {V = V} p (Delete r m) (source {V = V} p (Delete r m))
delete_sourced p r m x few v l =
    let within = name_at_within x.items r m v in
    let long = length-remove x.items r within in
    elim (cases_order p r) [
      | inl same ↦ rw (le-ltb p r (omega (arith, same))) (moved (omega (arith, same)) (omega (arith, l, long, few)) within (omega (arith, l, long)))
      | inr (inl below) ↦ rw (lt-ltb p r below) (name_at-remove_below x.items r p below, omega (arith, below, within))
      | inr (inr above) ↦ rw (le-ltb p r (omega (arith, above))) (moved (omega (arith, above)) (omega (arith, l, long, few)) within (omega (arith, l, long)))
    ]
  where
    moved : r ≤ p → p < 4294967295 → r < length x.items → suc p < length x.items → (name_at p (remove x.items r) ≡ name_at (next_place p) x.items) × (next_place p < length x.items)
    moved a b c d =
        let e : next_place p ≡ suc p = omega (arith, b) in
        rw e (name_at-remove_above x.items r p a c, d)

-- this is so of the source that each operation gives
pub sourced : {V : Type 0} (p : ℕ) (e : SeqOp V) → IsSource p e (source p e)
sourced p (Insert r y) = insert_sourced p r y
sourced p (Delete r m) = delete_sourced p r m
sourced p (Relabel r m w) = λ x few v l. (name_at-with_value x.items p r w, let long = length-with_value x.items r w in omega (arith, l, long))
sourced p Nothing = λ x few v l. (refl, l)
