-- Boards, and tables of entries, as they change.
use Rattle.std.proofs.Common.{◌≡◌, ℕ, ◌==◌, List, [], ◌∷◌, Option, Some, None, refl, sym, ap, ◌∙◌, inl, inr, ◌+◌, subst, zero, suc, ◌<◌, ◌≤◌, Bool, true, false, nat_lt, ◌++◌, length, get_or, take, cond, arith, if◌then◌else◌, insert, set, slice_get}
use Rattle.std.specs.Option.{option_and_then, option_map, IfSome}
use Rattle.std.proofs.lemmas.Bool.{cases_Bool, eqb-false, ltb-true, ltb-false}
use Rattle.std.proofs.lemmas.Option.{IfSome_then, none-some, same_Some}
use Rattle.std.proofs.lemmas.List.Edits.{length-insert}
use Rattle.std.proofs.lemmas.List.Sums.{take_while-cons}
use Rattle.std.proofs.lemmas.Iterator.Adapters.{position_from-zero}
use Rattle.std.specs.List.{position, position_from, take_while}
use Rattle.jup_window.specs.Prelude.{Widget}
use Rattle.jup_window.specs.Entries.{at_id, change_at, map_values, Place, Grouped, widget_at, change_widget, same_place, AreOver, IsTable, slot_of, with_entry}
use Rattle.jup_window.specs.Laws.Entries.{change_at-agree, widget_at-same, same_place-true, widget_at-other}
use Rattle.jup_window.specs.EntriesLent.{with_value_at}
use Rattle.jup_window.specs.Widgets as widget
use Rattle.jup_window.specs.Laws.Widgets as widget_laws
use Rattle.jup_window.specs.Boards as board

-- What a board is, with and without its room, after the widget at a place is changed.

-- the values under the other ids are the same, and so they look
map_values-change_at : {A B : Type 0} (g : A → B) (f : A → A) (h : B → B) (k : ℕ) (es : List (ℕ × A)) → IfSome (at_id k es) (λ a. g (f a) ≡ h (g a))
    → map_values g (change_at k f es) ≡ change_at k h (map_values g es)
map_values-change_at g f h k [] so = refl
map_values-change_at g f h k (e ∷ es) so =
    elim (cases_Bool (e.0 == k)) [
      | inl here ↦ rw here (ap (λ b. (e.0, b) ∷ map_values g es) (rw here at so))
      | inr there ↦ rw there (ap (λ rest. (e.0, g e.1) ∷ rest) (map_values-change_at g f h k es (rw there at so)))
    ]

-- the same of the widgets in a window
changed_in : {A B : Type 0} (g : A → B) (f : A → A) (h : B → B) (k : ℕ) (o : Option (List (ℕ × A))) → IfSome (option_and_then (λ ws. at_id k ws) o) (λ a. g (f a) ≡ h (g a))
    → IfSome o (λ ws. map_values g (change_at k f ws) ≡ change_at k h (map_values g ws))
changed_in g f h k None so = tt
changed_in g f h k (Some ws) so = map_values-change_at g f h k ws so

-- and of those of a board
map_values-change_widget : {A B : Type 0} (g : A → B) (f : A → A) (h : B → B) (p : Place) (b : Grouped A) → IfSome (widget_at p b) (λ a. g (f a) ≡ h (g a))
    → map_values (λ ws. map_values g ws) (change_widget p f b) ≡ change_widget p h (map_values (λ ws. map_values g ws) b)
map_values-change_widget g f h p b so =
    map_values-change_at (λ ws. map_values g ws) (λ ws. change_at p.1 f ws) (λ ws. change_at p.1 h ws) p.0 b (changed_in g f h p.1 (at_id p.0 b) so)

-- a change that changes nothing
change_at-none : {A : Type 0} (k : ℕ) (es : List (ℕ × A)) → change_at k (λ a. a) es ≡ es
change_at-none k [] = refl
change_at-none k (e ∷ es) = elim (cases_Bool (e.0 == k)) [ inl here ↦ rw here refl | inr there ↦ rw there (ap (λ rest. e ∷ rest) (change_at-none k es)) ]

-- the same of a board
change_widget-none : {A : Type 0} (p : Place) (b : Grouped A) → change_widget p (λ a. a) b ≡ b
change_widget-none p b = ap (λ h. change_at p.0 h b) (λ i ws. change_at-none p.1 ws i) ∙ change_at-none p.0 b

-- what is put under an id, if a change makes it of what was there
pub put-changed : {A : Type 0} → (k : ℕ) (f : A → A) (es : List (ℕ × A)) (a : A) → Some a ≡ at_id k es → change_at k (λ _. f a) es ≡ change_at k f es
put-changed k f es a there = change_at-agree k (λ _. f a) f es (rw (sym there) refl)

-- what was there is put again
pub put-same : {A : Type 0} → (k : ℕ) (es : List (ℕ × A)) (a : A) → Some a ≡ at_id k es → change_at k (λ _. a) es ≡ es
put-same {A} k es a there = put-changed k (λ (x : A). x) es a there ∙ change_at-none k es

-- w in place of v
module _ {A : Type 0} (p : Place) (b : Grouped A) (v w : A) (there : widget_at p b ≡ Some v) where
  -- the board then
  abbrev pub written : Grouped A
  written = change_widget p (λ _. w) b

  -- the widget there
  pub widget_at-written : widget_at p written ≡ Some w
  widget_at-written = widget_at-same p (λ _. w) b ∙ ap (λ o. option_map (λ _. w) o) there

  -- a widget that looks changed
  pub changed-written : {B : Type 0} (g : A → B) (h : B → B) → g w ≡ h (g v) → map_values (λ ws. map_values g ws) written ≡ change_widget p h (map_values (λ ws. map_values g ws) b)
  changed-written g h changed = map_values-change_widget g (λ _. w) h p b (rw there changed)

  -- a widget that looks the same
  pub same-written : {B : Type 0} (g : A → B) → g w ≡ g v → map_values (λ ws. map_values g ws) written ≡ map_values (λ ws. map_values g ws) b
  same-written {B} g same = changed-written g (λ (x : B). x) same ∙ change_widget-none p (map_values (λ ws. map_values g ws) b)

-- The room of a board when the widget at a place is changed.

-- a fact of the changed value, if there is one, that follows from one of the value before
if_changed : {A : Type 0} (P Q : A → Type 0) (f : A → A) (o : Option A) → IfSome o (λ a. P a → Q (f a)) → IfSome o P → IfSome (option_map f o) Q
if_changed P Q f None one had = tt
if_changed P Q f (Some a) one had = one had

-- what holds of the widget at any place after that at one is changed, if it held of each before
widget_at-change_if : {A : Type 0} (P Q : A → Type 0) (p q : Place) (f : A → A) (b : Grouped A) → IfSome (widget_at p b) (λ a. P a → Q (f a)) → ((a : A) → P a → Q a)
    → IfSome (widget_at q b) P → IfSome (widget_at q (change_widget p f b)) Q
widget_at-change_if P Q p q f b one all had =
    elim (cases_Bool (same_place p q)) [
      | inl same ↦
          let is = same_place-true p q same in
          subst (λ r. IfSome (widget_at r (change_widget p f b)) Q) is
          (rw (widget_at-same p f b) (if_changed P Q f (widget_at p b) one (rw (← is) at had)))
      | inr other ↦ rw (widget_at-other p q f b other) (IfSome_then (widget_at q b) had all)
    ]

-- w in place of v
module _ (p : Place) (b : board.Windows) (v w : Widget) (there : widget_at p b ≡ Some v) where
  -- no room is lost if the widget loses none
  pub KeepsRoom-written : widget.KeepsRoom v w → board.KeepsRoom b (change_widget p (λ _. w) b)
  KeepsRoom-written kept = λ o n.
      widget_at-change_if (widget.HasRoom o.op n) (widget.HasRoom o.op n) p (board.place o) (λ _. w) b (rw there (kept o.op n)) (λ a room. room)

  -- room of one operation is lost at most if the widget loses no more
  pub TakesRoomOfOne-written : widget.TakesRoomOfOne v w → board.TakesRoomOfOne b (change_widget p (λ _. w) b)
  TakesRoomOfOne-written takes = λ o n.
      widget_at-change_if (widget.HasRoom o.op (n + 1)) (widget.HasRoom o.op n) p (board.place o) (λ _. w) b (rw there (takes o.op n))
      (λ a room. widget_laws.room_less n o.op a room)

-- Tables of entries under ids.

-- the place of a new entry

-- the length of a list that may be empty
length-cond : {A : Type 0} (b : Bool) (x : A) (xs : List A) → length (cond b (x ∷ xs) []) ≡ (if b then suc (length xs) else 0)
length-cond true x xs = refl
length-cond false x xs = refl

-- the place of a new entry, from the first entry on
slot_of-cons : {A : Type 0} (k : ℕ) (e : ℕ × A) (es : List (ℕ × A)) → slot_of k (e ∷ es) ≡ (if nat_lt e.0 k then suc (slot_of k es) else 0)
slot_of-cons k e es =
    ap (λ xs. length xs) (take_while-cons (λ x. nat_lt x.0 k) e es) ∙ length-cond (nat_lt e.0 k) e (take_while (λ x. nat_lt x.0 k) es)

-- the place of a new entry is within the list
pub slot_of-within : {A : Type 0} → (k : ℕ) (es : List (ℕ × A)) → slot_of k es ≤ length es
slot_of-within k [] = omega arith
slot_of-within k (e ∷ es) =
    rw (slot_of-cons k e es) (elim (cases_Bool (nat_lt e.0 k)) [
      | inl below ↦ rw below (let rest = slot_of-within k es in omega arith)
      | inr over ↦ rw over (omega arith)
    ])

-- an id that is absent is absent from the rest
absent_rest : {A : Type 0} (b : Bool) (a : A) (o : Option A) → cond b (Some a) o ≡ None → (b ≡ false) × (o ≡ None)
absent_rest true a o h = absurd (none-some a (sym h))
absent_rest false a o h = (refl, h)

-- ids still ascend with a new entry in its place
AreOver-with_entry : {A : Type 0} (n k : ℕ) (a : A) (es : List (ℕ × A)) → n < k → at_id k es ≡ None → AreOver n es → AreOver n (insert es (slot_of k es) (k, a))
AreOver-with_entry n k a [] above absent over = (above, tt)
AreOver-with_entry n k a (e ∷ es) above absent over =
    let none = absent_rest (e.0 == k) e.1 (at_id k es) absent in
    rw (slot_of-cons k e es) (elim (cases_Bool (nat_lt e.0 k)) [
      | inl below ↦
          let lt : e.0 < k = ltb-true e.0 k below in
          rw below (over.0, AreOver-with_entry e.0 k a es lt none.1 over.1)
      | inr not_below ↦
          let le : k ≤ e.0 = ltb-false e.0 k not_below in
          let ne = eqb-false e.0 k none.0 in
          let lt : k < e.0 = omega (arith, le, ne) in
          rw not_below (above, (lt, over.1))
    ])

-- a table with a new entry is a table
pub IsTable-with_entry : {A : Type 0} → (k : ℕ) (a : A) (es : List (ℕ × A)) → 0 < k → at_id k es ≡ None → length es < 64 → IsTable es → IsTable (with_entry k a es)
IsTable-with_entry k a es above absent fits table =
    (AreOver-with_entry 0 k a es above absent table.0, let longer = length-insert es (slot_of k es) (k, a) (slot_of-within k es) in omega arith)

-- where the first entry with an id is, if one does

-- the entry at an index is the first one with the id
abbrev IsFirst : {A : Type 0} → ℕ → ℕ → List (ℕ × A) → Type 0
IsFirst k i [] = ⊥
IsFirst k zero (e ∷ es) = (e.0 == k) ≡ true
IsFirst k (suc i) (e ∷ es) = ((e.0 == k) ≡ false) × IsFirst k i es

-- the index of the first entry with an id, counted from n on
abbrev index_from : {A : Type 0} → ℕ → ℕ → List (ℕ × A) → Option ℕ
index_from n k es = position_from (λ e. e.0 == k) n es

-- m is the index of the first entry with an id, counted from n on
record Found {A : Type 0} (n k m : ℕ) (es : List (ℕ × A)) : Type 0 where
  pub at : ℕ
  pub is : m ≡ n + at
  pub first : IsFirst k at es

-- an entry of the rest
found_past : {A : Type 0} (n k m : ℕ) (e : ℕ × A) (es : List (ℕ × A)) → (e.0 == k) ≡ false → Found (n + 1) k m es → Found n k m (e ∷ es)
found_past n k m e es other found = let is = found.is in record { at = suc found.at; is = omega (arith, is); first = (other, found.first) }

-- the entry at the first index with the id is the first one
found_from : {A : Type 0} (n k m : ℕ) (es : List (ℕ × A)) → index_from n k es ≡ Some m → Found n k m es
found_from n k m [] h = absurd (none-some m h)
found_from n k m (e ∷ es) h =
    elim (cases_Bool (e.0 == k)) [
      | inl here ↦ let is = same_Some n m (rw here at h) in record { at = 0; is = omega (arith, is); first = here }
      | inr there ↦ found_past n k m e es there (found_from (n + 1) k m es (rw there at h))
    ]

-- the same, counted from 0
first_from : {A : Type 0} (k i : ℕ) (es : List (ℕ × A)) → Some i ≡ position (λ e. e.0 == k) es → IsFirst k i es
first_from k i es h =
    let found = found_from 0 k i es (sym (position_from-zero (λ e. e.0 == k) es) ∙ sym h) in
    let is = found.is in
    let e : found.at ≡ i = omega (arith, is) in
    rw e at found.first

-- an id with no index is absent
none_from : {A : Type 0} (n k : ℕ) (es : List (ℕ × A)) → index_from n k es ≡ None → at_id k es ≡ None
none_from n k [] h = refl
none_from n k (e ∷ es) h =
    elim (cases_Bool (e.0 == k)) [
      | inl here ↦ absurd (none-some n (sym (rw here at h)))
      | inr there ↦ rw there (none_from (n + 1) k es (rw there at h))
    ]

-- an id that a search does not find is absent
pub none_found : {A : Type 0} → (k : ℕ) (es : List (ℕ × A)) → None ≡ position (λ e. e.0 == k) es → at_id k es ≡ None
none_found k es h = none_from 0 k es (sym (position_from-zero (λ e. e.0 == k) es) ∙ sym h)

-- what the first entry with an id has is what the id has
first_is : {A : Type 0} (k i : ℕ) (es : List (ℕ × A)) → IsFirst k i es → option_map (λ e. e.1) (slice_get es i) ≡ at_id k es
first_is k i [] first = absurd first
first_is k zero (e ∷ es) first = rw first refl
first_is k (suc i) (e ∷ es) first = rw first.0 (first_is k i es first.1)

-- the value at an index that a search gave
pub found-is : {A : Type 0} → (k i : ℕ) (es : List (ℕ × A)) (a : A) → Some i ≡ position (λ e. e.0 == k) es → option_map (λ e. e.1) (slice_get es i) ≡ Some a → Some a ≡ at_id k es
found-is k i es a h is = sym is ∙ first_is k i es (first_from k i es h)

-- another value of the first entry with an id is another value under the id
first_changed : {A : Type 0} (k i : ℕ) (es : List (ℕ × A)) (a : A) → IsFirst k i es → with_value_at es i a ≡ change_at k (λ _. a) es
first_changed k i [] a first = absurd first
first_changed k zero (e ∷ es) a first = rw first refl
first_changed k (suc i) (e ∷ es) a first = rw first.0 (ap (λ rest. e ∷ rest) (first_changed k i es a first.1))

-- the same of an index that a search gave
pub found-changed : {A : Type 0} → (k i : ℕ) (es : List (ℕ × A)) (a : A) → Some i ≡ position (λ e. e.0 == k) es → with_value_at es i a ≡ change_at k (λ _. a) es
found-changed k i es a h = first_changed k i es a (first_from k i es h)

-- the value of the entry at an index

-- what an entry has that is read
pub value-at : {A : Type 0} → (i : ℕ) (es : List (ℕ × A)) (e : ℕ × A) → i < length es → e ≡ get_or es i e → option_map (λ x. x.1) (slice_get es i) ≡ Some e.1
value-at i [] e within h = absurd (omega (arith, within))
value-at zero (x ∷ es) e within h = ap (λ y. Some y.1) (sym h)
value-at (suc i) (x ∷ es) e within h = value-at i es e (omega (arith, within)) h

-- an entry that is set keeps its id
pub value-set : {A : Type 0} → (i : ℕ) (es : List (ℕ × A)) (e : ℕ × A) (a : A) → e ≡ get_or es i e → set es i (e.0, a) ≡ with_value_at es i a
value-set i [] e a h = refl
value-set zero (x ∷ es) e a h = ap (λ y. (y.0, a) ∷ es) h
value-set (suc i) (x ∷ es) e a h = ap (λ rest. x ∷ rest) (value-set i es e a h)

-- ids still ascend when a value is set
AreOver-set : {A : Type 0} (n i : ℕ) (es : List (ℕ × A)) (e : ℕ × A) (a : A) → e ≡ get_or es i e → AreOver n es → AreOver n (set es i (e.0, a))
AreOver-set n i [] e a h over = tt
AreOver-set n zero (x ∷ es) e a h over = rw h over
AreOver-set n (suc i) (x ∷ es) e a h over = (over.0, AreOver-set x.0 i es e a h over.1)

-- setting keeps the length
length-set_at : {A : Type 0} (i : ℕ) (es : List A) (a : A) → length (set es i a) ≡ length es
length-set_at i [] a = refl
length-set_at zero (x ∷ es) a = refl
length-set_at (suc i) (x ∷ es) a = ap suc (length-set_at i es a)

-- a table with a value set is a table
pub IsTable-set : {A : Type 0} → (i : ℕ) (es : List (ℕ × A)) (e : ℕ × A) (a : A) → e ≡ get_or es i e → IsTable es → IsTable (set es i (e.0, a))
IsTable-set i es e a h table = (AreOver-set 0 i es e a h table.0, rw (length-set_at i es (e.0, a)) table.1)

-- lists that differ in their values alone

-- ids ascend if they do with other values
AreOver-map : {A B : Type 0} (f : A → B) (n : ℕ) (es : List (ℕ × A)) → AreOver n (map_values f es) → AreOver n es
AreOver-map f n [] over = tt
AreOver-map f n (e ∷ es) over = (over.0, AreOver-map f e.0 es over.1)

-- and the other way round
AreOver-mapped : {A B : Type 0} (f : A → B) (n : ℕ) (es : List (ℕ × A)) → AreOver n es → AreOver n (map_values f es)
AreOver-mapped f n [] over = tt
AreOver-mapped f n (e ∷ es) over = (over.0, AreOver-mapped f e.0 es over.1)

-- other values, the same length
pub length_map_values : {A B : Type 0} → (f : A → B) (es : List (ℕ × A)) → length (map_values f es) ≡ length es
length_map_values f [] = refl
length_map_values f (e ∷ es) = ap suc (length_map_values f es)

-- entries that look the same are both tables
pub IsTable-same : {A B : Type 0} → (f : A → B) (xs ys : List (ℕ × A)) → map_values f xs ≡ map_values f ys → IsTable ys → IsTable xs
IsTable-same f xs ys same table =
    let long = sym (length_map_values f xs) ∙ ap (λ es. length es) same ∙ length_map_values f ys in
    (AreOver-map f 0 xs (rw same (AreOver-mapped f 0 ys table.0)), rw long table.1)

-- one more entry of a list that is copied in order
pub map_values-append : {A B : Type 0} → (f : A → B) (xs ys : List (ℕ × A)) → map_values f (xs ++ ys) ≡ map_values f xs ++ map_values f ys
map_values-append f [] ys = refl
map_values-append f (x ∷ xs) ys = ap (λ rest. (x.0, f x.1) ∷ rest) (map_values-append f xs ys)

-- one more of the first entries
map_take : {A B : Type 0} (f : A → B) (ys : List (ℕ × A)) (k : ℕ) (e : ℕ × A) → k < length ys → e ≡ get_or ys k e
    → map_values f (take (suc k) ys) ≡ map_values f (take k ys) ++ (e.0, f e.1) ∷ []
map_take f [] k e within h = absurd (omega (arith, within))
map_take f (y ∷ ys) zero e within h = ap (λ z. (z.0, f z.1) ∷ []) (sym h)
map_take f (y ∷ ys) (suc k) e within h = ap (λ rest. (y.0, f y.1) ∷ rest) (map_take f ys k e (omega (arith, within)) h)

-- one more entry that is copied
pub copied_more : {A B : Type 0} → (f : A → B) (xs ys : List (ℕ × A)) (k : ℕ) (e : ℕ × A) (a : A) → map_values f xs ≡ map_values f (take k ys)
    → k < length ys → e ≡ get_or ys k e → f a ≡ f e.1 → map_values f (xs ++ (e.0, a) ∷ []) ≡ map_values f (take (k + 1) ys)
copied_more f xs ys k e a so_far within h same =
    let next : k + 1 ≡ suc k = omega arith in
    rw next (map_values-append f xs ((e.0, a) ∷ []) ∙ ap (λ zs. zs ++ (e.0, f a) ∷ []) so_far ∙ ap (λ b. map_values f (take k ys) ++ (e.0, b) ∷ []) same
    ∙ sym (map_take f ys k e within h))
