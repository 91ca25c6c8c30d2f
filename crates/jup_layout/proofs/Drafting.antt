-- A board as its lines make it, one by one.
use Rattle.std.proofs.Common.{◌≡◌, ℕ, zero, suc, false, cond, ◌==◌, nat_lt, List, [], ◌∷◌, length, Option, Some, None, Result, Ok, Err, refl, sym, ap, subst, ◌∙◌, inl, inr, insert, nat_le, IsTrue, ◌+◌, ◌≤◌, Bool, true, ◌++◌, arith, ◌≢◌, ◌||◌, length-append}
use Rattle.std.proofs.lemmas.Bool.{cases_Bool, eqb-true, eq-eqb, ne_eqb}
use Rattle.std.proofs.lemmas.List.Sums.{take_while-cons}
use Rattle.std.proofs.lemmas.Option.{none-some}
use Rattle.std.proofs.lemmas.List.Edits.{length-insert, insert_end}
use Rattle.std.specs.Ordering.{nat_cmp, ordering_then, is_eq}
use Rattle.std.specs.Cmp.{both_tied, unsigned_ties}
use Rattle.jup_layout.specs.Prelude.{Added, AddedChar, AddedLabel, most_entries, Item, Name, Items, has_name, name_eq, BoardFault, Widget, WidgetValue, Text, Labels, Line, Refusal, NoMemory, DoubleId, TooMany, BadId, BadBounds, Misplaced, BadItemName, Distinct, said_widget, said_none, option_map, is_none}
use Rattle.jup_window.specs.declared.faults.BoardFault.TheVariants as fault
use Rattle.jup_window.specs.Entries.{double_fault, entry_fault, fault_in, widget_fault, RefusesBy, at_id, change_at, slot_of, with_entry, map_values}
use Rattle.jup_window.specs.Laws.Entries.{at_id-map, at_id-same, at_id-other}
use Rattle.jup_window.specs.Boards as board
use Rattle.jup_window.specs.Widgets as widget
use Rattle.jup_window.proofs.BoardChanges.{slot_of-within}
use Rattle.jup_wire.specs.declared.line.Line.TheVariants as line
use Rattle.jup_window.specs.Kinds.{HasNoItems}
use Rattle.jup_layout.specs.Drafts.{refusal_of, Drafted, put_into, whole, unless, with_window, with_widget_in, bare_last, is_free, Follows, with_said, with_added, taken, items_in_last, naming_refusal, next_naming, first_refusal, with_item, ◌>>?◌, at_line, lines_taken, AddsName}

-- What a draft's calls give, apart from the room of its sequences.

-- # A board without its room

slot_of-map : {A B : Type 0} (f : A → B) (k : ℕ) (es : List (ℕ × A)) → slot_of k (map_values f es) ≡ slot_of k es
slot_of-map f k [] = refl
slot_of-map f k (e ∷ es) =
    ap (λ xs. length xs) (take_while-cons (λ x. nat_lt x.0 k) (e.0, f e.1) (map_values f es))
    ∙ elim (cases_Bool (nat_lt e.0 k)) [
      | inl below ↦ rw below (ap suc (slot_of-map f k es))
      | inr over ↦ rw over refl
    ]
    ∙ ap (λ xs. length xs) (sym (take_while-cons (λ x. nat_lt x.0 k) e es))

insert-map : {A B : Type 0} (f : A → B) (es : List (ℕ × A)) (i k : ℕ) (a : A) → map_values f (insert es i (k, a)) ≡ insert (map_values f es) i (k, f a)
insert-map f [] zero k a = refl
insert-map f [] (suc i) k a = refl
insert-map f (e ∷ es) zero k a = refl
insert-map f (e ∷ es) (suc i) k a = ap (λ xs. (e.0, f e.1) ∷ xs) (insert-map f es i k a)

-- one more entry
pub with_entry-map : {A B : Type 0} (f : A → B) (k : ℕ) (a : A) (es : List (ℕ × A)) → map_values f (with_entry k a es) ≡ with_entry k (f a) (map_values f es)
with_entry-map f k a es = insert-map f es (slot_of k es) k a ∙ ap (λ i. insert (map_values f es) i (k, f a)) (sym (slot_of-map f k es))

change_at-map : {A B : Type 0} (g : A → B) (f : A → A) (h : B → B) → ((a : A) → g (f a) ≡ h (g a)) → (k : ℕ) (es : List (ℕ × A)) → map_values g (change_at k f es) ≡ change_at k h (map_values g es)
change_at-map g f h same k [] = refl
change_at-map g f h same k (e ∷ es) =
    elim (cases_Bool (e.0 == k)) [
      | inl here ↦ rw here (ap (λ b. (e.0, b) ∷ map_values g es) (same e.1))
      | inr there ↦ rw there (ap (λ xs. (e.0, g e.1) ∷ xs) (change_at-map g f h same k es))
    ]

length-map : {A B : Type 0} (f : A → B) (es : List (ℕ × A)) → length (map_values f es) ≡ length es
length-map f [] = refl
length-map f (e ∷ es) = ap suc (length-map f es)

double_fault-map : {A B : Type 0} (f : A → B) (o : Option A) (es : List (ℕ × A)) → double_fault (option_map f o) (map_values f es) ≡ double_fault o es
double_fault-map f (Some a) es = refl
double_fault-map f None es = ap (λ n. cond (nat_le most_entries n) (Some fault.TooMany) None) (length-map f es)

pub entry_fault-map : {A B : Type 0} (f : A → B) (k : ℕ) (es : List (ℕ × A)) → entry_fault k (map_values f es) ≡ entry_fault k es
entry_fault-map f k es =
    ap (λ o. cond (k == 0) (Some fault.BadId) o) (ap (λ o. double_fault o (map_values f es)) (at_id-map f k es) ∙ double_fault-map f (at_id k es) es)

fault_in-map : (wid : ℕ) (o : Option (List (ℕ × Widget))) → fault_in wid (option_map board.bare_widgets o) ≡ fault_in wid o
fault_in-map wid None = refl
fault_in-map wid (Some ws) = entry_fault-map widget.bare wid ws

pub widget_fault-bare : (win wid : ℕ) (b : board.Windows) → widget_fault win wid (board.bare b) ≡ widget_fault win wid b
widget_fault-bare win wid b = ap (λ o. fault_in wid o) (at_id-map board.bare_widgets win b) ∙ fault_in-map wid (at_id win b)

-- one more widget in a window
pub put-bare : (win wid : ℕ) (w : Widget) (b : board.Windows) → board.bare (change_at win (with_entry wid w) b) ≡ change_at win (with_entry wid (widget.bare w)) (board.bare b)
put-bare win wid w b = change_at-map board.bare_widgets (with_entry wid w) (with_entry wid (widget.bare w)) (λ ws. with_entry-map widget.bare wid w ws) win b

-- # An entry more, and the others

-- an id that may be put among others is not among them
pub fresh-id : {A : Type 0} (k : ℕ) (es : List (ℕ × A)) → entry_fault k es ≡ None → at_id k es ≡ None
fresh-id {A} k es free =
    elim (cases_Bool (k == 0)) [
      | inl bad ↦ absurd (let no : Some fault.BadId ≡ None = rw bad at free in cc)
      | inr other ↦ none (at_id k es) (rw other at free)
    ]
  where
    none : (o : Option A) → double_fault o es ≡ None → o ≡ None
    none None e = refl
    none (Some a) e = absurd cc

pub at_id-insert : {A : Type 0} (h : ℕ) (es : List (ℕ × A)) (i : ℕ) (e : ℕ × A) → (e.0 == h) ≡ false → at_id h (insert es i e) ≡ at_id h es
at_id-insert h [] zero e other = rw other refl
at_id-insert h [] (suc i) e other = rw other refl
at_id-insert h (x ∷ es) zero e other = rw other refl
at_id-insert h (x ∷ es) (suc i) e other =
    elim (cases_Bool (x.0 == h)) [
      | inl here ↦ rw here refl
      | inr there ↦ rw there (at_id-insert h es i e other)
    ]

change_at-insert : {A : Type 0} (h : ℕ) (f : A → A) (es : List (ℕ × A)) (i : ℕ) (e : ℕ × A) → (e.0 == h) ≡ false → change_at h f (insert es i e) ≡ insert (change_at h f es) i e
change_at-insert h f [] zero e other = rw other refl
change_at-insert h f [] (suc i) e other = rw other refl
change_at-insert h f (x ∷ es) zero e other =
    elim (cases_Bool (x.0 == h)) [
      | inl here ↦ rw (other, here) refl
      | inr there ↦ rw (other, there) refl
    ]
change_at-insert h f (x ∷ es) (suc i) e other =
    elim (cases_Bool (x.0 == h)) [
      | inl here ↦ rw here refl
      | inr there ↦ rw there (ap (λ xs. x ∷ xs) (change_at-insert h f es i e other))
    ]

slot_of-change : {A : Type 0} (k h : ℕ) (f : A → A) (es : List (ℕ × A)) → slot_of k (change_at h f es) ≡ slot_of k es
slot_of-change k h f [] = refl
slot_of-change k h f (e ∷ es) =
    elim (cases_Bool (e.0 == h)) [
      | inl here ↦ rw here (same (e.0, f e.1) e es es refl refl)
      | inr there ↦ rw there (same e e (change_at h f es) es refl (slot_of-change k h f es))
    ]
  where
    same : {A : Type 0} (x y : ℕ × A) (xs ys : List (ℕ × A)) → x.0 ≡ y.0 → slot_of k xs ≡ slot_of k ys → slot_of k (x ∷ xs) ≡ slot_of k (y ∷ ys)
    same x y xs ys ids rest =
        ap (λ zs. length zs) (take_while-cons (λ z. nat_lt z.0 k) x xs)
        ∙ rw ids (elim (cases_Bool (nat_lt y.0 k)) [
          | inl below ↦ rw below (ap suc rest)
          | inr over ↦ rw over refl
        ])
        ∙ ap (λ zs. length zs) (sym (take_while-cons (λ z. nat_lt z.0 k) y ys))

change_at-with : {A : Type 0} (h k : ℕ) (f : A → A) (a : A) (es : List (ℕ × A)) → (k == h) ≡ false → change_at h f (with_entry k a es) ≡ with_entry k a (change_at h f es)
change_at-with h k f a es other = change_at-insert h f es (slot_of k es) (k, a) other ∙ ap (λ i. insert (change_at h f es) i (k, a)) (sym (slot_of-change k h f es))

length-change : {A : Type 0} (h : ℕ) (f : A → A) (es : List (ℕ × A)) → length (change_at h f es) ≡ length es
length-change h f [] = refl
length-change h f (e ∷ es) =
    elim (cases_Bool (e.0 == h)) [
      | inl here ↦ rw here refl
      | inr there ↦ rw there (ap suc (length-change h f es))
    ]

-- a changed entry changes no refusal of another
entry_fault-change : {A : Type 0} (k h : ℕ) (f : A → A) (es : List (ℕ × A)) → entry_fault k (change_at h f es) ≡ entry_fault k es
entry_fault-change {A = A} k h f es = ap (λ o. cond (k == 0) (Some fault.BadId) o) (elim (cases_Bool (h == k)) [
  | inl here ↦ ap (λ j. double_fault (at_id j (change_at h f es)) (change_at h f es)) (sym (eqb-true h k here)) ∙ ap (λ o. double_fault o (change_at h f es)) (at_id-same h f es) ∙ mapped (at_id h es) ∙ ap (λ j. double_fault (at_id j es) es) (eqb-true h k here)
  | inr there ↦ ap (λ o. double_fault o (change_at h f es)) (at_id-other h k f es there) ∙ kept (at_id k es)
])
  where
    kept : (o : Option A) → double_fault o (change_at h f es) ≡ double_fault o es
    kept (Some a) = refl
    kept None = ap (λ n. cond (nat_le most_entries n) (Some fault.TooMany) None) (length-change h f es)

    mapped : (o : Option A) → double_fault (option_map f o) (change_at h f es) ≡ double_fault o es
    mapped (Some a) = refl
    mapped None = kept None

-- # The last widget, and one more window

pub entry_fault-whole : (home : Option ℕ) (last : Option (ℕ × Widget)) (b : board.Windows) (win : ℕ) → entry_fault win (put_into home last b) ≡ entry_fault win b
entry_fault-whole None last b win = refl
entry_fault-whole (Some h) None b win = refl
entry_fault-whole (Some h) (Some e) b win = entry_fault-change win h (with_entry e.0 e.1) b

other-window : (h wid win : ℕ) (b : board.Windows) → entry_fault win b ≡ None → IsTrue (is_none (widget_fault h wid b)) → (win == h) ≡ false
other-window h wid win b free home =
    elim (cases_Bool (win == h)) [
      | inl same ↦ absurd (let no : IsTrue (is_none (fault_in {A = Widget} wid None)) = subst (λ o. IsTrue (is_none (fault_in wid o))) (ap (λ k. at_id k b) (sym (eqb-true win h same)) ∙ fresh-id win b free) home in cc)
      | inr other ↦ other
    ]

pub free-more : (home : Option ℕ) (last : Option (ℕ × Widget)) (b : board.Windows) (win : ℕ) → entry_fault win b ≡ None → IsTrue (is_free home last b) → IsTrue (is_free home last (with_entry win [] b))
free-more None last b win free is = refl
free-more (Some h) None b win free is = refl
free-more (Some h) (Some e) b win free is =
    subst (λ o. IsTrue (is_none (fault_in e.0 o))) (sym (at_id-insert h b (slot_of win b) (win, []) (other-window h e.0 win b free is))) is

pub whole-more : (home : Option ℕ) (last : Option (ℕ × Widget)) (b : board.Windows) (win : ℕ) → entry_fault win b ≡ None → IsTrue (is_free home last b)
    → put_into home last (with_entry win [] b) ≡ with_entry win [] (put_into home last b)
whole-more None last b win free is = refl
whole-more (Some h) None b win free is = refl
whole-more (Some h) (Some e) b win free is = change_at-with h win (with_entry e.0 e.1) [] b (other-window h e.0 win b free is)

-- # Refusals

pub same_Ok : {A E : Type 0} (a b : A) → (let r : Result A E = Ok a in r ≡ Ok b) → a ≡ b
same_Ok {A} {E} a b e = ap (value_or a) e
  where
    value_or : A → Result A E → A
    value_or d (Ok x) = x
    value_or d (Err x) = d

-- a refusal that is due
pub follows_err : {A B : Type 0} (view : A → B) (refusal : Refusal) (due : Result B Refusal) → due ≡ Err refusal → Follows view (Err refusal) due
follows_err view NoMemory due e = tt
follows_err view DoubleId due e = e
follows_err view TooMany due e = e
follows_err view BadId due e = e
follows_err view BadBounds due e = e
follows_err view Misplaced due e = e
follows_err view BadItemName due e = e

-- a board's refusal
pub refused : {A : Type 0} (due : Option BoardFault) (f : BoardFault) (a : A) → RefusesBy due (Err f) → Follows (λ (x : A). x) (Err (refusal_of f)) (unless (option_map refusal_of due) a)
refused None f a only = subst (λ x. Follows (λ y. y) (Err (refusal_of x)) (Ok a)) (sym only) tt
refused {A} (Some g) f a e =
    follows_err (λ (x : A). x) (refusal_of f) (Err (refusal_of g)) (ap (λ (r : Result (Unit {0}) BoardFault). Err (refusal_of (fault_or g r))) (sym e))
  where
    fault_or : BoardFault → Result (Unit {0}) BoardFault → BoardFault
    fault_or d (Ok x) = d
    fault_or d (Err x) = x

-- no refusal was due
pub allowed : (due : Option BoardFault) → RefusesBy due (Ok tt) → due ≡ None
allowed None h = refl
allowed (Some g) e = absurd cc

-- # Windows and widgets

pub window_refused : (win : ℕ) (d : Drafted) (b : board.Windows) (f : BoardFault) → d.board ≡ board.bare b → RefusesBy (entry_fault win b) (Err f)
    → Follows (λ (x : Drafted). x) (Err (refusal_of f)) (with_window win d)
window_refused win d b f same due =
    refused (entry_fault win d.board) f _ (subst (λ x. RefusesBy x (Err f)) (sym (ap (λ ws. entry_fault win ws) same ∙ entry_fault-map board.bare_widgets win b)) due)

pub window_taken : (win : ℕ) (d : Drafted) (b new : board.Windows) → d.board ≡ board.bare b → RefusesBy (entry_fault win b) (Ok tt) → new ≡ with_entry win [] b
    → with_window win d ≡ Ok (record { board = board.bare new; window = Some win; home = d.home; last = d.last; naming = d.naming })
window_taken win d b new same due is =
    let none : entry_fault win d.board ≡ None = ap (λ ws. entry_fault win ws) same ∙ entry_fault-map board.bare_widgets win b ∙ allowed (entry_fault win b) due in
    let after : with_entry win [] d.board ≡ board.bare new =
    ap (λ ws. with_entry win [] ws) same ∙ sym (with_entry-map board.bare_widgets win [] b) ∙ ap board.bare (sym is) in
    ap (λ f. unless (option_map refusal_of f) (record { board = with_entry win [] d.board; window = Some win; home = d.home; last = d.last; naming = d.naming })) none
    ∙ ap (λ ws. Ok (record { board = ws; window = Some win; home = d.home; last = d.last; naming = d.naming })) after

pub widget_refused : (win wid : ℕ) (w : Widget) (d : Drafted) (b : board.Windows) (f : BoardFault) → d.window ≡ Some win → whole d ≡ board.bare b → Some f ≡ widget_fault win wid b
    → Follows (λ (x : Drafted). x) (Err (refusal_of f)) (with_widget_in d.window wid w d)
widget_refused win wid w d b f here same due =
    subst (λ o. Follows (λ (x : Drafted). x) (Err (refusal_of f)) (with_widget_in o wid w d)) (sym here)
    (follows_err (λ (x : Drafted). x) (refusal_of f)
    (unless (option_map refusal_of (widget_fault win wid (whole d))) (record { board = whole d; window = Some win; home = Some win; last = Some (wid, w); naming = d.naming }))
    (ap (λ x. unless (option_map refusal_of x) (record { board = whole d; window = Some win; home = Some win; last = Some (wid, w); naming = d.naming })) (ap (λ ws. widget_fault win wid ws) same ∙ widget_fault-bare win wid b ∙ sym due)))

pub widget_taken : (win wid : ℕ) (w : Widget) (d : Drafted) (b : board.Windows) → d.window ≡ Some win → whole d ≡ board.bare b → widget_fault win wid b ≡ None
    → with_widget_in d.window wid w d ≡ Ok (record { board = board.bare b; window = Some win; home = Some win; last = Some (wid, w); naming = d.naming })
widget_taken win wid w d b here same none =
    ap (λ o. with_widget_in o wid w d) here
    ∙ ap (λ x. unless (option_map refusal_of x) (record { board = whole d; window = Some win; home = Some win; last = Some (wid, w); naming = d.naming })) (ap (λ ws. widget_fault win wid ws) same ∙ widget_fault-bare win wid b ∙ none)
    ∙ ap (λ ws. Ok (record { board = ws; window = Some win; home = Some win; last = Some (wid, w); naming = d.naming })) same

-- the board that the lines describe, from a draft's parts
pub whole-bare : (win wid : ℕ) (w : Widget) (home : Option ℕ) (last : Option (ℕ × Widget)) (b : board.Windows) → home ≡ Some win → last ≡ Some (wid, w)
    → put_into home (bare_last last) (board.bare b) ≡ board.bare (change_at win (with_entry wid w) b)
whole-bare win wid w home last b here is =
    ap (λ o. put_into o (bare_last last) (board.bare b)) here ∙ ap (λ o. put_into (Some win) (bare_last o) (board.bare b)) is ∙ sym (put-bare win wid w b)

-- A line adds at most one item to the last widget.

pub unless_ok : {A : Type 0} (due : Option Refusal) (a b : A) → unless due a ≡ Ok b → a ≡ b
unless_ok None a b e = same_Ok a b e
unless_ok (Some refusal) a b e = absurd cc

in_widget : (o : Option ℕ) (wid : ℕ) (w : Widget) (d next : Drafted) (n : ℕ) → items_in_last (Some (wid, w)) ≡ 0 → with_widget_in o wid w d ≡ Ok next → items_in_last next.last ≤ n + 1
in_widget None wid w d next n empty e = absurd cc
in_widget (Some win) wid w d next n empty e =
    subst (λ x. items_in_last x.last ≤ n + 1) (unless_ok _ _ next e) (omega (arith, empty))

-- a widget without items has none
no_items_in : (wid : ℕ) (w : Widget) → HasNoItems w → items_in_last (Some (wid, w)) ≡ 0
no_items_in wid (Text x) none = absurd none
no_items_in wid (Labels x) none = absurd none
no_items_in wid w none = refl

pub said_empty : (wid : ℕ) (value : WidgetValue) (w : Widget) → said_widget value ≡ Some w → items_in_last (Some (wid, w)) ≡ 0
said_empty wid value w is = no_items_in wid w (said_none value w is)

in_said : (o : Option ℕ) (said : Option Widget) (wid : ℕ) (d next : Drafted) (n : ℕ) → ((w : Widget) → said ≡ Some w → items_in_last (Some (wid, w)) ≡ 0) → with_said o said wid d ≡ Ok next → items_in_last next.last ≤ n + 1
in_said None said wid d next n empty e = absurd cc
in_said (Some win) (Some w) wid d next n empty e = in_widget d.window wid w d next n (empty w refl) e
in_said (Some win) None wid d next n empty e = absurd cc

one_more : {V : Type 0} (items : List (Item V)) (item : Item V) → length (items ++ item ∷ []) ≤ length items + 1
one_more items item = omega (arith, length-append items (item ∷ []))

in_item : (o : Option (ℕ × Widget)) (added : Added) (d next : Drafted) → with_added o added d ≡ Ok next → items_in_last next.last ≤ items_in_last o + 1
in_item None added d next e = absurd cc
in_item (Some (wid, Text x)) (AddedChar item) d next e = subst (λ y. items_in_last y.last ≤ length x.items + 1) (unless_ok _ _ next e) (one_more x.items item)
in_item (Some (wid, Text x)) (AddedLabel item) d next e = absurd cc
in_item (Some (wid, Labels x)) (AddedChar item) d next e = absurd cc
in_item (Some (wid, Labels x)) (AddedLabel item) d next e = subst (λ y. items_in_last y.last ≤ length x.items + 1) (unless_ok _ _ next e) (one_more x.items item)
in_item (Some (wid, other)) added d next e = absurd cc

pub taken_grows : (d next : Drafted) (l : Line) → taken d l ≡ Ok next → items_in_last next.last ≤ items_in_last d.last + 1
taken_grows d next (line.Window win) e = subst (λ x. items_in_last x.last ≤ items_in_last d.last + 1) (unless_ok _ _ next e) (omega arith)
taken_grows d next (line.Text wid) e = in_widget d.window wid _ d next (items_in_last d.last) refl e
taken_grows d next (line.List wid) e = in_widget d.window wid _ d next (items_in_last d.last) refl e
taken_grows d next (line.Value wid value) e = in_said d.window (said_widget value) wid d next (items_in_last d.last) (said_empty wid value) e
taken_grows d next (line.Char name value) e = in_item d.last _ d next e
taken_grows d next (line.Item name value) e = in_item d.last _ d next e
taken_grows d next line.Hello e = absurd cc
taken_grows d next (line.Welcome site limit) e = absurd cc
taken_grows d next line.Ready e = absurd cc
taken_grows d next (line.Batch mine heard count) e = absurd cc
taken_grows d next (line.Do op) e = absurd cc
taken_grows d next (line.Ack n) e = absurd cc
taken_grows d next (line.Ping n) e = absurd cc
taken_grows d next (line.Pong n) e = absurd cc
taken_grows d next line.Bye e = absurd cc
taken_grows d next (line.Error n) e = absurd cc

-- Entries under ids, after one more was put among them or one was changed.

first_absent : {A : Type 0} (here : Bool) (a : A) (rest : Option A) → cond here (Some a) rest ≡ None → (here ≡ false) × (rest ≡ None)
first_absent true a rest e = absurd (none-some a (sym e))
first_absent false a rest e = (refl, e)

-- ---- one more

insert-same : {A : Type 0} (k i : ℕ) (a : A) (es : List (ℕ × A)) → i ≤ length es → at_id k es ≡ None → at_id k (insert es i (k, a)) ≡ Some a
insert-same k zero a es within absent = rw (eq-eqb k k refl) refl
insert-same k (suc i) a [] within absent = absurd (omega (arith, within))
insert-same k (suc i) a (e ∷ es) within absent =
    let none = first_absent (e.0 == k) e.1 (at_id k es) absent in
    rw none.0 (insert-same k i a es (omega (arith, within)) none.1)

pub put-same : {A : Type 0} (k : ℕ) (a : A) (es : List (ℕ × A)) → at_id k es ≡ None → at_id k (with_entry k a es) ≡ Some a
put-same k a es absent = insert-same k (slot_of k es) a es (slot_of-within k es) absent

pub put-kept : {A : Type 0} (j k : ℕ) (a : A) (es : List (ℕ × A)) → j ≢ k → at_id k (with_entry j a es) ≡ at_id k es
put-kept j k a es other = at_id-insert k es (slot_of j es) (j, a) (ne_eqb j k other)

pub put-other : {A : Type 0} (j k : ℕ) (a : A) (es : List (ℕ × A)) → k ≢ j → at_id k es ≡ None → at_id k (with_entry j a es) ≡ None
put-other j k a es other absent = put-kept j k a es (λ e. other (sym e)) ∙ absent

-- another value of it leaves the same ids
insert-again : {A : Type 0} (j k i : ℕ) (a b : A) (es : List (ℕ × A)) → at_id k (insert es i (j, a)) ≡ None → at_id k (insert es i (j, b)) ≡ None
insert-again j k zero a b es gone = let none = first_absent (j == k) a (at_id k es) gone in rw none.0 none.1
insert-again j k (suc i) a b [] gone = let none = first_absent (j == k) a None gone in rw none.0 refl
insert-again j k (suc i) a b (e ∷ es) gone =
    let none = first_absent (e.0 == k) e.1 (at_id k (insert es i (j, a))) gone in
    rw none.0 (insert-again j k i a b es none.1)

pub put-again : {A : Type 0} (j k : ℕ) (a b : A) (es : List (ℕ × A)) → at_id k (with_entry j a es) ≡ None → at_id k (with_entry j b es) ≡ None
put-again j k a b es gone = insert-again j k (slot_of j es) a b es gone

pub put-length : {A : Type 0} (k : ℕ) (a : A) (es : List (ℕ × A)) → length (with_entry k a es) ≡ length es + 1
put-length k a es = length-insert es (slot_of k es) (k, a) (slot_of-within k es)

-- ---- a change

changed_none : {A : Type 0} (f : A → A) (o : Option A) → o ≡ None → option_map f o ≡ None
changed_none f None e = refl
changed_none f (Some a) e = absurd (none-some a (sym e))

pub changed-absent : {A : Type 0} (j k : ℕ) (f : A → A) (es : List (ℕ × A)) → at_id k es ≡ None → at_id k (change_at j f es) ≡ None
changed-absent j k f es absent =
    elim (cases_Bool (j == k)) [
      | inl here ↦ ap (λ i. at_id k (change_at i f es)) (eqb-true j k here) ∙ at_id-same k f es ∙ changed_none f (at_id k es) absent
      | inr there ↦ at_id-other j k f es there ∙ absent
    ]

none_changed : {A : Type 0} (f : A → A) (o : Option A) → option_map f o ≡ None → o ≡ None
none_changed f None e = refl
none_changed f (Some a) e = absurd (none-some (f a) (sym e))

pub changed-back : {A : Type 0} (j k : ℕ) (f : A → A) (es : List (ℕ × A)) → at_id k (change_at j f es) ≡ None → at_id k es ≡ None
changed-back j k f es gone =
    elim (cases_Bool (j == k)) [
      | inl here ↦ none_changed f (at_id k es) (sym (at_id-same k f es) ∙ ap (λ i. at_id k (change_at i f es)) (sym (eqb-true j k here)) ∙ gone)
      | inr there ↦ sym (at_id-other j k f es there) ∙ gone
    ]

pub changed-length : {A : Type 0} (j : ℕ) (f : A → A) (es : List (ℕ × A)) → length (change_at j f es) ≡ length es
changed-length j f [] = refl
changed-length j f (e ∷ es) =
    elim (cases_Bool (e.0 == j)) [
      | inl here ↦ rw here refl
      | inr there ↦ rw there (ap suc (changed-length j f es))
    ]

-- What is taken if names are numbered is taken if they are distinct, with the same answer.

-- the same lines, if the names have only to be distinct
abbrev pub plain : Drafted → Drafted
plain d = record d { naming = Distinct }

unless_plain : (due : Option Refusal) (a next : Drafted) → unless due a ≡ Ok next → unless due (plain a) ≡ Ok (plain next)
unless_plain None a next e = ap (λ x. Ok (plain x)) (same_Ok a next e)
unless_plain (Some refusal) a next e = absurd cc

first_plain : (due : Option Refusal) (held : Bool) (a next : Drafted) → unless (first_refusal due held) a ≡ Ok next → unless (first_refusal None held) (plain a) ≡ Ok (plain next)
first_plain None held a next e = unless_plain (first_refusal None held) a next e
first_plain (Some refusal) held a next e = absurd cc

item_plain : {V : Type 0} (make : Items V → Widget) (wid : ℕ) (x : Items V) (item : Item V) (d next : Drafted) → with_item make wid x item d ≡ Ok next → with_item make wid x item (plain d) ≡ Ok (plain next)
item_plain make wid x item d next e =
    first_plain (naming_refusal d.naming item.name (length x.items)) (has_name item.name x.items)
    (record d { last = Some (wid, make (record x { items = x.items ++ item ∷ [] })); naming = next_naming d.naming }) next e

widget_plain : (o : Option ℕ) (wid : ℕ) (w : Widget) (d next : Drafted) → with_widget_in o wid w d ≡ Ok next → with_widget_in o wid w (plain d) ≡ Ok (plain next)
widget_plain None wid w d next e = absurd cc
widget_plain (Some win) wid w d next e = unless_plain _ (record { board = whole d; window = Some win; home = Some win; last = Some (wid, w); naming = d.naming }) next e

said_plain : (o : Option ℕ) (said : Option Widget) (wid : ℕ) (d next : Drafted) → with_said o said wid d ≡ Ok next → with_said o said wid (plain d) ≡ Ok (plain next)
said_plain None said wid d next e = absurd cc
said_plain (Some win) (Some w) wid d next e = widget_plain d.window wid w d next e
said_plain (Some win) None wid d next e = absurd cc

added_plain : (o : Option (ℕ × Widget)) (added : Added) (d next : Drafted) → with_added o added d ≡ Ok next → with_added o added (plain d) ≡ Ok (plain next)
added_plain None added d next e = absurd cc
added_plain (Some (wid, Text x)) (AddedChar item) d next e = item_plain Text wid x item d next e
added_plain (Some (wid, Text x)) (AddedLabel item) d next e = absurd cc
added_plain (Some (wid, Labels x)) (AddedChar item) d next e = absurd cc
added_plain (Some (wid, Labels x)) (AddedLabel item) d next e = item_plain Labels wid x item d next e
added_plain (Some (wid, other)) added d next e = absurd cc

taken_plain : (d next : Drafted) (l : Line) → taken d l ≡ Ok next → taken (plain d) l ≡ Ok (plain next)
taken_plain d next (line.Window win) e = unless_plain _ _ next e
taken_plain d next (line.Text wid) e = widget_plain d.window wid _ d next e
taken_plain d next (line.List wid) e = widget_plain d.window wid _ d next e
taken_plain d next (line.Value wid value) e = said_plain d.window (said_widget value) wid d next e
taken_plain d next (line.Char name value) e = added_plain d.last _ d next e
taken_plain d next (line.Item name value) e = added_plain d.last _ d next e
taken_plain d next line.Hello e = absurd cc
taken_plain d next (line.Welcome site limit) e = absurd cc
taken_plain d next line.Ready e = absurd cc
taken_plain d next (line.Batch mine heard count) e = absurd cc
taken_plain d next (line.Do op) e = absurd cc
taken_plain d next (line.Ack n) e = absurd cc
taken_plain d next (line.Ping n) e = absurd cc
taken_plain d next (line.Pong n) e = absurd cc
taken_plain d next line.Bye e = absurd cc
taken_plain d next (line.Error n) e = absurd cc

goes_on : (number : ℕ) (d end : Drafted) (l : Line) (ls : List Line)
    → ((next : Drafted) → lines_taken (suc number) next ls ≡ Ok end → lines_taken (suc number) (plain next) ls ≡ Ok (plain end))
    → (r : Result Drafted Refusal) → taken d l ≡ r → (at_line number r >>? λ next. lines_taken (suc number) next ls) ≡ Ok end
    → (at_line number (taken (plain d) l) >>? λ next. lines_taken (suc number) next ls) ≡ Ok (plain end)
goes_on number d end l ls rest (Ok next) is e =
    ap (λ r. at_line number r >>? λ x. lines_taken (suc number) x ls) (taken_plain d next l is) ∙ rest next e
goes_on number d end l ls rest (Err refusal) is e = absurd cc

pub lines_plain : (lines : List Line) (number : ℕ) (d end : Drafted) → lines_taken number d lines ≡ Ok end → lines_taken number (plain d) lines ≡ Ok (plain end)
lines_plain [] number d end e = ap (λ x. Ok (plain x)) (same_Ok d end e)
lines_plain (l ∷ ls) number d end e =
    elim (cases_Bool (number == 4294967295)) [
      | inl last ↦ absurd (let no : Err (record { line = number; number = 11 }) ≡ Ok end = rw last at e in cc)
      | inr other ↦ rw other (goes_on number d end l ls (λ next h. lines_plain ls (suc number) next end h) (taken d l) refl (rw other at e))
    ]

-- The names of a sequence's items as a set.

-- two names are one if they compare equal
pub same_name : (a b : Name) → is_eq (ordering_then (nat_cmp a.site b.site) (nat_cmp a.number b.number)) ≡ name_eq a b
same_name a b = sym (both_tied (a.site == b.site) (a.number == b.number) (nat_cmp a.site b.site) (nat_cmp a.number b.number) (unsigned_ties a.site b.site) (unsigned_ties a.number b.number))

-- what is held after a name was added
pub or_cond : (e m h : Bool) → e ≡ m → cond e true h ≡ (m || h)
or_cond e m h same = ap (λ (b : Bool). cond b true h) same ∙ by m
  where
    by : (b : Bool) → cond b true h ≡ (b || h)
    by true = refl
    by false = refl

regroup : (a b c : Bool) → (a || (b || c)) ≡ (b || (a || c))
regroup true true c = refl
regroup true false c = refl
regroup false b c = refl

-- an item at the end adds its name
pub adds_last : {V : Type 0} (items : List (Item V)) (item : Item V) → AddsName item.name items (items ++ item ∷ [])
adds_last [] item other = refl
adds_last (x ∷ items) item other = ap (λ (b : Bool). name_eq x.name other || b) (adds_last items item other) ∙ regroup (name_eq x.name other) (name_eq item.name other) (has_name other items)

pub adds_at_end : {V : Type 0} (before mid after : List (Item V)) (item : Item V) (at : ℕ) → mid ≡ before → at ≡ length mid → after ≡ insert mid at item → AddsName item.name before after
adds_at_end {V} before mid after item at same end inserted =
    subst (λ (xs : List (Item V)). AddsName item.name before xs) (sym (inserted ∙ ap (λ (i : ℕ). insert mid i item) end ∙ insert_end mid item ∙ ap (λ (xs : List (Item V)). xs ++ item ∷ []) same)) (adds_last before item)
