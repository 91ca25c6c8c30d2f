-- Operations on boards are what a star asks for.
use Rattle.std.proofs.Common.{◌≡◌, ◌<◌, true, false, not, ◌&&◌, length, Option, Some, None, IsTrue, refl, ap, ◌∙◌, arith, nat_le, nat_lt, ◌↔◌, ℕ, suc, ◌≤◌, ◌==◌, List, sym, subst, inl, inr, Ok, Err, Result, slice_get, ◌+◌}
use Rattle.std.specs.Option.{IsSomeAnd, option_and_then, option_map}
use Rattle.std.proofs.lemmas.Bool.{and_parts, and_from, leb-true, le-leb, ltb-true, lt-ltb, not-true, not_from_false, false≢true, cases_Bool, eq-eqb, ltb-false, leb-false, false_from_ne_true, eqb-true}
use Rattle.jup_window.specs.Prelude.{small_length, longest_sequence, IsLawful, KeepsMeaning, Name, Item, Items, has_name, name_at, name_eq_same, name_eq_refl, SeqOp, Insert, Delete, Relabel, NoSeqOp, is_no_relabel, Widget, Text, Labels, WidgetOp, OnText, OnList, BoardOp, BoardEdit, EditFault, Command, InsertAt, DeleteAt, RelabelAt, SetValue, Char, Label}
use Rattle.jup_seq.specs.Operations as seq
use Rattle.jup_window.specs.Entries.{widget_at, at_id, change_widget}
use Rattle.jup_window.specs.Widgets.{relabels_no_text}
use Rattle.jup_window.specs.Commands.{named, on_widget, insertion, deletion, relabel, map_ok, and_then_ok, named_widget, in_window, found_widget, command_place, IsFresh, shown_on, shown}
use Rattle.jup_window.specs.Operations.{is_name, seq_accepts, widget_accepts, accepts_in, accepts, next_name, AreLawful, boards, board_operations}
use Rattle.jup_window.specs.Laws.Entries.{change_widget-agree, at_id-map, has_site-held, same_place-refl}
use Rattle.jup_window.specs.declared.kinds.Setting.{Setting}
use Rattle.jup_window.specs.Kinds.{IsSetting, setting_is, setting_bare, value_valid, valid_value, edit_of, is_next, bears_next, is_nothing, insertions, is_next_if_there, is_of_site, bears_site, count_of}
use Rattle.jup_window.specs.Boards.{has_site}
use Rattle.jup_window.specs.Laws.Widgets.{inserts_name, name_inserts, name_deletes, differ_from}
use Rattle.jup_window.specs.Widgets as widget
use Rattle.jup_window.specs.Laws.Widgets as widget_laws
use Rattle.jup_window.specs.Boards as board
use Rattle.jup_window.specs.Kinds as effects
use Rattle.jup_window.specs.Laws.Boards as laws

-- The test whether an operation on a board may be applied says just that.

-- the test of validity

-- a name that is there and is this one
is_name-same : (n : Name) (o : Option Name) → is_name n o ≡ true → o ≡ Some n
is_name-same n None h = absurd (false≢true h)
is_name-same n (Some m) h = ap (λ k. Some k) (name_eq_same m n h)

-- what a sequence accepts is valid
seq-valid : {V : Type 0} (o : SeqOp V) (x : Items V) → seq_accepts o x ≡ true → seq.IsValid o x
seq-valid (Insert p y) x h =
    let parts = and_parts (nat_le p (length x.items)) (not (has_name y.name x.items) && nat_lt (length x.items) small_length) h in
    let rest = and_parts (not (has_name y.name x.items)) (nat_lt (length x.items) small_length) parts.1 in
    let small = ltb-true (length x.items) small_length rest.1 in
    (leb-true p (length x.items) parts.0, not-true (has_name y.name x.items) rest.0, omega (arith, small))
seq-valid (Delete p n) x h = is_name-same n (name_at p x.items) h
seq-valid (Relabel p n v) x h = is_name-same n (name_at p x.items) h
seq-valid NoSeqOp x h = tt

-- and what is valid it accepts
seq-accepts : {V : Type 0} (o : SeqOp V) (x : Items V) → seq.IsValid o x → seq_accepts o x ≡ true
seq-accepts (Insert p y) x h =
    let small = h.2 in
    let less : length x.items < small_length = omega (arith, small) in
    and_from (nat_le p (length x.items)) (not (has_name y.name x.items) && nat_lt (length x.items) small_length) (le-leb p (length x.items) h.0)
    (and_from (not (has_name y.name x.items)) (nat_lt (length x.items) small_length) (not_from_false (has_name y.name x.items) h.1) (lt-ltb (length x.items) small_length less))
seq-accepts (Delete p n) x h = ap (λ o. is_name n o) h ∙ name_eq_refl n
seq-accepts (Relabel p n v) x h = ap (λ o. is_name n o) h ∙ name_eq_refl n
seq-accepts NoSeqOp x h = refl

-- what a widget accepts is valid
widget-valid : (o : WidgetOp) (w : Widget) → widget_accepts o w ≡ true → widget.IsValid o w
widget-valid (OnText o) (Text x) h = let parts = and_parts (is_no_relabel o) (seq_accepts o x) h in (parts.0, seq-valid o x parts.1)
widget-valid (OnList o) (Labels x) h = seq-valid o x h
widget-valid o w h = value_valid o w h

-- and what is valid it accepts
widget-accepts : (o : WidgetOp) (w : Widget) → widget.IsValid o w → widget_accepts o w ≡ true
widget-accepts (OnText o) (Text x) h = and_from (is_no_relabel o) (seq_accepts o x) h.0 (seq-accepts o x h.1)
widget-accepts (OnList o) (Labels x) h = seq-accepts o x h
widget-accepts o (Text x) h = absurd h
widget-accepts o (Labels x) h = absurd h
widget-accepts o w h = valid_value o w tt h

-- the same if the widget may be absent
valid_in : (o : WidgetOp) (w : Option Widget) → accepts_in o w ≡ true → IsSomeAnd w (widget.IsValid o)
valid_in o None h = absurd (false≢true h)
valid_in o (Some w) h = widget-valid o w h

-- and back
accepted_in : (o : WidgetOp) (w : Option Widget) → IsSomeAnd w (widget.IsValid o) → accepts_in o w ≡ true
accepted_in o None h = absurd h
accepted_in o (Some w) h = widget-accepts o w h

-- what a board accepts is valid
pub valid-accepts : (o : BoardOp) (b : board.Windows) → accepts o b ≡ true → board.IsValid o b
valid-accepts o b h = valid_in o.op (widget_at (board.place o) b) h

-- and what is valid it accepts
pub accepts-valid : (o : BoardOp) (b : board.Windows) → board.IsValid o b → accepts o b ≡ true
accepts-valid o b h = accepted_in o.op (widget_at (board.place o) b) h

-- the test decides what is valid
pub decides : (o : BoardOp) (b : board.Windows) → IsTrue (accepts o b) ↔ board.IsValid o b
decides o b = (valid-accepts o b, accepts-valid o b)

-- what is valid on a widget that may be absent relabels no text
relabels_none : (o : WidgetOp) (w : Option Widget) → IsSomeAnd w (widget.IsValid o) → IsTrue (relabels_no_text o)
relabels_none o None h = absurd h
relabels_none o (Some w) h = widget_laws.valid-relabels_no_text o w h

-- and what is valid on a board
pub valid-relabels_no_text : (o : BoardOp) (b : board.Windows) → board.IsValid o b → IsTrue (relabels_no_text o.op)
valid-relabels_no_text o b h = relabels_none o.op (widget_at (board.place o) b) h

-- What is so of each kind of operation that a command becomes is so of every one.

-- what an accepted insertion and deletion are

-- what is so of an insertion within its bounds is so of one that is accepted
inserts_ok : {V : Type 0} (P : WidgetOp → Type 0) (f : SeqOp V → WidgetOp) (p : ℕ) (y : Item V) (x : Items V) (op : WidgetOp)
    → (p ≤ length x.items → length x.items < longest_sequence → P (f (Insert p y))) → map_ok f (insertion p y (length x.items)) ≡ Ok op → P op
inserts_ok P f p y x op h e =
    elim (cases_Bool (nat_lt (length x.items) p)) [
      | inl past ↦ let wrong = rw past at e in absurd cc
      | inr within ↦ elim (cases_Bool (nat_le longest_sequence (length x.items))) [
        | inl long ↦ let wrong = rw (within, long) at e in absurd cc
        | inr short ↦
            let right = rw (within, short) at e in
            let is : f (Insert p y) ≡ op = cc in
            subst P is (h (ltb-false (length x.items) p within) (leb-false longest_sequence (length x.items) short))
      ]
    ]

-- what is so of a deletion of an item is so of one that is accepted
deletes_ok : {V : Type 0} (P : WidgetOp → Type 0) (f : SeqOp V → WidgetOp) (p : ℕ) (o : Option (Item V)) (op : WidgetOp)
    → ((y : Item V) → o ≡ Some y → P (f (Delete p y.name))) → map_ok f (deletion p (option_map (λ y. y.name) o)) ≡ Ok op → P op
deletes_ok P f p None op h e = absurd cc
deletes_ok P f p (Some y) op h e = let is : f (Delete p y.name) ≡ op = cc in subst P is (h y refl)

-- what is so of a relabel of an item is so of one that is accepted
relabels_ok : {V : Type 0} (P : WidgetOp → Type 0) (f : SeqOp V → WidgetOp) (p : ℕ) (v : V) (o : Option (Item V)) (op : WidgetOp)
    → ((y : Item V) → o ≡ Some y → P (f (Relabel p y.name v))) → map_ok f (relabel p v (option_map (λ y. y.name) o)) ≡ Ok op → P op
relabels_ok P f p v None op h e = absurd cc
relabels_ok P f p v (Some y) op h e = let is : f (Relabel p y.name v) ≡ op = cc in subst P is (h y refl)

-- what holds of each kind of operation that a command becomes holds of every one
pub of_named : (n : Name) (P : Command → Widget → WidgetOp → Type 0)
    → ((win wid p v : ℕ) (x : Items ℕ) → p ≤ length x.items → length x.items < longest_sequence → P (InsertAt win wid p (Char v)) (Text x) (OnText (Insert p (record { name = n; value = v }))))
    → ((win wid p : ℕ) (v : List ℕ) (x : Items (List ℕ)) → p ≤ length x.items → length x.items < longest_sequence → P (InsertAt win wid p (Label v)) (Labels x) (OnList (Insert p (record { name = n; value = v }))))
    → ((win wid p : ℕ) (x : Items ℕ) (y : Item ℕ) → slice_get x.items p ≡ Some y → P (DeleteAt win wid p) (Text x) (OnText (Delete p y.name)))
    → ((win wid p : ℕ) (x : Items (List ℕ)) (y : Item (List ℕ)) → slice_get x.items p ≡ Some y → P (DeleteAt win wid p) (Labels x) (OnList (Delete p y.name)))
    → ((win wid p : ℕ) (v : List ℕ) (x : Items (List ℕ)) (y : Item (List ℕ)) → slice_get x.items p ≡ Some y → P (RelabelAt win wid p v) (Labels x) (OnList (Relabel p y.name v)))
    → ((win wid : ℕ) (s : Setting) (w : Widget) (op : WidgetOp) → IsSetting s w op → P (SetValue win wid s) w op)
    → (c : Command) (w : Widget) (op : WidgetOp) → on_widget c n w ≡ Ok op → P c w op
of_named n P chars labels text list relabels sets (InsertAt win wid p (Char v)) (Text x) op e =
    inserts_ok (λ o. P (InsertAt win wid p (Char v)) (Text x) o) (λ o. OnText o) p (record { name = n; value = v }) x op (chars win wid p v x) e
of_named n P chars labels text list relabels sets (InsertAt win wid p (Label v)) (Labels x) op e =
    inserts_ok (λ o. P (InsertAt win wid p (Label v)) (Labels x) o) (λ o. OnList o) p (record { name = n; value = v }) x op (labels win wid p v x) e
of_named n P chars labels text list relabels sets (DeleteAt win wid p) (Text x) op e =
    deletes_ok (λ o. P (DeleteAt win wid p) (Text x) o) (λ o. OnText o) p (slice_get x.items p) op (text win wid p x) e
of_named n P chars labels text list relabels sets (DeleteAt win wid p) (Labels x) op e =
    deletes_ok (λ o. P (DeleteAt win wid p) (Labels x) o) (λ o. OnList o) p (slice_get x.items p) op (list win wid p x) e
of_named n P chars labels text list relabels sets (RelabelAt win wid p v) (Labels x) op e =
    relabels_ok (λ o. P (RelabelAt win wid p v) (Labels x) o) (λ o. OnList o) p v (slice_get x.items p) op (relabels win wid p v x) e
of_named n P chars labels text list relabels sets (SetValue win wid s) w op e = sets win wid s w op (setting_is s w op e)
of_named n P chars labels text list relabels sets c w op e = absurd cc

abbrev IsFreshOn : Command → Name → Widget → Type 0
IsFreshOn (InsertAt win wid p v) n w = widget.holds n w ≡ false
IsFreshOn (DeleteAt win wid p) n w = Unit {0}
IsFreshOn (RelabelAt win wid p v) n w = Unit {0}
IsFreshOn (SetValue win wid s) n w = Unit {0}

-- an accepted command's operation is valid on its widget if the name is fresh there
valid_on : (c : Command) (n : Name) (w : Widget) (op : WidgetOp) → IsFreshOn c n w → on_widget c n w ≡ Ok op → widget.IsValid op w
valid_on c n w op fresh e =
    of_named n (λ c w o. IsFreshOn c n w → widget.IsValid o w)
    (λ win wid p v x within short fresh. (refl, (within, fresh, omega (arith, short))))
    (λ win wid p v x within short fresh. (within, fresh, omega (arith, short)))
    (λ win wid p x y there fresh. (refl, ap (λ o. option_map (λ (z : Item ℕ). z.name) o) there))
    (λ win wid p x y there fresh. ap (λ o. option_map (λ (z : Item (List ℕ)). z.name) o) there)
    (λ win wid p v x y there fresh. ap (λ o. option_map (λ (z : Item (List ℕ)). z.name) o) there)
    (λ win wid s w op set fresh. set.valid)
    c w op e fresh

-- the widget that a command names, and the operation there

-- the widget that an accepted command names, and the operation there
pub record Named (c : Command) (n : Name) (b : board.Windows) (op : BoardOp) : Type 0 where
  pub widget : Widget
  pub there : widget_at (board.place op) b ≡ Some widget
  pub is : on_widget c n widget ≡ Ok op.op
  pub place_is : command_place c ≡ board.place op

-- a widget that was not refused is there
found_there : (o : Option Widget) (w : Widget) → found_widget o ≡ Ok w → o ≡ Some w
found_there None w e = absurd cc
found_there (Some v) w e = let is : v ≡ w = cc in ap (λ y. Some y) is

-- in the window that was found
in_there : (k : ℕ) (o : Option (List (ℕ × Widget))) (w : Widget) → in_window k o ≡ Ok w → option_and_then (λ ws. at_id k ws) o ≡ Some w
in_there k None w e = absurd cc
in_there k (Some ws) w e = found_there (at_id k ws) w e

-- an accepted command names the widget that is there
named_on : (c : Command) (n : Name) (b : board.Windows) (op : BoardOp) (w : Widget) (r : Result WidgetOp EditFault) → widget_at (command_place c) b ≡ Some w
    → on_widget c n w ≡ r → map_ok {A = WidgetOp} {B = BoardOp} (λ o. record { win = (command_place c).0; wid = (command_place c).1; op = o }) r ≡ Ok op → Named c n b op
named_on c n b op w (Err fault) there is e = absurd cc
named_on c n b op w (Ok o) there is e =
    let same : ◌≡◌ {A = BoardOp} (record { win = (command_place c).0; wid = (command_place c).1; op = o }) op = cc in
    subst (λ x. Named c n b x) same (record { widget = w; there = there; is = is; place_is = refl })

-- so it does if the widget may be refused
named_in : (c : Command) (n : Name) (b : board.Windows) (op : BoardOp) (r : Result Widget EditFault) → named_widget (command_place c) b ≡ r
    → map_ok {A = WidgetOp} {B = BoardOp} (λ o. record { win = (command_place c).0; wid = (command_place c).1; op = o }) (and_then_ok (on_widget c n) r) ≡ Ok op → Named c n b op
named_in c n b op (Err fault) found e = absurd cc
named_in c n b op (Ok w) found e = named_on c n b op w (on_widget c n w) (in_there (command_place c).1 (at_id (command_place c).0 b) w found) refl e

-- an accepted command names a widget
pub named_from : (c : Command) (n : Name) (b : board.Windows) (op : BoardOp) → named c n b ≡ Ok op → Named c n b op
named_from c n b op e = named_in c n b op (named_widget (command_place c) b) refl e

-- the operation is valid if the name is fresh

-- a name that is fresh on the board is fresh on the widget
fresh_in : (c : Command) (n : Name) (b : board.Windows) (w : Widget) → widget_at (command_place c) b ≡ Some w → IsFresh c n b → IsFreshOn c n w
fresh_in (InsertAt win wid p v) n b w there fresh = ap (λ o. board.held_in n o) (sym there) ∙ fresh
fresh_in (DeleteAt win wid p) n b w there fresh = tt
fresh_in (RelabelAt win wid p v) n b w there fresh = tt
fresh_in (SetValue win wid s) n b w there fresh = tt

-- an accepted command's operation is valid if the name is fresh
pub named_valid : (c : Command) (n : Name) (b : board.Windows) (op : BoardOp) → IsFresh c n b → named c n b ≡ Ok op → board.IsValid op b
named_valid c n b op fresh e =
    let found = named_from c n b op e in
    rw found.there (valid_on c n found.widget op.op (fresh_in c n b found.widget (ap (λ p. widget_at p b) found.place_is ∙ found.there) fresh) found.is)

-- a name is fresh if no item has its site
pub IsFresh-no_site : (c : Command) (n : Name) (b : board.Windows) → has_site n.site b ≡ false → IsFresh c n b
IsFresh-no_site (InsertAt win wid p v) n b none =
    false_from_ne_true (board.held (win, wid) n b) (λ held. has_site-held n.site b (record { at = (win, wid); name = n }) none held refl)
IsFresh-no_site (DeleteAt win wid p) n b none = tt
IsFresh-no_site (RelabelAt win wid p v) n b none = tt
IsFresh-no_site (SetValue win wid s) n b none = tt

-- the board that it leaves

-- an accepted command's operation leaves the widget as the command shows it
shown_on_widget : (c : Command) (n : Name) (w : Widget) (op : WidgetOp) → on_widget c n w ≡ Ok op → widget.after op w ≡ shown_on c n w
shown_on_widget c n w op e =
    of_named n (λ c w o. widget.after o w ≡ shown_on c n w)
    (λ win wid p v x within short. refl) (λ win wid p v x within short. refl)
    (λ win wid p x y there. refl) (λ win wid p x y there. refl) (λ win wid p v x y there. refl) (λ win wid s w op set. set.shows)
    c w op e

-- and the board
pub named_shown : (c : Command) (n : Name) (b : board.Windows) (op : BoardOp) → named c n b ≡ Ok op → board.after op b ≡ shown c n b
named_shown c n b op e =
    let found = named_from c n b op e in
    change_widget-agree (board.place op) (widget.after op.op) (shown_on c n) b (rw found.there (shown_on_widget c n found.widget op.op found.is))
    ∙ ap (λ p. change_widget p (shown_on c n) b) (sym found.place_is)

-- its edit bears the next name, and changes something

-- a site's next name is the next name
is_next-next_name : (i k : ℕ) → is_next i k (next_name i k) ≡ true
is_next-next_name i k = and_from (i == i) (suc k == suc k) (eq-eqb i i refl) (eq-eqb (suc k) (suc k) refl)

-- the edit of an operation on a widget, whatever its ids
abbrev edit_in : WidgetOp → BoardEdit
edit_in o = record { win = 0; wid = 0; what = edit_of o }

-- an insertion of a command bears the name that it was given
pub named_next : (c : Command) (i k : ℕ) (b : board.Windows) (op : BoardOp) → named c (next_name i k) b ≡ Ok op → bears_next i k (board.edit_of op) ≡ true
named_next c i k b op e =
    let found = named_from c (next_name i k) b op e in
    of_named (next_name i k) (λ c w o. bears_next i k (edit_in o) ≡ true)
    (λ win wid p v x within short. is_next-next_name i k) (λ win wid p v x within short. is_next-next_name i k)
    (λ win wid p x y there. refl) (λ win wid p x y there. refl) (λ win wid p v x y there. refl) (λ win wid s w op set. ap (λ m. is_next_if_there i k m) set.inserts)
    c found.widget op.op found.is

-- an accepted command changes something
pub named_edit : (c : Command) (n : Name) (b : board.Windows) (op : BoardOp) → named c n b ≡ Ok op → is_nothing (board.edit_of op) ≡ false
named_edit c n b op e =
    let found = named_from c n b op e in
    of_named n (λ c w o. is_nothing (edit_in o) ≡ false)
    (λ win wid p v x within short. refl) (λ win wid p v x within short. refl)
    (λ win wid p x y there. refl) (λ win wid p x y there. refl) (λ win wid p v x y there. refl) (λ win wid s w op set. set.changes)
    c found.widget op.op found.is

-- a command does not see what room a board has

-- nor what room a widget has
on_bare : (c : Command) (n : Name) (w : Widget) → on_widget c n (widget.bare w) ≡ on_widget c n w
on_bare (InsertAt win wid p (Char v)) n (Text x) = refl
on_bare (InsertAt win wid p (Label v)) n (Labels x) = refl
on_bare (DeleteAt win wid p) n (Text x) = refl
on_bare (DeleteAt win wid p) n (Labels x) = refl
on_bare (RelabelAt win wid p v) n (Labels x) = refl
on_bare (SetValue win wid s) n w = setting_bare s w
on_bare c n w = refl

-- nor a widget that may be refused
found_bare : (c : Command) (n : Name) (o : Option Widget) → and_then_ok (on_widget c n) (found_widget (option_map widget.bare o)) ≡ and_then_ok (on_widget c n) (found_widget o)
found_bare c n None = refl
found_bare c n (Some w) = on_bare c n w

-- nor a window that may be refused
window_bare : (c : Command) (n : Name) (k : ℕ) (o : Option (List (ℕ × Widget)))
    → and_then_ok (on_widget c n) (in_window k (option_map board.bare_widgets o)) ≡ and_then_ok (on_widget c n) (in_window k o)
window_bare c n k None = refl
window_bare c n k (Some ws) =
    ap (λ o. and_then_ok (on_widget c n) (found_widget o)) (at_id-map widget.bare k ws) ∙ found_bare c n (at_id k ws)

-- so a command becomes the same operation
pub named-bare : (c : Command) (n : Name) (b : board.Windows) → named c n (board.bare b) ≡ named c n b
named-bare c n b =
    ap (λ r. map_ok {A = WidgetOp} {B = BoardOp} (λ o. record { win = (command_place c).0; wid = (command_place c).1; op = o }) r)
    (ap (λ o. and_then_ok (on_widget c n) (in_window (command_place c).1 o)) (at_id-map board.bare_widgets (command_place c).0 b)
    ∙ window_bare c n (command_place c).1 (at_id (command_place c).0 b))

-- Operations on boards meet all that a star asks of a kind of operations.

-- the laws of the trait, as the implementation for operations on boards gives them

-- those on which a grid relies
pub boards_lawful : IsLawful boards
boards_lawful = record {
  square = laws.square;
  distinct_after = laws.distinct_after;
  small_after = laws.small_after;
  small_below = laws.small_below;
  small_before = laws.small_before;
  apart_swap = laws.apart_swap;
  apart_client = laws.apart_client;
  apart_server = laws.apart_server;
}

-- those on names, order and edits
pub boards_keep : KeepsMeaning boards
boards_keep = record {
  effect_one = laws.effect_one;
  order = laws.order;
  order_self = laws.order_self;
  order_chain = laws.order_chain;
  inserts_client = laws.inserts_client;
  inserts_server = laws.inserts_server;
  changes_client = laws.changes_client;
  changes_server = laws.changes_server;
  apart_names = laws.apart_names;
  fresh_names = laws.fresh_names;
  inserts_new = laws.inserts_new;
  changes_held = laws.changes_held;
  held_before = laws.held_before;
  held_after = laws.held_after;
  meaning_none = laws.meaning_none;
  meaning_more = laws.meaning_more;
  edit_client = laws.edit_client;
  edit_server = laws.edit_server;
}

-- names of sites

-- an edit inserts its name at its own place
pub inserts_own : (e : BoardEdit) (m : Name) → effects.inserted_name e.what ≡ Some m → board.Inserts e (record { at = board.edit_place e; name = m })
inserts_own e m is = (same_place-refl (board.edit_place e), name_inserts e.what m is)

-- an edit deletes its name in its widget
pub deletes_own : (e : BoardEdit) (m : Name) → effects.deleted_name e.what ≡ Some m → board.Deletes e (record { at = board.edit_place e; name = m })
deletes_own e m is = (same_place-refl (board.edit_place e), name_deletes e.what m is)

-- operations whose insertions are of different sites are apart
apart_from_sites : (c s : BoardOp)
    → ((m n : board.Placed) → board.Inserts (board.edit_of c) m → board.Inserts (board.edit_of s) n → m.name.site ≡ n.name.site → ⊥) → board.AreApart c s
apart_from_sites c s h =
    differ_from (widget.inserted c.op) (widget.inserted s.op) (λ j k first second same.
    h (record { at = board.place c; name = j }) (record { at = board.place s; name = k })
    (inserts_own (board.edit_of c) j first) (inserts_own (board.edit_of s) k second) (ap (λ n. n.site) same))

-- a next name that is there is of the site, has the next number and is one insertion
next_parts : (i k : ℕ) (o : Option Name) (n : Name) → is_next_if_there i k o ≡ true → o ≡ Some n → (n.site ≡ i) × (n.number ≡ suc k) × (count_of o ≡ 1)
next_parts i k o n next is =
    let bears : is_next i k n ≡ true = rw is at next in
    let parts = and_parts (n.site == i) (n.number == suc k) bears in
    (eqb-true n.site i parts.0, eqb-true n.number (suc k) parts.1, ap (λ m. count_of m) is)

-- so is a name that such an edit inserts
next_of : (i k : ℕ) (e : BoardEdit) (n : board.Placed) → bears_next i k e ≡ true → board.Inserts e n → (n.name.site ≡ i) × (n.name.number ≡ suc k) × (insertions e ≡ 1)
next_of i k e n next put = next_parts i k (effects.inserted_name e.what) n.name next (inserts_name e.what n.name put.1)

-- its number is above the count
next_above : (i k : ℕ) (e : BoardEdit) (n : board.Placed) → bears_next i k e ≡ true → board.Inserts e n → k < n.name.number
next_above i k e n next put = let number = (next_of i k e n next put).1 in omega (arith, number)

-- and within the count and the edit's insertions
next_within : (i k : ℕ) (e : BoardEdit) (n : board.Placed) → bears_next i k e ≡ true → board.Inserts e n → n.name.number ≤ k + insertions e
next_within i k e n next put =
    let parts = next_of i k e n next put in
    let number = parts.1 in
    let one = parts.2 in
    omega (arith, number, one)

-- a name that is not of the site
no_site : (i : ℕ) (o : Option Name) → ((m : Name) → o ≡ Some m → m.site ≡ i → ⊥) → is_of_site i o ≡ false
no_site i None h = refl
no_site i (Some m) h = false_from_ne_true (m.site == i) (λ same. h m refl (eqb-true m.site i same))

-- an edit that inserts no name of the site
not_of_site : (i : ℕ) (e : BoardEdit) → ((n : board.Placed) → board.Inserts e n → n.name.site ≡ i → ⊥) → bears_site i e ≡ false
not_of_site i e h = no_site i (effects.inserted_name e.what) (λ m is. h (record { at = board.edit_place e; name = m }) (inserts_own e m is))

-- commands

-- a site's next name is held nowhere, if no later name of the site is
next_is_fresh : (c : Command) (i k : ℕ) (b : board.Windows) → ((n : board.Placed) → board.Holds b n → n.name.site ≡ i → n.name.number ≤ k) → IsFresh c (next_name i k) b
next_is_fresh (InsertAt win wid p v) i k b known =
    false_from_ne_true (board.held (win, wid) (next_name i k) b) (λ held.
    let le : suc k ≤ k = known (record { at = (win, wid); name = next_name i k }) held refl in absurd (omega (arith, le)))
next_is_fresh (DeleteAt win wid p) i k b known = tt
next_is_fresh (RelabelAt win wid p v) i k b known = tt
next_is_fresh (SetValue win wid s) i k b known = tt

-- a command's operation is valid
command_accepted : (b : board.Windows) (c : Command) (i k : ℕ) (op : BoardOp)
    → ((n : board.Placed) → board.Holds b n → n.name.site ≡ i → n.name.number ≤ k)
    → named c (next_name i k) b ≡ Ok op → board.IsValid op b
command_accepted b c i k op known e =
    named_valid c (next_name i k) b op (next_is_fresh c i k b known) e

-- operations on boards have every law that a star and its sites rest on
pub board_laws : AreLawful board_operations
board_laws = record {
  lawful = boards_lawful;
  keeps = boards_keep;
  decides = decides;
  apart_from_sites = apart_from_sites;
  next_site = λ i k e n next put. (next_of i k e n next put).0;
  next_above = next_above;
  next_within = next_within;
  not_of_site = not_of_site;
  command_accepted = command_accepted;
  command_next = λ b c i k op e. named_next c i k b op e;
  command_edit = λ b c i k op e. named_edit c (next_name i k) b op e;
}
