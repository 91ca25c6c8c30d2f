-- What the commands of a batch become, one after another.
use Rattle.std.proofs.Common.{◌≡◌, ℕ, ◌<◌, ◌≤◌, Bool, true, false, List, [], ◌∷◌, length, Option, Some, None, refl, ap, sym, subst, ◌∙◌, arith, if◌then◌else◌, reverse, zero, suc, inl, inr, Ok, Err, Result, nat_lt, is_some, ◌==◌, ◌+◌, ◌++◌, append_assoc, append-nil}
use Rattle.std.specs.List.{fold}
use Rattle.std.specs.Option.{IsSomeAnd, option_map, option_and_then}
use Rattle.std.proofs.lemmas.Grind.{reverse_onto, fold-append}
use Rattle.std.proofs.lemmas.Bool.{cases_Bool, eqb-true, ltb-true, ltb-false}
use Rattle.jup_batch.specs.Prelude.{after_all, AreValid, Name, SeqOp, Insert, Delete, Relabel, Nothing, Source, Inserted, Place, Widget, Text, Labels, WidgetOp, OnText, OnList, BoardOp, EditFault, Command, InsertAt, DeleteAt, RelabelAt, SetValue, item_count, item_name, boards, board_operations, next_name, and_then_ok, told_on, on_widget, item_place, command_place, named_widget, named, map_ok, insertions}
use Rattle.jup_xform.specs.Laws.Grids.{after_all-append, AreValid-append}
use Rattle.jup_seq.specs.Traces.{length_after, length_is}
use Rattle.jup_seq.specs.Traces as sources
use Rattle.jup_window.specs.declared.faults.EditFault.TheVariants.{NoWindow}
use Rattle.jup_window.specs.declared.commands.Value.{Value}
use Rattle.jup_window.specs.declared.kinds.Setting.{Setting}
use Rattle.jup_window.specs.Entries.{Place as Ids, widget_at, at_id, change_at}
use Rattle.jup_window.specs.Laws.Entries.{same_place-true, widget_at-change, at_id-same, at_id-other, at_id-map, widget_at-bare}
use Rattle.jup_window.specs.Laws.Widgets.{of_valid}
use Rattle.jup_window.specs.Commands.{insertion_on, deletion_on, relabel_on, found_widget, in_window}
use Rattle.jup_window.specs.Kinds.{HasNoItems, value_after, setting_on, setting_later, setting_bare, setting_of_items}
use Rattle.jup_window.specs.Laws.Operations.{named-bare, board_laws}
use Rattle.jup_window.specs.Widgets as widget
use Rattle.jup_window.specs.Boards as board
use Rattle.jup_batch.specs.Boards.{is_on, widget_count, widget_source, count_past, source_past, count_after, source_before, source_in, held_after, placed, told_after}
use Rattle.jup_batch.specs.Batched.{AreKnown, operations_of}
use Rattle.jup_batch.specs.Laws.BatchedLaws.{known_after}
use Rattle.jup_window.specs.Prelude.{Item, Items, name_at}
use Rattle.jup_window.specs.declared.commands.Value.TheVariants.{Char, Label}

-- A widget of a board after operations is of its kind, and its items are as many, and have the names, that are computed

-- widgets of one kind, which take the same settings
abbrev pub IsAlike : Widget → Widget → Type 0
IsAlike (Text x) (Text y) = Unit {0}
IsAlike (Text x) v = ⊥
IsAlike (Labels x) (Labels y) = Unit {0}
IsAlike (Labels x) v = ⊥
IsAlike w (Text y) = ⊥
IsAlike w (Labels y) = ⊥
IsAlike w v = (s : Setting) → setting_on s v ≡ setting_on s w

IsAlike-self : (w : Widget) → IsAlike w w
IsAlike-self (Text x) = tt
IsAlike-self (Labels x) = tt
IsAlike-self w = λ s. refl

IsAlike-then : (u v w : Widget) → IsAlike u v → IsAlike v w → IsAlike u w
IsAlike-then (Text x) (Text y) w a b = b
IsAlike-then (Text x) v w a b = absurd a
IsAlike-then (Labels x) (Labels y) w a b = b
IsAlike-then (Labels x) v w a b = absurd a
IsAlike-then u (Text y) w a b = absurd a
IsAlike-then u (Labels y) w a b = absurd a
IsAlike-then u v (Text z) a b = absurd b
IsAlike-then u v (Labels z) a b = absurd b
IsAlike-then u v w a b = λ s. b s ∙ a s

-- widgets without items that take the same settings
alike_values : (w v : Widget) → HasNoItems w → HasNoItems v → ((s : Setting) → setting_on s v ≡ setting_on s w) → IsAlike w v
alike_values (Text x) v none none' same = absurd none
alike_values (Labels x) v none none' same = absurd none
alike_values w (Text y) none none' same = absurd none'
alike_values w (Labels y) none none' same = absurd none'
alike_values w v none none' same = same

-- the place of a source is one of the widget
abbrev pub IsWithin : Source → Widget → Type 0
IsWithin (Inserted n) w = Unit {0}
IsWithin (Place p) w = p < item_count w

-- an item of this name came from the source
abbrev pub CameFrom : Source → Widget → Option Name → Type 0
CameFrom s w m = (m ≡ source_in s w) × IsWithin s w

-- one operation

-- what one operation does to what is computed from a widget
record Stepped (e : WidgetOp) (w : Widget) : Type 0 where
  alike : IsAlike w (widget.after e w)
  count : item_count (widget.after e w) ≡ widget_count (item_count w) e
  named : item_count w ≤ 4294967295 → (p : ℕ) → p < item_count (widget.after e w) → CameFrom (widget_source (Place p) e) w (item_name p (widget.after e w))

-- what is computed from a text, and from a list
text_source : (s : Source) (x : Items ℕ) (m : Option Name) → (m ≡ sources.source_name s x) × sources.IsWithin s x → CameFrom s (Text x) m
text_source (Inserted n) x m is = is
text_source (Place p) x m is = is

list_source : (s : Source) (x : Items (List ℕ)) (m : Option Name) → (m ≡ sources.source_name s x) × sources.IsWithin s x → CameFrom s (Labels x) m
list_source (Inserted n) x m is = is
list_source (Place p) x m is = is

-- a widget without items has none before and after an operation
no_count : (w : Widget) → HasNoItems w → item_count w ≡ 0
no_count (Text x) none = absurd none
no_count (Labels x) none = absurd none
no_count w none = refl

value_count : (k : ℕ) (e : WidgetOp) (w : Widget) → HasNoItems w → widget.IsValid e w → widget_count k e ≡ k
value_count k e (Text x) none valid = absurd none
value_count k e (Labels x) none valid = absurd none
value_count k (OnText e) w none valid = absurd valid
value_count k (OnList e) w none valid = absurd valid
value_count k e w none valid = refl

stepped : (e : WidgetOp) (w : Widget) → widget.IsValid e w → Stepped e w
stepped e w valid =
    of_valid (λ e w. Stepped e w)
    (λ e x valid. record {
      alike = tt;
      count = length_is (length x.items) e x valid.1 refl;
      named = λ few p l. text_source (sources.source p e) x _ (sources.sourced p e x few valid.1 l);
    })
    (λ e x valid. record {
      alike = tt;
      count = length_is (length x.items) e x valid refl;
      named = λ few p l. list_source (sources.source p e) x _ (sources.sourced p e x few valid l);
    })
    (λ e w none valid. record {
      alike = alike_values w (widget.after e w) none (value_after e w none) (λ s. setting_later s e w none valid);
      count = no_count (widget.after e w) (value_after e w none) ∙ sym (no_count w none) ∙ sym (value_count (item_count w) e w none valid);
      named = λ few p l. absurd (let zero = no_count (widget.after e w) (value_after e w none) in omega (arith, l, zero));
    })
    e w valid

-- no widget has more items than can be counted
length_few : {V : Type 0} (k : ℕ) (e : SeqOp V) → k ≤ 4294967295 → length_after k e ≤ 4294967295
length_few k (Insert p y) few = omega (arith, few)
length_few k (Delete p n) few = omega (arith, few)
length_few k (Relabel p n v) few = few
length_few k Nothing few = few

count_few : (k : ℕ) (e : WidgetOp) → k ≤ 4294967295 → widget_count k e ≤ 4294967295
count_few k (OnText e) few = length_few k e few
count_few k (OnList e) few = length_few k e few
count_few k other few = few

-- several operations

-- the widget of some ids after operations, and what is computed from it
pub record Later (ids : Ids) (b : board.Windows) (w : Widget) (es : List BoardOp) : Type 0 where
  pub widget : Widget
  pub there : widget_at ids (after_all boards es b) ≡ Some widget
  pub alike : IsAlike w widget
  pub count : item_count widget ≡ count_after ids (item_count w) es
  pub named : (p : ℕ) → p < item_count widget → CameFrom (source_before ids (Place p) es) w (item_name p widget)

-- the first operation is the last that a source goes back over
source_before-first : (ids : Ids) (s : Source) (e : BoardOp) (es : List BoardOp) → source_before ids s (e ∷ es) ≡ source_past ids (source_before ids s es) e
source_before-first ids s e es = ap (λ xs. fold (source_past ids) s xs) (reverse_onto es e []) ∙ fold-append (source_past ids) s (reverse es) (e ∷ [])

-- back over one operation on the widget
came_past : (e : WidgetOp) (w : Widget) (s : Source) (m : Option Name) → Stepped e w → item_count w ≤ 4294967295 → CameFrom s (widget.after e w) m → CameFrom (widget_source s e) w m
came_past e w (Inserted n) m step few is = is
came_past e w (Place p) m step few is = let here = step.named few p is.1 in (is.0 ∙ here.0, here.1)

-- the widget after an operation on the board, if it is the one that it is on
abbrev past : Ids → BoardOp → Widget → Widget
past ids e w = if is_on ids e then widget.after e.op w else w

-- what one operation on the board does to what is computed from a widget
record Passed (ids : Ids) (b : board.Windows) (w : Widget) (e : BoardOp) : Type 0 where
  there : widget_at ids (board.after e b) ≡ Some (past ids e w)
  alike : IsAlike w (past ids e w)
  count : item_count (past ids e w) ≡ count_past ids (item_count w) e
  few : item_count (past ids e w) ≤ 4294967295
  named : (s : Source) (m : Option Name) → CameFrom s (past ids e w) m → CameFrom (source_past ids s e) w m

passed_if : (here : Bool) (ids : Ids) (b : board.Windows) (w : Widget) (e : BoardOp) → is_on ids e ≡ here → board.IsValid e b → widget_at ids b ≡ Some w
    → item_count w ≤ 4294967295 → Passed ids b w e
passed_if true ids b w e is valid there few =
    let at_ids : IsSomeAnd (widget_at ids b) (widget.IsValid e.op) = subst (λ p. IsSomeAnd (widget_at p b) (widget.IsValid e.op)) (same_place-true (board.place e) ids is) valid in
    let here : widget.IsValid e.op w = rw there at at_ids in
    let step = stepped e.op w here in
    let fewer : item_count (widget.after e.op w) ≤ 4294967295 = (let counted = step.count in let bound = count_few (item_count w) e.op few in omega (arith, counted, bound)) in
    record {
      there = widget_at-change (board.place e) ids (widget.after e.op) b ∙ rw (is, there) refl;
      alike = rw is step.alike;
      count = rw is step.count;
      few = rw is fewer;
      named = λ s m from. rw is (came_past e.op w s m step few (rw is at from));
    }
passed_if false ids b w e is valid there few = record {
  there = widget_at-change (board.place e) ids (widget.after e.op) b ∙ rw (is, there) refl;
  alike = rw is (IsAlike-self w);
  count = rw is refl;
  few = rw is few;
  named = λ s m from. rw is (rw is at from);
}

pub later : (ids : Ids) (b : board.Windows) (w : Widget) (es : List BoardOp) → AreValid boards es b → widget_at ids b ≡ Some w → item_count w ≤ 4294967295 → Later ids b w es
later ids b w [] valid there few = record { widget = w; there = there; alike = IsAlike-self w; count = refl; named = λ p l. (refl, l) }
later ids b w (e ∷ es) valid there few =
    let step = passed_if (is_on ids e) ids b w e refl valid.0 there few in
    let rest = later ids (board.after e b) (past ids e w) es valid.1 step.there step.few in
    record {
      widget = rest.widget;
      there = rest.there;
      alike = IsAlike-then w (past ids e w) rest.widget step.alike rest.alike;
      count = rest.count ∙ ap (λ k. count_after ids k es) step.count;
      named = λ p l. subst (λ s. CameFrom s w (item_name p rest.widget)) (sym (source_before-first ids (Place p) e es)) (step.named (source_before ids (Place p) es) (item_name p rest.widget) (rest.named p l));
    }

-- a widget that is not there is not there later
pub absent_later : (ids : Ids) (b : board.Windows) (es : List BoardOp) → widget_at ids b ≡ None → widget_at ids (after_all boards es b) ≡ None
absent_later ids b [] none = none
absent_later ids b (e ∷ es) none = absent_later ids (board.after e b) es (widget_at-change (board.place e) ids (widget.after e.op) b ∙ rw none refl)

-- The operation that a command becomes after others is computed without applying them

-- the operation that is computed is the same on widgets that are alike

insertion_alike : (p : ℕ) (v : Value) (n : Name) (k : ℕ) (w u : Widget) → IsAlike w u → insertion_on p v n k u ≡ insertion_on p v n k w
insertion_alike p (Char v) n k (Text x) (Text y) a = refl
insertion_alike p (Label v) n k (Text x) (Text y) a = refl
insertion_alike p (Char v) n k (Labels x) (Labels y) a = refl
insertion_alike p (Label v) n k (Labels x) (Labels y) a = refl
insertion_alike p v n k (Text x) u a = absurd a
insertion_alike p v n k (Labels x) u a = absurd a
insertion_alike p v n k w (Text y) a = absurd a
insertion_alike p v n k w (Labels y) a = absurd a
insertion_alike p v n k w u a = refl

deletion_alike : (p : ℕ) (m : Option Name) (w u : Widget) → IsAlike w u → deletion_on p m u ≡ deletion_on p m w
deletion_alike p m (Text x) (Text y) a = refl
deletion_alike p m (Labels x) (Labels y) a = refl
deletion_alike p m (Text x) u a = absurd a
deletion_alike p m (Labels x) u a = absurd a
deletion_alike p m w (Text y) a = absurd a
deletion_alike p m w (Labels y) a = absurd a
deletion_alike p m w u a = refl

relabel_alike : (p : ℕ) (v : List ℕ) (m : Option Name) (w u : Widget) → IsAlike w u → relabel_on p v m u ≡ relabel_on p v m w
relabel_alike p v m (Text x) (Text y) a = refl
relabel_alike p v m (Labels x) (Labels y) a = refl
relabel_alike p v m (Text x) u a = absurd a
relabel_alike p v m (Labels x) u a = absurd a
relabel_alike p v m w (Text y) a = absurd a
relabel_alike p v m w (Labels y) a = absurd a
relabel_alike p v m w u a = refl

setting_alike : (s : Setting) (w u : Widget) → IsAlike w u → setting_on s u ≡ setting_on s w
setting_alike s (Text x) (Text y) a = setting_of_items s (Text y) (λ h. h) ∙ sym (setting_of_items s (Text x) (λ h. h))
setting_alike s (Labels x) (Labels y) a = setting_of_items s (Labels y) (λ h. h) ∙ sym (setting_of_items s (Labels x) (λ h. h))
setting_alike s (Text x) u a = absurd a
setting_alike s (Labels x) u a = absurd a
setting_alike s w (Text y) a = absurd a
setting_alike s w (Labels y) a = absurd a
setting_alike s w u a = a s

told_alike : (c : Command) (n : Name) (k : ℕ) (m : Option Name) (w u : Widget) → IsAlike w u → told_on c n k m u ≡ told_on c n k m w
told_alike (InsertAt win wid p v) n k m w u a = insertion_alike p v n k w u a
told_alike (DeleteAt win wid p) n k m w u a = deletion_alike p m w u a
told_alike (RelabelAt win wid p v) n k m w u a = relabel_alike p v m w u a
told_alike (SetValue win wid s) n k m w u a = setting_alike s w u a

-- the window and the widget stay

abbrev found_at : Bool → Option Widget → Result Widget EditFault
found_at false o = Err NoWindow
found_at true o = found_widget o

named_at : (k : ℕ) (o : Option (List (ℕ × Widget))) → in_window k o ≡ found_at (is_some o) (option_and_then (λ ws. at_id k ws) o)
named_at k None = refl
named_at k (Some ws) = refl

is_some-map : {A B : Type 0} (f : A → B) (o : Option A) → is_some (option_map f o) ≡ is_some o
is_some-map f None = refl
is_some-map f (Some a) = refl

window_stays : (j k : ℕ) (f : List (ℕ × Widget) → List (ℕ × Widget)) (b : board.Windows) → is_some (at_id k (change_at j f b)) ≡ is_some (at_id k b)
window_stays j k f b =
    elim (cases_Bool (j == k)) [
      | inl same ↦ (let is = eqb-true j k same in subst (λ i. is_some (at_id i (change_at j f b)) ≡ is_some (at_id i b)) is (ap is_some (at_id-same j f b) ∙ is_some-map f (at_id j b)))
      | inr other ↦ ap is_some (at_id-other j k f b other)
    ]

windows_stay : (k : ℕ) (es : List BoardOp) (b : board.Windows) → is_some (at_id k (after_all boards es b)) ≡ is_some (at_id k b)
windows_stay k [] b = refl
windows_stay k (e ∷ es) b = windows_stay k es (board.after e b) ∙ window_stays e.win k _ b

-- there is no item past the end
no_item : {V : Type 0} (xs : List (Item V)) (p : ℕ) → length xs ≤ p → name_at p xs ≡ None
no_item [] zero l = refl
no_item [] (suc p) l = refl
no_item (x ∷ xs) zero l = absurd (omega (arith, l))
no_item (x ∷ xs) (suc p) l = no_item xs p (omega (arith, l))

past_end : (p : ℕ) (w : Widget) → item_count w ≤ p → item_name p w ≡ None
past_end p (Text x) l = no_item x.items p l
past_end p (Labels x) l = no_item x.items p l
past_end p other l = refl

-- the name that is computed for a place is that of the item there
held_later : (p k : ℕ) (m : Option Name) (u : Widget) → item_count u ≡ k → (p < item_count u → item_name p u ≡ m) → item_name p u ≡ (if nat_lt p k then m else None)
held_later p k m u count named =
    elim (cases_Bool (nat_lt p k)) [
      | inl below ↦ rw below (named (let l = ltb-true p k below in omega (arith, l, count)))
      | inr past ↦ rw past (past_end p u (let l = ltb-false p k past in omega (arith, l, count)))
    ]

told_later : (c : Command) (n : Name) (b : board.Windows) (w : Widget) (es : List BoardOp) → AreValid boards es b → widget_at (command_place c) b ≡ Some w → item_count w ≤ 4294967295
    → is_some (at_id (command_place c).0 b) ≡ true → named c n (after_all boards es b) ≡ told_after c n es w
told_later c n b w es valid there few window =
    let ids = command_place c in
    let p = item_place c in
    let k = count_after ids (item_count w) es in
    let l = later ids b w es valid there few in
    let held : item_name p l.widget ≡ held_after ids p k es w = held_later p k (source_in (source_before ids (Place p) es) w) l.widget l.count (λ below. (l.named p below).0) in
    let found : named_widget ids (after_all boards es b) ≡ Ok l.widget =
    named_at ids.1 (at_id ids.0 (after_all boards es b)) ∙ ap (λ s. found_at s (widget_at ids (after_all boards es b))) (windows_stay ids.0 es b ∙ window) ∙ ap found_widget l.there in
    ap (placed c)
    (ap (λ r. and_then_ok (on_widget c n) r) found ∙ told_alike c n (item_count l.widget) (item_name p l.widget) w l.widget l.alike
    ∙ ap (λ j. told_on c n j (item_name p l.widget) w) l.count ∙ ap (λ m. told_on c n k m w) held)

-- the same of a board with room, which is judged as without

alike_bare : (w : Widget) → IsAlike w (widget.bare w)
alike_bare (Text x) = tt
alike_bare (Labels x) = tt
alike_bare w = λ s. setting_bare s w

count_bare : (w : Widget) → item_count (widget.bare w) ≡ item_count w
count_bare (Text x) = refl
count_bare (Labels x) = refl
count_bare other = refl

name_bare : (p : ℕ) (w : Widget) → item_name p (widget.bare w) ≡ item_name p w
name_bare p (Text x) = refl
name_bare p (Labels x) = refl
name_bare p other = refl

source_bare : (s : Source) (w : Widget) → source_in s (widget.bare w) ≡ source_in s w
source_bare (Inserted n) w = refl
source_bare (Place p) w = name_bare p w

told_bare : (c : Command) (n : Name) (es : List BoardOp) (w : Widget) → told_after c n es (widget.bare w) ≡ told_after c n es w
told_bare c n es w =
    let ids = command_place c in
    let p = item_place c in
    let k = count_after ids (item_count w) es in
    ap (λ j. placed c (told_on c n (count_after ids j es) (held_after ids p (count_after ids j es) es (widget.bare w)) (widget.bare w))) (count_bare w)
    ∙ ap (λ m. placed c (told_on c n k (if nat_lt p k then m else None) (widget.bare w))) (source_bare (source_before ids (Place p) es) w)
    ∙ ap (placed c) (told_alike c n k (held_after ids p k es w) w (widget.bare w) (alike_bare w))

-- what it means that a widget was found, or not

found_some : (s : Bool) (o : Option Widget) (w : Widget) → found_at s o ≡ Ok w → (s ≡ true) × (o ≡ Some w)
found_some false o w e = absurd cc
found_some true None w e = absurd cc
found_some true (Some u) w e = let same : u ≡ w = cc in (refl, ap (λ x. Some x) same)

none_in : (k : ℕ) (o : Option (List (ℕ × Widget))) (f : EditFault) → in_window k o ≡ Err f → option_and_then (λ ws. at_id k ws) o ≡ None
none_in k None f e = refl
none_in k (Some ws) f e = absent (at_id k ws) e
  where
    absent : (o : Option Widget) → found_widget o ≡ Err f → o ≡ None
    absent None e = refl
    absent (Some w) e = absurd cc

-- a command becomes what is computed from its widget
pub named_after : (c : Command) (n : Name) (b : board.Windows) (w : Widget) (es : List BoardOp)
    → AreValid boards es (board.bare b) → named_widget (command_place c) b ≡ Ok w → item_count w ≤ 4294967295 → named c n (after_all boards es (board.bare b)) ≡ told_after c n es w
named_after c n b w es valid found few =
    let ids = command_place c in
    let parts = found_some (is_some (at_id ids.0 b)) (widget_at ids b) w (sym (named_at ids.1 (at_id ids.0 b)) ∙ found) in
    let there : widget_at ids (board.bare b) ≡ Some (widget.bare w) = widget_at-bare ids b ∙ ap (λ o. option_map widget.bare o) parts.1 in
    let window : is_some (at_id ids.0 (board.bare b)) ≡ true = ap is_some (at_id-map board.bare_widgets ids.0 b) ∙ is_some-map board.bare_widgets (at_id ids.0 b) ∙ parts.0 in
    told_later c n (board.bare b) (widget.bare w) es valid there (let same = count_bare w in omega (arith, same, few)) window ∙ told_bare c n es w

-- and is refused as before if there is no widget
absent_named : (c : Command) (n : Name) (b : board.Windows) (es : List BoardOp) → widget_at (command_place c) b ≡ None → named c n (after_all boards es b) ≡ named c n b
absent_named c n b es none =
    let ids = command_place c in
    let before : named_widget ids b ≡ found_at (is_some (at_id ids.0 b)) None = named_at ids.1 (at_id ids.0 b) ∙ ap (λ o. found_at (is_some (at_id ids.0 b)) o) none in
    let after : named_widget ids (after_all boards es b) ≡ found_at (is_some (at_id ids.0 b)) None =
    named_at ids.1 (at_id ids.0 (after_all boards es b)) ∙ ap (λ s. found_at s (widget_at ids (after_all boards es b))) (windows_stay ids.0 es b) ∙ ap (λ o. found_at (is_some (at_id ids.0 b)) o) (absent_later ids b es none) in
    ap (λ r. placed c (and_then_ok (on_widget c n) r)) (after ∙ sym before)

pub unnamed_after : (c : Command) (n : Name) (b : board.Windows) (es : List BoardOp) (f : EditFault) → named_widget (command_place c) b ≡ Err f
    → named c n (after_all boards es (board.bare b)) ≡ Err f
unnamed_after c n b es f found =
    let ids = command_place c in
    let none : widget_at ids (board.bare b) ≡ None = widget_at-bare ids b ∙ ap (λ o. option_map widget.bare o) (none_in ids.1 (at_id ids.0 b) f found) in
    absent_named c n (board.bare b) es none ∙ named-bare c n b ∙ ap (λ r. placed c (and_then_ok (on_widget c n) r)) found

-- The operations of commands, one after another

-- operations before those that are still to be named
abbrev prepended : List BoardOp → Result (List BoardOp) EditFault → Result (List BoardOp) EditFault
prepended es r = map_ok (λ os. es ++ os) r

-- of these commands the first have become these operations, and the rest, after so many insertions, gives what all of them give
pub record AreNamed (commands : List Command) (site count : ℕ) (b : board.Windows) (es : List BoardOp) (rest : List Command) (next : ℕ) : Type 0 where
  pub valid : AreValid boards es b
  pub known : AreKnown board_operations (after_all boards es b) site next
  pub whole : operations_of board_operations b commands site count ≡ prepended es (operations_of board_operations (after_all boards es b) rest site next)

none_prepended : (r : Result (List BoardOp) EditFault) → r ≡ prepended [] r
none_prepended (Ok os) = refl
none_prepended (Err n) = refl

-- none of them yet
pub none_named : (commands : List Command) (site count : ℕ) (b : board.Windows) → AreKnown board_operations b site count → AreNamed commands site count b [] commands count
none_named commands site count b known = record { valid = tt; known = known; whole = none_prepended (operations_of board_operations b commands site count) }

prepended_more : (es : List BoardOp) (op : BoardOp) (r : Result (List BoardOp) EditFault) → prepended es (map_ok (λ os. op ∷ os) r) ≡ prepended (es ++ op ∷ []) r
prepended_more es op (Ok os) = ap (λ xs. Ok xs) (sym (append_assoc es (op ∷ []) os))
prepended_more es op (Err n) = refl

-- what the rest gives, if its first command gives an operation or a refusal
abbrev rest_of : List Command → ℕ → ℕ → board.Windows → Result BoardOp EditFault → Result (List BoardOp) EditFault
rest_of rest site next y r = and_then_ok (λ o. map_ok (λ os. o ∷ os) (operations_of board_operations (board.after o y) rest site (next + insertions (board.edit_of o)))) r

-- one more command
pub one_named : (commands : List Command) (site count : ℕ) (b : board.Windows) (es : List BoardOp) (c : Command) (rest : List Command) (next : ℕ) (op : BoardOp)
    → AreNamed commands site count b es (c ∷ rest) next → named c (next_name site next) (after_all boards es b) ≡ Ok op
    → AreNamed commands site count b (es ++ op ∷ []) rest (next + insertions (board.edit_of op))
one_named commands site count b es c rest next op h is =
    let y = after_all boards es b in
    let made : board_operations.operation_of y c site next ≡ Ok op = is in
    let valid = board_laws.command_accepted y c site next op h.known made in
    let later : after_all boards (es ++ op ∷ []) b ≡ board.after op y = after_all-append boards es (op ∷ []) b in
    record {
      valid = AreValid-append boards es (op ∷ []) b h.valid (valid, tt);
      known = rw later (known_after board_operations board_laws y site next op h.known valid (board_laws.command_next y c site next op made));
      whole = h.whole ∙ ap (λ r. prepended es (rest_of rest site next y r)) made
          ∙ prepended_more es op (operations_of board_operations (board.after op y) rest site (next + insertions (board.edit_of op)))
          ∙ ap (λ z. prepended (es ++ op ∷ []) (operations_of board_operations z rest site (next + insertions (board.edit_of op)))) (sym later);
    }

-- one that is refused
pub one_refused : (commands : List Command) (site count : ℕ) (b : board.Windows) (es : List BoardOp) (c : Command) (rest : List Command) (next : ℕ) (fault : EditFault)
    → AreNamed commands site count b es (c ∷ rest) next → named c (next_name site next) (after_all boards es b) ≡ Err fault
    → operations_of board_operations b commands site count ≡ Err fault
one_refused commands site count b es c rest next fault h is =
    h.whole ∙ ap (λ r. prepended es (rest_of rest site next (after_all boards es b) r)) is

-- all of them
pub all_named : (commands : List Command) (site count : ℕ) (b : board.Windows) (es : List BoardOp) (next : ℕ) → AreNamed commands site count b es [] next
    → operations_of board_operations b commands site count ≡ Ok es
all_named commands site count b es next h = h.whole ∙ ap (λ xs. Ok xs) (append-nil es)
