-- Batches of operations on boards.
use Rattle.std.proofs.Common.{◌≡◌, Bool, true, ◌&&◌, Option, Some, None, refl, ap, ◌⊎◌, inl, inr, ◌↔◌, IsTrue, ℕ, ◌≤◌, false, List, [], ◌∷◌, length, ◌∙◌, sym, arith, reverse, Result, nat_lt, if◌then◌else◌}
use Rattle.std.proofs.lemmas.Bool.{and_parts, and_from, or_parts, eq-eqb, false≢true}
use Rattle.std.specs.List.{fold}
use Rattle.jup_batch.specs.Prelude.{KeepsFresh, after_all, edits, IsValidBatch, batches, BatchInserts, Name, Source, Inserted, Place, BoardOp, Command, Widget, WidgetOp, OnText, OnList, EditFault, count_of, Operations, AreLawful, boards, board_operations, item_count, item_name, map_ok, told_on, item_place, command_place}
use Rattle.jup_xform.specs.Batches.{shapes, has_batch_room, is_small_batch, batch_meaning}
use Rattle.jup_xform.specs.Laws.Batches.{length-grid_rows, batch_shape_past, batch_room_past}
use Rattle.jup_seq.specs.Traces.{length_after, source}
use Rattle.jup_seq.specs.Names as seq_names
use Rattle.jup_window.specs.Kinds.{WidgetEdit, inserted_name, is_of_site}
use Rattle.jup_window.specs.Laws.Operations.{board_laws, inserts_own, deletes_own}
use Rattle.jup_window.specs.Laws.Widgets.{inserts_name, differ_from}
use Rattle.jup_window.specs.Laws.Boards.{room_client as one_room_client, room_server as one_room_server}
use Rattle.jup_window.specs.Entries.{Place as Ids, same_place}
use Rattle.jup_window.specs.Widgets as widget
use Rattle.jup_window.specs.Kinds as effects
use Rattle.jup_window.specs.Boards as board
use Rattle.jup_window.specs.Laws.Boards as laws
use Rattle.jup_batch.specs.Batched.{batched, AreBatchable, all_insertions, one_bears_site}
use Rattle.jup_batch.specs.Laws.BatchedLaws.{batched_laws}
use Rattle.jup_window.specs.Prelude.{First, Second, Ghosts}
use Rattle.jup_window.specs.declared.edits.BoardEdit.{BoardEdit}

-- Batches of operations on boards, as a star and its sites use them

-- whether an operation inserts no name that an earlier one inserts or deletes
abbrev pub is_fresh : BoardOp → BoardOp → Bool
is_fresh o e = widget.names_differ (widget.inserted o.op) (widget.inserted e.op) && widget.names_differ (widget.inserted o.op) (widget.deleted e.op)

-- batches of operations on boards
abbrev pub board_batches : Operations
board_batches = batched board_operations is_fresh

fresh_from_names : (o e : BoardOp)
    → ((m n : board.Placed) → board.Inserts (board.edit_of o) m → board.Inserts (board.edit_of e) n ⊎ board.Deletes (board.edit_of e) n → m.name.site ≡ n.name.site → m.name.number ≡ n.name.number → ⊥)
    → board.IsFresh o e
fresh_from_names o e h = (
  differ_from (widget.inserted o.op) (widget.inserted e.op) (λ j k first second same.
      h (record { at = board.place o; name = j }) (record { at = board.place e; name = k })
      (inserts_own (board.edit_of o) j first) (inl (inserts_own (board.edit_of e) k second)) (ap (λ n. n.site) same) (ap (λ n. n.number) same)),
  differ_from (widget.inserted o.op) (widget.deleted e.op) (λ j k first second same.
      h (record { at = board.place o; name = j }) (record { at = board.place e; name = k })
      (inserts_own (board.edit_of o) j first) (inr (deletes_own (board.edit_of e) k second)) (ap (λ n. n.site) same) (ap (λ n. n.number) same)),
)

fresh_decides : (o e : BoardOp) → IsTrue (is_fresh o e) ↔ board.IsFresh o e
fresh_decides o e = (
  and_parts (widget.names_differ (widget.inserted o.op) (widget.inserted e.op)) (widget.names_differ (widget.inserted o.op) (widget.deleted e.op)),
  λ h. and_from (widget.names_differ (widget.inserted o.op) (widget.inserted e.op)) (widget.names_differ (widget.inserted o.op) (widget.deleted e.op)) h.0 h.1,
)

pub boards_keep_fresh : KeepsFresh boards
boards_keep_fresh = record {
  fresh_client = laws.fresh_client;
  fresh_server = laws.fresh_server;
  fresh_of_client = laws.fresh_of_client;
  fresh_of_server = laws.fresh_of_server;
}

-- what deletes a name changes it
deletes_changes : (e : WidgetEdit) (n : Name) → effects.DeletesName e n → effects.ChangesName e n
deletes_changes (First e) n gone = gone
deletes_changes (Second (First e)) n gone = seq_names.deletes_changes e n gone
deletes_changes (Second (Second e)) n gone = gone

pub boards_are_batchable : AreBatchable board_operations is_fresh
boards_are_batchable = record {
  kept = boards_keep_fresh;
  fresh_decides = fresh_decides;
  fresh_from_names = fresh_from_names;
  deletes_changes = λ e n gone. (gone.0, deletes_changes e.what n.name gone.1);
}

-- batches of operations on boards have every law that a star and its sites rest on
pub batch_laws : AreLawful board_batches
batch_laws = batched_laws board_operations board_laws is_fresh boards_are_batchable

-- What `Boards` of `jup_window` says of one operation, for a batch of them: the words of the contracts of stars and sites.

-- operations on boards, their edits, and commands, as lists
abbrev pub BoardBatch : Type 0
BoardBatch = List BoardOp

abbrev pub BoardEdits : Type 0
BoardEdits = List BoardEdit

abbrev pub Commands : Type 0
Commands = List Command

abbrev pub boards_of : Ghosts BoardBatch board.Windows BoardEdits
boards_of = batches boards

-- what a contract sees of a board, a board without its room, and its content: those of single operations
abbrev pub Windows : Type 0
Windows = board.Windows

abbrev pub bare : Windows → Windows
bare b = board.bare b

abbrev pub content : Windows → board.Content
content b = board.content b

-- the content after the edits of batches, in order
abbrev pub meaning : board.Content → List BoardEdits → board.Content
meaning m es = batch_meaning boards m es

abbrev pub after : BoardBatch → Windows → Windows
after os b = after_all boards os b

abbrev pub edit_of : BoardBatch → BoardEdits
edit_of os = edits boards os

abbrev pub IsValid : BoardBatch → Windows → Type 0
IsValid os b = IsValidBatch boards os b

abbrev pub HasRoom : BoardBatch → ℕ → Windows → Type 0
HasRoom os n b = has_batch_room boards os n b

abbrev pub IsSmall : ℕ → Windows → Type 0
IsSmall n b = is_small_batch boards n b

abbrev pub HasDistinctNames : Windows → Type 0
HasDistinctNames b = board.HasDistinctNames b

abbrev pub Placed : Type 0
Placed = board.Placed

abbrev pub Holds : Windows → Placed → Type 0
Holds b n = board.Holds b n

abbrev pub Inserts : BoardEdits → Placed → Type 0
Inserts es n = BatchInserts boards es n

abbrev pub accepts : BoardBatch → Windows → Bool
accepts os b = board_batches.accepts os b

abbrev pub insertions : BoardEdits → ℕ
insertions es = all_insertions board_operations es

abbrev pub bears_site : ℕ → BoardEdits → Bool
bears_site i es = one_bears_site board_operations i es

-- what is fixed of a batch when it is made: how many operations it has
abbrev pub Shape : Type 0
Shape = List (Unit {0})

abbrev pub shape : BoardBatch → Shape
shape os = shapes boards os

-- what a transform keeps of a batch

pub room_client : (n : ℕ) (x : Windows) (c s : BoardBatch) → HasRoom c n x → HasRoom (boards_of.client_past c s) n x
room_client n x c s room = batch_room_past boards boards.client_past boards.server_past one_room_client n x c s room

pub room_server : (n : ℕ) (x : Windows) (s c : BoardBatch) → HasRoom s n x → HasRoom (boards_of.server_past s c) n x
room_server n x s c room = batch_room_past boards boards.server_past boards.client_past one_room_server n x s c room

pub shape_client : (c s : BoardBatch) → shape (boards_of.client_past c s) ≡ shape c
shape_client c s = batch_shape_past boards boards.client_past boards.server_past (λ o p. refl) c s

pub shape_server : (s c : BoardBatch) → shape (boards_of.server_past s c) ≡ shape s
shape_server s c = batch_shape_past boards boards.server_past boards.client_past (λ o p. refl) s c

pub length_client : (c s : BoardBatch) → length (boards_of.client_past c s) ≡ length c
length_client c s = length-grid_rows boards.are_apart boards.client_past boards.server_past c s

pub length_server : (s c : BoardBatch) → length (boards_of.server_past s c) ≡ length s
length_server s c = length-grid_rows boards.are_apart boards.server_past boards.client_past s c

-- each operation inserts one item at most

count_few : (o : Option Name) → count_of o ≤ 1
count_few None = omega arith
count_few (Some n) = omega arith

pub insertions_few : (os : BoardBatch) → insertions (edit_of os) ≤ length os
insertions_few [] = omega arith
insertions_few (o ∷ os) =
    let one = count_few (inserted_name (board.edit_of o).what) in
    let rest = insertions_few os in
    omega (arith, one, rest)

-- an edit that bears no name of a site inserts none

named_by : (i : ℕ) (n : Name) (o : Option Name) → o ≡ Some n → n.site ≡ i → is_of_site i o ≡ false → ⊥
named_by i n o is own other = false≢true (sym other ∙ ap (is_of_site i) is ∙ eq-eqb n.site i own)

pub foreign : (i : ℕ) (es : BoardEdits) (n : Placed) → bears_site i es ≡ false → Inserts es n → n.name.site ≡ i → ⊥
foreign i [] n other has own = absurd has
foreign i (e ∷ es) n other (inl has) own =
    let parts = or_parts (board_operations.bears_site i e) (one_bears_site board_operations i es) other in
    named_by i n.name (inserted_name e.what) (inserts_name e.what n.name has.1) own parts.0
foreign i (e ∷ es) n other (inr has) own =
    let parts = or_parts (board_operations.bears_site i e) (one_bears_site board_operations i es) other in
    foreign i es n parts.1 has own

-- What is computed from a widget of a board after operations, without applying them

-- whether an operation is on the widget of these ids
abbrev pub is_on : Ids → BoardOp → Bool
is_on ids e = same_place (board.place e) ids

-- how many items a widget has after an operation, and where an item came from whose source after the operation is known

-- of an operation on the widget
abbrev pub widget_count : ℕ → WidgetOp → ℕ
widget_count k (OnText e) = length_after k e
widget_count k (OnList e) = length_after k e
widget_count k other = k

abbrev pub widget_source : Source → WidgetOp → Source
widget_source (Inserted n) e = Inserted n
widget_source (Place p) (OnText e) = source p e
widget_source (Place p) (OnList e) = source p e
widget_source (Place p) other = Place p

-- of one on the board
abbrev pub count_past : Ids → ℕ → BoardOp → ℕ
count_past ids k e = if is_on ids e then widget_count k e.op else k

abbrev pub source_past : Ids → Source → BoardOp → Source
source_past ids s e = if is_on ids e then widget_source s e.op else s

-- of several, one after another: the count is carried on, and the source goes back from the last
abbrev pub count_after : Ids → ℕ → List BoardOp → ℕ
count_after ids k es = fold (count_past ids) k es

abbrev pub source_before : Ids → Source → List BoardOp → Source
source_before ids s es = fold (source_past ids) s (reverse es)

-- the name of a source, on the widget before all of them
abbrev pub source_in : Source → Widget → Option Name
source_in (Inserted n) w = Some n
source_in (Place p) w = item_name p w

-- the name of the item at a place after the operations, if there are so many items then
abbrev pub held_after : Ids → ℕ → ℕ → List BoardOp → Widget → Option Name
held_after ids p k es w = if nat_lt p k then source_in (source_before ids (Place p) es) w else None

-- the operation on a board of a command, made of that on its widget
abbrev pub placed : Command → Result WidgetOp EditFault → Result BoardOp EditFault
placed c r = map_ok (λ op. record { win = (command_place c).0; wid = (command_place c).1; op = op }) r

-- the operation of a command after others, as it is computed from the widget before all of them
abbrev pub told_after : Command → Name → List BoardOp → Widget → Result BoardOp EditFault
told_after c n es w =
    let k = count_after (command_place c) (item_count w) es in
    placed c (told_on c n k (held_after (command_place c) (item_place c) k es w) w)
