-- The laws of batches of operations on boards.
use Rattle.std.proofs.Common.{◌≡◌, ℕ, ◌≤◌, [], ◌∷◌, length, Option, Some, None, arith, IfSome, ◌≢◌, ◌+◌, ◌-◌, ◌*◌, List, Ok, refl, ap, ◌∙◌}
use Rattle.jup_batch.specs.Prelude.{most_operations, Name, SeqOp, Insert, Delete, Relabel, Nothing as NoSeqOp, BoardOp, Widget, Text, Labels, WidgetOp, OnText, OnList, Command, InsertAt, DeleteAt, RelabelAt, SetValue, count_of, insertions, boards, board_operations, next_name, named, on_widget}
use Rattle.jup_xform.specs.Batches.{HaveRoom}
use Rattle.jup_value.specs.Items.{Items}
use Rattle.jup_seq.specs.Laws.Kinds.{put_name-text}
use Rattle.jup_seq.specs.Operations as seq
use Rattle.jup_window.specs.Entries.{widget_at}
use Rattle.jup_window.specs.Commands.{shown}
use Rattle.jup_window.specs.Laws.Operations.{named_from, named_shown, of_named, board_laws}
use Rattle.jup_window.specs.Widgets.{inserted}
use Rattle.jup_window.specs.Widgets as widget
use Rattle.jup_window.specs.Boards as one
use Rattle.jup_batch.specs.Batched.{operations_of}
use Rattle.jup_batch.specs.Laws.BatchedLaws.{stepped, none_stepped}
use Rattle.jup_batch.specs.Boards.{after}
use Rattle.jup_batch.specs.Boards as board

-- Batches that insert nothing need no room

of_sequence : {V : Type 0} (o : SeqOp V) (n : ℕ) (x : Items V) → count_of (seq.inserted_by o) ≡ 0 → seq.HasRoom o n x
of_sequence (Insert p y) n x none = absurd (omega (arith, none))
of_sequence (Delete p m) n x none = tt
of_sequence (Relabel p m v) n x none = tt
of_sequence NoSeqOp n x none = tt

of_widget : (o : WidgetOp) (n : ℕ) (w : Widget) → count_of (widget.inserted o) ≡ 0 → widget.HasRoom o n w
of_widget (OnText o) n (Text x) none = of_sequence o n x (rw (put_name-text o) at none)
of_widget (OnList o) n (Labels x) none = of_sequence o n x none
of_widget o n (Text x) none = tt
of_widget o n w none = tt

if_there : (o : WidgetOp) (n : ℕ) (w : Option Widget) → count_of (widget.inserted o) ≡ 0 → IfSome w (widget.HasRoom o n)
if_there o n (Some w) none = of_widget o n w none
if_there o n None none = tt

of_board : (o : BoardOp) (n : ℕ) (b : one.Windows) → board_operations.insertions (one.edit_of o) ≡ 0 → one.HasRoom o n b
of_board o n b none = if_there o.op n (widget_at (one.place o) b) none

of_all : (os : board.BoardBatch) (n : ℕ) (b : board.Windows) → board.insertions (board.edit_of os) ≡ 0 → HaveRoom boards os n b
of_all [] n b none = tt
of_all (o ∷ os) n b none = (of_board o n b (omega (arith, none)), of_all os n b (omega (arith, none)))

-- a batch that lacks room inserts an item
pub inserts_where_room_lacks : (os : board.BoardBatch) (n : ℕ) (b : board.Windows) → (board.HasRoom os n b → ⊥) → 1 ≤ board.insertions (board.edit_of os)
inserts_where_room_lacks os n b lacks =
    let some : board.insertions (board.edit_of os) ≢ 0 = λ none. lacks (of_all os (most_operations * n + (length os - 1)) b none) in
    omega (arith, some)

-- What a board shows of commands that are made one after another, and that their operations leave it so

-- how many items a command inserts
abbrev pub items_inserted : Command → ℕ
items_inserted (InsertAt win wid p v) = 1
items_inserted (DeleteAt win wid p) = 0
items_inserted (RelabelAt win wid p v) = 0
items_inserted (SetValue win wid v) = 0

-- a board as it is shown after commands of a site, each insertion under the site's next name
abbrev pub all_shown : List Command → ℕ → ℕ → one.Windows → one.Windows
all_shown [] site count b = b
all_shown (c ∷ cs) site count b = all_shown cs site (count + items_inserted c) (shown c (next_name site count) b)

inserted_on : (c : Command) (n : Name) (w : Widget) (op : WidgetOp) → on_widget c n w ≡ Ok op → count_of (inserted op) ≡ items_inserted c
inserted_on c n w op e =
    of_named n (λ c w o. count_of (inserted o) ≡ items_inserted c)
    (λ win wid p v x within short. refl) (λ win wid p v x within short. refl)
    (λ win wid p x y there. refl) (λ win wid p x y there. refl) (λ win wid p v x y there. refl)
    (λ win wid s w op set. ap count_of set.inserts)
    c w op e

named_inserts : (c : Command) (n : Name) (b : one.Windows) (op : BoardOp) → named c n b ≡ Ok op → insertions (one.edit_of op) ≡ items_inserted c
named_inserts c n b op e =
    let found = named_from c n b op e in
    inserted_on c n found.widget op.op found.is

-- the operations that commands become leave the board as the commands are shown
pub operations_shown : (b : one.Windows) (cs : List Command) (site count : ℕ) (os : List BoardOp) → operations_of board_operations b cs site count ≡ Ok os
    → after os b ≡ all_shown cs site count b
operations_shown b [] site count os e = ap (λ ops. after ops b) (none_stepped board_operations board_laws os e)
operations_shown b (c ∷ cs) site count os e =
    let s = stepped board_operations board_laws b c cs site count os e in
    ap (λ ops. after ops b) s.is
    ∙ operations_shown (one.after s.op b) cs site (count + insertions (one.edit_of s.op)) s.rest s.more
    ∙ ap (λ n. all_shown cs site (count + n) (one.after s.op b)) (named_inserts c (next_name site count) b s.op s.first)
    ∙ ap (λ x. all_shown cs site (count + items_inserted c) x) (named_shown c (next_name site count) b s.op s.first)
