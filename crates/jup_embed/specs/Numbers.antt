-- The numbers of c/jup.h, and what is passed in numbers.
use Rattle.std.specs.Prelude.{ℕ, ◌==◌, ◌||◌, nat_le, if◌then◌else◌, Option, Some, None, Result, Ok, Err, ◌≡◌, ◌⊎◌, ℤ, pos, ◌≤◌, List, [], ◌∷◌, length, take, replicate}
use Rattle.std.specs.Char.{IsScalar}
use Rattle.jup_limits.specs.Limits.{longest_label}
use Rattle.jup_value.specs.Labels.{IsLabelText}
use Rattle.jup_window.specs.Prelude.{Insert, Delete, Relabel}
use Rattle.jup_window.specs.declared.commands.Value.{Value}
use Rattle.jup_window.specs.declared.commands.Value.TheVariants.{Char, Label}
use Rattle.jup_window.specs.declared.commands.Command.TheVariants.{Insert as InsertAt, Delete as DeleteAt, Relabel as RelabelAt, Set as SetValue}
use Rattle.jup_window.specs.declared.kinds.Setting.{Setting}
use Rattle.jup_window.specs.declared.kinds.WidgetOp.{WidgetOp}
use Rattle.jup_window.specs.declared.kinds.WidgetOp.TheVariants.{Text as OnText, List as OnList}
use Rattle.jup_window.specs.Commands.{command_place}
use Rattle.jup_window.specs.Kinds.{setting_kind, setting_number, op_setting, IsToldBy}
use Rattle.jup_wire.specs.Kinds.{kind_number, value_numbers}
use Rattle.jup_client.specs.Ends.{client_end_number}
use Rattle.jup_embed.specs.Prelude.{Command, BoardOp, edit_fault_number, EmbedFault}
use Rattle.jup_embed.specs.Sessions.{Session, MakesEdit}
use Rattle.jup_embed.specs.declared.refusals.EmbedFault.TheVariants as fault
use Rattle.jup_faults.specs.Faults.{fault_number}
use Rattle.jup_faults.specs.declared.table.Fault.TheVariants as faults
use Rattle.jup_embed.specs.declared.client.Stage.{Stage}
use Rattle.jup_embed.specs.declared.client.Stage.TheVariants.{Greeting, Opening, Open, Over}
use Rattle.jup_embed.specs.declared.board_view.WidgetKind.{WidgetKind}
use Rattle.jup_embed.specs.declared.board_view.WidgetKind.TheVariants as widget
use Rattle.jup_embed.specs.declared.board_view.WidgetView.{WidgetView}
use Rattle.jup_embed.specs.declared.plain.commands.PlainCommand.{PlainCommand}
use Rattle.jup_embed.specs.declared.plain.changes.PlainChange.{PlainChange}
use Rattle.jup_embed.specs.declared.plain.widgets.PlainWidget.{PlainWidget}

-- The numbers of c/jup.h: of each kind of commands, of changes and of widgets, of each stage, and of each answer.

-- what a command asks for
abbrev pub command_kind : Command → ℕ
command_kind (InsertAt win wid place (Char value)) = 1
command_kind (InsertAt win wid place (Label label)) = 2
command_kind (DeleteAt win wid place) = 3
command_kind (RelabelAt win wid place label) = 4
command_kind (SetValue win wid setting) = setting_kind setting

-- what a change did: the kind of the command that asks for it, and 0 if the board stayed as it was
abbrev pub set_kind : Option Setting → ℕ
set_kind None = 0
set_kind (Some setting) = setting_kind setting

abbrev pub change_kind : WidgetOp → ℕ
change_kind (OnText (Insert place item)) = 1
change_kind (OnList (Insert place item)) = 2
change_kind (OnText (Delete place name)) = 3
change_kind (OnList (Delete place name)) = 3
change_kind (OnList (Relabel place name label)) = 4
change_kind other = set_kind (op_setting other)

-- what a widget is
abbrev pub widget_kind : WidgetKind → ℕ
widget_kind (widget.Text count) = 1
widget_kind (widget.List count) = 2
widget_kind (widget.Value value) = kind_number value
widget_kind widget.Unknown = 0

-- how far a session is
abbrev pub stage_number : Stage → ℕ
stage_number Greeting = 0
stage_number Opening = 1
stage_number Open = 2
stage_number (Over end) = 3

-- where there is no client
abbrev pub no_stage : ℕ
no_stage = 4

-- why a call is refused
abbrev pub embed_fault_number : EmbedFault → ℕ
embed_fault_number fault.NotOpen = 91
embed_fault_number (fault.Over end) = client_end_number end
embed_fault_number (fault.Edit refused) = edit_fault_number refused
embed_fault_number fault.NoMemory = fault_number faults.NoMemory

-- the answers that only clients in other programs have, and that of a label that is none
abbrev pub bad_label : ℕ
bad_label = 14

abbrev pub closed : ℕ
closed = 90

abbrev pub bad_command : ℕ
bad_command = 92

abbrev pub strange : ℕ
strange = 93

-- after the end of a session with this number: the number, unless it is no fault's, since a server can send any
abbrev pub end_answer : ℕ → ℕ
end_answer number = if number == 0 || nat_le closed number then strange else number

-- of a session that is over, and 0 before
abbrev pub stage_fault : Stage → ℕ
stage_fault (Over end) = end_answer (client_end_number end)
stage_fault other = 0

-- of a refused call: the number of its fault, and the answer of the end if the session is over
abbrev pub refusal_answer : EmbedFault → ℕ
refusal_answer (fault.Over end) = end_answer (client_end_number end)
refusal_answer refused = embed_fault_number refused

-- of a call that was done or refused
abbrev pub answer : Result (Unit {0}) EmbedFault → ℕ
answer (Ok done) = 0
answer (Err refused) = refusal_answer refused

-- Commands, changes and widgets in numbers.

-- the bytes that a command has of a label
abbrev pub label_bytes : PlainCommand → List ℕ
label_bytes told = take told.label_len told.label

-- a command has this label
pub record HasLabel (told : PlainCommand) (label : List ℕ) : Type 0 where
  pub fits : told.label_len ≤ length told.label
  pub bytes : label_bytes told ≡ label
  pub text : IsLabelText label

abbrev pub HasValue : PlainCommand → Value → Type 0
HasValue told (Char value) = (told.value ≡ pos value) × IsScalar value
HasValue told (Label label) = HasLabel told label

-- the fields that the kind of the command uses beside the ids
abbrev pub HasFields : PlainCommand → Command → Type 0
HasFields told (InsertAt win wid place value) = (told.place ≡ place) × HasValue told value
HasFields told (DeleteAt win wid place) = told.place ≡ place
HasFields told (RelabelAt win wid place label) = (told.place ≡ place) × HasLabel told label
HasFields told (SetValue win wid setting) = IsToldBy setting told.value

-- these numbers spell the command
pub record Spells (told : PlainCommand) (command : Command) : Type 0 where
  pub kind : told.kind ≡ command_kind command
  pub ids : (told.win, told.wid) ≡ command_place command
  pub fields : HasFields told command

-- the answer for numbers that are no command: what is wrong is the label, if their kind has one
abbrev pub wrong_part : PlainCommand → ℕ
wrong_part told = if told.kind == 2 || told.kind == 4 then bad_label else bad_command

-- these numbers are no command, and this is the answer
pub record IsWrong (fault : ℕ) (told : PlainCommand) : Type 0 where
  pub none : (command : Command) → Spells told command → ⊥
  pub answer : fault ≡ wrong_part told

-- these numbers spell the commands, one after the other
abbrev pub SpellAll : List PlainCommand → List Command → Type 0
SpellAll [] [] = Unit {0}
SpellAll (told ∷ rest) (command ∷ commands) = Spells told command × SpellAll rest commands
SpellAll told commands = ⊥

-- an edit of the commands that these numbers spell
abbrev pub MakesSpelled : List PlainCommand → Session → Session → Type 0
MakesSpelled told c d = (commands : List Command) × SpellAll told commands × MakesEdit commands c d

-- of these numbers the first that are no command have this answer
abbrev pub IsFirstWrong : ℕ → List PlainCommand → Type 0
IsFirstWrong fault [] = ⊥
IsFirstWrong fault (told ∷ rest) = IsWrong fault told ⊎ ((command : Command) × Spells told command × IsFirstWrong fault rest)

-- a change of which only the kind and the ids of the widget are known
abbrev pub bare_change : ℕ → BoardOp → PlainChange
bare_change kind op = record { kind = kind; win = op.win; wid = op.wid; place = 0; site = 0; number = 0; value = pos 0; label_len = 0; label = replicate longest_label 0 }

-- where it was in the text or the list, and 0 in other widgets
abbrev pub change_place : WidgetOp → ℕ
change_place (OnText (Insert place item)) = place
change_place (OnList (Insert place item)) = place
change_place (OnText (Delete place name)) = place
change_place (OnList (Delete place name)) = place
change_place (OnList (Relabel place name label)) = place
change_place other = 0

-- the site and the number of the item, and zeros if it was of none
abbrev pub change_name : WidgetOp → ℕ × ℕ
change_name (OnText (Insert place item)) = (item.name.site, item.name.number)
change_name (OnList (Insert place item)) = (item.name.site, item.name.number)
change_name (OnText (Delete place name)) = (name.site, name.number)
change_name (OnList (Delete place name)) = (name.site, name.number)
change_name (OnList (Relabel place name label)) = (name.site, name.number)
change_name other = (0, 0)

-- the character that was inserted, or the value that was set, and 0 if there was none
abbrev pub set_number : Option Setting → ℤ
set_number None = pos 0
set_number (Some setting) = setting_number setting

abbrev pub change_value : WidgetOp → ℤ
change_value (OnText (Insert place item)) = pos item.value
change_value other = set_number (op_setting other)

-- the label that was inserted or given, and no byte if there was none
abbrev pub change_label : WidgetOp → List ℕ
change_label (OnList (Insert place item)) = item.value
change_label (OnList (Relabel place name label)) = label
change_label other = []

-- a change shows what this operation did
pub record Shows (change : PlainChange) (op : BoardOp) : Type 0 where
  pub kind : change.kind ≡ change_kind op.op
  pub win : change.win ≡ op.win
  pub wid : change.wid ≡ op.wid
  pub place : change.place ≡ change_place op.op
  pub name : (change.site, change.number) ≡ change_name op.op
  pub value : change.value ≡ change_value op.op
  pub label_len : change.label_len ≡ length (change_label op.op)
  pub label : take change.label_len change.label ≡ change_label op.op

-- how many characters or items a widget has
abbrev pub widget_items : WidgetKind → ℕ
widget_items (widget.Text count) = count
widget_items (widget.List count) = count
widget_items other = 0

-- the bounds of a widget without items, and what it shows
abbrev pub widget_lo : WidgetKind → ℤ
widget_lo (widget.Value value) = (value_numbers value).0
widget_lo other = pos 0

abbrev pub widget_hi : WidgetKind → ℤ
widget_hi (widget.Value value) = (value_numbers value).1
widget_hi other = pos 0

abbrev pub widget_value : WidgetKind → ℤ
widget_value (widget.Value value) = (value_numbers value).2
widget_value other = pos 0

-- a widget in numbers is this widget
pub record IsWidget (widget : PlainWidget) (view : WidgetView) : Type 0 where
  pub kind : widget.kind ≡ widget_kind view.kind
  pub win : widget.win ≡ view.win
  pub wid : widget.wid ≡ view.wid
  pub items : widget.items ≡ widget_items view.kind
  pub lo : widget.lo ≡ widget_lo view.kind
  pub hi : widget.hi ≡ widget_hi view.kind
  pub value : widget.value ≡ widget_value view.kind
