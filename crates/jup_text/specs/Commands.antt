-- Commands and edits as text.
use Rattle.std.specs.Prelude.{ℕ, ◌^◌, ◌<◌, ◌≤◌, List, [], ◌∷◌, codes, decimal, ◌++◌, Option, Some, None}
use Rattle.jup_text.specs.Prelude.{IsU32, IsLabelText, Command, Insert, Delete, Relabel, Set, Setting, Value, Char, Label, join_with_byte, flat_map, IsScalar}
use Rattle.jup_window.specs.declared.edits.Edit.{Edit}
use Rattle.jup_window.specs.declared.kinds.Effect.{Effect}
use Rattle.jup_window.specs.declared.kinds.Effect.TheVariants.{PutChar, PutLabel, Deleted, Relabelled}
use Rattle.jup_window.specs.Kinds.{shown_edit, effect_setting}
use Rattle.jup_wire.specs.Kinds.{setting_text, IsSetting}
use Rattle.jup_text.specs.Words.{quoted, name_text}
use Rattle.jup_window.specs.declared.edits.BoardEdit.{BoardEdit}

-- Commands as text: their words, with one space between them.

abbrev pub value_words : Value → List (List ℕ)
value_words (Char c) = codes "char" ∷ quoted (c ∷ []) ∷ []
value_words (Label label) = codes "item" ∷ quoted label ∷ []

abbrev pub command_words : Command → List (List ℕ)
command_words (Insert win wid place value) = codes "ins" ∷ decimal win ∷ decimal wid ∷ decimal place ∷ value_words value
command_words (Delete win wid place) = codes "del" ∷ decimal win ∷ decimal wid ∷ decimal place ∷ []
command_words (Relabel win wid place label) = codes "rel" ∷ decimal win ∷ decimal wid ∷ decimal place ∷ quoted label ∷ []
command_words (Set win wid setting) = codes "set" ∷ decimal win ∷ decimal wid ∷ setting_text setting ∷ []

-- the one spelling of a command
abbrev pub command_text : Command → List ℕ
command_text command = join_with_byte 32 (command_words command)

-- what a program can hold
abbrev pub IsId : ℕ → Type 0
IsId id = id < 2 ^ 16

abbrev pub IsValue : Value → Type 0
IsValue (Char c) = IsScalar c
IsValue (Label label) = IsLabelText label

abbrev pub IsCommand : Command → Type 0
IsCommand (Insert win wid place value) = IsId win × (IsId wid × (IsU32 place × IsValue value))
IsCommand (Delete win wid place) = IsId win × (IsId wid × IsU32 place)
IsCommand (Relabel win wid place label) = IsId win × (IsId wid × (IsU32 place × IsLabelText label))
IsCommand (Set win wid setting) = IsId win × (IsId wid × IsSetting setting)

-- the line that begins a batch of so many commands, which are on lines of their own
abbrev pub batch_text : ℕ → List ℕ
batch_text count = join_with_byte 32 (codes "batch" ∷ decimal count ∷ [])

-- so many lines of commands are read; whether a site makes an edit of them is another question
abbrev pub IsBatchCount : ℕ → Type 0
IsBatchCount count = count ≤ 64

-- parts of a command's text, for what reads them: the value of an insertion, and what comes after the ids
abbrev pub value_text : Value → List ℕ
value_text value = join_with_byte 32 (value_words value)

-- Edits as text: their words, with one space between them.

-- the words of an effect that sets a value
abbrev pub setting_words : ℕ → ℕ → Option Setting → List (List ℕ)
setting_words win wid None = []
setting_words win wid (Some setting) = codes "set" ∷ decimal win ∷ decimal wid ∷ setting_text setting ∷ []

-- the words of an effect on the widget with these ids
abbrev pub effect_words : ℕ → ℕ → Effect → List (List ℕ)
effect_words win wid (PutChar name value) = codes "ins" ∷ decimal win ∷ decimal wid ∷ name_text name ∷ quoted (value ∷ []) ∷ []
effect_words win wid (PutLabel name label) = codes "ins" ∷ decimal win ∷ decimal wid ∷ name_text name ∷ quoted label ∷ []
effect_words win wid (Deleted name) = codes "del" ∷ decimal win ∷ decimal wid ∷ name_text name ∷ []
effect_words win wid (Relabelled name label) = codes "rel" ∷ decimal win ∷ decimal wid ∷ name_text name ∷ quoted label ∷ []
effect_words win wid other = setting_words win wid (effect_setting other)

-- an edit as it is printed; one that changes nothing is no text
abbrev pub edit_text : Edit → List ℕ
edit_text edit = join_with_byte 32 (effect_words edit.win edit.wid edit.what)

-- an edit after another, with a semicolon and a space between them
abbrev pub other_text : BoardEdit → List ℕ
other_text edit = codes "; " ++ edit_text (shown_edit edit)

-- edits as they are printed
abbrev pub edits_text : List BoardEdit → List ℕ
edits_text [] = []
edits_text (e ∷ es) = edit_text (shown_edit e) ++ flat_map other_text es
