-- Lines as boards, and boards as lines.
use Rattle.std.specs.Prelude.{◌≡◌, ℕ, suc, Bool, true, if◌then◌else◌, nat_le, List, [], ◌∷◌, ◌++◌, length, Option, Some, None, is_none, Result, Ok, Err, ◌==◌, ◌⊎◌, map, ◌||◌}
use Rattle.std.specs.List.{flat_map, AllByRecursion}
use Rattle.std.specs.Ordering.{nat_cmp, ordering_then}
use Rattle.std.specs.BTreeSet.{contains}
use Rattle.jup_layout.specs.Prelude.{longest_sequence, Name, Item, Items, has_name, name_eq, AreDistinct, BoardFault, Widget, WidgetValue, Text, Labels, Windows, Line, WireFault, Refusal, NoMemory, DoubleId, TooMany, BadId, BadBounds, Misplaced, BadItemName, Added, AddedChar, AddedLabel, Naming, Distinct, Numbered, LayoutFault, value_of, said_widget, option_map}
use Rattle.jup_window.specs.declared.faults.BoardFault.TheVariants as fault
use Rattle.jup_window.specs.Entries.{entry_fault, widget_fault, change_at, with_entry, IsTable}
use Rattle.jup_window.specs.Boards as board
use Rattle.jup_window.specs.Widgets as widget
use Rattle.jup_wire.specs.declared.line.Line.TheVariants as line
use Rattle.jup_wire.specs.Lines.{wire_fault_number, HasSpelling, spelling}
use Rattle.jup_wire.specs.Streams.{Progress, HasRead, ending_at}
use Rattle.jup_layout.specs.declared.names.Names.{Names}
use Rattle.jup_faults.specs.Faults.{fault_number}
use Rattle.jup_faults.specs.declared.table.Fault.TheVariants as faults

-- Lines as a board, line by line.

-- the refusal of a window or a widget, as one of its line
abbrev pub refusal_of : BoardFault → Refusal
refusal_of fault.NoWindow = Misplaced
refusal_of fault.NoMemory = NoMemory
refusal_of fault.DoubleId = DoubleId
refusal_of fault.TooMany = TooMany
refusal_of fault.BadId = BadId

-- the tests of an item's name and of its place, before the test that no item of the sequence has the name
abbrev pub naming_refusal : Naming → Name → ℕ → Option Refusal
naming_refusal Distinct name place = None
naming_refusal (Numbered count) name place =
    if name_eq name (record { site = 0; number = suc count }) then (if nat_le longest_sequence place then Some TooMany else None) else Some BadItemName

abbrev pub next_naming : Naming → Naming
next_naming Distinct = Distinct
next_naming (Numbered count) = Numbered (suc count)

-- the refusal of an item at the end of a sequence
abbrev pub first_refusal : Option Refusal → Bool → Option Refusal
first_refusal (Some refusal) held = Some refusal
first_refusal None held = if held then Some BadItemName else None

abbrev pub item_refusal : {V : Type 0} → Naming → Name → List (Item V) → Option Refusal
item_refusal naming name items = first_refusal (naming_refusal naming name (length items)) (has_name name items)

-- what the lines so far describe: a board, and the window of the last window line. Then the last widget
-- line's widget, which takes items and is not on the board yet, with the window that it belongs to
pub record Drafted : Type 0 where
  pub board : board.Windows
  pub window : Option ℕ
  pub home : Option ℕ
  pub last : Option (ℕ × Widget)
  pub naming : Naming

-- what the lines so far describe, and the number of the next line
pub record Built : Type 0 where
  pub drafted : Drafted
  pub next : ℕ

-- nothing is described yet
abbrev pub blank : Naming → Drafted
blank naming = record { board = []; window = None; home = None; last = None; naming = naming }

-- the board with a widget put into a window
abbrev pub put_into : Option ℕ → Option (ℕ × Widget) → board.Windows → board.Windows
put_into None last windows = windows
put_into (Some win) None windows = windows
put_into (Some win) (Some entry) windows = change_at win (with_entry entry.0 entry.1) windows

-- the board that the lines so far describe
abbrev pub whole : Drafted → board.Windows
whole d = put_into d.home d.last d.board

-- a value unless there is a refusal
abbrev pub unless : {A : Type 0} → Option Refusal → A → Result A Refusal
unless None a = Ok a
unless (Some refusal) a = Err refusal

-- after a window line, which does not end the widget of the last widget line
abbrev pub with_window : ℕ → Drafted → Result Drafted Refusal
with_window win d =
    unless (option_map refusal_of (entry_fault win d.board))
    (record { board = with_entry win [] d.board; window = Some win; home = d.home; last = d.last; naming = d.naming })

-- after the line of a widget in the last window
abbrev pub with_widget_in : Option ℕ → ℕ → Widget → Drafted → Result Drafted Refusal
with_widget_in None wid w d = Err Misplaced
with_widget_in (Some win) wid w d =
    unless (option_map refusal_of (widget_fault win wid (whole d)))
    (record { board = whole d; window = Some win; home = Some win; last = Some (wid, w); naming = d.naming })

abbrev pub with_widget : ℕ → Widget → Drafted → Result Drafted Refusal
with_widget wid w d = with_widget_in d.window wid w d

-- after the line of a widget without items, which says this widget, or one whose value is outside its bounds
abbrev pub with_said : Option ℕ → Option Widget → ℕ → Drafted → Result Drafted Refusal
with_said None said wid d = Err Misplaced
with_said (Some win) None wid d = Err BadBounds
with_said (Some win) (Some w) wid d = with_widget wid w d

-- after one more item of a sequence
abbrev pub with_item : {V : Type 0} → (Items V → Widget) → ℕ → Items V → Item V → Drafted → Result Drafted Refusal
with_item make wid x item d =
    unless (item_refusal d.naming item.name x.items)
    (record d { last = Some (wid, make (record x { items = x.items ++ item ∷ [] })); naming = next_naming d.naming })

-- after an item's line: a text takes characters, and a list labels
abbrev pub with_added : Option (ℕ × Widget) → Added → Drafted → Result Drafted Refusal
with_added None added d = Err Misplaced
with_added (Some (wid, Text x)) (AddedChar item) d = with_item Text wid x item d
with_added (Some (wid, Text x)) (AddedLabel item) d = Err Misplaced
with_added (Some (wid, Labels x)) (AddedChar item) d = Err Misplaced
with_added (Some (wid, Labels x)) (AddedLabel item) d = with_item Labels wid x item d
with_added (Some (wid, other)) added d = Err Misplaced

-- after one more line
abbrev pub taken : Drafted → Line → Result Drafted Refusal
taken d (line.Window win) = with_window win d
taken d (line.Text wid) = with_widget wid (Text (record { items = []; spare = 0 })) d
taken d (line.List wid) = with_widget wid (Labels (record { items = []; spare = 0 })) d
taken d (line.Value wid value) = with_said d.window (said_widget value) wid d
taken d (line.Char name value) = with_added d.last (AddedChar (record { name = name; value = value })) d
taken d (line.Item name value) = with_added d.last (AddedLabel (record { name = name; value = value })) d
taken d line.Hello = Err Misplaced
taken d (line.Welcome site limit) = Err Misplaced
taken d line.Ready = Err Misplaced
taken d (line.Batch mine heard count) = Err Misplaced
taken d (line.Do op) = Err Misplaced
taken d (line.Ack n) = Err Misplaced
taken d (line.Ping n) = Err Misplaced
taken d (line.Pong n) = Err Misplaced
taken d line.Bye = Err Misplaced
taken d (line.Error n) = Err Misplaced

-- how many items the last widget line's widget has
abbrev pub items_in_last : Option (ℕ × Widget) → ℕ
items_in_last None = 0
items_in_last (Some (wid, Text x)) = length x.items
items_in_last (Some (wid, Labels x)) = length x.items
items_in_last (Some (wid, other)) = 0

-- no refusal is due when the last widget is put into its window
abbrev pub is_free : Option ℕ → Option (ℕ × Widget) → board.Windows → Bool
is_free None last windows = true
is_free (Some win) None windows = true
is_free (Some win) (Some entry) windows = is_none (widget_fault win entry.0 windows)

-- a widget under its id, without its room
abbrev pub bare_last : Option (ℕ × Widget) → Option (ℕ × Widget)
bare_last last = option_map (λ entry. (entry.0, widget.bare entry.1)) last

-- a call gives what is due, apart from room and failed allocations
abbrev pub Follows : {A B : Type 0} → (A → B) → Result A Refusal → Result B Refusal → Type 0
Follows view (Ok a) due = due ≡ Ok (view a)
Follows view (Err NoMemory) due = Unit {0}
Follows view (Err refusal) due = due ≡ Err refusal

-- an allocation for a sequence can fail only if it has no room; but names that are kept need allocations of their own
abbrev pub LacksRoom : Naming → ℕ → Type 0
LacksRoom Distinct spare = Unit {0}
LacksRoom (Numbered count) spare = spare ≡ 0

-- a sequence with one more item at its end, unless it is refused
abbrev pub Appended : {V : Type 0} → Naming → Items V → Item V → Result (Items V × Naming) Refusal → Type 0
Appended naming before item (Ok after) =
    (item_refusal naming item.name before.items ≡ None) × (after.0.items ≡ before.items ++ item ∷ []) × (after.1 ≡ next_naming naming)
Appended naming before item (Err NoMemory) = LacksRoom naming before.spare
Appended naming before item (Err refusal) = item_refusal naming item.name before.items ≡ Some refusal

-- The numbers of the refusals of layouts.

-- the number of each, as messages and printed texts give it
abbrev pub refusal_number : Refusal → ℕ
refusal_number NoMemory = fault_number faults.NoMemory
refusal_number DoubleId = fault_number faults.DoubleId
refusal_number TooMany = fault_number faults.TooMany
refusal_number BadId = fault_number faults.BadId
refusal_number BadBounds = fault_number faults.BadBounds
refusal_number Misplaced = fault_number faults.Misplaced
refusal_number BadItemName = fault_number faults.BadItemName

-- Whole lists of lines as boards.

-- a result, and what is made of it unless it is a fault
infixl 10 ◌>>?◌
abbrev pub ◌>>?◌ : {A B : Type 0} → Result A LayoutFault → (A → Result B LayoutFault) → Result B LayoutFault
(Ok a) >>? f = f a
(Err fault) >>? f = Err fault

-- a refusal as a fault of the line with this number
abbrev pub at_line : {A : Type 0} → ℕ → Result A Refusal → Result A LayoutFault
at_line number (Ok a) = Ok a
at_line number (Err refusal) = Err (record { line = number; number = refusal_number refusal })

-- after lines, the first of which has this number; there are at most 4,294,967,294
abbrev pub lines_taken : ℕ → Drafted → List Line → Result Drafted LayoutFault
lines_taken number d [] = Ok d
lines_taken number d (line ∷ lines) =
    if number == 4294967295 then Err (record { line = number; number = refusal_number TooMany }) else (at_line number (taken d line) >>? λ next. lines_taken (suc number) next lines)

-- the board that lines describe, or the first line that cannot come after those before it
abbrev pub board_from : Naming → List Line → Result board.Windows LayoutFault
board_from naming lines = lines_taken 1 (blank naming) lines >>? λ d. Ok (whole d)

-- if the names are distinct in each sequence, and if they are numbered as in a layout
abbrev pub board_with : List Line → Result board.Windows LayoutFault
board_with lines = board_from Distinct lines

abbrev pub layout_with : List Line → Result board.Windows LayoutFault
layout_with lines = board_from (Numbered 0) lines

-- a builder holds what these lines describe, and knows how many they are
abbrev pub HasTaken : Naming → List Line → Built → Type 0
HasTaken naming lines b = (lines_taken 1 (blank naming) lines ≡ Ok b.drafted) × (b.next ≡ suc (length lines))

-- a failed allocation
abbrev pub no_memory : LayoutFault
no_memory = record { line = 0; number = refusal_number NoMemory }

-- the board that is due apart from its room, or the fault that is due, or a failed allocation
abbrev pub Makes : Result board.Windows LayoutFault → Result board.Windows LayoutFault → Type 0
Makes (Ok windows) due = due ≡ Ok (board.bare windows)
Makes (Err fault) due = (fault ≡ no_memory) ⊎ (due ≡ Err fault)

-- after the lines of a text: the end of its bytes is a fault of the line after them, or none
abbrev pub ended : ℕ → Result (Unit {0}) WireFault → board.Windows → Result board.Windows LayoutFault
ended count (Ok done) windows = Ok windows
ended count (Err fault) windows = Err (record { line = suc count; number = wire_fault_number fault })

-- the layout of a text that was read so
abbrev pub layout_read : List Line → Progress → Result board.Windows LayoutFault
layout_read lines reader = layout_with lines >>? λ windows. ended (length lines) (ending_at reader.fault reader.part) windows

-- the layout that a text describes, or its first fault
pub record Describes (text : List ℕ) (due : Result board.Windows LayoutFault) : Type 0 where
  pub lines : List Line
  pub reader : Progress
  pub read : HasRead text lines reader
  pub is : due ≡ layout_read lines reader

-- these bytes are just these lines
pub record AreLines (text : List ℕ) (lines : List Line) : Type 0 where
  pub spelled : AllByRecursion HasSpelling lines
  pub whole : text ≡ flat_map spelling lines

-- the layout that a text describes apart from its room, or its first fault, or a failed allocation
abbrev pub Lays : List ℕ → Result board.Windows LayoutFault → Type 0
Lays text (Ok windows) = Describes text (Ok (board.bare windows))
Lays text (Err fault) = (fault ≡ no_memory) ⊎ Describes text (Err fault)

-- Boards as lines.

-- the lines of items, each by its name and its value
abbrev pub item_lines : {V : Type 0} → (Name → V → Line) → List (Item V) → List Line
item_lines line_of items = map (λ item. line_of item.name item.value) items

-- the line of a widget without items
abbrev pub value_lines : ℕ → Option WidgetValue → List Line
value_lines wid None = []
value_lines wid (Some value) = line.Value wid value ∷ []

-- a widget's line, and the items of a text or a list in order
abbrev pub widget_lines : ℕ × Widget → List Line
widget_lines (wid, Text x) = line.Text wid ∷ item_lines line.Char x.items
widget_lines (wid, Labels x) = line.List wid ∷ item_lines line.Item x.items
widget_lines (wid, other) = value_lines wid (value_of other)

-- a window's line, and those of its widgets
abbrev pub window_lines : ℕ × List (ℕ × Widget) → List Line
window_lines window = line.Window window.0 ∷ flat_map widget_lines window.1

abbrev pub board_lines : Windows → List Line
board_lines windows = flat_map window_lines windows

-- what holds of each widget: distinct names; or its line says it, since its value is within its bounds
abbrev pub IsWidget : ℕ × Widget → Type 0
IsWidget (wid, Text x) = AreDistinct x.items
IsWidget (wid, Labels x) = AreDistinct x.items
IsWidget (wid, other) = (value : WidgetValue) → value_of other ≡ Some value → said_widget value ≡ Some other

-- what holds of each window, and of each board
abbrev pub IsWindow : ℕ × List (ℕ × Widget) → Type 0
IsWindow window = IsTable window.1 × AllByRecursion IsWidget window.1

abbrev pub IsBoard : Windows → Type 0
IsBoard windows = IsTable windows × AllByRecursion IsWindow windows

-- The names that a sequence's items have, as a set.

-- whether the name is one of these
abbrev pub is_held : Name → Names → Bool
is_held name names = contains (λ x y. ordering_then (nat_cmp x.0 y.0) (nat_cmp x.1 y.1)) names.held (name.site, name.number)

-- these are the names of the items
abbrev pub AreNamesOf : {V : Type 0} → List (Item V) → Names → Type 0
AreNamesOf items names = (name : Name) → is_held name names ≡ has_name name items

-- items have one more name
abbrev pub AddsName : {V : Type 0} → Name → List (Item V) → List (Item V) → Type 0
AddsName name before after = (other : Name) → has_name other after ≡ (name_eq name other || has_name other before)

-- or, if they are numbered, none are kept
abbrev pub AreKept : {V : Type 0} → Naming → List (Item V) → Names → Type 0
AreKept Distinct items names = AreNamesOf items names
AreKept (Numbered count) items names = Unit {0}

-- and of the last widget's items, if it has any
abbrev pub AreKeptIn : Naming → Option (ℕ × Widget) → Names → Type 0
AreKeptIn naming None names = Unit {0}
AreKeptIn naming (Some (wid, Text x)) names = AreKept naming x.items names
AreKeptIn naming (Some (wid, Labels x)) names = AreKept naming x.items names
AreKeptIn naming (Some (wid, other)) names = Unit {0}
