-- Boards as text, line by line.
use Rattle.std.specs.Prelude.{ℕ, List, [], ◌∷◌, ◌++◌, map, codes, decimal, ◌≡◌, ◌+◌, ◌⊎◌, Option, Some, None, ◌<◌, ◌≤◌, ◌^◌, length, false}
use Rattle.jup_text.specs.Prelude.{Item, IsLabelText, Widget, WidgetValue, Text, Labels, flat_map, join_with_byte, AllByRecursion, IsScalar}
use Rattle.jup_wire.specs.Kinds.{value_of, said_widget, value_word, value_fields, HasRanges}
use Rattle.jup_window.specs.Boards.{Windows}
use Rattle.jup_window.specs.Entries.{change_at, with_entry, entry_fault, widget_fault}
use Rattle.jup_text.specs.Words.{quoted}
use Rattle.jup_text.specs.Commands.{IsId}
use Rattle.jup_window.specs.Prelude.{longest_sequence, has_name}

-- Boards as text: a line for each window, and after it one for each of its widgets.

-- words with one space between them, and a line feed
abbrev pub line_of : List (List ℕ) → List ℕ
line_of words = join_with_byte 32 words ++ 10 ∷ []

-- those of a widget without items, as on its line of a link
abbrev pub value_words : ℕ → Option WidgetValue → List (List ℕ)
value_words wid None = []
value_words wid (Some value) = value_word value ∷ decimal wid ∷ value_fields value

abbrev pub widget_words : ℕ → Widget → List (List ℕ)
widget_words wid (Text x) = codes "text" ∷ decimal wid ∷ quoted (map (λ item. item.value) x.items) ∷ []
widget_words wid (Labels x) = codes "list" ∷ decimal wid ∷ map (λ item. quoted item.value) x.items
widget_words wid other = value_words wid (value_of other)

-- a widget's line
abbrev pub widget_line : ℕ × Widget → List ℕ
widget_line entry = line_of (widget_words entry.0 entry.1)

-- a window's line, and those of its widgets
abbrev pub window_lines : ℕ × List (ℕ × Widget) → List ℕ
window_lines window = line_of (codes "window" ∷ decimal window.0 ∷ []) ++ flat_map widget_line window.1

-- a board as it is printed
abbrev pub board_text : Windows → List ℕ
board_text windows = flat_map window_lines windows

-- A widget as its line has it, and how its items are named.

-- items that are named onward after a number, as 0.1 and 0.2 after 0, and the number of the last
abbrev pub AreNumbered : {V : Type 0} → ℕ → List (Item V) → ℕ → Type 0
AreNumbered before [] last = last ≡ before
AreNumbered before (x ∷ xs) last = (x.name ≡ record { site = 0; number = before + 1 }) × AreNumbered (before + 1) xs last

-- the same of the items of a widget
abbrev pub IsNumbered : ℕ → Widget → ℕ → Type 0
IsNumbered before (Text x) last = AreNumbered before x.items last
IsNumbered before (Labels x) last = AreNumbered before x.items last
IsNumbered before other last = last ≡ before

-- a line, without its line feed, is that of this widget
abbrev pub IsLineOf : List ℕ → ℕ → Widget → Type 0
IsLineOf line wid widget = line ++ 10 ∷ [] ≡ widget_line (wid, widget)

-- and its items are named onward after a number
abbrev pub IsWidgetLine : ℕ → List ℕ → ℕ → Widget → ℕ → Type 0
IsWidgetLine before line wid widget last = IsLineOf line wid widget × IsNumbered before widget last

-- What was read of a board, line by line.

-- the board so far, its last window, and the number of its last item
abbrev pub Draft : Type 0
Draft = Windows × Option ℕ × ℕ

-- the line of a window that may be added: it is the last then
pub record TakesWindow (old : Draft) (line : List ℕ) (new : Draft) : Type 0 where
  pub win : ℕ
  pub spelled : line ++ 10 ∷ [] ≡ line_of (codes "window" ∷ decimal win ∷ [])
  pub allowed : entry_fault win old.0 ≡ None
  pub taken : new ≡ (with_entry win [] old.0, Some win, old.2)

-- the line of a widget that may be added to the last window: its items get the names after the last
pub record TakesWidget (old : Draft) (line : List ℕ) (new : Draft) : Type 0 where
  pub win : ℕ
  pub wid : ℕ
  pub widget : Widget
  pub in_last : old.1 ≡ Some win
  pub spelled : IsWidgetLine old.2 line wid widget new.2
  pub allowed : widget_fault win wid old.0 ≡ None
  pub board : new.0 ≡ change_at win (with_entry wid widget) old.0
  pub window : new.1 ≡ Some win

-- a line is taken that is one of these
abbrev pub IsTaken : Draft → List ℕ → Draft → Type 0
IsTaken old line new = TakesWindow old line new ⊎ TakesWidget old line new

-- Which lines a board may have, as it is printed, after those before it.

-- the values of a text or a list after so many items of the board. Each is in its range, a sequence has room for them, and there are numbers left for them
pub record AreValues {V : Type 0} (IsIn : V → Type 0) (before : ℕ) (values : List V) : Type 0 where
  pub each : AllByRecursion IsIn values
  pub short : length values ≤ longest_sequence
  pub numbered : before + length values < 2 ^ 32

-- a widget that a board may have after so many items
abbrev pub IsHeld : ℕ → Widget → Type 0
IsHeld before (Text x) = AreValues IsScalar before (map (λ item. item.value) x.items)
IsHeld before (Labels x) = AreValues IsLabelText before (map (λ item. item.value) x.items)
IsHeld before other = (value : WidgetValue) → value_of other ≡ Some value → HasRanges value × (said_widget value ≡ Some other)

-- what follows the word of a widget without items
pub record IsValueText (text : List ℕ) (wid : ℕ) (value : WidgetValue) (widget : Widget) : Type 0 where
  pub id : IsId wid
  pub ranges : HasRanges value
  pub said : said_widget value ≡ Some widget
  pub spelled : text ≡ decimal wid ++ 32 ∷ join_with_byte 32 (value_fields value)

-- the line of a window that may be added
pub record IsNextWindow (draft : Draft) (line : List ℕ) : Type 0 where
  pub win : ℕ
  pub id : IsId win
  pub spelled : line ++ 10 ∷ [] ≡ line_of (codes "window" ∷ decimal win ∷ [])
  pub allowed : entry_fault win draft.0 ≡ None

-- the line of a widget that may be added to the last window
pub record IsNextWidget (draft : Draft) (line : List ℕ) : Type 0 where
  pub win : ℕ
  pub wid : ℕ
  pub widget : Widget
  pub in_last : draft.1 ≡ Some win
  pub id : IsId wid
  pub held : IsHeld draft.2 widget
  pub spelled : IsLineOf line wid widget
  pub allowed : widget_fault win wid draft.0 ≡ None

-- a line that may come next is one of these
abbrev pub IsNext : Draft → List ℕ → Type 0
IsNext draft line = IsNextWindow draft line ⊎ IsNextWidget draft line

-- The numbers of the items of a printed board.

-- no item of a layout has a number after `last`
abbrev pub IsNumberedTo : {V : Type 0} → ℕ → List (Item V) → Type 0
IsNumberedTo last items = (number : ℕ) → last < number → has_name (record { site = 0; number = number }) items ≡ false
