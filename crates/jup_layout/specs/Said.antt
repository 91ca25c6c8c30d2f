-- What lines say of a board. The lines before a line decide what it is about: the window of the last window's line, and the widget of the last widget's line.
use Rattle.std.specs.Prelude.{◌≡◌, ◌≢◌, ℕ, suc, ◌<◌, Bool, false, List, [], ◌∷◌, ◌++◌, length, Option, Some, None, if◌then◌else◌}
use Rattle.std.specs.List.{AllByRecursion}
use Rattle.jup_layout.specs.Prelude.{longest_sequence, most_entries, Name, Item, Items, has_name, Widget, Text, Labels, Windows, Line, Added, AddedChar, AddedLabel, Naming, Distinct, Numbered, said_widget, option_map, IsSome}
use Rattle.jup_window.specs.Entries.{Place, same_place, widget_at, at_id}
use Rattle.jup_wire.specs.declared.line.Line.TheVariants as line
use Rattle.jup_layout.specs.Drafts.{next_naming, AreLines}

-- what a line says of a board: a window, a widget as it is before its items, or an item; a widget whose value is outside its bounds; or nothing
pub data Part : Type 0 where
  SaysWindow : ℕ → Part
  SaysWidget : ℕ → Widget → Part
  SaysItem : Added → Part
  SaysOutside : Part
  SaysNothing : Part

abbrev pub no_items : {V : Type 0} → Items V
no_items = record { items = []; spare = 0 }

-- a widget without items, unless its value is outside its bounds
abbrev pub says_value : ℕ → Option Widget → Part
says_value wid None = SaysOutside
says_value wid (Some w) = SaysWidget wid w

abbrev pub part_of : Line → Part
part_of (line.Window win) = SaysWindow win
part_of (line.Text wid) = SaysWidget wid (Text no_items)
part_of (line.List wid) = SaysWidget wid (Labels no_items)
part_of (line.Value wid value) = says_value wid (said_widget value)
part_of (line.Char name value) = SaysItem (AddedChar (record { name = name; value = value }))
part_of (line.Item name value) = SaysItem (AddedLabel (record { name = name; value = value }))
part_of other = SaysNothing

-- ---- what a history says, in which the newest part comes first

-- a text with one more character at its end, or a list with one more label
abbrev pub extended : Added → Widget → Widget
extended (AddedChar item) (Text x) = Text (record x { items = x.items ++ item ∷ [] })
extended (AddedLabel item) (Text x) = Text x
extended (AddedChar item) (Labels x) = Labels x
extended (AddedLabel item) (Labels x) = Labels (record x { items = x.items ++ item ∷ [] })
extended added other = other

-- the last window
abbrev pub last_window : List Part → Option ℕ
last_window [] = None
last_window (SaysWindow win ∷ older) = Some win
last_window (SaysWidget wid w ∷ older) = last_window older
last_window (SaysItem added ∷ older) = last_window older
last_window (SaysOutside ∷ older) = last_window older
last_window (SaysNothing ∷ older) = last_window older

-- the window and the id of the last widget, which may be in an earlier window than the last
abbrev pub last_place : List Part → Option Place
last_place [] = None
last_place (SaysWindow win ∷ older) = last_place older
last_place (SaysWidget wid w ∷ older) = option_map (λ win. (win, wid)) (last_window older)
last_place (SaysItem added ∷ older) = last_place older
last_place (SaysOutside ∷ older) = last_place older
last_place (SaysNothing ∷ older) = last_place older

-- the ids of the windows, and of the widgets of the last window
abbrev pub window_ids : List Part → List ℕ
window_ids [] = []
window_ids (SaysWindow win ∷ older) = win ∷ window_ids older
window_ids (SaysWidget wid w ∷ older) = window_ids older
window_ids (SaysItem added ∷ older) = window_ids older
window_ids (SaysOutside ∷ older) = window_ids older
window_ids (SaysNothing ∷ older) = window_ids older

abbrev pub widget_ids : List Part → List ℕ
widget_ids [] = []
widget_ids (SaysWindow win ∷ older) = []
widget_ids (SaysWidget wid w ∷ older) = wid ∷ widget_ids older
widget_ids (SaysItem added ∷ older) = widget_ids older
widget_ids (SaysOutside ∷ older) = widget_ids older
widget_ids (SaysNothing ∷ older) = widget_ids older

-- what the name of the next item has to be
abbrev pub named_by : Naming → List Part → Naming
named_by naming [] = naming
named_by naming (SaysWindow win ∷ older) = named_by naming older
named_by naming (SaysWidget wid w ∷ older) = named_by naming older
named_by naming (SaysItem added ∷ older) = next_naming (named_by naming older)
named_by naming (SaysOutside ∷ older) = named_by naming older
named_by naming (SaysNothing ∷ older) = named_by naming older

-- whether this is the place
abbrev pub is_place : Place → Option Place → Bool
is_place p None = false
is_place p (Some q) = same_place q p

-- the widget at a place, with its items: those that came before another widget
abbrev pub widget_said : Place → List Part → Option Widget
widget_said p [] = None
widget_said p (SaysWindow win ∷ older) = widget_said p older
widget_said p (SaysWidget wid w ∷ older) = if is_place p (option_map (λ win. (win, wid)) (last_window older)) then Some w else widget_said p older
widget_said p (SaysItem added ∷ older) = if is_place p (last_place older) then option_map (extended added) (widget_said p older) else widget_said p older
widget_said p (SaysOutside ∷ older) = widget_said p older
widget_said p (SaysNothing ∷ older) = widget_said p older

-- ---- which parts may come next

-- an id for one more window of a board, or one more widget of a window, with these ids so far
abbrev pub IsFreeId : ℕ → List ℕ → Type 0
IsFreeId id ids = (0 < id) × (AllByRecursion (λ other. other ≢ id) ids × (length ids < most_entries))

-- One more item of a sequence: no item of the sequence has its name. If items are numbered, it has the next number of all, and the sequence has room
abbrev pub IsNamed : Naming → Name → ℕ → Type 0
IsNamed Distinct name place = Unit {0}
IsNamed (Numbered count) name place = (name ≡ record { site = 0; number = suc count }) × (place < longest_sequence)

abbrev pub IsNextItem : {V : Type 0} → Naming → Name → List (Item V) → Type 0
IsNextItem naming name items = IsNamed naming name (length items) × (has_name name items ≡ false)

-- the item that a widget may have next: a text a character, a list a label
abbrev pub MayExtend : Naming → Added → Widget → Type 0
MayExtend naming (AddedChar item) (Text x) = IsNextItem naming item.name x.items
MayExtend naming (AddedLabel item) (Text x) = ⊥
MayExtend naming (AddedChar item) (Labels x) = ⊥
MayExtend naming (AddedLabel item) (Labels x) = IsNextItem naming item.name x.items
MayExtend naming added other = ⊥

abbrev pub MayCome : Naming → List Part → Part → Type 0
MayCome naming older (SaysWindow win) = IsFreeId win (window_ids older)
MayCome naming older (SaysWidget wid w) = IsSome (last_window older) × IsFreeId wid (widget_ids older)
MayCome naming older (SaysItem added) = (p : Place) × (w : Widget) × (last_place older ≡ Some p) × (widget_said p older ≡ Some w) × MayExtend (named_by naming older) added w
MayCome naming older SaysOutside = ⊥
MayCome naming older SaysNothing = ⊥

-- lines that may follow such a history, one after another
abbrev pub MayFollow : Naming → List Part → List Line → Type 0
MayFollow naming older [] = Unit {0}
MayFollow naming older (line ∷ lines) = MayCome naming older (part_of line) × MayFollow naming (part_of line ∷ older) lines

-- the history after such lines
abbrev pub history : List Part → List Line → List Part
history older [] = older
history older (line ∷ lines) = history (part_of line ∷ older) lines

-- the lines of a board, and those of a layout, whose items are named 0.1, 0.2 and so on
abbrev pub AreBoardLines : List Line → Type 0
AreBoardLines lines = MayFollow Distinct [] lines

abbrev pub AreLayoutLines : List Line → Type 0
AreLayoutLines lines = MayFollow (Numbered 0) [] lines

-- these are the ids of the entries
pub record AreIdsOf {A : Type 0} (ids : List ℕ) (entries : List (ℕ × A)) : Type 0 where
  pub absent : (id : ℕ) → AllByRecursion (λ other. other ≢ id) ids → at_id id entries ≡ None
  pub present : (id : ℕ) → at_id id entries ≡ None → AllByRecursion (λ other. other ≢ id) ids
  pub count : length entries ≡ length ids

-- a board has the windows and the widgets that the lines say, and no other
pub record Shows (lines : List Line) (windows : Windows) : Type 0 where
  pub ids : AreIdsOf (window_ids (history [] lines)) windows
  pub widgets : (p : Place) → widget_at p windows ≡ widget_said p (history [] lines)

-- a text is a layout, and this is its board
pub record IsLayout (text : List ℕ) (windows : Windows) : Type 0 where
  pub lines : List Line
  pub spelled : AreLines text lines
  pub may : AreLayoutLines lines
  pub shows : Shows lines windows
