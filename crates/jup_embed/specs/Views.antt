-- What is read of a board from outside.
use Rattle.std.specs.Prelude.{ℕ, List, length, map, slice_get, Option, Some, None}
use Rattle.std.specs.Option.{option_map, option_and_then}
use Rattle.jup_embed.specs.Prelude.{Item}
use Rattle.jup_window.specs.Boards.{Windows}
use Rattle.jup_window.specs.Entries.{Place, widget_at}
use Rattle.jup_embed.specs.declared.board_view.WidgetKind.{WidgetKind}
use Rattle.jup_embed.specs.declared.board_view.WidgetKind.TheVariants as kind
use Rattle.jup_embed.specs.declared.board_view.WidgetView.{WidgetView}
use Rattle.jup_window.specs.declared.kinds.Widget.{Widget}
use Rattle.jup_window.specs.declared.kinds.Widget.TheVariants.{Text, List as Labels}
use Rattle.jup_wire.specs.declared.kinds.WidgetValue.{WidgetValue}
use Rattle.jup_wire.specs.Kinds.{value_of}

-- the id of the window at an index, and how many widgets it has
abbrev pub window_shown : ℕ → Windows → Option (ℕ × ℕ)
window_shown index board = option_map (λ entry. (entry.0, length entry.1)) (slice_get board index)

abbrev pub value_kind : Option WidgetValue → WidgetKind
value_kind None = kind.Unknown
value_kind (Some value) = kind.Value value

abbrev pub kind_of : Widget → WidgetKind
kind_of (Text text) = kind.Text (length text.items)
kind_of (Labels list) = kind.List (length list.items)
kind_of other = value_kind (value_of other)

-- the widget at an index of the window at an index
abbrev pub widget_shown : ℕ → ℕ → Windows → Option WidgetView
widget_shown window index board = option_and_then (λ entry. option_map (λ widget. record { win = entry.0; wid = widget.0; kind = kind_of widget.1 }) (slice_get entry.1 index)) (slice_get board window)

-- the characters of a text
abbrev pub values_of : List (Item ℕ) → List ℕ
values_of items = map (λ item. item.value) items

abbrev pub characters : Widget → Option (List ℕ)
characters (Text text) = Some (values_of text.items)
characters other = None

-- the label at a place of a list
abbrev pub label_in : ℕ → Widget → Option (List ℕ)
label_in place (Labels list) = option_map (λ item. item.value) (slice_get list.items place)
label_in place other = None

-- of the text, and of the list, that ids name
abbrev pub characters_at : Place → Windows → Option (List ℕ)
characters_at ids board = option_and_then characters (widget_at ids board)

abbrev pub label_at : Place → ℕ → Windows → Option (List ℕ)
label_at ids place board = option_and_then (label_in place) (widget_at ids board)
