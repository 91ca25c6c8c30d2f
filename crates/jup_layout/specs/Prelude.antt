-- What files of this crate cite most: names of the crates below, and types of this crate. Declares nothing.
pub use Rattle.jup_limits.specs.Limits.{longest_sequence, most_entries}
pub use Rattle.jup_value.specs.declared.names.Item.{Item}
pub use Rattle.jup_value.specs.declared.names.Name.{Name}
pub use Rattle.jup_value.specs.Items.{AreDistinct, Items, has_name, name_eq}
pub use Rattle.jup_window.specs.declared.faults.BoardFault.{BoardFault}
pub use Rattle.jup_window.specs.declared.kinds.Widget.{Widget}
pub use Rattle.jup_window.specs.declared.kinds.Widget.TheVariants.{List as Labels, Text}
pub use Rattle.jup_window.specs.Boards.{Windows}
pub use Rattle.jup_wire.specs.declared.faults.WireFault.{WireFault}
pub use Rattle.jup_wire.specs.declared.kinds.WidgetValue.{WidgetValue}
pub use Rattle.jup_wire.specs.declared.line.Line.{Line}
pub use Rattle.jup_layout.specs.declared.layouts.LayoutFault.{LayoutFault}
pub use Rattle.jup_layout.specs.declared.naming.Naming.{Naming}
pub use Rattle.jup_layout.specs.declared.naming.Naming.TheVariants.{Distinct, Numbered}
pub use Rattle.jup_layout.specs.declared.refusals.Refusal.{Refusal}
pub use Rattle.jup_layout.specs.declared.refusals.Refusal.TheVariants.{BadBounds, BadId, BadItemName, DoubleId, Misplaced, NoMemory, TooMany}
pub use Rattle.jup_layout.specs.declared.drafts.Added.{Added}
pub use Rattle.jup_layout.specs.declared.drafts.Added.TheVariants.{Char as AddedChar, Label as AddedLabel}
pub use Rattle.jup_wire.specs.Kinds.{value_of, said_widget, value_there, said_none}
pub use Rattle.std.specs.Option.{option_map, is_none, option_and_then, IsSome}
