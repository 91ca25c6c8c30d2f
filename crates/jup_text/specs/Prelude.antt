-- What files of this crate cite most: names of the crates below, and types of this crate. Declares nothing.
pub use Rattle.jup_number.specs.Numbers.{IsU32}
pub use Rattle.jup_value.specs.declared.names.Item.{Item}
pub use Rattle.jup_value.specs.Labels.{IsLabelText}
pub use Rattle.jup_window.specs.declared.commands.Command.{Command}
pub use Rattle.jup_window.specs.declared.commands.Command.TheVariants.{Delete, Insert, Relabel, Set}
pub use Rattle.jup_window.specs.declared.kinds.Setting.{Setting}
pub use Rattle.jup_window.specs.declared.commands.Value.{Value}
pub use Rattle.jup_window.specs.declared.commands.Value.TheVariants.{Char, Label}
pub use Rattle.jup_window.specs.declared.kinds.Widget.{Widget}
pub use Rattle.jup_window.specs.declared.kinds.Widget.TheVariants.{List as Labels, Text}
pub use Rattle.jup_wire.specs.declared.kinds.WidgetValue.{WidgetValue}
pub use Rattle.std.specs.List.{flat_map, join_with_byte, AllByRecursion, position_or_len, before_first, after_first}
pub use Rattle.std.specs.Char.{IsScalar, digit_value}
