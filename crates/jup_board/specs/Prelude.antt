-- What files of this crate cite most: names of the crates below, and types of this crate. Declares nothing.
pub use Rattle.jup_limits.specs.Limits.{most_entries}
pub use Rattle.jup_number.specs.Numbers.{IsU32}
pub use Rattle.jup_value.specs.declared.names.Item.{Item}
pub use Rattle.jup_value.specs.declared.names.Name.{Name}
pub use Rattle.jup_window.specs.declared.kinds.Widget.{Widget}
pub use Rattle.jup_window.specs.declared.kinds.Widget.TheVariants.{List as Labels, Slider, Text, Toggle}
pub use Rattle.jup_window.specs.Boards.{Windows}
pub use Rattle.jup_text.specs.Commands.{IsId}
pub use Rattle.jup_wire.specs.declared.line.Line.{Line}
