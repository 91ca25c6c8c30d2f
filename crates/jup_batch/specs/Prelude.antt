-- What files of this crate cite most: names of the crates below, and types of this crate. Declares nothing.
pub use Rattle.jup_limits.specs.Limits.{most_operations}
pub use Rattle.jup_xform.specs.Batches.{Inserts as BatchInserts, IsValidBatch, batches, edits}
pub use Rattle.jup_xform.specs.Grids.{AreValid, KeepsFresh, after_all}
pub use Rattle.jup_value.specs.declared.names.Name.{Name}
pub use Rattle.jup_seq.specs.declared.operations.SeqOp.{SeqOp}
pub use Rattle.jup_seq.specs.declared.operations.SeqOp.TheVariants.{Delete, Insert, Nothing, Relabel}
pub use Rattle.jup_seq.specs.declared.sources.Source.{Source}
pub use Rattle.jup_seq.specs.declared.sources.Source.TheVariants.{Inserted, Place}
pub use Rattle.jup_window.specs.declared.board_operations.BoardOp.{BoardOp}
pub use Rattle.jup_window.specs.declared.commands.Command.{Command}
pub use Rattle.jup_window.specs.declared.commands.Command.TheVariants.{Delete as DeleteAt, Insert as InsertAt, Relabel as RelabelAt, Set as SetValue}
pub use Rattle.jup_window.specs.declared.faults.EditFault.{EditFault}
pub use Rattle.jup_window.specs.declared.kinds.WidgetOp.{WidgetOp}
pub use Rattle.jup_window.specs.declared.kinds.WidgetOp.TheVariants.{List as OnList, Slider as OnSlider, Text as OnText, Toggle as OnToggle}
pub use Rattle.jup_window.specs.declared.kinds.Widget.{Widget}
pub use Rattle.jup_window.specs.declared.kinds.Widget.TheVariants.{List as Labels, Slider, Text, Toggle}
pub use Rattle.jup_window.specs.Commands.{and_then_ok, command_place, item_place, map_ok, named, named_widget, on_widget, told_on}
pub use Rattle.jup_window.specs.Kinds.{count_of, insertions}
pub use Rattle.jup_window.specs.Operations.{AreLawful, Operations, board_operations, boards, next_name}
pub use Rattle.jup_window.specs.Widgets.{item_count, item_name}
