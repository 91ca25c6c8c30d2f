-- What files of this crate cite most: names of the crates below, and types of this crate. Declares nothing.
pub use Rattle.jup_limits.specs.Limits.{small_length}
pub use Rattle.jup_xform.specs.Rows.{SomeOf, row_operation}
pub use Rattle.jup_value.specs.declared.names.Item.{Item}
pub use Rattle.jup_value.specs.declared.names.Name.{Name}
pub use Rattle.jup_value.specs.Items.{AreDistinct, Items, has_name, name_at, name_eq, stands_before, value_of, with_value}
pub use Rattle.jup_seq.specs.declared.operations.SeqEdit.{SeqEdit}
pub use Rattle.jup_seq.specs.declared.operations.SeqEdit.TheVariants.{Deleted, Nothing as NoEdit, Put, Relabelled}
pub use Rattle.jup_seq.specs.declared.operations.SeqOp.{SeqOp}
pub use Rattle.jup_seq.specs.declared.operations.SeqOp.TheVariants.{Delete, Insert, Nothing, Relabel}
