-- What files of this crate cite most: names of the crates below, and types of this crate. Declares nothing.
pub use Rattle.jup_limits.specs.Limits.{longest_sequence, small_length}
pub use Rattle.jup_xform.specs.declared.Transform.{Ghosts}
pub use Rattle.jup_xform.specs.declared.one_of.OneOf.{OneOf}
pub use Rattle.jup_xform.specs.declared.one_of.OneOf.TheVariants.{First, Second}
pub use Rattle.jup_xform.specs.Grids.{IsLawful, KeepsMeaning}
pub use Rattle.jup_setting.specs.declared.operation.SetOp.{SetOp}
pub use Rattle.jup_setting.specs.declared.operation.SetOp.TheVariants.{Nothing as NoSetOp, Set as SetTo}
pub use Rattle.jup_setting.specs.declared.operation.SettingEdit.{SettingEdit}
pub use Rattle.jup_setting.specs.declared.toggle.Toggle.{Toggle as ToggleState}
pub use Rattle.jup_setting.specs.Settings.{IsValidSlide}
pub use Rattle.jup_setting.specs.Sliders.{SliderState}
pub use Rattle.jup_value.specs.declared.names.Item.{Item}
pub use Rattle.jup_value.specs.declared.names.Name.{Name}
pub use Rattle.jup_value.specs.Items.{Items, has_name, name_at, name_eq}
pub use Rattle.jup_value.proofs.Items.{name_eq_refl, name_eq_same}
pub use Rattle.jup_seq.specs.declared.operations.SeqEdit.{SeqEdit}
pub use Rattle.jup_seq.specs.declared.operations.SeqEdit.TheVariants.{Deleted, Nothing as NoEdit, Put, Relabelled}
pub use Rattle.jup_seq.specs.declared.operations.SeqOp.{SeqOp}
pub use Rattle.jup_seq.specs.declared.operations.SeqOp.TheVariants.{Delete, Insert, Nothing as NoSeqOp, Relabel}
pub use Rattle.jup_seq.specs.Operations.{is_no_relabel}
pub use Rattle.jup_window.specs.declared.board_operations.BoardOp.{BoardOp}
pub use Rattle.jup_window.specs.declared.commands.Command.{Command}
pub use Rattle.jup_window.specs.declared.commands.Command.TheVariants.{Delete as DeleteAt, Insert as InsertAt, Relabel as RelabelAt, Set as SetValue}
pub use Rattle.jup_window.specs.declared.kinds.Setting.TheVariants.{Slider as ToSlider, Toggle as ToToggle}
pub use Rattle.jup_window.specs.declared.commands.Value.TheVariants.{Char, Label}
pub use Rattle.jup_window.specs.declared.edits.BoardEdit.{BoardEdit}
pub use Rattle.jup_window.specs.declared.faults.BoardFault.{BoardFault}
pub use Rattle.jup_window.specs.declared.faults.EditFault.{EditFault}
pub use Rattle.jup_window.specs.declared.kinds.WidgetOp.{WidgetOp}
pub use Rattle.jup_window.specs.declared.kinds.WidgetOp.TheVariants.{List as OnList, Slider as OnSlider, Text as OnText, Toggle as OnToggle}
pub use Rattle.jup_window.specs.declared.kinds.Widget.{Widget}
pub use Rattle.jup_window.specs.declared.kinds.Widget.TheVariants.{List as Labels, Slider, Text, Toggle}
