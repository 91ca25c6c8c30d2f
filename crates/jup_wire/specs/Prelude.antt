-- What files of this crate cite most: names of the crates below, and types of this crate. Declares nothing.
pub use Rattle.jup_setting.specs.declared.operation.SetOp.{SetOp}
pub use Rattle.jup_value.specs.declared.names.Name.{Name}
pub use Rattle.jup_value.specs.Labels.{IsLabelText}
pub use Rattle.jup_seq.specs.declared.operations.SeqOp.{SeqOp}
pub use Rattle.jup_seq.specs.Operations.{is_no_relabel}
pub use Rattle.jup_window.specs.declared.kinds.Widget.{Widget}
pub use Rattle.jup_window.specs.declared.kinds.WidgetOp.{WidgetOp}
pub use Rattle.jup_window.specs.declared.kinds.WidgetOp.TheVariants.{Text as OnText}
pub use Rattle.jup_wire.specs.declared.faults.WireFault.{WireFault}
pub use Rattle.jup_wire.specs.declared.faults.WireFault.TheVariants.{BadLine, BadVersion, EarlyEnd, LongLine}
pub use Rattle.jup_wire.specs.declared.line.Line.{Line}
pub use Rattle.jup_wire.specs.declared.kinds.WidgetValue.{WidgetValue}
pub use Rattle.std.specs.List.{join_with_byte, AllByRecursion, position_or_len, list_all, flat_map}
pub use Rattle.std.specs.Str.{bytes_eq}
pub use Rattle.std.specs.Char.{digit_value, IsScalar}
pub use Rattle.std.specs.Fmt.{signed_decimal}
pub use Rattle.std.specs.Str.Parse.{AllDigits, digits_value}
pub use Rattle.std.proofs.lemmas.Option.{same_Some, cond_some, none-some, MatchOption-at_none, some_pair_parts}
