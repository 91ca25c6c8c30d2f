-- What files of this crate cite most: names of the crates below, and types of this crate. Declares nothing.
pub use Rattle.jup_link.specs.declared.Msg.{Msg}
pub use Rattle.jup_window.specs.declared.board_operations.BoardOp.{BoardOp}
pub use Rattle.jup_wire.specs.declared.line.Line.{Line}
pub use Rattle.jup_wire.specs.declared.line.Line.TheVariants.{Batch, Do}
pub use Rattle.jup_wire.proofs.Streams.{take_one_more}
pub use Rattle.jup_gather.specs.declared.gathered.Gathered.{Gathered}
pub use Rattle.jup_gather.specs.declared.gathered.Gathered.TheVariants.{Held, Misplaced, Plain, Whole}
