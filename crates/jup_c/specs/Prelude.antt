-- What files of this crate cite most: names of the crates below. Declares nothing.
pub use Rattle.jup_window.specs.declared.board_operations.BoardOp.{BoardOp}
pub use Rattle.jup_wire.specs.declared.line.Line.TheVariants.{Hello}
pub use Rattle.jup_wire.specs.Lines.{line_bytes}
pub use Rattle.jup_wire.specs.Streams.{HasRead}
pub use Rattle.jup_embed.specs.declared.phase.Phase.TheVariants.{Greeting}
pub use Rattle.jup_embed.specs.Sessions.{Session, stage_of, site_in}
pub use Rattle.jup_embed.specs.declared.plain.changes.PlainChange.{PlainChange}
pub use Rattle.jup_embed.specs.declared.plain.commands.PlainCommand.{PlainCommand}
pub use Rattle.jup_reconnect.specs.declared.any.AnyClient.{AnyClient}
pub use Rattle.jup_reconnect.specs.AnyClients.{session_of, with_session}
pub use Rattle.std.specs.declared.alloc.Global.{Global}
