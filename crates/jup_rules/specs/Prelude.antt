-- What files of this crate cite most: names of the crates below, and types of this crate. Declares nothing.
pub use Rattle.jup_batch.specs.Boards.{BoardBatch}
pub use Rattle.jup_rules.specs.declared.ends.Ending.TheVariants.{Bye, Fault, Gone}
pub use Rattle.jup_rules.specs.declared.ends.SessionFault.TheVariants.{FarBehind, GateShut, Hub, Stream}
pub use Rattle.jup_rules.specs.declared.session.Awaits.TheVariants.{Gate, Nothing, Pongs}
pub use Rattle.jup_star.specs.declared.messages.Down.{Down}
pub use Rattle.jup_star.specs.declared.messages.Down.TheVariants.{Ack as DownAck, Op as DownOp, Pong as DownPong}
pub use Rattle.jup_star.specs.declared.messages.Up.{Up}
pub use Rattle.jup_star.specs.declared.messages.Up.TheVariants.{Ack as UpAck, Op as UpOp, Ping as UpPing}
pub use Rattle.jup_stream.specs.Saying.{said_piece}
pub use Rattle.jup_wire.specs.declared.line.Line.{Line}
pub use Rattle.jup_gather.specs.declared.gathered.Gathered.{Gathered}
pub use Rattle.jup_stream.specs.declared.faults.Stop.{Stop}
pub use Rattle.jup_stream.specs.declared.faults.Stop.TheVariants.{End, Fault as StopFault}
pub use Rattle.jup_stream.specs.declared.saying.Said.{Said}
pub use Rattle.jup_stream.specs.declared.saying.Said.TheVariants.{Bye as SaysBye, Up as SaysUp}
pub use Rattle.jup_stream.specs.declared.faults.StreamFault.{StreamFault}
pub use Rattle.jup_stream.specs.declared.faults.StreamFault.TheVariants.{Misplaced, NoMemory}
pub use Rattle.jup_hub.specs.declared.fault.HubFault.TheVariants.{Star}
pub use Rattle.jup_rules.specs.declared.ends.Ending.{Ending}
pub use Rattle.jup_rules.specs.declared.ends.SessionFault.{SessionFault}
