-- What files of this crate cite most: names of the crates below, and types of this crate. Declares nothing.
pub use Rattle.jup_window.specs.declared.commands.Command.{Command}
pub use Rattle.jup_batch.specs.Boards.{BoardBatch}
pub use Rattle.jup_star.specs.declared.faults.OpenFault.{OpenFault}
pub use Rattle.jup_star.specs.declared.faults.SiteFault.{SiteFault}
pub use Rattle.jup_star.specs.declared.messages.Down.{Down}
pub use Rattle.jup_star.specs.declared.messages.Down.TheVariants.{Ack as DownAck, Op as DownOp, Pong as DownPong}
pub use Rattle.jup_star.specs.declared.messages.Up.TheVariants.{Ack as UpAck, Op as UpOp, Ping as UpPing}
pub use Rattle.jup_wire.specs.declared.line.Line.{Line}
pub use Rattle.jup_layout.specs.declared.layouts.LayoutFault.{LayoutFault}
pub use Rattle.jup_layout.specs.declared.naming.Naming.TheVariants.{Distinct}
pub use Rattle.jup_gather.specs.declared.gathered.Gathered.{Gathered}
pub use Rattle.jup_stream.specs.declared.saying.Said.{Said}
pub use Rattle.jup_stream.specs.declared.saying.Said.TheVariants.{Bye as SaysBye, Up as SaysUp}
pub use Rattle.jup_client.specs.declared.asking.Request.{Request}
pub use Rattle.jup_client.specs.declared.asking.Request.TheVariants.{Bad, Batch, Edit, Quit, Show, Sync}
pub use Rattle.jup_client.specs.declared.ends.ClientEnd.{ClientEnd}
pub use Rattle.jup_client.specs.declared.ends.ClientEnd.TheVariants.{Fault, NoMemory, ReadFailed, Unconnected, WriteFailed}
