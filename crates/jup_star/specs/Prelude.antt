-- What files of this crate cite most: names of the crates below, and types of this crate. Declares nothing.
pub use Rattle.jup_limits.specs.Limits.{highest_limit, last_site, most_attached, most_operations, most_ordered, most_unacknowledged}
pub use Rattle.jup_xform.specs.declared.row.Side.{Side}
pub use Rattle.jup_xform.specs.declared.row.Side.TheVariants.{Client, Server}
pub use Rattle.jup_xform.specs.Grids.{opposite, past}
pub use Rattle.jup_xform.specs.Rows.{row_operation}
pub use Rattle.jup_link.specs.declared.Msg.{Msg}
pub use Rattle.jup_link.specs.Links.{Ack, AllMessages, InStep, IsCount, IsNumber, Link as EndLink, Message, accepts_count, accepts_number, after_count, after_send, answered, generated, next_message, opened, operation_count, owes, sent, unheard}
pub use Rattle.jup_window.specs.declared.commands.Command.{Command}
pub use Rattle.jup_window.specs.declared.kinds.Widget.{Widget}
pub use Rattle.jup_window.specs.declared.kinds.Widget.TheVariants.{List as Labels, Slider, Text, Toggle}
pub use Rattle.jup_window.specs.Boards.{has_site, only_site}
pub use Rattle.jup_window.specs.Operations.{AreLawful, Operations}
pub use Rattle.jup_batch.specs.Boards.{BoardBatch, BoardEdits, Shape, accepts, bare, batch_laws, board_batches, boards_of as boards, insertions_few, shape}
pub use Rattle.jup_star.specs.declared.calls.Call.TheVariants.{Fetch, Leave, Take}
pub use Rattle.jup_star.specs.declared.faults.OpenFault.{OpenFault}
pub use Rattle.jup_star.specs.declared.faults.OpenFault.TheVariants.{BadLimit, BadSite}
pub use Rattle.jup_star.specs.declared.faults.SiteFault.{SiteFault}
pub use Rattle.jup_star.specs.declared.faults.StarFault.{StarFault}
pub use Rattle.jup_star.specs.declared.faults.StarFault.TheVariants.{BadAck, BadCount, BadName, BadOp, Full, LogFull, NoLink, NoMemory, NotAnEdit, SitesSpent}
pub use Rattle.jup_star.specs.declared.messages.Down.{Down}
pub use Rattle.jup_star.specs.declared.messages.Down.TheVariants.{Ack as DownAck, Op as DownOp, Pong as DownPong}
pub use Rattle.jup_star.specs.declared.messages.Entry.{Entry}
pub use Rattle.jup_star.specs.declared.messages.Up.{Up}
pub use Rattle.jup_star.specs.declared.messages.Up.TheVariants.{Ack as UpAck, Op, Ping as UpPing}
