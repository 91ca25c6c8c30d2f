-- What files of this crate cite most: names of the crates below, and types of this crate. Declares nothing.
pub use Rattle.jup_limits.specs.declared.NoMemory.{NoMemory}
pub use Rattle.jup_limits.specs.Limits.{longest_sequence, most_attached, most_of_two}
pub use Rattle.jup_xform.specs.declared.row.Side.{Side}
pub use Rattle.jup_value.specs.Items.{Items, has_name}
pub use Rattle.jup_seq.specs.declared.operations.SeqOp.{SeqOp}
pub use Rattle.jup_link.specs.Links.{AllMessages, InStep, link_after, state_after}
pub use Rattle.jup_window.specs.declared.commands.Command.{Command}
pub use Rattle.jup_batch.specs.Boards.{BoardEdits, Commands, bare, batch_laws}
pub use Rattle.jup_star.specs.declared.faults.StarFault.{StarFault}
pub use Rattle.jup_star.specs.declared.star.Joined.{Joined as JoinedSite}
pub use Rattle.jup_star.specs.Stars.{Answers, bare_joined, is_no_memory, opened_star, place_taken, without}
pub use Rattle.jup_site.specs.Prelude.{Ack, AllByRecursion, AreLawful, BoardBatch, BoardSite, BoardStar, Client, DeleteOp, Down, DownAck, DownOp, DownPong, EditFault, Entry, Full, Ghosts, InStepAt, InsertOp, IsShort, Item, Link, LinkState, LogFull, Message, Msg, Name, NoOp, Operation, Operations, RelabelOp, Server, SiteFault, SiteState, SitesSpent, StarOf, Up, UpAck, UpOp, UpPing, Windows, after_ack, after_count, after_receive, after_send, answer_after, answered, at_link, board_batches, deliver_fault, downs, edit_answer, end_after, entry, fetched, first_fault, found, found-end, found-end_other, found-map, found-map_other, found-without, found-without_other, generated, has_site, highest_limit, join_fault, joined, joining, last_site, left, link_acked, link_fetched, link_heard, link_of, link_ponged, link_sent, links_after, message, most_batches, most_beyond, most_unacknowledged, name_eq, next_message, only_site, opened_link, opened_site, operation_at, opposite, owed_down, owes, past, received_operation, row_operation, sent, sent_back, taken, test, unheard, up_fault, ups, with_links}
pub use Rattle.jup_lane.proofs.Trays.{downs_laws, ups_laws}
pub use Rattle.jup_world.specs.declared.events.Event.{Event as Played}
pub use Rattle.jup_world.specs.declared.events.Happened.{Happened as Kept}
pub use Rattle.jup_world.specs.declared.events.Reply.{Reply}
pub use Rattle.jup_world.specs.declared.events.Reply.TheVariants.{Asked, Detached, Heard, Joined, Left, Made, Moved, NoJoin, Nothing, Refused, Shown, Taken}
pub use Rattle.jup_world.specs.declared.two.TwoEdit.{TwoEdit}
pub use Rattle.jup_world.specs.declared.two.TwoEdit.TheVariants.{Delete, Insert}
pub use Rattle.jup_world.specs.declared.two.TwoEvent.{TwoEvent}
pub use Rattle.jup_world.specs.declared.world.attached.Attached.{Attached}
pub use Rattle.jup_world.specs.declared.world.draining.Way.{Way}
pub use Rattle.jup_world.specs.declared.world.draining.Way.TheVariants.{Down as WayDown, Up as WayUp}
pub use Rattle.std.specs.List.{position_or_len}
