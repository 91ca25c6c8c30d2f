-- What files of this crate cite most: names of the crates below, and types of this crate. Declares nothing.
pub use Rattle.jup_limits.specs.Limits.{answer_after, highest_limit, last_site, most_beyond, most_unacknowledged}
pub use Rattle.jup_xform.specs.declared.Transform.{Ghosts}
pub use Rattle.jup_xform.specs.declared.row.Side.TheVariants.{Client, Server}
pub use Rattle.jup_xform.specs.Grids.{AllApart, mirror, opposite, past}
pub use Rattle.jup_xform.specs.Rows.{row_entries, row_operation}
pub use Rattle.jup_value.specs.declared.names.Item.{Item}
pub use Rattle.jup_value.specs.declared.names.Name.{Name}
pub use Rattle.jup_value.specs.Items.{name_eq}
pub use Rattle.jup_seq.specs.declared.operations.SeqOp.TheVariants.{Delete as DeleteOp, Insert as InsertOp, Nothing as NoOp, Relabel as RelabelOp}
pub use Rattle.jup_link.specs.declared.Msg.{Msg}
pub use Rattle.jup_link.specs.Laws.InStep.{Comes-nil}
pub use Rattle.jup_link.specs.Links.{Ack, Comes, InStepAt, IsCount, IsNumber, Link, Message, Operation, accepts_count, after_ack, after_count, after_receive, after_send, answered, generated, message, next_message, owes, received_operation, sent, unheard}
pub use Rattle.jup_window.specs.declared.faults.EditFault.{EditFault}
pub use Rattle.jup_window.specs.Boards.{has_site, only_site}
pub use Rattle.jup_window.specs.Operations.{AreLawful, Operations}
pub use Rattle.jup_batch.specs.Boards.{BoardBatch, Windows, board_batches, content, meaning}
pub use Rattle.jup_star.specs.declared.faults.SiteFault.{SiteFault}
pub use Rattle.jup_star.specs.declared.faults.SiteFault.TheVariants.{BadOp as SiteBadOp}
pub use Rattle.jup_star.specs.declared.faults.StarFault.TheVariants.{BadOp, Full, LogFull, SitesSpent}
pub use Rattle.jup_star.specs.declared.messages.Down.{Down}
pub use Rattle.jup_star.specs.declared.messages.Down.TheVariants.{Ack as DownAck, Op as DownOp, Pong as DownPong}
pub use Rattle.jup_star.specs.declared.messages.Entry.{Entry}
pub use Rattle.jup_star.specs.declared.messages.Up.{Up}
pub use Rattle.jup_star.specs.declared.messages.Up.TheVariants.{Ack as UpAck, Op as UpOp, Ping as UpPing}
pub use Rattle.jup_star.specs.Faults.{first_fault, test}
pub use Rattle.jup_star.specs.Messages.{downs, ups}
pub use Rattle.jup_star.specs.Sites.{BoardSite, SiteOf, SiteState, deliver_fault, deliver_tests, edit_answer, edited, fits_shown, heard_tests, opened_site, owed_up, received, running_test, sent_back, with_end}
pub use Rattle.jup_star.specs.Stars.{BoardStar, IsShort, LinkState, StarOf, at_link, end_after, entry, fetched, fits_board, join_fault, joined, joining, left, link_acked, link_fetched, link_heard, link_of, link_ponged, link_sent, links_after, most_batches, new_star, opened_link, operation_at, owed_down, taken, up_fault, with_links}
pub use Rattle.jup_star.proofs.LinkChanges.{found, found-end, found-end_other, found-map, found-map_other, found-without, found-without_other}
pub use Rattle.jup_star.proofs.Others.{downs-append, ups-append}
pub use Rattle.std.specs.List.{AllByRecursion, list_any, list_all}
