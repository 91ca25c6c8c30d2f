-- What files of this crate cite most: names of the crates below, and types of this crate. Declares nothing.
pub use Rattle.std.specs.Option.{option_map}
pub use Rattle.jup_limits.specs.Limits.{highest_limit}
pub use Rattle.jup_window.specs.declared.faults.EditFault.{EditFault}
pub use Rattle.jup_window.specs.Operations.{AreLawful, Operations}
pub use Rattle.jup_batch.specs.Boards.{BoardBatch, BoardEdits, Commands, Windows, batch_laws, board_batches}
pub use Rattle.jup_star.specs.declared.faults.SiteFault.{SiteFault}
pub use Rattle.jup_star.specs.declared.faults.StarFault.{StarFault}
pub use Rattle.jup_star.specs.declared.faults.StarFault.TheVariants.{LogFull}
pub use Rattle.jup_star.specs.declared.messages.Down.{Down}
pub use Rattle.jup_star.specs.declared.messages.Entry.{Entry}
pub use Rattle.jup_star.specs.declared.messages.Up.{Up}
pub use Rattle.jup_star.specs.Sites.{deliver_fault, edit_answer, opened_site}
pub use Rattle.jup_star.specs.Stars.{BoardStar, LinkState, fetched, join_fault, joined, left, link_of, most_batches, place_taken, taken, up_fault}
pub use Rattle.jup_world.specs.declared.world.attached.Attached.{Attached}
pub use Rattle.jup_world.specs.Insides.{bare_attached}
pub use Rattle.jup_site.proofs.PastBoards.{order_symmetric}
pub use Rattle.jup_mixed.specs.declared.events.MixEvent.TheVariants.{Down as HomeDown, Edit as HomeEdit, JoinStray, LeaveStray, Stray, Up as HomeUp}
