-- What files of this crate cite most: names of the crates below, and types of this crate. Declares nothing.
pub use Rattle.jup_star.specs.declared.calls.Call.{Call}
pub use Rattle.jup_star.specs.declared.calls.Call.TheVariants.{Leave}
pub use Rattle.jup_star.specs.declared.calls.StarReply.{StarReply}
pub use Rattle.jup_star.specs.declared.faults.StarFault.{StarFault}
pub use Rattle.jup_star.specs.Stars.{BoardStar, is_no_memory, lacks_memory}
pub use Rattle.jup_hub.specs.declared.desk.Desk.{Desk}
pub use Rattle.jup_hub.specs.declared.fault.HubFault.{HubFault}
pub use Rattle.jup_hub.specs.declared.fault.HubFault.TheVariants.{Spent, Star}
pub use Rattle.jup_hub.specs.declared.view.HubEvent.{HubEvent}
pub use Rattle.jup_hub.specs.declared.view.Tally.{Tally}
pub use Rattle.jup_hub.specs.declared.view.View.{View}
