-- What files of this crate cite most: names of the crates below, and types of this crate. Declares nothing.
pub use Rattle.jup_hub.specs.Histories.{AllApart, AllTallied, BeginsWith, BeginsWithAll, Called, IsLegal, IsNew, Meets, calls_by, entry, having_seen, joined_with, longest, split_from, star_through, tallies, tally, with_call}
pub use Rattle.jup_limits.specs.Limits.{highest_limit}
pub use Rattle.jup_window.specs.declared.commands.Command.{Command}
pub use Rattle.jup_window.specs.declared.faults.EditFault.{EditFault}
pub use Rattle.jup_batch.specs.Boards.{BoardBatch, BoardEdits, Commands, Windows, batch_laws, board_batches, content, meaning}
pub use Rattle.jup_star.specs.declared.calls.Call.{Call}
pub use Rattle.jup_star.specs.declared.calls.Call.TheVariants.{Fetch, Join, Leave, Take}
pub use Rattle.jup_star.specs.declared.calls.StarReply.{StarReply}
pub use Rattle.jup_star.specs.declared.calls.StarReply.TheVariants.{Fetched, Joined as JoinedReply}
pub use Rattle.jup_star.specs.declared.faults.OpenFault.{OpenFault}
pub use Rattle.jup_star.specs.declared.faults.SiteFault.{SiteFault}
pub use Rattle.jup_star.specs.declared.faults.StarFault.{StarFault}
pub use Rattle.jup_star.specs.declared.messages.Entry.{Entry as OrderEntry}
pub use Rattle.jup_star.specs.declared.site.Made.{Made as MadeEdit}
pub use Rattle.jup_star.specs.declared.star.Joined.{Joined}
pub use Rattle.jup_star.specs.Sites.{BoardSite, EditAnswers, deliver_fault, edit_answer, is_edit_memory, made_by, opened_site}
pub use Rattle.jup_world.specs.Boards.{BoardAttached, BoardEvent, BoardReply, BoardWorld, IsReached}
pub use Rattle.jup_world.specs.Events.{Happened}
pub use Rattle.jup_world.specs.Traces.{edits, own_edits, turns}
pub use Rattle.jup_world.specs.Worlds.{IsOpening, Outcome, attached, happens, one_handed, one_taken, opened_world, outcome, run, with_edit}
pub use Rattle.jup_hub.specs.declared.fault.HubFault.{HubFault}
pub use Rattle.jup_hub.specs.declared.hub.Hub.{Hub}
pub use Rattle.jup_hub.specs.declared.view.HubEvent.{HubEvent}
pub use Rattle.jup_hub.specs.declared.view.Tally.{Tally}
pub use Rattle.jup_hub.specs.declared.view.View.{View}
pub use Rattle.jup_hub.specs.Passes.{IsPassOf, view_of}
pub use Rattle.jup_rules.specs.Sessions.{most_fetched}
pub use Rattle.jup_app.specs.declared.runs.drain.SiteEnd.{SiteEnd}
pub use Rattle.jup_app.specs.declared.runs.halt.Halt.{Halt}
pub use Rattle.jup_app.specs.declared.runs.player.Player.{Player}
pub use Rattle.jup_app.specs.declared.runs.threads.Job.{Job}
pub use Rattle.std.proofs.Math.Dec.{eqb}
pub use Rattle.std.proofs.lemmas.Bool.Decides.{eqb_tells, nat_tests}
pub use Rattle.std.proofs.lemmas.Bool.{eq-eqb, eqb-false, eqb-true}
pub use Rattle.std.proofs.lemmas.List.{append-nil, append_cancel_left, get_or_default, map-append, nil_from_length, take_more}
pub use Rattle.std.specs.List.{AllByRecursion}
pub use Rattle.std.specs.Borrow.{Bor}
pub use Rattle.std.specs.Vec.Iter.{into_iter_items}
pub use native.Mathlib.Decide.{dec_le}
