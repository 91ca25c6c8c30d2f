-- What files of this crate cite most: names of the crates below, and types of this crate. Declares nothing.
pub use Rattle.jup_batch.specs.Boards.{BoardBatch}
pub use Rattle.jup_rules.specs.declared.ends.Untaken.{Untaken}
pub use Rattle.jup_session.specs.declared.sessions.undone.Undone.{Undone}
pub use Rattle.jup_star.specs.declared.calls.Call.{Call}
pub use Rattle.jup_star.specs.declared.calls.Call.TheVariants.{Fetch, Join, Leave, Take}
pub use Rattle.jup_star.specs.declared.calls.StarReply.{StarReply}
pub use Rattle.jup_star.specs.declared.calls.StarReply.TheVariants.{Fetched, Joined as JoinedReply, Left, Taken}
pub use Rattle.jup_star.specs.declared.faults.StarFault.TheVariants.{NoLink}
pub use Rattle.jup_star.specs.declared.messages.Down.{Down}
pub use Rattle.jup_star.specs.declared.messages.Up.{Up}
pub use Rattle.jup_star.specs.declared.star.Joined.{Joined}
pub use Rattle.jup_star.specs.Stars.{BoardStar, bare_joined}
pub use Rattle.jup_wire.specs.Streams.{HasRead, Progress}
pub use Rattle.jup_wire.specs.declared.line.Line.{Line}
pub use Rattle.jup_wire.specs.declared.line.Line.TheVariants.{Error, Hello}
pub use Rattle.jup_wire.specs.Lines.{line_bytes}
pub use Rattle.jup_layout.specs.Drafts.{board_lines}
pub use Rattle.jup_hub.specs.declared.fault.HubFault.{HubFault}
pub use Rattle.jup_hub.specs.declared.view.HubEvent.{HubEvent}
pub use Rattle.jup_hub.specs.declared.view.Tally.{Tally}
pub use Rattle.jup_hub.specs.declared.view.View.{View}
pub use Rattle.jup_hub.specs.Passes.{IsPassOf, Made, view_of}
pub use Rattle.jup_rules.specs.declared.ends.Ending.{Ending}
pub use Rattle.jup_rules.specs.declared.ends.SessionFault.{SessionFault}
pub use Rattle.jup_rules.specs.declared.ends.SessionFault.TheVariants.{Hub, Stream, FarBehind, GateShut}
pub use Rattle.jup_stream.specs.declared.faults.Stop.{Stop}
pub use Rattle.jup_rules.specs.declared.session.Incoming.{Incoming}
pub use Rattle.jup_rules.specs.declared.session.Ring.{Ring}
pub use Rattle.jup_stream.specs.declared.saying.Said.{Said}
pub use Rattle.jup_stream.specs.declared.saying.Said.TheVariants.{Bye as SaysBye, Up as SaysUp}
pub use Rattle.jup_rules.specs.Ends.{ended_by, ending_of, last_line, standing}
pub use Rattle.jup_rules.specs.Sessions.{HasHeard, Keeper, Leads, down_lines, outcome, counted, most_fetched, says_edit}
pub use Rattle.jup_stream.specs.declared.faults.StreamFault.{StreamFault}
pub use Rattle.jup_stream.specs.declared.faults.StreamFault.TheVariants.{Misplaced, NoMemory, ReadsSpent, WriteFailed}
pub use Rattle.jup_stream.specs.Streams.{HandsOn, IsFlushed, Put, PutsLines, Sourced, Stops, WritesFront, fresh_put, puts_more, puts_sent, puts_none}
pub use Rattle.std.specs.List.{AllByRecursion, flat_map}
