-- What files of this crate cite most: names of the crates below, and types of this crate. Declares nothing.
pub use Rattle.jup_limits.specs.Limits.{highest_limit}
pub use Rattle.jup_batch.specs.Boards.{BoardBatch, Windows, bare}
pub use Rattle.jup_rules.specs.declared.ends.Ending.TheVariants.{Bye, Fault, Gone}
pub use Rattle.jup_session.specs.ExactSessions.{IsExact, IsFresh, IsServed, Served, all_done, bytes_heard, bytes_of, bytes_over, bytes_read, bytes_written}
pub use Rattle.jup_star.specs.declared.calls.Call.{Call}
pub use Rattle.jup_star.specs.declared.calls.Call.TheVariants.{Fetch, Join, Leave, Take}
pub use Rattle.jup_star.specs.declared.calls.StarReply.{StarReply}
pub use Rattle.jup_star.specs.declared.calls.StarReply.TheVariants.{Fetched, Joined as JoinedReply, Left, Taken}
pub use Rattle.jup_star.specs.declared.messages.Down.{Down}
pub use Rattle.jup_star.specs.declared.messages.Up.{Up}
pub use Rattle.jup_star.specs.declared.messages.Up.TheVariants.{Ping as UpPing}
pub use Rattle.jup_star.specs.declared.star.Joined.{Joined}
pub use Rattle.jup_wire.specs.Lines.{HasSpelling, is_spelled, line_bytes, spelling}
pub use Rattle.jup_wire.specs.declared.line.Line.{Line}
pub use Rattle.jup_wire.specs.Streams.{HasRead, Progress}
pub use Rattle.jup_wire.proofs.Streams.{all-append}
pub use Rattle.jup_gather.proofs.Gathering.{at_first}
pub use Rattle.jup_site.specs.Sites.{IsOpening}
pub use Rattle.jup_hub.specs.declared.view.HubEvent.{HubEvent}
pub use Rattle.jup_hub.specs.declared.view.Tally.{Tally}
pub use Rattle.jup_hub.specs.declared.view.View.{View}
pub use Rattle.jup_client.specs.declared.client.Answer.{Answer}
pub use Rattle.jup_client.specs.declared.client.ClientState.{ClientState}
pub use Rattle.jup_client.specs.declared.client.Heard.{Heard as ClientHeard}
pub use Rattle.jup_rules.specs.declared.ends.Ending.{Ending}
pub use Rattle.jup_stream.specs.declared.saying.Said.{Said}
pub use Rattle.jup_stream.specs.declared.saying.Said.TheVariants.{Up as SaysUp}
pub use Rattle.jup_rules.specs.Ends.{last_line}
pub use Rattle.jup_stream.specs.Streams.{Sourced}
pub use Rattle.std.proofs.lemmas.List.Concat.{flat_map-append, flat_map-cons}
pub use Rattle.std.proofs.lemmas.List.Elements.{All-nil, filter-append}
pub use Rattle.std.proofs.lemmas.List.{map-append}
pub use Rattle.std.specs.List.{AllByRecursion, flat_map}
