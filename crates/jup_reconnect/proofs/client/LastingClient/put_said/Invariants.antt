use Rattle.std.proofs.Common.{length}
use Rattle.jup_reconnect.specs.contracts.client.LastingClient.{the_view}
use Rattle.jup_reconnect.specs.Lasting.{PutsSaid}
use Rattle.jup_reconnect.proofs.client.LastingClient.put_said.Given as goal

-- what was put so far
abbrev pub invariant-loop-text : goal.invariant-loop-text
invariant-loop-text l = PutsSaid l.fn.self (the_view l.self-inside)

abbrev pub decreases-loop-text : goal.decreases-loop-text
decreases-loop-text l = length l.self-inside.session.waiting
