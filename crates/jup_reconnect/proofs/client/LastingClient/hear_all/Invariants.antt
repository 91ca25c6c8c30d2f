use Rattle.std.proofs.Common.{List, ℕ, length}
use Rattle.jup_reconnect.specs.Lasting.{Through}
use Rattle.jup_reconnect.proofs.client.LastingClient.hear_all.Given as goal

-- what was heard so far
abbrev pub invariant-loop-rest : goal.invariant-loop-rest
invariant-loop-rest l = (lefts : List (List ℕ)) × Through lefts l.bytes l.rest l.fn.self l.self

abbrev pub decreases-loop-rest : goal.decreases-loop-rest
decreases-loop-rest l = length l.rest
