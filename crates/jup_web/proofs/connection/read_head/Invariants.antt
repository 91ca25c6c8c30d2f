use Rattle.std.proofs.Common.{◌≤◌}
use Rattle.jup_web.proofs.connection.read_head.Given as goal

abbrev pub invariant-loop : goal.invariant-loop
invariant-loop g l = l.len ≤ 8192
