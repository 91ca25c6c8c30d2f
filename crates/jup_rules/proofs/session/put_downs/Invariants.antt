use Rattle.std.proofs.Common.{take, flat_map}
use Rattle.jup_rules.specs.Sessions.{down_lines}
use Rattle.jup_rules.proofs.session.put_downs.Given as goal

abbrev pub invariant-loop-down : goal.invariant-loop-down
invariant-loop-down g l = g.S.LineSink.takes l.fn.sink (flat_map down_lines (take l.down-index l.downs)) l.sink
