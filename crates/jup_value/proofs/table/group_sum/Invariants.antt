use Rattle.std.proofs.Common.{◌≡◌, take, sum}
use Rattle.jup_value.proofs.table.group_sum.Given as goal

abbrev pub invariant-loop-count : goal.invariant-loop-count
invariant-loop-count l = l.total ≡ sum (take l.count-index l.group)
