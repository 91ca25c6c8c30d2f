use Rattle.std.proofs.Common.{◌≡◌, ◌+◌, ◌-◌, ◌<◌, ◌≤◌, take, sum, length}
use Rattle.jup_value.proofs.table.gap_from_front.Given as goal

abbrev pub invariant-loop-at : goal.invariant-loop-at
invariant-loop-at l = record {
  within : l.at ≤ length l.lengths;
  place : l.place ≡ sum (take l.at l.lengths) + l.left;
  more : 0 < l.at → 0 < l.left;
}

abbrev pub decreases-loop-at : goal.decreases-loop-at
decreases-loop-at l = length l.lengths - l.at
