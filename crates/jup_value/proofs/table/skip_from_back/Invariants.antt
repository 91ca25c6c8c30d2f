use Rattle.std.proofs.Common.{◌≡◌, ◌≤◌, take, sum, length}
use Rattle.jup_value.proofs.table.skip_from_back.Given as goal

abbrev pub invariant-loop-at : goal.invariant-loop-at
invariant-loop-at l = record {
  within : l.at ≤ length l.lengths;
  before : l.before ≡ sum (take l.at l.lengths);
  beyond : l.place ≤ l.before;
}

abbrev pub decreases-loop-at : goal.decreases-loop-at
decreases-loop-at l = l.at
