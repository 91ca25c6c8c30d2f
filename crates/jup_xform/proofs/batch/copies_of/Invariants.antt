use Rattle.std.proofs.Common.{◌≡◌, ◌++◌, drop}
use Rattle.jup_xform.proofs.batch.copies_of.Given as goal

abbrev pub invariant-loop-op : goal.invariant-loop-op
invariant-loop-op g l = l.copies.items ++ drop l.op-index l.ops ≡ l.ops
