use Rattle.std.proofs.Common.{◌≡◌, ◌++◌, drop}
use Rattle.jup_xform.specs.Batches.{edits}
use Rattle.jup_xform.proofs.batch.edits_of.Given as goal

abbrev pub invariant-loop-op : goal.invariant-loop-op
invariant-loop-op g l = l.all.items ++ edits g.T.Transform (drop l.op-index l.ops) ≡ edits g.T.Transform l.ops
