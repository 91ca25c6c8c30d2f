use Rattle.std.proofs.Common.{◌-◌, ◌*◌, ◌∷◌, length, take}
use Rattle.jup_gather.specs.Prelude.{Batch}
use Rattle.jup_gather.proofs.Gathering.{dos, HasWritten}
use Rattle.jup_gather.proofs.writing.write_op.Given as goal

-- the batch line and the operations so far, and room for the others
abbrev pub invariant-loop-op : goal.invariant-loop-op
invariant-loop-op l = HasWritten l.fn.out l.out (Batch l.fn.msg.mine l.fn.msg.heard (length l.ops) ∷ dos (take l.op-index l.ops)) (106 * (length l.ops - l.op-index))
