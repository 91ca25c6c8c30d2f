use Rattle.std.proofs.Common.{◌∷◌, length, take, map}
use Rattle.jup_gather.specs.Prelude.{Batch, Do}
use Rattle.jup_gather.proofs.lines.put_op.Given as goal

abbrev pub invariant-loop-op : goal.invariant-loop-op
invariant-loop-op g l = g.S.LineSink.takes l.fn.sink (Batch l.fn.msg.mine l.fn.msg.heard (length l.ops) ∷ map (λ op. Do op) (take l.op-index l.ops)) l.sink
