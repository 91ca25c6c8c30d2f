use Rattle.std.proofs.Common.{ap, arith, ◌∷◌, [], Some, List}
use Rattle.jup_gather.specs.Prelude.{BoardOp}
use Rattle.jup_wire.specs.declared.line.Line.TheVariants as lines
use Rattle.jup_gather.proofs.Gathering.{part_is, dos}
use Rattle.jup_gather.proofs.taken.begin_message.Goals as goal

pub returns-clause-step : goal.returns-clause-step
returns-clause-step c =
    (part_is c.args.mine c.args.heard c.args.count [] (omega arith, omega arith) (omega arith), ap (λ (ops : List BoardOp). Some (lines.Batch c.args.mine c.args.heard c.args.count ∷ dos ops)) c.in-Ok.ensures.items)
