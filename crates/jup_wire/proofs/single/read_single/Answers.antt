use Rattle.std.proofs.Common.{refl}
use Rattle.jup_wire.specs.declared.line.Line.TheVariants.{Batch, Do}
use Rattle.jup_wire.proofs.Readings.{both_lines}
use Rattle.jup_wire.proofs.single.read_single.Goals as goal

pub returns-in-Some : goal.returns-in-Some
returns-in-Some c = both_lines (Batch c.in_ok-mine.mine c.in_ok-mine.heard 1) (Do c.in-Some.op) c.args.bytes.now c.in_ok-mine.rest.now c.in-Some.behind.now _ c.in_ok-mine.ensures c.in-Some.ensures refl
