use Rattle.std.proofs.Common.{arith}
use Rattle.std.proofs.lemmas.Grind.{common_steps}
use Rattle.jup_value.proofs.Layouts.{blocks_few, blocks_enough}
use Rattle.jup_value.proofs.sequence.Seq.blocks.Goals as goal

pub overflow_cast-result : goal.overflow_cast-result
overflow_cast-result g c = let few = blocks_few c.self.inside.blocks.items c.self.invariant.layout.0 in grind (arith, common_steps)

pub returns-clause-some_in_each : goal.returns-clause-some_in_each
returns-clause-some_in_each g c = let few = blocks_few c.self.inside.blocks.items c.self.invariant.layout.0 in grind (arith, common_steps)

pub returns-clause-few_in_each : goal.returns-clause-few_in_each
returns-clause-few_in_each g c = let enough = blocks_enough c.self.inside.blocks.items c.self.invariant.layout.0 in grind (arith, common_steps)
