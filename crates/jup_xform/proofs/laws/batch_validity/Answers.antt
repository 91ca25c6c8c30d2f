use Rattle.std.proofs.Common.{arith}
use Rattle.jup_xform.proofs.Batches.{each_of, of_each}
use Rattle.jup_xform.proofs.laws.batch_validity.Goals as goal

pub returns-clause-more : goal.returns-clause-more
returns-clause-more g c = λ op later x some. (
  λ v. (v.valid.0, record { some = some; few = omega (arith, v.few); valid = v.valid.1; fresh = v.fresh.1 }, each_of g.T.Transform.is_fresh later op v.fresh.0, omega (arith, v.few)),
  λ v. record { some = omega arith; few = omega (arith, v.3); valid = (v.0, v.1.valid); fresh = (of_each g.T.Transform.is_fresh later op v.2, v.1.fresh) },
)
