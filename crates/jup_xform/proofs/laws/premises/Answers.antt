use Rattle.jup_xform.proofs.Batches.{each_pair, of_each_pair}
use Rattle.jup_xform.proofs.laws.premises.Goals as goal

pub returns-clause-apart : goal.returns-clause-apart
returns-clause-apart g c = λ cs ss. (each_pair g.T.Transform.are_apart cs ss, of_each_pair g.T.Transform.are_apart cs ss)

pub returns-clause-fresh : goal.returns-clause-fresh
returns-clause-fresh g c = λ later earlier. (each_pair g.T.Transform.is_fresh later earlier, of_each_pair g.T.Transform.is_fresh later earlier)
