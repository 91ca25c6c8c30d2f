use Rattle.std.proofs.Common.{refl, arith}
use Rattle.jup_resume.proofs.KeptLines.{are_none, none_left}
use Rattle.jup_resume.proofs.keeper.Keeper.new.Goals as goal

pub invariant_of-result : goal.invariant_of-result
invariant_of-result c = rw c.new.ensures (are_none, omega arith)

pub returns : goal.returns
returns c = rw (c.new.ensures, none_left) refl
