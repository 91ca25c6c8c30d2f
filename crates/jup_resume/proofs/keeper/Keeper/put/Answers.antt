use Rattle.std.proofs.Common.{refl, arith}
use Rattle.jup_resume.proofs.KeptLines.{are_put, texts_put}
use Rattle.jup_resume.proofs.keeper.Keeper.put.Goals as goal

pub invariant_of-self : goal.invariant_of-self
invariant_of-self c =
    let k = c.self.inside in
    rw c.in-Ok.ensures.ok (are_put k.bytes c.args.text.now k.lines k.sent k.written c.self.invariant.0 c.requires, omega arith)

pub returns-in-Ok-clause-ok : goal.returns-in-Ok-clause-ok
returns-in-Ok-clause-ok c =
    let k = c.self.inside in
    rw (← c.self.view_is, c.in-Ok.ensures.ok, texts_put k.bytes c.args.text.now k.lines k.sent k.written c.self.invariant.0 c.requires) refl
