use Rattle.std.proofs.Common.{◌-◌, ◌∙◌, arith}
use Rattle.jup_resume.proofs.KeptLines.{are_begun}
use Rattle.jup_resume.proofs.keeper.Keeper.begin.Goals as goal

pub invariant_of-self : goal.invariant_of-self
invariant_of-self c =
    let k = c.self.inside in (
      are_begun k.bytes k.lines k.sent k.written (c.args.taken - k.dropped) c.size_of_lines-self-inside.result c.self.invariant.0 (omega arith)
          (λ texts free whole long. c.size_of_lines-self-inside.ensures.size texts free (c.behind.ensures.bytes ∙ whole) long),
      c.self.invariant.1,
    )
