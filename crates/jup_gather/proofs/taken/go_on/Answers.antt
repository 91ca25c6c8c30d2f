use Rattle.std.proofs.Common.{Some, refl, arith, sym, subst}
use Rattle.jup_gather.specs.Gathering.{Gathers, held, part_lines}
use Rattle.jup_gather.proofs.Gathering.{no_place_begun}
use Rattle.jup_gather.proofs.taken.go_on.Goals as goal

pub returns-in_default : goal.returns-in_default
returns-in_default c =
    let part = c.args.part in
    subst (λ step. Gathers (Some (part_lines part)) c.args.line step.gathered (held step.state)) (sym c.stop.ensures)
    (no_place_begun part.mine part.heard part.count part.ops.items c.args.line (omega arith) c.in_default.not-Do, refl)
