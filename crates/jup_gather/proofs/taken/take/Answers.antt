use Rattle.std.proofs.Common.{◌≡◌, Some, [], ◌∷◌, ◌++◌, refl, arith, ap, sym, subst, ◌∙◌, length}
use Rattle.std.proofs.lemmas.List.{nil_from_length}
use Rattle.jup_wire.specs.declared.line.Line.TheVariants as lines
use Rattle.jup_gather.specs.Gathering.{Gathers, held, part_lines}
use Rattle.jup_gather.proofs.Gathering.{step_held, step_whole}
use Rattle.jup_gather.proofs.taken.take.Goals as goal

pub returns-then-count-eq1 : goal.returns-then-count-eq1
returns-then-count-eq1 c =
    let part = c.args.part in
    let none = nil_from_length part.ops.items (let long = part.ops.ok.0 in omega (arith, long)) in
    let grown : c.one.result ≡ part.ops.items ++ c.args.op ∷ [] = c.one.ensures ∙ ap (λ ops. ops ++ c.args.op ∷ []) (sym none) in
    let long = ap length c.one.ensures in
    subst (λ step. Gathers (Some (part_lines part)) (lines.Do c.args.op) step.gathered (held step.state)) (sym c.whole.ensures)
    (step_whole part.mine part.heard part.count part.ops.items c.one.result c.args.op (lines.Do c.args.op) refl grown (omega arith, omega arith) (omega (arith, long)))

pub returns-then-len-count : goal.returns-then-len-count
returns-then-len-count c =
    let part = c.args.part in
    let long = ap length c.new.ensures in
    subst (λ step. Gathers (Some (part_lines part)) (lines.Do c.args.op) step.gathered (held step.state)) (sym c.whole-then-len-count.ensures)
    (step_whole part.mine part.heard part.count part.ops.items c.new.result c.args.op (lines.Do c.args.op) refl (c.new.ensures ∙ c.push_reserved.ensures.items) (omega arith, omega arith) (omega (arith, long)))

pub returns : goal.returns
returns c =
    let part = c.args.part in
    let more = ap length c.push_reserved.ensures.items in
    step_held part.mine part.heard part.count part.ops.items c.push_reserved.new.self.items c.args.op (lines.Do c.args.op) refl c.push_reserved.ensures.items (omega arith, omega arith) (omega arith)
