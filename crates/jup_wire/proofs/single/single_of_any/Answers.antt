use Rattle.std.proofs.Common.{refl}
use Rattle.jup_wire.specs.declared.line.Line.TheVariants.{Batch, Do}
use Rattle.jup_wire.proofs.Readings.{line_there, both_lines, left_within}
use Rattle.jup_wire.proofs.single.single_of_any.Goals as goal

pub overflow_sub-result : goal.overflow_sub-result
overflow_sub-result c =
    let line = line_there c.args.rest.now c.in_ok-text.text.now c.in_ok-text.behind.now c.in-Ok-Do.field-0 (Do c.in-Ok-Do.op) c.in_ok-text.ensures c.in-Ok-Do.ensures.line c.in-Ok-Do.field-0-is in
    left_within (Batch c.args.mine c.args.heard 1) (Do c.in-Ok-Do.op) c.args.bytes.now c.args.rest.now c.in_ok-text.behind.now c.requires line

pub returns-in-Ok-Do : goal.returns-in-Ok-Do
returns-in-Ok-Do c =
    let line = line_there c.args.rest.now c.in_ok-text.text.now c.in_ok-text.behind.now c.in-Ok-Do.field-0 (Do c.in-Ok-Do.op) c.in_ok-text.ensures c.in-Ok-Do.ensures.line c.in-Ok-Do.field-0-is in
    both_lines (Batch c.args.mine c.args.heard 1) (Do c.in-Ok-Do.op) c.args.bytes.now c.args.rest.now c.in_ok-text.behind.now _ c.requires line refl
