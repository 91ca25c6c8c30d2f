use Rattle.std.proofs.Common.{◌∷◌, ◌++◌, [], List, length, sym, ap, subst, ◌∙◌, arith, length-append}
use Rattle.jup_wire.specs.Prelude.{Line, flat_map, AllByRecursion}
use Rattle.jup_wire.specs.Lines.{spelling, HasSpelling}
use Rattle.jup_wire.proofs.Spellings.{split_parts}
use Rattle.jup_wire.proofs.Streams.{open_text, lacks_all, spelled-append, one_line_more, fault_behind}
use Rattle.jup_wire.proofs.reader.read_lines.Goals as goal

pub finish_line-requires : goal.finish_line-requires
finish_line-requires c = open_text c.in-Some.text.now (split_parts 10 c.loop-text.left.now c.in-Some.text.now c.in-Some.behind.now c.in-Some.ensures).1

pub returns-in-Err : goal.returns-in-Err
returns-in-Err c =
    let cut = split_parts 10 c.loop-text.left.now c.in-Some.text.now c.in-Some.behind.now c.in-Some.ensures in (
      c.loop-text.invariant.spelled,
      fault_behind (flat_map spelling c.args.lines.now ++ c.args.bytes.now) c.loop-text.left.now c.in-Some.text.now c.in-Some.behind.now c.loop-text.lines c.in-Err.fault
          c.loop-text.invariant.bytes cut.0 c.in-Err.ensures,
    )

pub loop-text-smaller : goal.loop-text-smaller
loop-text-smaller c =
    let cut = split_parts 10 c.loop-text.left.now c.in-Some.text.now c.in-Some.behind.now c.in-Some.ensures in
    let whole = ap length cut.0 in
    let both = length-append c.in-Some.text.now (10 ∷ c.in-Some.behind.now) in
    omega (arith, whole, both)

pub loop-text-preserved : goal.loop-text-preserved
loop-text-preserved c =
    let cut = split_parts 10 c.loop-text.left.now c.in-Some.text.now c.in-Some.behind.now c.in-Some.ensures in
    let pushed = c.in_ok-push-in-Ok.ensures.ok in
    let is = c.in-Ok.ensures in
    record {
      spelled = subst (AllByRecursion HasSpelling) (sym pushed) (spelled-append c.loop-text.lines (c.in-Ok.line ∷ []) c.loop-text.invariant.spelled (is.0, tt));
      bytes = one_line_more (flat_map spelling c.args.lines.now ++ c.args.bytes.now) c.loop-text.left.now c.in-Some.text.now c.in-Some.behind.now c.loop-text.lines c.in-Ok.line c.loop-text.invariant.bytes cut.0 is.1
          ∙ ap (λ (ls : List Line). flat_map spelling ls ++ c.in-Some.behind.now) (sym pushed);
    }

pub returns : goal.returns
returns c = (c.loop-text.invariant.spelled, c.loop-text.invariant.bytes, open_text c.loop-text.left.now (lacks_all 10 c.loop-text.left.now c.in_default.ensures))
