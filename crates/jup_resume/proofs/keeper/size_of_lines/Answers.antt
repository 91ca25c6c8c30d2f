use Rattle.std.proofs.Common.{◌∙◌, ap, arith, length, length-drop}
use Rattle.jup_number.proofs.Numbers.{range_from}
use Rattle.jup_resume.proofs.KeptLines.{one_size_more}
use Rattle.jup_resume.proofs.keeper.size_of_lines.Goals as goal

pub loop-preserved : goal.loop-preserved
loop-preserved c =
    let left = range_from c.args.bytes.now c.loop.size in
    let long = ap length left in
    let within = c.first_line.ensures.within in
    let before = c.loop.invariant.within in
    record {
      within = omega (arith, long, within, before, length-drop c.loop.size c.args.bytes.now);
      so_far = one_size_more c.args.bytes.now c.args.count c.loop.counter c.loop.size c.loop.invariant.so_far c.loop-test.true
          c.first_line.result.now (λ text rest free is. c.first_line.ensures.line text rest free (left ∙ is));
    }
