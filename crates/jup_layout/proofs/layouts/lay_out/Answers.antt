use Rattle.std.proofs.Common.{[], length, ap, arith}
use Rattle.jup_layout.proofs.Texts.{lines_fit}
use Rattle.jup_layout.proofs.layouts.lay_out.Goals as goal

pub overflow_cast-result : goal.overflow_cast-result
overflow_cast-result c =
    let fewer = lines_fit c.args.text.now c.in-Ok.fed.lines c.feed.new.self (c.in-Ok.ensures.read [] [] c.new-reader.ensures) in
    let same = ap (λ ls. length ls) c.as_slice-lines.ensures in
    let short = c.requires in
    search (arith, fewer, same, short)

pub overflow_add-result : goal.overflow_add-result
overflow_add-result c =
    let fewer = lines_fit c.args.text.now c.in-Ok.fed.lines c.feed.new.self (c.in-Ok.ensures.read [] [] c.new-reader.ensures) in
    let same = ap (λ ls. length ls) c.as_slice-lines.ensures in
    let short = c.requires in
    search (arith, fewer, same, short)
