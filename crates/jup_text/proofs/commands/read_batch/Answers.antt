use Rattle.std.proofs.Common.{◌≡◌, decimal, sym, ◌∙◌, arith, rules}
use Rattle.std.proofs.lemmas.Fmt.{decimal_injective}
use Rattle.jup_text.proofs.commands.read_batch.Goals as goal

pub returns-then-count-gt-MOST_LINES : goal.returns-then-count-gt-MOST_LINES
returns-then-count-gt-MOST_LINES c value small same =
    let read = c.in_ok-count.ensures in
    let long = c.if-count-gt-MOST_LINES.true in
    let behind : c.in_ok-strip_prefix.field-0.now ≡ decimal value = search rules in
    let e : c.in_ok-count.count ≡ value = decimal_injective c.in_ok-count.count value (omega (arith, read.0)) (omega (arith, small)) (sym read.1 ∙ behind) in
    absurd (omega (arith, e, small, long))
