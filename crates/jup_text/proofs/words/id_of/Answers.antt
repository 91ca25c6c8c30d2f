use Rattle.std.proofs.Common.{◌≡◌, sym, ◌∙◌, arith}
use Rattle.std.proofs.lemmas.Fmt.{decimal_injective}
use Rattle.jup_text.proofs.words.id_of.Goals as goal

pub returns-then-number-gt65535 : goal.returns-then-number-gt65535
returns-then-number-gt65535 c value small same =
    let read = c.in_ok-number.ensures in
    let long = c.if-number-gt65535.true in
    let e : c.in_ok-number.number ≡ value = decimal_injective c.in_ok-number.number value (omega (arith, read.0)) (omega (arith, small)) (sym read.1 ∙ same) in
    absurd (omega (arith, e, small, long))
