use Rattle.std.proofs.Common.{◌≤◌, length, vec_len, IfSome, arith}
use Rattle.jup_script.proofs.two.read_start.Goals as goal

-- the text is in a line, after its word
pub returns-in-Ok-Some-clause-short : goal.returns-in-Ok-Some-clause-short
returns-in-Ok-Some-clause-short c =
    let text = c.in-Some-start-default.text.now in
    let short : IfSome c.in-Ok-Some.field-0 (λ chars. vec_len chars ≤ length text) = c.in-Ok-Some.ensures.short in
    omega (arith, c.in_ok-required_line.ensures.short, c.in-Some-start-default.ensures.cases, rw c.in-Ok-Some.field-0-is at short)
