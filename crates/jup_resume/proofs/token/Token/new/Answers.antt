use Rattle.std.proofs.Common.{◌≡◌, arith, rules, sym, subst}
use Rattle.hex.specs.Hex.{encode_lower, IsBytes}
use Rattle.jup_resume.specs.Tokens.{IsTokenText}
use Rattle.jup_resume.proofs.Digits.{token_of_bytes}
use Rattle.jup_resume.proofs.token.Token.new.Goals as goal

pub invariant_of-result : goal.invariant_of-result
invariant_of-result c =
    let fits : IsBytes c.args.bytes.now = λ i. let f = c.fits-bytes i in omega arith in
    let long = c.told-bytes in
    let out : c.encode_to_slice.new.output ≡ encode_lower c.args.bytes.now = search rules in
    subst IsTokenText (sym out) (token_of_bytes c.args.bytes.now (omega (arith, long)) fits)
