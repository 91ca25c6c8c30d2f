use Rattle.std.proofs.Common.{◌≡◌, ◌+◌, ◌==◌, true, false, sym, refl, arith}
use Rattle.std.proofs.lemmas.Bool.Decides.{nat_tests}
use Rattle.jup_http.proofs.stream.FrameStream.take_data.Goals as goal

pub returns-in_default : goal.returns-in_default
returns-in_default c = rw (← c.after.ensures, c.in_default.is) (sym c.fail.ensures)

pub returns-then-at-frame : goal.returns-then-at-frame
returns-then-at-frame c =
    let is_last : (c.args.frame.now.at + 1 == c.args.frame.now.len) ≡ true = grind (arith, nat_tests, c.if-at-frame.true) in
    rw (← c.after.ensures, c.in-Some.is, is_last) (sym c.end_data.ensures)

pub returns : goal.returns
returns c =
    let goes_on : (c.args.frame.now.at + 1 == c.args.frame.now.len) ≡ false = grind (arith, nat_tests, c.if-at-frame.false) in
    rw (← c.after.ensures, c.in-Some.is, goes_on) refl
