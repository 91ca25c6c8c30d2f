use Rattle.std.proofs.Common.{◌≡◌, ◌==◌, length, true, sym, arith}
use Rattle.std.proofs.lemmas.Bool.Decides.{nat_tests}
use Rattle.jup_http.proofs.stream.FrameStream.take_control.Goals as goal

pub returns-then-bytes-frame : goal.returns-then-bytes-frame
returns-then-bytes-frame c =
    let is_last : (length c.bytes.result.now == c.args.frame.now.len) ≡ true = grind (arith, nat_tests, c.if-bytes-frame.true) in
    rw (← (rw c.bytes-at.ensures at c.push.ensures), ← c.bytes.ensures, is_last) (rw c.bytes.ensures (sym c.end_control.ensures))
