use Rattle.std.proofs.Common.{◌≡◌, ap, arith, length}
use Rattle.jup_resume.proofs.Digits.{one_more_differs}
use Rattle.jup_keys.proofs.hash.KeyHash.matches.Goals as goal

pub loop-place-preserved : goal.loop-place-preserved
loop-place-preserved c =
    let one : c.self.inside.digits ≡ c.args.self.now = c.self.view_is in
    let two : c.other.inside.digits ≡ c.args.other.now = c.other.view_is in
    let one_long = ap length one in
    let two_long = ap length two in
    rw (one, two) (one_more_differs c.args.self.now c.args.other.now c.loop-place.place c.loop-place.difference
    (omega (arith, one_long)) (omega (arith, two_long)) c.loop-place.invariant)
