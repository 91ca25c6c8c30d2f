use Rattle.std.proofs.Common.{ℕ, ◌-◌, drop, arith, length-take, length-drop}
use Rattle.jup_http.proofs.Frames.{untaken_after}
use Rattle.jup_http.proofs.reader.unframe_part.Goals as goal

pub returns-clause-told : goal.returns-clause-told
returns-clause-told c more =
    let piece = c.args.piece.now in
    let start = c.args.start in
    let end = c.args.end in
    rw (untaken_after piece start end c.unframe.result.taken
    (omega (arith, c.unframe.ensures.taken, length-take {A = ℕ} (end - start) (drop start piece), length-drop start piece)))
    (c.unframe.ensures.told more)
