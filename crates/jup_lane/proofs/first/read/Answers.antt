use Rattle.std.proofs.Common.{sym, ap, subst}
use Rattle.jup_wire.specs.Lines.{BeginsLines}
use Rattle.jup_gather.specs.Gathering.{piece_lines}
use Rattle.jup_lane.proofs.first.read.Goals as goal

pub returns : goal.returns
returns g c = subst (λ ls. BeginsLines ls c.in_ok-msg.len c.args.bytes.now) (sym (ap piece_lines c.edit.ensures)) c.in_ok-msg.ensures
