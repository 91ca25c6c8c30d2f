use Rattle.jup_http.proofs.Frames.{told_first}
use Rattle.jup_http.proofs.stream.FrameStream.put.Goals as goal

pub returns-in-Event-clause-told : goal.returns-in-Event-clause-told
returns-in-Event-clause-told c rest = told_first _ _ c.args.byte _ _ rest c.in-Event.ensures
