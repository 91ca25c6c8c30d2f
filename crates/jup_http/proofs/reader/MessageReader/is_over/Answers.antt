use Rattle.jup_http.proofs.Frames.{over_is_end}
use Rattle.jup_http.proofs.reader.MessageReader.is_over.Goals as goal

pub returns-in-None-clause-left : goal.returns-in-None-clause-left
returns-in-None-clause-left g c = λ over. over_is_end _ _ _ _ c.in-None.is (c.is_over.ensures.0 over)
