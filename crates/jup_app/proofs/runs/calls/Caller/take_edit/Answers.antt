use Rattle.jup_app.specs.Prelude.{view_of}
use Rattle.jup_app.proofs.Passes.{edit_answered}
use Rattle.jup_app.proofs.runs.calls.Caller.take_edit.Goals as goal

pub returns-clause-called : goal.returns-clause-called
returns-clause-called g c = edit_answered view_of _ _ _ _ _ _ _ c.in-Some.ensures.answered c.in_ok-place.was c.in_ok-count.ensures.pass
