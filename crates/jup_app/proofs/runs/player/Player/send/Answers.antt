use Rattle.jup_app.proofs.Passes.{took_one}
use Rattle.jup_app.proofs.runs.player.Player.send.Goals as goal

pub returns-clause-handled : goal.returns-clause-handled
returns-clause-handled g c = took_one _ _ _ _ _ _ _ _ _ c.in_ok-take_edit.ensures.called c.in_ok-take_edit.ensures.count
