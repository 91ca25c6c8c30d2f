use Rattle.jup_reconnect.proofs.CutSession.{run_exists}
use Rattle.jup_reconnect.proofs.laws.cut_sessions_go_on.Goals as goal

pub returns : goal.returns
returns c = run_exists
