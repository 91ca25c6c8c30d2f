use Rattle.jup_lasting.proofs.CutRun.{run_exists}
use Rattle.jup_lasting.proofs.laws.cut_lines_come_once.Goals as goal

pub returns : goal.returns
returns c = run_exists
