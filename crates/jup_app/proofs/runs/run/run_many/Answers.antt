use Rattle.jup_app.proofs.Calls.{opens}
use Rattle.jup_app.proofs.runs.run.run_many.Goals as goal

pub run_sites-requires-clause-opening : goal.run_sites-requires-clause-opening
run_sites-requires-clause-opening g c κs within = opens _ _ _ c.requires.short c.is_short-short.ensures.distinct c.in_ok-star.ensures.refusal c.in_ok-star.ensures.opened
