use Rattle.std.proofs.Common.{◌≡◌, drop}
use Rattle.jup_app.specs.Runs.{first_stop}
use Rattle.jup_app.proofs.runs.joiner.first_stop.Given as goal

abbrev pub invariant-loop-played : goal.invariant-loop-played
invariant-loop-played l = first_stop (drop l.played-index l.results) ≡ first_stop l.results
