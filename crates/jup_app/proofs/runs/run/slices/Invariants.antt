use Rattle.std.proofs.Common.{◌≡◌, map, take}
use Rattle.jup_app.proofs.runs.run.slices.Given as goal

abbrev pub invariant-loop-script : goal.invariant-loop-script
invariant-loop-script l = map (λ s. s.now) l.all.items ≡ map (λ v. v.items) (take l.script-index l.scripts)
