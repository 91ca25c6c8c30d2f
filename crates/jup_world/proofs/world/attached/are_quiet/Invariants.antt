use Rattle.std.proofs.Common.{◌↔◌, map, drop}
use Rattle.jup_world.specs.Insides.{bare_attached}
use Rattle.jup_world.specs.Happenings.{AllQuiet}
use Rattle.jup_world.proofs.world.attached.are_quiet.Given as goal

-- all are quiet if those that are left are
abbrev pub invariant-loop-attached : goal.invariant-loop-attached
invariant-loop-attached l = AllQuiet l.star (map bare_attached (drop l.attached-index l.sites)) ↔ AllQuiet l.star (map bare_attached l.sites)
