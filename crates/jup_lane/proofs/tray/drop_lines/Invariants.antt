use Rattle.std.proofs.Common.{◌≡◌, drop}
use Rattle.jup_lane.proofs.tray.drop_lines.Given as goal

abbrev pub invariant-loop : goal.invariant-loop
invariant-loop l = l.lines.items ≡ drop l.counter l.initial.lines.items
