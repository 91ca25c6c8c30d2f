use Rattle.std.proofs.Common.{◌≤◌, length}
use Rattle.jup_links.specs.Ways.{AreNextLines}
use Rattle.jup_links.proofs.way_down.WayDown.write_lines.Given as goal

abbrev pub invariant-loop : goal.invariant-loop
invariant-loop l = record {
  counted : l.counter ≤ length l.out.items;
  lines : AreNextLines l.initial.self l.self l.initial.out.items l.out.items;
}
