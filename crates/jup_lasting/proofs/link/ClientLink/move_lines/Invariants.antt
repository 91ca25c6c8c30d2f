use Rattle.std.proofs.Common.{◌≤◌, ◌-◌, length, take}
use Rattle.jup_lasting.specs.Links.{MovesLines}
use Rattle.jup_lasting.proofs.link.ClientLink.move_lines.Given as goal

-- what was moved so far came from the link
abbrev pub invariant-loop-count : goal.invariant-loop-count
invariant-loop-count l = record {
  within : l.count ≤ length l.to;
  moved : MovesLines (take l.count l.to) l.fn.self l.self;
}

abbrev pub decreases-loop-count : goal.decreases-loop-count
decreases-loop-count l = length l.initial.to - l.count
