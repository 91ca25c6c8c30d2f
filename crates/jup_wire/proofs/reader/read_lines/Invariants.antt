use Rattle.std.proofs.Common.{◌≡◌, ◌++◌, length}
use Rattle.std.specs.List.{flat_map, AllByRecursion}
use Rattle.jup_wire.specs.Lines.{spelling, HasSpelling}
use Rattle.jup_wire.proofs.reader.read_lines.Given as goal

-- the lines so far, and what is left after them
abbrev pub invariant-loop-text : goal.invariant-loop-text
invariant-loop-text l = record {
  spelled : AllByRecursion HasSpelling l.lines;
  bytes : flat_map spelling l.initial.lines ++ l.bytes ≡ flat_map spelling l.lines ++ l.left;
}

abbrev pub decreases-loop-text : goal.decreases-loop-text
decreases-loop-text l = length l.left
