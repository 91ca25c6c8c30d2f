use Rattle.std.proofs.Common.{take}
use Rattle.jup_links.specs.Counts.{Finds}
use Rattle.jup_links.proofs.counts.Counts.find.Given as goal

abbrev pub invariant-loop-count : goal.invariant-loop-count
invariant-loop-count l = Finds l.token (take l.count-index l.self) l.found
