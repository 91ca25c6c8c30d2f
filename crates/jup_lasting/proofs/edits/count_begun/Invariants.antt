use Rattle.std.proofs.Common.{◌≡◌, ◌≤◌, true, min, ◌+◌, length}
use Rattle.jup_resume.specs.Keepers.{unsent, after_cut}
use Rattle.jup_lasting.specs.Edits.{edits_begun}
use Rattle.jup_lasting.proofs.edits.count_begun.Given as goal

-- the edits counted so far, with those that begin among what is left, are all
abbrev pub invariant-loop-line : goal.invariant-loop-line
invariant-loop-line l = record {
  fits : l.count ≤ 4294967295;
  is_open : l.up.is_open ≡ true;
  all : min (l.count + edits_begun (unsent l.up)) 4294967295 ≡ min (edits_begun (unsent l.fn.up)) 4294967295;
  kept : after_cut l.up ≡ after_cut l.fn.up;
}

abbrev pub decreases-loop-line : goal.decreases-loop-line
decreases-loop-line l = length (unsent l.up)
