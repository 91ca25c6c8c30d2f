use Rattle.std.proofs.Common.{◌≡◌, drop}
use Rattle.jup_batch.specs.Prelude.{edits, boards, board_operations}
use Rattle.jup_batch.specs.Batched.{one_bears_site}
use Rattle.jup_batch.proofs.edits.one_bears_site.Given as goal

-- the rest decides
abbrev pub invariant-loop-op : goal.invariant-loop-op
invariant-loop-op l = one_bears_site board_operations l.site (edits boards (drop l.op-index l.ops)) ≡ one_bears_site board_operations l.site (edits boards l.ops)
