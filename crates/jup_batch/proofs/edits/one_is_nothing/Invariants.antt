use Rattle.std.proofs.Common.{◌≡◌, drop}
use Rattle.jup_batch.specs.Prelude.{edits, boards, board_operations}
use Rattle.jup_batch.specs.Batched.{one_is_nothing}
use Rattle.jup_batch.proofs.edits.one_is_nothing.Given as goal

-- the rest decides
abbrev pub invariant-loop-op : goal.invariant-loop-op
invariant-loop-op l = one_is_nothing board_operations (edits boards (drop l.op-index l.ops)) ≡ one_is_nothing board_operations (edits boards l.ops)
