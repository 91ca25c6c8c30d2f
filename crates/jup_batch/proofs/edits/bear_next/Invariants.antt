use Rattle.std.proofs.Common.{◌≡◌, ◌+◌, ◌≤◌, drop}
use Rattle.jup_batch.specs.Prelude.{edits, boards, board_operations}
use Rattle.jup_batch.specs.Batched.{bear_next}
use Rattle.jup_batch.proofs.edits.bear_next.Given as goal

-- the rest decides
abbrev pub invariant-loop-op : goal.invariant-loop-op
invariant-loop-op l = record {
  rest : bear_next board_operations l.site l.next (edits boards (drop l.op-index l.ops)) ≡ bear_next board_operations l.site l.count (edits boards l.ops);
  few : l.next ≤ l.count + l.op-index;
}
