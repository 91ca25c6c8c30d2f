use Rattle.std.proofs.Common.{◌≡◌, ◌+◌, ◌≤◌, drop}
use Rattle.jup_batch.specs.Prelude.{edits, boards, board_operations}
use Rattle.jup_batch.specs.Batched.{all_insertions}
use Rattle.jup_batch.proofs.edits.all_insertions.Given as goal

abbrev pub invariant-loop-op : goal.invariant-loop-op
invariant-loop-op l = record {
  rest : l.count + all_insertions board_operations (edits boards (drop l.op-index l.ops)) ≡ all_insertions board_operations (edits boards l.ops);
  few : l.count ≤ l.op-index;
}
