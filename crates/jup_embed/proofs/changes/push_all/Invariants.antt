use Rattle.std.proofs.Common.{◌≡◌, ◌+◌, ◌++◌, take, vec_len, vec_capacity}
use Rattle.jup_embed.proofs.changes.push_all.Given as goal

abbrev pub invariant-loop-op : goal.invariant-loop-op
invariant-loop-op l = (l.ops.items ≡ l.fn.ops.items ++ take l.op-index l.more) × (vec_len l.ops ≡ vec_len l.fn.ops + l.op-index) × (vec_capacity l.ops ≡ vec_capacity l.fn.ops)
