use Rattle.std.proofs.Common.{◌≤◌, ◌-◌, vec_len}
use Rattle.jup_value.proofs.layout.make_ready.Given as goal

abbrev pub invariant-loop-alloc : goal.invariant-loop-alloc
invariant-loop-alloc g l = vec_len l.initial.ready ≤ vec_len l.ready

abbrev pub decreases-loop-alloc : goal.decreases-loop-alloc
decreases-loop-alloc g l = l.wanted - vec_len l.ready
