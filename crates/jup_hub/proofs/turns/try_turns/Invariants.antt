use Rattle.std.proofs.Common.{◌≡◌}
use Rattle.jup_hub.proofs.turns.try_turns.Given as goal

abbrev pub invariant-loop : goal.invariant-loop
invariant-loop l = (l.seat.table_id ≡ l.initial.seat.table_id) × (l.seat.me ≡ l.initial.seat.me)
