use Rattle.std.proofs.Common.{ℕ, ◌≤◌, IsFalse}
use Rattle.jup_world.specs.Drains.{Settles, MovesNothing, Passes}
use Rattle.jup_world.specs.Lanes.{messages_of}
use Rattle.jup_world.proofs.world.World.move_all.Given as goal

-- messages were delivered, at the sites so far, or none could be there
abbrev pub invariant-loop-before : goal.invariant-loop-before
invariant-loop-before l =
    Settles l.moved l.initial.self l.self × (IsFalse l.moved → (i : ℕ) → 1 ≤ i → i ≤ l.before → MovesNothing l.way i (messages_of l.initial.self))
    × Passes l.way l.before l.moved l.initial.self l.self
