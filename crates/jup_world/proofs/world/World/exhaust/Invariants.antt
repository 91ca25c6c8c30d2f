use Rattle.std.proofs.Common.{◌≡◌, IsFalse}
use Rattle.jup_world.specs.Drains.{Settles, weight}
use Rattle.jup_world.specs.Lanes.{messages_of}
use Rattle.jup_world.proofs.Drains.Rounds.{Moves}
use Rattle.jup_world.proofs.world.World.exhaust.Given as goal

-- messages were delivered, each by a delivery at the site, or all is as it was
abbrev pub invariant-loop-moved : goal.invariant-loop-moved
invariant-loop-moved l =
    Settles l.moved l.initial.self l.self × (IsFalse l.moved → l.self ≡ l.initial.self) × Moves l.way l.number l.moved l.initial.self l.self

abbrev pub decreases-loop-moved : goal.decreases-loop-moved
decreases-loop-moved l = weight (messages_of l.self)
