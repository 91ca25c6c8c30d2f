use Rattle.jup_world.specs.Lanes as lanes
use Rattle.jup_world.specs.Drains.{weight}
use Rattle.jup_world.proofs.Drains.Rounds.{Rounds}
use Rattle.jup_world.proofs.world.World.settle.Given as goal

-- messages were delivered, in rounds
abbrev pub invariant-loop : goal.invariant-loop
invariant-loop l = lanes.IsDelivered l.initial.self l.self × Rounds l.initial.self l.self

abbrev pub decreases-loop : goal.decreases-loop
decreases-loop l = weight (lanes.messages_of l.self)
