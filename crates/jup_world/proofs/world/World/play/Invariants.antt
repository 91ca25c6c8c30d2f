use Rattle.std.proofs.Common.{map, take}
use Rattle.jup_world.specs.Insides.{lane_event}
use Rattle.jup_world.specs.Lanes.{AllSteps}
use Rattle.jup_world.proofs.world.World.play.Given as goal

-- the events so far have happened
abbrev pub invariant-loop-done : goal.invariant-loop-done
invariant-loop-done l = AllSteps l.initial.self (map lane_event (take l.done l.events)) l.self
