use Rattle.jup_lane.specs.Lanes.{ups, downs}
use Rattle.jup_world.specs.Lanes.{messages_of}
use Rattle.jup_world.proofs.Drains.Deliveries.{all_agree}
use Rattle.jup_world.proofs.Lanes.Worlds as lane_worlds
use Rattle.jup_world.proofs.promises.bytes_agree.Goals as goal

pub returns-clause-agree : goal.returns-clause-agree
returns-clause-agree c events w v is steps still =
    let kept = lane_worlds.steps_keep events w v is steps in
    all_agree (messages_of v) kept.world ((lane_worlds.still_quiet v kept.carry).0 still)

pub returns-clause-order : goal.returns-clause-order
returns-clause-order c = lane_worlds.steps_order

pub returns-clause-up : goal.returns-clause-up
returns-clause-up c = lane_worlds.ways_determined ups

pub returns-clause-down : goal.returns-clause-down
returns-clause-down c = lane_worlds.ways_determined downs
