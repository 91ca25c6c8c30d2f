use Rattle.std.proofs.Common.{subst}
use Rattle.jup_world.specs.Happenings.{IsLaneWorld}
use Rattle.jup_world.proofs.Drains.Rounds as rounds
use Rattle.jup_world.proofs.world.World.drain.Goals as goal

pub returns-clause-order : goal.returns-clause-order
returns-clause-order c =
    rounds.order_drained c.args.self.now c.settle.new.self c.settle.result (subst IsLaneWorld c.self.view_is c.self.invariant) c.settle.ensures.delivered c.settle.ensures.err

pub returns-clause-quiet : goal.returns-clause-quiet
returns-clause-quiet c =
    rounds.still_drained c.args.self.now c.settle.new.self c.settle.result (subst IsLaneWorld c.self.view_is c.self.invariant) c.settle.ensures.delivered c.settle.ensures.quiet
