use Rattle.std.proofs.Common.{map, subst}
use Rattle.jup_world.specs.Insides.{lane_event}
use Rattle.jup_world.specs.Happenings.{IsLaneWorld}
use Rattle.jup_world.proofs.Drains.Rounds.{order_played}
use Rattle.jup_world.proofs.world.World.run.Goals as goal

pub returns-clause-order : goal.returns-clause-order
returns-clause-order c =
    order_played c.args.self.now c.play.new.self (map lane_event c.args.events.now) c.play.result (subst IsLaneWorld c.self.view_is c.self.invariant) c.play.ensures.ok c.play.ensures.err
