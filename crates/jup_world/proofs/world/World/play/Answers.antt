use Rattle.std.proofs.Common.{arith}
use Rattle.jup_world.specs.Insides.{lane_event}
use Rattle.jup_world.proofs.Lanes.Worlds.{steps_next, halted}
use Rattle.jup_world.proofs.world.World.play.Goals as goal

pub loop-done-preserved : goal.loop-done-preserved
loop-done-preserved c =
    steps_next lane_event c.args.self.now _ c.step.new.self c.args.events.now c.loop-done.done c.index-events-done.result (omega (arith, c.loop-done-test.true)) c.index-events-done.is c.loop-done.invariant c.in-Ok.ensures.ok

pub returns-in_default-clause-err : goal.returns-in_default-clause-err
returns-in_default-clause-err c =
    halted lane_event c.args.self.now c.loop-done.self c.step.new.self c.args.events.now c.loop-done.done c.index-events-done.result (omega (arith, c.loop-done-test.true)) c.index-events-done.is c.loop-done.invariant c.in_default.ensures.err
