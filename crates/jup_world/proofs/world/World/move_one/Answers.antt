use Rattle.std.proofs.Common.{subst}
use Rattle.jup_world.specs.Drains.{way_event}
use Rattle.jup_world.specs.Happenings.{IsLaneWorld}
use Rattle.jup_world.proofs.Answers.{on_err}
use Rattle.jup_world.proofs.Drains.Rounds as drains
use Rattle.jup_world.proofs.world.World.move_one.Goals as goal

pub returns-in_err-reply-clause-err : goal.returns-in_err-reply-clause-err
returns-in_err-reply-clause-err c =
    on_err c.from_residual.result (drains.part_one c.args.self.now c.step.new.self (way_event c.args.way c.args.number) (drains.way_delivers c.args.way c.args.number)
    (rw c.event.ensures at c.in_err-reply.ensures.err))

pub returns-clause-delivers : goal.returns-clause-delivers
returns-clause-delivers c =
    let e = c.in_ok-reply.ensures in
    drains.delivery_told c.args.way c.args.number c.args.self.now c.step.new.self c.in_ok-reply.reply c.is_nothing.result (rw c.event.ensures at e.ok) (rw c.event.ensures at e.reply) c.is_nothing.ensures

pub returns-clause-moved : goal.returns-clause-moved
returns-clause-moved c =
    let e = c.in_ok-reply.ensures in
    drains.settles_one c.args.self.now c.step.new.self (way_event c.args.way c.args.number) c.in_ok-reply.reply c.is_nothing.result (subst IsLaneWorld c.self.view_is c.self.invariant).world
    (drains.way_delivers c.args.way c.args.number) (rw c.event.ensures at e.ok) (rw c.event.ensures at e.reply) c.is_nothing.ensures
