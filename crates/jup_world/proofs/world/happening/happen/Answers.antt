use Rattle.jup_world.specs.Events as event
use Rattle.jup_world.proofs.Lanes.LaneEvents.{plain_plays, plain_result}
use Rattle.jup_world.proofs.world.happening.happen.Goals as goal

pub returns-in-Join-clause-plays : goal.returns-in-Join-clause-plays
returns-in-Join-clause-plays c = rw c.in-Join.is (plain_result event.Join c.args.star.now c.join.new.star c.args.sites.now.items c.join.new.sites.items c.join.result c.join.ensures.plays)

pub returns-in-Leave-clause-plays : goal.returns-in-Leave-clause-plays
returns-in-Leave-clause-plays c = rw c.in-Leave.is (plain_plays (event.Leave c.in-Leave.number) c.args.star.now c.leave.new.star c.args.sites.now.items c.leave.new.sites.items c.leave.result c.leave.ensures.plays)

pub returns-in-Up-clause-plays : goal.returns-in-Up-clause-plays
returns-in-Up-clause-plays c = rw c.in-Up.is (plain_result (event.Up c.in-Up.number) c.args.star.now c.move_up.new.star c.args.sites.now.items c.move_up.new.sites.items c.move_up.result c.move_up.ensures.plays)

pub returns-in-Down-clause-plays : goal.returns-in-Down-clause-plays
returns-in-Down-clause-plays c = rw c.in-Down.is (plain_result (event.Down c.in-Down.number) c.args.star.now c.move_down.new.star c.args.sites.now.items c.move_down.new.sites.items c.move_down.result c.move_down.ensures.plays)

pub returns-in-Ping-clause-plays : goal.returns-in-Ping-clause-plays
returns-in-Ping-clause-plays c = rw c.in-Ping.is (plain_result (event.Ping c.in-Ping.number c.in-Ping.count) c.args.star.now c.args.star.now c.args.sites.now.items c.ping.new.sites.items c.ping.result c.ping.ensures.plays)

pub returns-in-PushUp-clause-plays : goal.returns-in-PushUp-clause-plays
returns-in-PushUp-clause-plays c = rw c.in-PushUp.is c.push_up.ensures.plays

pub returns-in-Edit-clause-plays : goal.returns-in-Edit-clause-plays
returns-in-Edit-clause-plays c = rw c.in-Edit.is (rw c.from_ref.ensures.value at c.edit.ensures.plays)

pub returns-in-Batch-clause-plays : goal.returns-in-Batch-clause-plays
returns-in-Batch-clause-plays c = rw c.in-Batch.is (rw c.as_slice.ensures at c.edit-in-Batch.ensures.plays)
