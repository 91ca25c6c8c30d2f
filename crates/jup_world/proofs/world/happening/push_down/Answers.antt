use Rattle.jup_world.proofs.Happenings.{linked_there}
use Rattle.jup_world.proofs.Lanes.LaneEvents as lane_events
use Rattle.jup_world.proofs.world.happening.push_down.Goals as goal

pub push_down-requires : goal.push_down-requires
push_down-requires c =
    let place = rw c.deref.ensures.value at c.in-Some.ensures.place in
    linked_there c.args.star.now c.args.sites.now.items c.requires c.args.number c.in-Some.at c.index_mut.result.now place c.index_mut.ensures.value

pub returns-in-Some-clause-plays : goal.returns-in-Some-clause-plays
returns-in-Some-clause-plays c =
    let place = rw c.deref.ensures.value at c.in-Some.ensures.place in
    lane_events.push_down_result c.args.star.now c.args.sites.now.items c.requires c.args.number c.in-Some.at c.index_mut.result.now place c.index_mut.ensures.value
    c.args.most c.push_down.new.star c.push_down.result c.push_down.new.self c.push_down.ensures.reply c.push_down.ensures.site c.push_down.ensures.star

pub returns-in-Some-clause-read : goal.returns-in-Some-clause-read
returns-in-Some-clause-read c =
    let place = rw c.deref.ensures.value at c.in-Some.ensures.place in
    lane_events.push_down_read_at c.args.star.now c.args.sites.now.items c.requires c.args.number c.in-Some.at c.index_mut.result.now place c.index_mut.ensures.value
    c.args.most c.push_down.result c.push_down.new.self c.push_down.ensures.site c.push_down.ensures.read

pub returns-in-Some-clause-spared : goal.returns-in-Some-clause-spared
returns-in-Some-clause-spared c =
    let place = rw c.deref.ensures.value at c.in-Some.ensures.place in
    lane_events.push_down_spared c.args.star.now c.args.sites.now.items c.requires c.args.number c.in-Some.at c.index_mut.result.now place c.index_mut.ensures.value
    c.args.most c.push_down.new.star c.push_down.result c.push_down.new.self c.push_down.ensures.err c.push_down.ensures.moved

pub returns-in-None-clause-plays : goal.returns-in-None-clause-plays
returns-in-None-clause-plays c =
    let none = rw c.deref.ensures.value at c.in-None.ensures.place in
    lane_events.push_down_none c.args.star.now c.args.sites.now.items c.args.number c.args.most none

pub returns-in-None-clause-read : goal.returns-in-None-clause-read
returns-in-None-clause-read c =
    let none = rw c.deref.ensures.value at c.in-None.ensures.place in
    lane_events.absent_read _ c.args.number c.args.star.now c.args.sites.now.items (lane_events.push_down_reads c.args.number c.args.most) none
