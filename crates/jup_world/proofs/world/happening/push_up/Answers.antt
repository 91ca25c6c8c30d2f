use Rattle.jup_world.proofs.Lanes.LaneEvents as lane_events
use Rattle.jup_world.proofs.world.happening.push_up.Goals as goal

pub returns-in-Some-clause-plays : goal.returns-in-Some-clause-plays
returns-in-Some-clause-plays c =
    let place = rw c.deref.ensures.value at c.in-Some.ensures.place in
    lane_events.push_up_result c.args.star.now c.args.sites.now.items c.requires c.args.number c.in-Some.at c.index_mut.result.now place c.index_mut.ensures.value
    c.args.most c.push_up.result c.push_up.new.self c.push_up.ensures.reply c.push_up.ensures.ok

pub returns-in-Some-clause-read : goal.returns-in-Some-clause-read
returns-in-Some-clause-read c =
    let place = rw c.deref.ensures.value at c.in-Some.ensures.place in
    lane_events.push_up_read_at c.args.star.now c.args.sites.now.items c.requires c.args.number c.in-Some.at c.index_mut.result.now place c.index_mut.ensures.value
    c.args.most c.push_up.result c.push_up.new.self c.push_up.ensures.ok c.push_up.ensures.read

pub returns-in-Some-clause-same : goal.returns-in-Some-clause-same
returns-in-Some-clause-same c =
    let place = rw c.deref.ensures.value at c.in-Some.ensures.place in
    lane_events.same_result c.args.star.now c.args.sites.now.items c.requires c.args.number c.in-Some.at c.index_mut.result.now place c.index_mut.ensures.value
    c.push_up.result c.push_up.new.self c.push_up.ensures.err

pub returns-in-None-clause-plays : goal.returns-in-None-clause-plays
returns-in-None-clause-plays c =
    let none = rw c.deref.ensures.value at c.in-None.ensures.place in
    lane_events.push_up_none c.args.star.now c.args.sites.now.items c.args.number c.args.most none

pub returns-in-None-clause-read : goal.returns-in-None-clause-read
returns-in-None-clause-read c =
    let none = rw c.deref.ensures.value at c.in-None.ensures.place in
    lane_events.absent_read _ c.args.number c.args.star.now c.args.sites.now.items (lane_events.push_up_reads c.args.number c.args.most) none
