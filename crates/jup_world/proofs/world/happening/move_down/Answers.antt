use Rattle.jup_world.proofs.Happenings as happenings
use Rattle.jup_world.proofs.Lanes.LaneEvents as lane_events
use Rattle.jup_world.proofs.world.happening.move_down.Goals as goal

pub move_down-requires-clause-linked : goal.move_down-requires-clause-linked
move_down-requires-clause-linked c =
    let place = rw c.deref.ensures.value at c.in-Some.ensures.place in
    happenings.linked_there c.args.star.now c.args.sites.now.items c.requires c.args.number c.in-Some.at c.index_mut.result.now place c.index_mut.ensures.value

pub move_down-requires-clause-fits : goal.move_down-requires-clause-fits
move_down-requires-clause-fits c =
    let place = rw c.deref.ensures.value at c.in-Some.ensures.place in
    happenings.oldest_fits c.args.star.now c.args.sites.now.items c.requires c.args.number c.in-Some.at c.index_mut.result.now place c.index_mut.ensures.value

pub returns-in-Some-clause-plays : goal.returns-in-Some-clause-plays
returns-in-Some-clause-plays c =
    let place = rw c.deref.ensures.value at c.in-Some.ensures.place in
    happenings.down_plays c.args.star.now c.args.sites.now.items c.requires c.args.number c.in-Some.at c.index_mut.result.now place c.index_mut.ensures.value
    c.move_down.new.star c.move_down.result c.move_down.new.self c.move_down.ensures.reply c.move_down.ensures.site c.move_down.ensures.star

pub returns-in-Some-clause-read : goal.returns-in-Some-clause-read
returns-in-Some-clause-read c =
    let place = rw c.deref.ensures.value at c.in-Some.ensures.place in
    lane_events.down_read_at c.args.star.now c.args.sites.now.items c.requires c.args.number c.in-Some.at c.index_mut.result.now place c.index_mut.ensures.value
    c.move_down.result c.move_down.new.self c.move_down.ensures.site c.move_down.ensures.read

pub returns-in-Some-clause-spared : goal.returns-in-Some-clause-spared
returns-in-Some-clause-spared c =
    let place = rw c.deref.ensures.value at c.in-Some.ensures.place in
    lane_events.down_result c.args.star.now c.args.sites.now.items c.requires c.args.number c.in-Some.at c.index_mut.result.now place c.index_mut.ensures.value
    c.move_down.new.star c.move_down.result c.move_down.new.self c.move_down.ensures.err c.move_down.ensures.moved

pub returns-in-None-clause-read : goal.returns-in-None-clause-read
returns-in-None-clause-read c =
    let none = rw c.deref.ensures.value at c.in-None.ensures.place in
    lane_events.absent_read _ c.args.number c.args.star.now c.args.sites.now.items (lane_events.down_reads c.args.number) none
