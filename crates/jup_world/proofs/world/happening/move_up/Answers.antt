use Rattle.std.proofs.Common.{ap, ◌∙◌, eq-eqb, map}
use Rattle.jup_world.specs.Insides.{lane_of}
use Rattle.jup_world.proofs.Answers.{on_err}
use Rattle.jup_world.proofs.Happenings as happenings
use Rattle.jup_world.proofs.Lanes.Sites.{without_read}
use Rattle.jup_world.proofs.Lanes.LaneEvents as lane_events
use Rattle.jup_world.proofs.world.happening.move_up.Goals as goal

pub returns-in_default-clause-read : goal.returns-in_default-clause-read
returns-in_default-clause-read c =
    let none = rw c.deref.ensures.value at c.in_default.ensures.place in
    lane_events.absent_read _ c.args.number c.args.star.now c.args.sites.now.items (lane_events.up_reads c.args.number) none

pub returns-in_err-fault-in-Err-clause-spared : goal.returns-in_err-fault-in-Err-clause-spared
returns-in_err-fault-in-Err-clause-spared c =
    let place = rw c.deref.ensures.value at c.in-Some.ensures.place in
    on_err c.from_residual.result (lane_events.up_rests c.args.star.now c.args.sites.now.items c.requires c.args.number c.in-Some.at c.index_mut.result.now place c.index_mut.ensures.value
    c.move_up.new.star c.move_up.new.self (c.in-Err.ensures.memory c.in_err-fault-in-Err.ensures.memory) c.in-Err.ensures.err c.in-Err.ensures.moved)

pub returns-in-Ok-clause-plays : goal.returns-in-Ok-clause-plays
returns-in-Ok-clause-plays c =
    let place = rw c.deref.ensures.value at c.in-Some.ensures.place in
    happenings.up_plays c.args.star.now c.args.sites.now.items c.requires c.args.number c.in-Some.at c.index_mut.result.now place c.index_mut.ensures.value
    c.move_up.new.star c.in-Ok.reply c.move_up.new.self c.in-Ok.ensures.taken c.in-Ok.ensures.ok

pub returns-in-Ok-clause-read : goal.returns-in-Ok-clause-read
returns-in-Ok-clause-read c =
    let place = rw c.deref.ensures.value at c.in-Some.ensures.place in
    lane_events.up_read_at c.args.star.now c.args.sites.now.items c.requires c.args.number c.in-Some.at c.index_mut.result.now place c.index_mut.ensures.value
    c.move_up.new.self c.in-Ok.ensures.ok c.in-Ok.ensures.read

pub returns-in_ok-fault-in-Err-clause-plays : goal.returns-in_ok-fault-in-Err-clause-plays
returns-in_ok-fault-in-Err-clause-plays c =
    let place = rw c.deref.ensures.value at c.in-Some.ensures.place in
    happenings.refused_plays c.args.star.now c.args.sites.now.items c.requires c.args.number c.in-Some.at c.index_mut.result.now place c.index_mut.ensures.value
    c.move_up.new.star c.in-Err.fault _ c.move_up.new.self _ (c.in-Err.ensures.refused c.in_ok-fault-in-Err.ensures.other) c.in_ok-fault-in-Err.ensures.other c.in_ok-fault-in-Err.ensures.same c.in-Err.ensures.err c.drop_site.ensures.messages

pub returns-in_ok-fault-in-Err-clause-read : goal.returns-in_ok-fault-in-Err-clause-read
returns-in_ok-fault-in-Err-clause-read c =
    let place = rw c.deref.ensures.value at c.in-Some.ensures.place in
    let here = happenings.number c.args.star.now c.args.sites.now.items c.requires c.args.number c.in-Some.at c.index_mut.result.now place c.index_mut.ensures.value in
    let reads = lane_events.up_reads c.args.number in
    without_read _ c.args.star.now c.args.number (map lane_of c.args.sites.now.items) _
    (c.drop_site.ensures.bytes ∙ lane_events.without_set c.args.number c.args.sites.now.items c.in-Some.at c.move_up.new.self place (eq-eqb _ _ (ap (λ a. a.site.number) c.in-Err.ensures.err ∙ here)))
    reads.0 reads.1
