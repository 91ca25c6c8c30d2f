use Rattle.std.proofs.Common.{refl, map, rules}
use Rattle.jup_world.specs.declared.events.Reply.TheVariants.{Nothing}
use Rattle.jup_world.specs.Events.{Edit as MakeEdit}
use Rattle.jup_world.specs.Happenings.{Plays}
use Rattle.jup_world.specs.Insides.{bare_attached}
use Rattle.jup_world.proofs.Happenings.{edit_plays}
use Rattle.jup_world.proofs.Lanes.LaneEvents as lane_events
use Rattle.jup_world.proofs.world.happening.edit.Goals as goal

pub returns-in-Some-clause-plays : goal.returns-in-Some-clause-plays
returns-in-Some-clause-plays c =
    let place = rw c.deref.ensures.value at c.in-Some.ensures.place in
    lane_events.plain_result (MakeEdit c.args.number c.args.commands.now) c.args.star.now c.args.star.now c.args.sites.now.items _ c.edit.result
    (edit_plays c.args.star.now c.args.sites.now.items c.requires c.args.number c.in-Some.at c.index_mut.result.now place c.index_mut.ensures.value
    c.args.commands.now c.edit.result c.edit.new.self c.edit.ensures.reply c.edit.ensures.ok)

pub returns-in-Some-clause-read : goal.returns-in-Some-clause-read
returns-in-Some-clause-read c =
    let place = rw c.deref.ensures.value at c.in-Some.ensures.place in
    lane_events.edit_read c.args.star.now c.args.sites.now.items c.requires c.args.number c.in-Some.at c.index_mut.result.now place c.index_mut.ensures.value
    c.args.commands.now c.edit.result c.edit.new.self c.edit.ensures.ok c.edit.ensures.read

pub returns-in-Some-clause-same : goal.returns-in-Some-clause-same
returns-in-Some-clause-same c =
    let place = rw c.deref.ensures.value at c.in-Some.ensures.place in
    lane_events.same_result c.args.star.now c.args.sites.now.items c.requires c.args.number c.in-Some.at c.index_mut.result.now place c.index_mut.ensures.value
    c.edit.result c.edit.new.self c.edit.ensures.same

pub returns-in-None-clause-plays : goal.returns-in-None-clause-plays
returns-in-None-clause-plays c =
    let plays : Plays (MakeEdit c.args.number c.args.commands.now) c.args.star.now (map bare_attached c.args.sites.now.items) Nothing c.args.star.now (map bare_attached c.args.sites.now.items) = search rules in
    lane_events.plain_plays (MakeEdit c.args.number c.args.commands.now) c.args.star.now c.args.star.now c.args.sites.now.items c.args.sites.now.items Nothing plays

pub returns-in-None-clause-read : goal.returns-in-None-clause-read
returns-in-None-clause-read c = lane_events.none_read_at _ c.args.star.now _ _ ((λ j a. refl), (λ j l a. refl)) refl
