use Rattle.std.proofs.Common.{refl, ap}
use Rattle.jup_world.proofs.Answers.{on_err}
use Rattle.jup_world.proofs.Happenings.{ping_plays}
use Rattle.jup_world.proofs.Lanes.LaneEvents.{site_read, site_same}
use Rattle.jup_world.proofs.world.happening.ping.Goals as goal

pub returns-in_err-ping-clause-same : goal.returns-in_err-ping-clause-same
returns-in_err-ping-clause-same c =
    let place = rw c.deref.ensures.value at c.in-Some.ensures.place in
    on_err c.from_residual.result (site_same c.args.star.now c.args.sites.now.items c.requires c.args.number c.in-Some.at c.index_mut.result.now place c.index_mut.ensures.value
    c.ping.new.self c.in_err-ping.ensures.same)

pub returns-clause-plays : goal.returns-clause-plays
returns-clause-plays c =
    let place = rw c.deref.ensures.value at c.in-Some.ensures.place in
    ping_plays c.args.star.now c.args.sites.now.items c.requires c.args.number c.in-Some.at c.index_mut.result.now place c.index_mut.ensures.value
    c.args.count c.ping.new.self c.in_ok-ping.ensures.ok

pub returns-clause-read : goal.returns-clause-read
returns-clause-read c =
    let place = rw c.deref.ensures.value at c.in-Some.ensures.place in
    site_read c.args.star.now c.args.sites.now.items c.requires c.args.number c.in-Some.at c.index_mut.result.now place c.index_mut.ensures.value
    _ c.ping.new.self _ _ (ap (λ a. a.site.number) c.in_ok-ping.ensures.ok) c.in_ok-ping.ensures.read refl (λ l link. refl) ((λ j a other. refl), (λ j l a other. refl))
