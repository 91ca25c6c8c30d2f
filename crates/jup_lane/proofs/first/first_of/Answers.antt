use Rattle.std.proofs.Common.{◌++◌, ap, ◌∙◌}
use Rattle.jup_gather.proofs.Gathering.{no_part}
use Rattle.jup_lane.proofs.Trays.{held_first, held_more, first_found, none_found}
use Rattle.jup_lane.proofs.first.first_of.Goals as goal

pub loop-line-init : goal.loop-line-init
loop-line-init c = held_first c.new-gather.result _ c.args.there.now.items c.new-gather.ensures.held no_part (ap (λ i. i.head.now ++ i.wrapped.now) c.into_iter-line-iterator.ensures.into_iter_gives ∙ c.iter-line-items.ensures.rest)

pub loop-line-preserved : goal.loop-line-preserved
loop-line-preserved c = held_more c.loop-line.gather c.push.new.self _ _ c.args.there.now.items c.in-Some.line.now c.in_ok-gathered.gathered c.loop-line.invariant c.in-Some.ensures.steps c.in_ok-gathered.ensures.step c.in-Held.is

pub returns-in_default : goal.returns-in_default
returns-in_default c = first_found c.loop-line.gather c.push.new.self _ _ c.args.there.now.items c.in-Some.line.now c.in_ok-gathered.gathered c.loop-line.invariant c.in-Some.ensures.steps c.in_ok-gathered.ensures.step c.in_default.not-Held

pub returns : goal.returns
returns c = none_found c.loop-line.gather _ c.args.there.now.items c.loop-line.invariant c.in-None.ensures.steps.0
