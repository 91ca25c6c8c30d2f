use Rattle.jup_world.specs.Insides.{lane_of, bare_attached}
use Rattle.jup_world.proofs.Lanes.Sites as lane_sites
use Rattle.jup_world.proofs.world.attached.Attached.refill.Goals as goal

pub returns-in_ok-fill-clause-site : goal.returns-in_ok-fill-clause-site
returns-in_ok-fill-clause-site c l found =
    lane_sites.refilled_idle (bare_attached c.args.self.now) _ c.args.self.now.down.way.stream l (c.is_idle.ensures.messages.0 c.if-is_idle.true) (c.is_idle.ensures.idle.0 c.if-is_idle.true).1
    (c.in_ok-fill.ensures.site l found)

pub returns-in_ok-fill-clause-star : goal.returns-in_ok-fill-clause-star
returns-in_ok-fill-clause-star c l found =
    lane_sites.refilled_idle_star (bare_attached c.args.self.now) c.args.self.now.down.way.stream l _ _ (c.is_idle.ensures.messages.0 c.if-is_idle.true) (c.is_idle.ensures.idle.0 c.if-is_idle.true).1
    (c.in_ok-fill.ensures.star l found)

pub returns-in_ok-fill-clause-filled : goal.returns-in_ok-fill-clause-filled
returns-in_ok-fill-clause-filled c l found = lane_sites.refilled_way l (lane_of c.args.self.now) _ (c.in_ok-fill.ensures.filled l found)
