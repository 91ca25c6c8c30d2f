use Rattle.std.proofs.Common.{Some, refl, ap, subst, sym, ◌∙◌, length}
use Rattle.jup_lane.specs.Lanes.{Way, IsFilled, Carries, ups, downs}
use Rattle.jup_world.specs.Insides.{lane_of}
use Rattle.jup_world.proofs.Lanes.Sites.{handed-site}
use Rattle.jup_world.proofs.world.attached.Attached.hand.Goals as goal

pub returns-clause-read : goal.returns-clause-read
returns-clause-read c =
    let old = c.args.self.now.down.way in
    let mid = c.first.new.self.way in
    let filled : IsFilled downs old mid (Some c.in-Some.down) = subst (λ o. IsFilled downs old mid o) c.in-Some.is c.in_ok-down.ensures.first in
    handed-site (lane_of c.args.self.now) _ mid mid c.in-Some.down filled refl c.drop_first.ensures.way c.drop_first.ensures.messages
    (c.acknowledge.ensures.read ∙ ap (λ (v : Way). length v.read) c.reserve.ensures.way)
    (λ is. c.acknowledge.ensures.carry (subst (Carries ups) (sym c.reserve.ensures.way) is))
