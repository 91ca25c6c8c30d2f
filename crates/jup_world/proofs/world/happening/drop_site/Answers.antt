use Rattle.std.proofs.Common.{◌∙◌, ap, map, rules}
use Rattle.std.proofs.lemmas.Fn.{filter_same}
use Rattle.jup_world.specs.Insides.{lane_of, bare_attached}
use Rattle.jup_world.proofs.Happenings.{dropped}
use Rattle.jup_world.proofs.Lanes.Sites.{dropped_lanes}
use Rattle.jup_world.proofs.world.happening.drop_site.Goals as goal

pub returns-clause-messages : goal.returns-clause-messages
returns-clause-messages c = ap (map bare_attached) (filter_same _ _ _ (λ x b f k. search rules) _ _ c.retain.ensures.filtered) ∙ dropped c.args.number c.args.sites.now.items

pub returns-clause-bytes : goal.returns-clause-bytes
returns-clause-bytes c = ap (map lane_of) (filter_same _ _ _ (λ x b f k. search rules) _ _ c.retain.ensures.filtered) ∙ dropped_lanes c.args.number c.args.sites.now.items
