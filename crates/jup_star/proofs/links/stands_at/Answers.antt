use Rattle.std.proofs.Common.{◌<◌, ◌∙◌, ap, sym, length, arith}
use Rattle.std.proofs.lemmas.Grind.{common_steps}
use Rattle.jup_star.specs.declared.link.Link.{Link}
use Rattle.jup_star.proofs.LinkChanges.{apart_place}
use Rattle.jup_star.proofs.links.stands_at.Goals as goal

pub returns-in-Some : goal.returns-in-Some
returns-in-Some c =
    let below : c.args.at < length c.args.links.now = grind (arith, common_steps) in
    let held = c.in-Some.ensures.lookup.1 in
    λ same. apart_place c.args.site c.args.links.now c.args.at c.in-Some.link.now c.requires below (ap (λ (l : Link). l.site) (sym held) ∙ (grind (arith, common_steps)))
