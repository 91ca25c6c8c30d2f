use Rattle.std.proofs.Common.{◌<◌, ◌∙◌, ap, sym, length, arith}
use Rattle.std.proofs.lemmas.Grind.{common_steps}
use Rattle.jup_world.specs.Prelude.{Attached}
use Rattle.jup_world.proofs.Happenings.{ascending_place}
use Rattle.jup_world.proofs.world.attached.stands_at.Goals as goal

pub returns-in-Some : goal.returns-in-Some
returns-in-Some c =
    let below : c.args.at < length c.args.sites.now = grind (arith, common_steps) in
    let held = c.in-Some.ensures.lookup.1 in
    λ same. ascending_place c.args.number 0 c.requires.0 c.args.sites.now c.args.at c.in-Some.attached.now c.requires.1 below (ap (λ (a : Attached). a.site.number) (sym held) ∙ (grind (arith, common_steps)))
