use Rattle.std.proofs.Common.{◌≡◌, Some, rules, arith, slice_get}
use Rattle.std.proofs.lemmas.Grind.{common_steps}
use Rattle.jup_value.proofs.MarkLists.{place_held, held_within}
use Rattle.jup_value.proofs.marks.stands_at.Goals as goal

pub returns-in-Some : goal.returns-in-Some
returns-in-Some c =
    let held : slice_get c.args.marks.now c.args.at ≡ Some c.in-Some.mark = search rules in
    λ same. (held_within c.args.marks.now c.args.at c.in-Some.mark held, place_held c.args.site c.args.marks.now c.args.at c.in-Some.mark c.requires held (grind (arith, common_steps)))
