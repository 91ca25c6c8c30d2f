use Rattle.std.proofs.Common.{◌≡◌, Some, None, eqb, false, refl, sym, ◌∙◌, rules, arith, eq-eqb, slice_get}
use Rattle.std.proofs.lemmas.Grind.{common_steps}
use Rattle.jup_value.proofs.MarkLists.{marked_none, marked_some}
use Rattle.jup_value.proofs.marks.is_at_mark.Goals as goal

pub returns-in_default : goal.returns-in_default
returns-in_default c =
    let none : slice_get c.args.marks.now c.place_of_mark-at.result ≡ None = search rules in
    sym (marked_none c.args.name c.args.marks.now _ c.requires c.place_of_mark-at.ensures.place none)

pub returns-then-mark-name : goal.returns-then-mark-name
returns-then-mark-name c =
    let held : slice_get c.args.marks.now c.place_of_mark-at.result ≡ Some c.in-Some.mark = search rules in
    let same : c.in-Some.mark.site ≡ c.args.name.site = grind (arith, common_steps) in
    sym (marked_some c.args.name c.in-Some.mark c.args.marks.now _ c.requires c.place_of_mark-at.ensures.place held ∙ rw (eq-eqb c.in-Some.mark.site c.args.name.site same) refl)

pub returns-else-mark-name : goal.returns-else-mark-name
returns-else-mark-name c =
    let held : slice_get c.args.marks.now c.place_of_mark-at.result ≡ Some c.in-Some.mark = search rules in
    let other : eqb c.in-Some.mark.site c.args.name.site ≡ false = grind (arith, common_steps) in
    sym (marked_some c.args.name c.in-Some.mark c.args.marks.now _ c.requires c.place_of_mark-at.ensures.place held ∙ rw other refl)
