use Rattle.std.proofs.Common.{◌≡◌, [], refl, sym, ◌∙◌, rules, arith}
use Rattle.std.proofs.lemmas.Grind.{common_steps}
use Rattle.jup_lane.proofs.Trays.{no_part, no_lines}
use Rattle.jup_lane.proofs.tray.Tray.is_empty.Goals as goal

pub returns-in-Ok : goal.returns-in-Ok
returns-in-Ok c =
    let open_end = no_part c.self.inside.reader.fault c.self.inside.reader.part (sym c.finish.ensures ∙ c.in-Ok.is) in (
      λ empty. let none : c.self.inside.lines.items ≡ [] = grind (arith, common_steps) in sym c.self.view_is ∙ rw (none, open_end) refl,
      λ none. let empty = (no_lines c.self.inside.lines.items c.self.inside.reader.part (c.self.view_is ∙ none)).0 in search rules,
    )
