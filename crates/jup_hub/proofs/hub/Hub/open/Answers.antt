use Rattle.std.proofs.Common.{◌≡◌, List, [], ◌∷◌, ◌++◌, Option, Some, ap, sym, ◌∙◌, subst}
use Rattle.atomic_table.specs.Table.{opening}
use Rattle.jup_hub.specs.Prelude.{BoardStar, Desk}
use Rattle.jup_hub.specs.Histories.{newcomer}
use Rattle.jup_hub.specs.Turns.{Kept}
use Rattle.jup_hub.proofs.TurnsKept.{opens}
use Rattle.jup_hub.proofs.hub.Hub.open.Goals as goal

pub new-requires : goal.new-requires
new-requires c =
    let star : BoardStar = c.of-about.result.value in
    let first : BoardStar → Option Desk = λ s. Some (record { star = s; count = 0 }) in
    let items : c.push.new.self.items ≡ first star ∷ [] = c.in_default.ensures.items ∙ (ap (λ (l : List (Option Desk)). l ++ first c.args.star ∷ []) c.new-slots.ensures.items ∙ ap (λ (s : BoardStar). first s ∷ []) (sym c.of-about.ensures)) in
    subst (λ (l : List (Option Desk)). Kept star (opening (0 ∷ 0 ∷ []) l (newcomer star))) (sym items) (opens star)
