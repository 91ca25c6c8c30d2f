use Rattle.std.proofs.Common.{rules, ◌≡◌, [], ◌∷◌, Some, sym, ◌∙◌, subst, refl}
use mathlib.Core.Option.{none}
use Rattle.atomic_table.specs.Table.{rest, step, Allows}
use Rattle.jup_hub.specs.Turns.{SeatState, Kept, desk_after, whole, gave}
use Rattle.jup_hub.proofs.TurnsKept.{gives_turn}
use Rattle.jup_hub.proofs.turns.give_turn.Goals as goal

pub store-requires : goal.store-requires
store-requires c =
    let m = c.args.seat.now.me in
    let table = c.args.table.now in
    let log = whole m.0 in
    let same : c.exchange.new.seat.me ≡ (m.0, (0, Some (desk_after m.0.opening log)) ∷ []) = c.exchange.ensures.3 ∙ ((λ i. (m.0, (0, Some (c.requires.desk i)) ∷ rest (c.requires.turn.0 i)))) in (
      search rules,
      search rules,
      subst (λ (x : SeatState). Allows (Kept table.key.value) table.table_id.slots c.exchange.new.seat.id x 1 (λ _. 0) (λ _. gave (step table.table_id.slots 1 0 0 none) x 0)) (sym same)
          (gives_turn _ _ _ _ log c.requires.table.0.1 c.requires.turn.2 c.requires.turn.1 refl),
    )
