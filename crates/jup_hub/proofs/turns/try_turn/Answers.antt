use Rattle.std.proofs.Common.{rules, ◌∷◌, Some, ap, sym, ◌∙◌}
use Rattle.atomic_table.specs.Table.{rest}
use Rattle.jup_hub.specs.Turns.{SeatState, desk_after}
use Rattle.jup_hub.proofs.TurnsKept.{tries}
use Rattle.jup_hub.proofs.turns.try_turn.Goals as goal

pub compare_exchange-requires : goal.compare_exchange-requires
compare_exchange-requires c = (search rules, search rules, tries _ _ _ _ c.requires.idle.2 c.requires.idle.1)

pub exchange-requires : goal.exchange-requires
exchange-requires c =
    let took = c.compare_exchange.ensures.2.0 c.if-compare_exchange-ne0.false in
    let x = Some (desk_after c.args.seat.now.me.0.opening took.0) in
    (search rules, (x, ap (λ (m : SeatState). m.1) took.2 ∙ sym (ap (λ (m : SeatState). (0, x) ∷ rest m.1) took.2)))
