use Rattle.std.proofs.Common.{rules, max, ap, ap₂, sym, ◌∙◌, subst}
use Rattle.jup_hub.specs.Histories.{longest, tallies, AllApart}
use Rattle.jup_hub.specs.Turns.{SeatState}
use Rattle.jup_hub.proofs.TurnsKept.{joins, learns}
use Rattle.jup_hub.proofs.Histories.{longest-append}
use Rattle.jup_hub.proofs.hub.Hub.rejoin.Goals as goal

pub join_seat-requires : goal.join_seat-requires
join_seat-requires c = (search rules, search rules, search rules, search rules, joins _ _ _ _ _ c.args.pass.now.is_idle.2 (ap (λ s. s.me.0.is_live) c.into_parts-seat.ensures.seat ∙ c.args.other.is_idle.2))

pub load-pass-requires : goal.load-pass-requires
load-pass-requires c = (search rules, search rules, learns _ _ _ _ (ap (λ (m : SeatState). m.0.is_live) c.join_seat.ensures.2 ∙ c.args.pass.now.is_idle.2))

pub invariant_of-pass-clause-length_is : goal.invariant_of-pass-clause-length_is
invariant_of-pass-clause-length_is c =
    let p = c.args.pass.now in
    let o = c.into_parts-seat.result in
    let is_longest = c.into_parts-seat.ensures.length ∙ (c.args.other.length_is ∙ ap (λ s. longest s.me.0.seen) (sym c.into_parts-seat.ensures.seat)) in
    let me = c.load-pass.ensures.2.2 ∙ c.join_seat.ensures.2 in
    c.max-pass.ensures ∙ (ap₂ max p.length_is is_longest ∙ (sym (longest-append p.seat.me.0.seen o.0.me.0.seen) ∙ sym (ap (λ (m : SeatState). longest m.0.seen) me)))

pub returns-clause-differ : goal.returns-clause-differ
returns-clause-differ c = let t = c.load-pass.ensures.2 in subst (λ (m : SeatState). AllApart (tallies m.0)) (sym t.2) t.1.apart
