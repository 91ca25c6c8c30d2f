use Rattle.std.proofs.Common.{◌∙◌, ◌++◌, ◌∷◌, [], sym, ap, subst}
use Rattle.jup_mixed.specs.Prelude.{board_batches, bare_attached, option_map}
use Rattle.jup_mixed.specs.contracts.mixed.Mixed.{the_view}
use Rattle.jup_mixed.specs.Mixed.{IsMix, BoardMixEvent, MixOrderIsKept}
use Rattle.jup_mixed.proofs.Programs.{MixTrace, mix_answered, mix_ready, mix_played, mix_next, mix_keeps, mix_spared, mix_still}
use Rattle.jup_mixed.proofs.mixed.Mixed.step.Goals as goal

pub happen-requires : goal.happen-requires
happen-requires c = mix_ready (the_view c.self.inside) c.self.invariant

pub invariant_of-self-in_err-reply : goal.invariant_of-self-in_err-reply
invariant_of-self-in_err-reply c =
    mix_still (the_view c.self.inside) _ c.args.event.now c.self.invariant
    (mix_spared (the_view c.self.inside) c.args.event.now c.happen.new.star (option_map bare_attached c.happen.new.site) _ c.in_err-reply.ensures.spared c.reserve.ensures.items)

pub invariant_of-self-2 : goal.invariant_of-self-2
invariant_of-self-2 c =
    let m = the_view c.self.inside in
    let trace = c.keep.ensures
    ∙ ap (λ (e : BoardMixEvent). c.reserve.new.self.items ++ record { event = e; reply = c.in_ok-reply.reply } ∷ []) c.in_ok-note.ensures.event
    ∙ ap (λ (h : MixTrace). h ++ record { event = c.args.event.now; reply = c.in_ok-reply.reply } ∷ []) c.reserve.ensures.items in
    subst IsMix (sym (mix_played m c.args.event.now c.in_ok-reply.reply c.happen.new.star (option_map bare_attached c.happen.new.site) _ c.in_ok-reply.ensures.plays trace))
    (mix_next m c.args.event.now c.self.invariant)

pub returns-clause-withheld : goal.returns-clause-withheld
returns-clause-withheld c = rw (← c.self.view_is) (mix_answered (the_view c.self.inside) c.args.event.now c.self.invariant)

pub returns-clause-order : goal.returns-clause-order
returns-clause-order c =
    let m = the_view c.self.inside in
    let trace = c.keep.ensures
    ∙ ap (λ (e : BoardMixEvent). c.reserve.new.self.items ++ record { event = e; reply = c.in_ok-reply.reply } ∷ []) c.in_ok-note.ensures.event
    ∙ ap (λ (h : MixTrace). h ++ record { event = c.args.event.now; reply = c.in_ok-reply.reply } ∷ []) c.reserve.ensures.items in
    rw (← c.self.view_is) (subst (MixOrderIsKept board_batches m)
    (sym (mix_played m c.args.event.now c.in_ok-reply.reply c.happen.new.star (option_map bare_attached c.happen.new.site) _ c.in_ok-reply.ensures.plays trace))
    (mix_keeps m c.args.event.now c.self.invariant))
