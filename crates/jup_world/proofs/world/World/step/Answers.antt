use Rattle.std.proofs.Common.{◌∙◌, ◌++◌, ◌∷◌, [], List, refl, ap, subst, map}
use Rattle.jup_world.specs.contracts.world.World.{the_view}
use Rattle.jup_world.specs.Boards.{BoardAttached}
use Rattle.jup_world.specs.Insides.{lane_of, lane_event, noted_trace}
use Rattle.jup_world.specs.Happenings.{AreReady}
use Rattle.jup_world.specs.Lanes.{messages_of, Steps}
use Rattle.jup_world.proofs.Answers.{on_err}
use Rattle.jup_world.proofs.Worlds.{world_ready, none_stray}
use Rattle.jup_world.proofs.Lanes.Sites.{messages_map}
use Rattle.jup_world.proofs.Lanes.Worlds as lane_worlds
use Rattle.jup_world.proofs.world.World.step.Goals as goal

pub happen-requires : goal.happen-requires
happen-requires c =
    subst (λ (xs : List BoardAttached). AreReady c.self.inside.star xs) (messages_map c.self.inside.sites.items) (world_ready (messages_of (the_view c.self.inside)) c.self.invariant.world (none_stray c.self.inside.trace.items))

pub invariant_of-self-in_err-reply : goal.invariant_of-self-in_err-reply
invariant_of-self-in_err-reply c =
    lane_worlds.spared_keeps (the_view c.self.inside) _ (lane_event c.args.event.now) c.self.invariant
    (lane_worlds.spared_lanes (the_view c.self.inside) (lane_event c.args.event.now) c.happen.new.star (map lane_of c.happen.new.sites.items) _ c.in_err-reply.ensures.spared (ap noted_trace c.reserve.ensures.items) c.self.invariant.carry)

pub returns-in_err-reply-clause-err : goal.returns-in_err-reply-clause-err
returns-in_err-reply-clause-err c =
    on_err c.from_residual-in_err-reply.result (rw (← c.self.view_is) (lane_worlds.spared_lanes (the_view c.self.inside) (lane_event c.args.event.now) c.happen.new.star (map lane_of c.happen.new.sites.items) _ c.in_err-reply.ensures.spared (ap noted_trace c.reserve.ensures.items) c.self.invariant.carry))

pub returns-in_err-reply-clause-order : goal.returns-in_err-reply-clause-order
returns-in_err-reply-clause-order c =
    rw (← c.self.view_is) (lane_worlds.spared_order [] (the_view c.self.inside) (the_view c.self.inside) _ (lane_event c.args.event.now) c.self.invariant refl c.self.invariant.world
    (lane_worlds.spared_lanes (the_view c.self.inside) (lane_event c.args.event.now) c.happen.new.star (map lane_of c.happen.new.sites.items) _ c.in_err-reply.ensures.spared (ap noted_trace c.reserve.ensures.items) c.self.invariant.carry))

-- the step that was made
made : (c : goal.After-keep) → Steps (the_view c.self.inside) (lane_event c.args.event.now)
    (record { opening = (the_view c.self.inside).opening; star = c.happen.new.star; sites = map lane_of c.happen.new.sites.items; trace = noted_trace c.keep.new.trace.items })
made c =
    lane_worlds.played_lanes (the_view c.self.inside) (lane_event c.args.event.now) c.in_ok-reply.reply c.happen.new.star c.happen.new.sites.items _ c.in_ok-reply.ensures.plays c.in_ok-reply.ensures.read
    (c.keep.ensures ∙ ap (λ h. h ++ record { event = lane_event c.args.event.now; reply = c.in_ok-reply.reply } ∷ []) (ap noted_trace c.reserve.ensures.items))
    c.self.invariant.carry

pub invariant_of-self-2 : goal.invariant_of-self-2
invariant_of-self-2 c = lane_worlds.step_keeps (the_view c.self.inside) (lane_event c.args.event.now) _ c.self.invariant (made c)

pub returns-clause-ok : goal.returns-clause-ok
returns-clause-ok c = rw (← c.self.view_is) (made c)

pub returns-clause-withheld : goal.returns-clause-withheld
returns-clause-withheld c =
    rw (← c.self.view_is) (lane_worlds.played_answers (the_view c.self.inside) (lane_event c.args.event.now) c.in_ok-reply.reply c.happen.new.star c.happen.new.sites.items c.self.invariant c.in_ok-reply.ensures.plays)

pub returns-clause-order : goal.returns-clause-order
returns-clause-order c = rw (← c.self.view_is) (lane_worlds.step_order (the_view c.self.inside) (lane_event c.args.event.now) _ c.self.invariant (made c))
