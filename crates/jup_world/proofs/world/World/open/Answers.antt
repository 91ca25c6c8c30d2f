use Rattle.std.proofs.Common.{◌∙◌, sym, ap, subst, map}
use Rattle.jup_world.specs.Insides.{lane_of, noted_trace}
use Rattle.jup_world.specs.Happenings.{IsLaneWorld}
use Rattle.jup_world.proofs.Worlds.{world_opened}
use Rattle.jup_world.proofs.world.World.open.Goals as goal

pub invariant_of-result : goal.invariant_of-result
invariant_of-result c =
    let world = world_opened c.args.board c.args.limit (sym c.in_ok-star.ensures.refusal) c.is_short-short.ensures.distinct c.requires.short in
    let opening = c.in-Ok.ensures ∙ c.board.ensures ∙ ap (λ s. s.board) c.in_ok-star.ensures.opened in
    subst IsLaneWorld (sym (λ i. record { opening = opening i; star = c.in_ok-star.ensures.opened i; sites = map lane_of (c.new.ensures.items i); trace = noted_trace (c.new-2.ensures.items i) })) (record { world = world; carry = tt })
