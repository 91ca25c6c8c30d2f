use Rattle.std.proofs.Common.{◌≡◌, ◌∙◌, sym, ap, ℕ, not, Option, is_some, option_map, Bor}
use Rattle.jup_world.specs.Prelude.{BoardSite}
use Rattle.jup_world.specs.Lanes.{LaneWorld, lane_site}
use Rattle.jup_world.proofs.Answers.{on_err}
use Rattle.jup_world.proofs.Drains.Rounds as drains
use Rattle.jup_world.proofs.world.World.exhaust.Goals as goal

pub returns-in_err-move_one-clause-err : goal.returns-in_err-move_one-clause-err
returns-in_err-move_one-clause-err c = on_err c.from_residual.result (drains.part_both _ _ _ c.loop-moved.invariant.0.delivered c.in_err-move_one.ensures.err)

pub loop-moved-preserved : goal.loop-moved-preserved
loop-moved-preserved c = (
  drains.settles_then c.loop-moved.moved c.in_ok-move_one.field-0 _ _ _ c.loop-moved.invariant.0 c.in_ok-move_one.ensures.moved c.if-branch.true,
  λ none. absurd (cc),
  drains.moves_more c.args.way c.args.number c.loop-moved.moved c.in_ok-move_one.field-0 _ _ _ c.loop-moved.invariant.2 c.in_ok-move_one.ensures.delivers c.if-branch.true,
)

pub returns-clause-moved : goal.returns-clause-moved
returns-clause-moved c =
    drains.settles_last c.loop-moved.moved c.in_ok-move_one.field-0 _ _ _ c.loop-moved.invariant.0 c.in_ok-move_one.ensures.moved c.if-branch.false

-- a site is found if it is attached
there : (w : LaneWorld) (i : ℕ) (found : Option (Bor BoardSite)) → option_map (λ x. x.now) found ≡ option_map (λ x. x.site) (lane_site i w.sites) → is_some (lane_site i w.sites) ≡ is_some found
there w i found is = sym (drains.map_some (λ x. x.site) (lane_site i w.sites)) ∙ ap is_some (sym is) ∙ drains.map_some (λ x. x.now) found

pub returns-then-is_none-clause-nothing : goal.returns-then-is_none-clause-nothing
returns-then-is_none-clause-nothing c none a found =
    let absent = there c.args.self.now c.args.number c.site.result c.site.ensures.site ∙ c.is_none.ensures ∙ ap not c.if-is_none.true in
    drains.absent_moves c.args.self.now c.args.way c.args.number absent a found

pub returns-then-is_none-clause-visits : goal.returns-then-is_none-clause-visits
returns-then-is_none-clause-visits c =
    let absent = there c.args.self.now c.args.number c.site.result c.site.ensures.site ∙ c.is_none.ensures ∙ ap not c.if-is_none.true in
    drains.visit_absent c.args.way c.args.number (lane_site c.args.number c.args.self.now.sites) c.args.self.now absent

pub returns-clause-visits : goal.returns-clause-visits
returns-clause-visits c =
    let present = there c.args.self.now c.args.number c.site.result c.site.ensures.site ∙ c.is_none.ensures ∙ ap not c.if-is_none.false in
    drains.visit_ends c.args.way c.args.number c.loop-moved.moved c.in_ok-move_one.field-0 (lane_site c.args.number c.args.self.now.sites) _ _ _ present
    c.loop-moved.invariant.2 c.in_ok-move_one.ensures.delivers c.if-branch.false
