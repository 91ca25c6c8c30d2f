use Rattle.std.proofs.Common.{refl, subst}
use Rattle.jup_world.specs.Happenings.{IsLaneWorld}
use Rattle.jup_world.specs.Drains.{Settles}
use Rattle.jup_world.proofs.Answers.{on_err}
use Rattle.jup_world.proofs.Drains.Rounds as rounds
use Rattle.jup_world.proofs.world.World.round.Goals as goal

pub returns-in_err-down-clause-err : goal.returns-in_err-down-clause-err
returns-in_err-down-clause-err c = on_err c.from_residual-in_err-down.result (rounds.part_both _ _ _ c.in_ok-up.ensures.moved.delivered c.in_err-down.ensures.err)

pub returns-clause-moved : goal.returns-clause-moved
returns-clause-moved c = rounds.settles_both c.in_ok-up.up c.in_ok-down.down _ _ _ c.in_ok-up.ensures.moved c.in_ok-down.ensures.moved

pub returns-clause-quiet : goal.returns-clause-quiet
returns-clause-quiet c none =
    let both = Rattle.std.proofs.lemmas.Bool.or_parts c.in_ok-up.up c.in_ok-down.down none in
    rounds.round_quiet c.args.self.now c.move_all.new.self c.move_all-2.new.self (subst IsLaneWorld c.self.view_is c.self.invariant).world
    (subst (λ b. Settles b c.args.self.now c.move_all.new.self) both.0 c.in_ok-up.ensures.moved)
    (subst (λ b. Settles b c.move_all.new.self c.move_all-2.new.self) both.1 c.in_ok-down.ensures.moved)
    (c.in_ok-up.ensures.nothing both.0) (c.in_ok-down.ensures.nothing both.1)

pub returns-clause-round : goal.returns-clause-round
returns-clause-round c = record {
  up = c.in_ok-up.up;
  down = c.in_ok-down.down;
  between = c.move_all.new.self;
  some = refl;
  ups = c.in_ok-up.ensures.sweeps;
  downs = c.in_ok-down.ensures.sweeps;
}
