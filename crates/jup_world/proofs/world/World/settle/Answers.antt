use Rattle.std.proofs.Common.{subst}
use Rattle.jup_world.specs.Drains.{IsRound}
use Rattle.jup_world.proofs.Answers.{on_err}
use Rattle.jup_world.proofs.Drains.Rounds as world_rounds
use Rattle.jup_world.proofs.world.World.settle.Goals as goal

pub returns-in_err-round-clause-err : goal.returns-in_err-round-clause-err
returns-in_err-round-clause-err c = on_err c.from_residual.result (world_rounds.part_both _ _ _ c.loop.invariant.0 c.in_err-round.ensures.err)

pub loop-preserved : goal.loop-preserved
loop-preserved c = (world_rounds.delivered_both _ _ _ c.loop.invariant.0 c.in_ok-round.ensures.moved.delivered, world_rounds.rounds_more c.in_ok-round.field-0 _ _ _ c.loop.invariant.1 c.in_ok-round.ensures.round c.if-branch.true)

pub returns-clause-delivered : goal.returns-clause-delivered
returns-clause-delivered c = world_rounds.delivered_both _ _ _ c.loop.invariant.0 c.in_ok-round.ensures.moved.delivered

pub returns-clause-rounds : goal.returns-clause-rounds
returns-clause-rounds c = record {
  count = c.loop.invariant.1.0;
  last = c.loop.self;
  rounds = c.loop.invariant.1.1;
  ends = subst (λ b. IsRound b c.loop.self c.round.new.self) c.if-branch.false c.in_ok-round.ensures.round;
}
