use Rattle.std.proofs.Common.{arith}
use Rattle.jup_world.proofs.Answers.{on_err}
use Rattle.jup_world.proofs.Drains.Rounds as drains
use Rattle.jup_world.proofs.world.World.move_all.Goals as goal

pub returns-in_err-moved-clause-err : goal.returns-in_err-moved-clause-err
returns-in_err-moved-clause-err c = on_err c.from_residual.result (drains.part_both _ _ _ c.loop-before.invariant.0.delivered c.in_err-moved.ensures.err)

pub loop-before-preserved : goal.loop-before-preserved
loop-before-preserved c =
    let e = c.in_ok-moved.ensures in (
      drains.settles_both c.loop-before.moved c.in_ok-moved.field-0 _ _ _ c.loop-before.invariant.0 e.moved,
      drains.next_none _ _ c.args.way c.loop-before.before c.loop-before.moved c.in_ok-moved.field-0 c.loop-before.invariant.0 c.loop-before.invariant.1 e.nothing,
      drains.pass_more c.args.way c.loop-before.before c.loop-before.moved c.in_ok-moved.field-0 _ _ _ c.loop-before.invariant.2 e.visits,
    )

pub returns-clause-nothing : goal.returns-clause-nothing
returns-clause-nothing c none =
    drains.none_moves c.args.self.now c.args.way c.last_number-before-end.result c.last_number-before-end.ensures
    (λ i low high. c.loop-before.invariant.1 none i low (omega (arith, c.loop-before-test.false)))

pub returns-clause-sweeps : goal.returns-clause-sweeps
returns-clause-sweeps c = record {
  last = c.loop-before.before;
  all = λ i a found. (let bounds = c.last_number-before-end.ensures i a found in (bounds.0, omega (arith, bounds.1, c.loop-before-test.false)));
  passes = c.loop-before.invariant.2;
}
