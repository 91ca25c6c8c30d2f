use Rattle.std.proofs.Common.{arith}
use Rattle.jup_app.proofs.Passes as passes
use Rattle.jup_app.proofs.runs.receive.take_all.Goals as goal

pub loop-up-init : goal.loop-up-init
loop-up-init g c = record { fits = c.requires; took = λ s. passes.handles_none _ _ _ _ }

pub loop-up-preserved : goal.loop-up-preserved
loop-up-preserved g c = record {
  fits = c.in_ok-take.ensures.pass;
  took = λ s. passes.took_next _ _ _ _ _ _ _ _ _ _ _ s (omega arith) c.up-item.is (c.loop-up.invariant.took s) c.in_ok-take.ensures.called c.in_ok-take.ensures.count;
}

pub returns-clause-took : goal.returns-clause-took
returns-clause-took g c = λ s. passes.took_last _ _ _ _ _ _ _ s (omega arith) (c.loop-up.invariant.took s)
