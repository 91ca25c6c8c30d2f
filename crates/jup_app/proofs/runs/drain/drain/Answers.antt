use Rattle.jup_app.proofs.Passes as passes
use Rattle.jup_app.proofs.runs.drain.drain.Goals as goal

pub loop-init : goal.loop-init
loop-init g c = record { fits = c.requires; drained = passes.drained_none _ _ _ }

pub returns-then-not-branch-clause-drained : goal.returns-then-not-branch-clause-drained
returns-then-not-branch-clause-drained g c =
    passes.is_drained _ _ _ _ _ _ _ _ _ c.loop.invariant.drained c.in_ok-drain_once.ensures.drained (c.in_ok-drain_once.ensures.quiet c.if-not-branch.true)

pub loop-preserved : goal.loop-preserved
loop-preserved g c = record { fits = c.in_ok-drain_once.ensures.pass; drained = passes.drained_both _ _ _ _ _ _ _ _ _ c.loop.invariant.drained c.in_ok-drain_once.ensures.drained }
