use Rattle.jup_hub.specs.Passes.{IsPassOf}
use Rattle.jup_web.proofs.serving.fn.accept_all.scope.Given as goal

abbrev pub invariant-loop : goal.invariant-loop
invariant-loop g l = IsPassOf l.service.now.hub.now l.pass
