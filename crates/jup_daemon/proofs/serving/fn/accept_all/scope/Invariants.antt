use Rattle.jup_hub.specs.Passes.{IsPassOf}
use Rattle.jup_daemon.proofs.serving.fn.accept_all.scope.Given as goal

abbrev pub invariant-loop : goal.invariant-loop
invariant-loop g l = IsPassOf l.server.now.hub.now l.pass
