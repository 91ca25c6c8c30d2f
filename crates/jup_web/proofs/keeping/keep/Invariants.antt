use Rattle.jup_hub.specs.Passes.{IsPassOf}
use Rattle.jup_web.proofs.keeping.keep.Given as goal

abbrev pub invariant-loop : goal.invariant-loop
invariant-loop g l = IsPassOf l.fn.service.hub.now l.pass
