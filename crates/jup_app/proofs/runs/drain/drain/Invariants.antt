use Rattle.jup_app.specs.Prelude.{view_of, IsPassOf}
use Rattle.jup_app.specs.Runs.{Drained}
use Rattle.jup_app.proofs.runs.drain.drain.Given as goal

abbrev pub invariant-loop : goal.invariant-loop
invariant-loop g l = record {
  fits : IsPassOf l.hub l.caller.pass;
  drained : Drained (view_of l.fn.caller.pass) (view_of l.caller.pass) l.fn.caller.calls l.caller.calls l.fn.ends l.ends;
}
