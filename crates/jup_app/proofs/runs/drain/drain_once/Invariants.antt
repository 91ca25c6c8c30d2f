use Rattle.std.proofs.Common.{◌≡◌, false}
use Rattle.jup_app.specs.Prelude.{view_of, IsPassOf}
use Rattle.jup_app.specs.Runs.{Drained, EndsQuiet}
use Rattle.jup_app.proofs.runs.drain.drain_once.Given as goal

abbrev pub invariant-loop-k : goal.invariant-loop-k
invariant-loop-k g l = record {
  fits : IsPassOf l.hub l.caller.pass;
  drained : Drained (view_of l.fn.caller.pass) (view_of l.caller.pass) l.fn.caller.calls l.caller.calls l.fn.ends l.ends;
  quiet : l.came ≡ false → EndsQuiet l.fn.ends l.k (view_of l.fn.caller.pass) (view_of l.caller.pass);
}
