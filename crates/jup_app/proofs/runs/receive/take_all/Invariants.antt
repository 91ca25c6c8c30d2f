use Rattle.std.proofs.Common.{drop}
use Rattle.jup_app.specs.Prelude.{BoardSite, view_of, IsPassOf}
use Rattle.jup_app.specs.Runs.{link_with, Handles}
use Rattle.jup_app.proofs.runs.receive.take_all.Given as goal

abbrev pub invariant-loop-up : goal.invariant-loop-up
invariant-loop-up g l = record {
  fits : IsPassOf l.hub l.caller.pass;
  took : (s : BoardSite) → Handles l.number (view_of l.fn.caller.pass) (view_of l.caller.pass) l.fn.caller.calls l.caller.calls (link_with s l.owed) (link_with s (drop l.up-index l.owed));
}
