use Rattle.jup_session.specs.Prelude.{view_of, IsPassOf}
use Rattle.jup_session.proofs.Calls.{HearsLines}
use Rattle.jup_session.proofs.sessions.reading.hear_all.Given as goal

abbrev pub invariant-loop : goal.invariant-loop
invariant-loop g l = record {
  pass : IsPassOf l.fn.link.hub.now l.pass;
  hears : HearsLines l.counter l.fn.link.site l.fn.source (view_of l.fn.pass) l.source (view_of l.pass) l.keeper;
}
