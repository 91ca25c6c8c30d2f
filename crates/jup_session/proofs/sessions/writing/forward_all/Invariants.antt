use Rattle.jup_session.specs.Prelude.{view_of, IsPassOf, IsFlushed}
use Rattle.jup_session.specs.Sessions.{Forwards}
use Rattle.jup_session.proofs.sessions.writing.forward_all.Given as goal

abbrev pub invariant-loop : goal.invariant-loop
invariant-loop g l = record {
  pass : IsPassOf l.fn.link.hub.now l.pass;
  forwards : Forwards l.fn.link.site (view_of l.fn.pass) l.fn.output (view_of l.pass) l.output;
  flushed : IsFlushed l.output;
}
