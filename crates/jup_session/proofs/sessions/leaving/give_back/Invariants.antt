use Rattle.jup_session.specs.Prelude.{view_of, IsPassOf}
use Rattle.jup_session.specs.Sessions.{Returns, GivesFull}
use Rattle.jup_session.proofs.sessions.leaving.give_back.Given as goal

abbrev pub invariant-loop : goal.invariant-loop
invariant-loop g l = record {
  pass : IsPassOf l.fn.hub l.pass;
  gives : Returns l.fn.site 0 (view_of l.fn.pass) (view_of l.pass);
  full : GivesFull l.fn.site (view_of l.fn.pass) (view_of l.pass);
}
