use Rattle.jup_session.specs.Prelude.{view_of}
use Rattle.jup_session.specs.ExactSessions.{NoJoin}
use Rattle.jup_session.proofs.sessions.greeting.greet.Goals as goal

pub returns-in-Err-clause-away : goal.returns-in-Err-clause-away
returns-in-Err-clause-away g c = c.in-Err.ensures.away (view_of c.args.pass.now)

pub returns-in-Err-join_site-clause-away : goal.returns-in-Err-join_site-clause-away
returns-in-Err-join_site-clause-away g c = NoJoin c.in-Err-join_site.fault c.in-Ok.ensures.hello c.in-Err-join_site.ensures.made c.into.ensures
