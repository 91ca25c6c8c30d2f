use Rattle.jup_session.specs.Prelude.{view_of}
use Rattle.jup_session.specs.Sessions.{Withheld}
use Rattle.jup_session.proofs.Calls.{refused_so}
use Rattle.jup_session.proofs.sessions.reading.handle.Goals as goal

pub returns-in-Err-ring_after-clause-ends : goal.returns-in-Err-ring_after-clause-ends
returns-in-Err-ring_after-clause-ends g c =
    refused_so c.args.link.now.site c.args.incoming.now (view_of c.args.pass.now) (view_of c.take.new.pass) c.in-Ok.answer c.ring_after.result c.in-Err-ring_after.ending _ _ c.in-Ok.ensures.called
    c.ring_after.ensures c.in-Err-ring_after.is c.into.ensures.0 c.into.ensures.1

pub returns-in-Err-clause-ends : goal.returns-in-Err-clause-ends
returns-in-Err-clause-ends g c = Withheld c.in-Err.why c.in-Err.ensures.withheld.0 c.in-Err.ensures.withheld.1 c.into-in-Err.ensures.0 c.into-in-Err.ensures.1
