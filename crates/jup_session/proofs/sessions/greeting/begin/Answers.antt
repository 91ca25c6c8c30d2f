use Rattle.std.proofs.Common.{refl}
use Rattle.jup_session.specs.Prelude.{view_of}
use Rattle.jup_session.proofs.Calls.{session_left, joins_so, away_session, away_early, welcomed_so, unwelcome_early}
use Rattle.jup_session.proofs.sessions.greeting.begin.Goals as goal

pub returns-in-Err-clause-over : goal.returns-in-Err-clause-over
returns-in-Err-clause-over g c = away_session c.args.source.now c.greet.new.source (view_of c.args.pass.now) (view_of c.greet.new.pass) c.in-Err.ending c.in-Err.ensures.away

pub returns-in-Err-clause-early : goal.returns-in-Err-clause-early
returns-in-Err-clause-early g c =
    away_early c.args.source.now c.greet.new.source (view_of c.args.pass.now) (view_of c.greet.new.pass) c.args.output.now c.tell.new.output c.in-Err.ending c.in-Err.ensures.away c.tell.ensures.put

pub returns-in-Err-welcome-clause-over : goal.returns-in-Err-welcome-clause-over
returns-in-Err-welcome-clause-over g c =
    let joined = c.in-Ok.joined in
    session_left joined.site (view_of c.args.pass.now) (view_of c.greet.new.pass) (view_of c.leave.new.pass) (joins_so _ _ joined c.in-Ok.ensures.enters) c.leave.ensures.leaves

pub returns-in-Err-welcome-clause-early : goal.returns-in-Err-welcome-clause-early
returns-in-Err-welcome-clause-early g c =
    unwelcome_early c.args.source.now c.greet.new.source (view_of c.args.pass.now) (view_of c.greet.new.pass) (view_of c.leave.new.pass) c.args.output.now c.welcome.new.output c.in-Ok.joined c.in-Err-welcome.fault c.into.result
    c.in-Ok.ensures.hello c.in-Ok.ensures.enters c.leave.ensures.departs (c.in-Err-welcome.ensures.failed refl) c.in-Err-welcome.ensures.fault c.into.ensures c.welcome.ensures.lines

pub returns-clause-welcomed : goal.returns-clause-welcomed
returns-clause-welcomed g c =
    welcomed_so c.args.source.now c.greet.new.source (view_of c.args.pass.now) (view_of c.greet.new.pass) c.args.output.now c.welcome.new.output c.in-Ok.joined
    c.in-Ok.ensures.hello c.in-Ok.ensures.enters c.welcome.ensures.lines

pub returns-clause-joined : goal.returns-clause-joined
returns-clause-joined g c = joins_so (view_of c.args.pass.now) (view_of c.greet.new.pass) c.in-Ok.joined c.in-Ok.ensures.enters
