use Rattle.std.proofs.Common.{◌≤◌, arith, refl, subst}
use Rattle.jup_session.specs.Prelude.{view_of}
use Rattle.jup_session.specs.Sessions.{received_with, Acknowledges, NoneReceived, Says}
use Rattle.jup_session.proofs.Calls.{returns_acknowledged, returns_none}
use Rattle.jup_session.proofs.sessions.leaving.acknowledge.Goals as goal

pub returns-then-count-eq0-clause-gives : goal.returns-then-count-eq0-clause-gives
returns-then-count-eq0-clause-gives g c = returns_none c.args.site (received_with c.args.downs.now) (view_of c.args.pass.now)

pub returns-then-count-eq0-clause-acknowledged : goal.returns-then-count-eq0-clause-acknowledged
returns-then-count-eq0-clause-acknowledged g c = NoneReceived (omega (arith, c.received_with-count.ensures, c.if-count-eq0.true)) refl

pub returns-clause-gives : goal.returns-clause-gives
returns-clause-gives g c =
    let heard : c.received_with-count.result ≤ received_with c.args.downs.now = omega (arith, c.received_with-count.ensures) in
    returns_acknowledged c.args.site (received_with c.args.downs.now) c.received_with-count.result (view_of c.args.pass.now) (view_of c.take.new.pass) c.take.result heard c.take.ensures.made

pub returns-clause-acknowledged : goal.returns-clause-acknowledged
returns-clause-acknowledged g c =
    subst (λ n. Acknowledges c.args.site n (view_of c.args.pass.now) (view_of c.take.new.pass)) c.received_with-count.ensures (Says c.take.result c.take.ensures.made)
