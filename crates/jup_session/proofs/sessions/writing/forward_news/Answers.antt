use Rattle.std.proofs.lemmas.Result.{err_from_is_err_and}
use Rattle.jup_session.specs.Prelude.{view_of}
use Rattle.jup_session.proofs.Calls.{forwards_none, forwards_until}
use Rattle.jup_session.proofs.sessions.writing.forward_news.Goals as goal

pub returns-in_err-check-clause-forwards : goal.returns-in_err-check-clause-forwards
returns-in_err-check-clause-forwards g c = forwards_none c.args.link.now.site (view_of c.args.pass.now) c.args.output.now

pub returns-in_err-check-clause-stopped : goal.returns-in_err-check-clause-stopped
returns-in_err-check-clause-stopped g c =
    let here = view_of c.args.pass.now in
    let p = err_from_is_err_and c.from_residual.result c.from_residual.ensures.1 in
    rw (p.1, p.2) (forwards_until c.args.link.now.site here here c.args.output.now c.args.output.now _ (forwards_none c.args.link.now.site here c.args.output.now) c.in_err-check.ensures)
