use Rattle.std.proofs.Common.{refl}
use Rattle.jup_session.specs.Prelude.{view_of}
use Rattle.jup_session.proofs.Accounts.{served_so, early_so}
use Rattle.jup_session.proofs.sessions.serving.serve_lines.Goals as goal

pub returns-in-Ok-clause-lines : goal.returns-in-Ok-clause-lines
returns-in-Ok-clause-lines g c =
    let served = c.serve_halves.result in
    served_so (g.I.Read.remaining c.args.reader) c.in-Ok.site c.new-source.result c.begin.new.source (view_of c.args.pass) (view_of c.begin.new.pass) (view_of served.pass) c.args.output c.begin.new.output served.output
    served.ending served.undone (record { known = c.new-source.ensures.known; read = c.new-source.ensures.read; waiting = c.new-source.ensures.waiting; reads = c.new-source.ensures.reads }) c.in-Ok.ensures.welcomed c.serve_halves.ensures.halves

pub returns-in-Err-clause-lines : goal.returns-in-Err-clause-lines
returns-in-Err-clause-lines g c =
    early_so (g.I.Read.remaining c.args.reader) c.new-source.result c.begin.new.source (view_of c.args.pass) (view_of c.begin.new.pass) c.args.output c.begin.new.output c.in-Err.ending c.begin.new.output.failed
    _ refl (record { known = c.new-source.ensures.known; read = c.new-source.ensures.read; waiting = c.new-source.ensures.waiting; reads = c.new-source.ensures.reads }) c.in-Err.ensures.early
