use Rattle.std.proofs.Common.{refl}
use Rattle.jup_session.specs.Prelude.{view_of}
use Rattle.jup_session.proofs.Calls.{answers_downs, answers_unlinked}
use Rattle.jup_session.proofs.sessions.writing.fetch.Goals as goal

pub returns-in-Ok-clause-brings : goal.returns-in-Ok-clause-brings
returns-in-Ok-clause-brings g c = answers_downs c.args.link.now.site _ (view_of c.args.pass.now) (view_of c.fetch.new.pass) c.in-Ok.downs refl c.in-Ok.ensures.made

pub returns-in-None-clause-nothing : goal.returns-in-None-clause-nothing
returns-in-None-clause-nothing g c =
    answers_unlinked c.args.link.now.site _ (view_of c.args.pass.now) (view_of c.fetch.new.pass) c.in-Err.fault refl c.in-None.ensures.unlinked c.in-Err.ensures.made
