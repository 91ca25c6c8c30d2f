use Rattle.jup_session.specs.Prelude.{view_of}
use Rattle.std.proofs.Common.{◌∙◌, sym}
use Rattle.jup_session.specs.Sessions.{IsCallFor}
use Rattle.jup_session.proofs.Accounts.{both_halves_so}
use Rattle.jup_session.proofs.Calls.{heard_serves, makes_both, makes_split, both_serve}
use Rattle.jup_session.proofs.sessions.serving.serve_halves.Goals as goal

pub returns-clause-halves : goal.returns-clause-halves
returns-clause-halves g c =
    let both = c.both_halves-halves.result in
    both_halves_so c.args.link.now.site c.args.source both.source (view_of c.args.pass) (view_of c.split-theirs.new.pass) (view_of c.split-theirs.result) (view_of both.wrote.pass) (view_of both.pass) (view_of c.rejoin.new.pass)
    c.args.output both.wrote.output c.tell_untold-ending.new.output both.heard.ending both.heard.untaken both.wrote.told both.wrote.unsent c.tell_untold-ending.result
    c.split-theirs.ensures.same c.split-theirs.ensures.new c.both_halves-halves.ensures.hears c.both_halves-halves.ensures.wrote c.rejoin.ensures.both c.tell_untold-ending.ensures.stands c.tell_untold-ending.ensures.put

pub returns-clause-served : goal.returns-clause-served
returns-clause-served g c =
    let site = c.args.link.now.site in
    let both = c.both_halves-halves.result in
    both_serve site (view_of c.args.pass) (view_of both.pass) (view_of both.wrote.pass) (view_of c.rejoin.new.pass)
    (makes_both (IsCallFor site) (view_of c.args.pass) (view_of c.split-theirs.new.pass) (view_of both.pass) (makes_split (IsCallFor site) (view_of c.args.pass) (view_of c.split-theirs.new.pass) c.split-theirs.ensures.same)
    (heard_serves site c.args.source both.source (view_of c.split-theirs.new.pass) (view_of both.pass) both.heard.ending both.heard.untaken c.both_halves-halves.ensures.hears))
    c.both_halves-halves.ensures.served (c.both_halves-halves.ensures.two.1 ∙ sym c.both_halves-halves.ensures.one.1) c.rejoin.ensures.both
