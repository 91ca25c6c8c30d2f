use Rattle.jup_session.specs.Prelude.{view_of}
use Rattle.jup_session.specs.Sessions.{NoTurn, OneMore}
use Rattle.jup_session.proofs.Calls.{returns_both, returns_none}
use Rattle.jup_session.proofs.sessions.leaving.give_back.Goals as goal

pub loop-init : goal.loop-init
loop-init g c = record {
  pass = c.requires;
  gives = returns_none c.args.site 0 (view_of c.args.pass.now);
  full = NoTurn;
}

pub returns-then-not-give_some-clause-gives : goal.returns-then-not-give_some-clause-gives
returns-then-not-give_some-clause-gives g c =
    returns_both c.args.site (view_of c.args.pass.now) (view_of c.loop.pass) (view_of c.give_some.new.pass) c.loop.invariant.gives c.give_some.ensures.gives

pub returns-then-not-give_some-clause-all : goal.returns-then-not-give_some-clause-all
returns-then-not-give_some-clause-all g c = record {
  before = view_of c.loop.pass;
  full = c.loop.invariant.full;
  last = c.give_some.ensures.last c.if-not-give_some.true;
}

pub loop-preserved : goal.loop-preserved
loop-preserved g c =
    let more = c.give_some.ensures.some c.if-not-give_some.false in record {
      pass = c.give_some.ensures.pass;
      gives = returns_both c.args.site (view_of c.args.pass.now) (view_of c.loop.pass) (view_of c.give_some.new.pass) c.loop.invariant.gives c.give_some.ensures.gives;
      full = OneMore (view_of c.loop.pass) (view_of c.give_some.new.pass) more.0 c.loop.invariant.full more.1 more.2;
    }
