use Rattle.std.proofs.Common.{◌∙◌, arith, refl, subst, sym}
use Rattle.jup_session.specs.Prelude.{Ending, Leads, view_of}
use Rattle.jup_rules.specs.declared.session.Next.TheVariants.{End}
use Rattle.jup_rules.specs.declared.ends.Untaken.TheVariants.{FarBehind}
use Rattle.jup_session.specs.Sessions.{EndsBehind, Stopped, ByLine, AtMessage, Withheld, Spent}
use Rattle.jup_session.proofs.Calls.{hears_none, hears_line, hears_take}
use Rattle.jup_session.proofs.sessions.reading.hear_all.Goals as goal

pub loop-init : goal.loop-init
loop-init g c = record {
  pass = c.requires;
  hears = hears_none c.args.link.now.site c.args.source.now (view_of c.args.pass.now) c.new-keeper.result c.new-keeper.ensures.heard;
}

pub returns-in-Err-clause-hears : goal.returns-in-Err-clause-hears
returns-in-Err-clause-hears g c = record {
  before = c.loop.source;
  pass = view_of c.loop.pass;
  keeper = c.loop.keeper;
  hears = c.loop.invariant.hears.0;
  over = Stopped c.in-Err.stop c.in-Err.ensures.stop refl
      (subst (λ (e : Ending). EndsBehind c.loop.keeper c.in-Err.stop e) (sym c.into.ensures.0) (record { early = c.end.ensures.early; gone = c.end.ensures.gone; fault = c.end.ensures.fault }))
      c.into.ensures.1;
}

pub loop-preserved-in-Line : goal.loop-preserved-in-Line
loop-preserved-in-Line g c = record {
  pass = c.loop.invariant.pass;
  hears = hears_line c.args.link.now.site c.loop.counter c.args.source.now c.loop.source c.next_line.new.source (view_of c.args.pass.now) (view_of c.loop.pass) c.loop.keeper c.hear.new.self c.in-Ok.line
      c.loop.invariant.hears c.in-Ok.ensures.line c.in-Line.ensures;
}

pub returns-in-End-clause-hears : goal.returns-in-End-clause-hears
returns-in-End-clause-hears g c = record {
  before = c.loop.source;
  pass = view_of c.loop.pass;
  keeper = c.loop.keeper;
  hears = c.loop.invariant.hears.0;
  over = ByLine c.in-Ok.line c.hear.new.self c.in-Ok.ensures.line refl
      (λ lines saids heard. subst (λ (e : Ending). Leads lines saids c.loop.keeper c.in-Ok.line (End e) c.hear.new.self) (sym c.into-in-End.ensures.0) (c.in-End.ensures lines saids heard)) c.into-in-End.ensures.1;
}

pub returns-in-Err-enter-clause-hears : goal.returns-in-Err-enter-clause-hears
returns-in-Err-enter-clause-hears g c = record {
  before = c.loop.source;
  pass = view_of c.loop.pass;
  keeper = c.loop.keeper;
  hears = c.loop.invariant.hears.0;
  over = AtMessage c.in-Ok.line c.hear.new.self c.in-Take.incoming c.in-Ok.ensures.line c.in-Take.ensures
      (Withheld (FarBehind c.in-Err-enter.far) c.in-Err-enter.ensures.far refl c.into-in-Err-enter.ensures.0 c.into-in-Err-enter.ensures.1);
}

pub returns-in-Err-handle-clause-hears : goal.returns-in-Err-handle-clause-hears
returns-in-Err-handle-clause-hears g c = record {
  before = c.loop.source;
  pass = view_of c.loop.pass;
  keeper = c.loop.keeper;
  hears = c.loop.invariant.hears.0;
  over = AtMessage c.in-Ok.line c.hear.new.self c.in-Take.incoming c.in-Ok.ensures.line c.in-Take.ensures c.in-Err-handle.ensures.ends;
}

pub loop-preserved : goal.loop-preserved
loop-preserved g c = record {
  pass = c.handle.ensures.pass;
  hears = hears_take c.args.link.now.site c.loop.counter c.args.source.now c.loop.source c.next_line.new.source (view_of c.args.pass.now) (view_of c.loop.pass) (view_of c.handle.new.pass) c.loop.keeper c.hear.new.self c.in-Ok.line
      c.in-Take.incoming c.loop.invariant.hears c.in-Ok.ensures.line c.in-Take.ensures c.in-Ok-handle.ensures.taken;
}

pub returns-clause-hears : goal.returns-clause-hears
returns-clause-hears g c = record {
  before = c.loop.source;
  pass = view_of c.loop.pass;
  keeper = c.loop.keeper;
  hears = c.loop.invariant.hears.0;
  over = Spent refl refl (c.loop.invariant.hears.1 ∙ omega (arith, c.loop-test.false, c.loop.auto.counter-end)) (c.into-2.ensures.0 ∙ c.from.ensures) c.into-2.ensures.1;
}
