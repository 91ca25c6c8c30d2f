use Rattle.std.proofs.Common.{[], ◌<◌, arith, length, subst, flat_map, IfNone, IfSome}
use Rattle.jup_session.specs.Prelude.{view_of, down_lines, PutsLines, most_fetched, puts_none}
use Rattle.jup_session.specs.Sessions.{Answers}
use Rattle.jup_session.proofs.Calls.{leaves_after, forwards_none, forwards_more, forwards_in_vain, forwards_until, forwards_last, forwards_serves}
use Rattle.jup_session.proofs.sessions.writing.forward.Goals as goal

pub loop-init : goal.loop-init
loop-init g c = record {
  pass = c.requires.pass;
  forwards = forwards_none c.args.link.now.site (view_of c.args.pass.now) c.args.output.now;
  flushed = c.requires.flushed;
}

pub returns-in-Err-clause-forwards : goal.returns-in-Err-clause-forwards
returns-in-Err-clause-forwards g c =
    forwards_until c.args.link.now.site (view_of c.args.pass.now) (view_of c.fetch.new.pass) c.args.output.now c.loop.output c.in-Err.fault
    (forwards_in_vain c.args.link.now.site (view_of c.args.pass.now) (view_of c.loop.pass) (view_of c.fetch.new.pass) c.args.output.now c.loop.output c.loop.invariant.forwards c.in-Err.ensures.refused)
    (c.in-Err.ensures.fault c.loop.output.failed)

pub returns-in-Ok-None-clause-forwards : goal.returns-in-Ok-None-clause-forwards
returns-in-Ok-None-clause-forwards g c =
    forwards_last c.args.link.now.site (view_of c.args.pass.now) (view_of c.loop.pass) (view_of c.fetch.new.pass) c.args.output.now c.loop.output c.loop.output [] c.loop.invariant.forwards
    (subst (λ o. IfNone o (Answers c.args.link.now.site (view_of c.loop.pass) (view_of c.fetch.new.pass) [])) c.in-Ok-None.field-0-is c.in-Ok-None.ensures.nothing)
    (omega arith) (puts_none c.loop.output)

pub returns-in-Ok-None-clause-gone : goal.returns-in-Ok-None-clause-gone
returns-in-Ok-None-clause-gone g c = λ _.
    leaves_after c.args.link.now.site (view_of c.args.pass.now) (view_of c.loop.pass) (view_of c.fetch.new.pass)
    (forwards_serves c.args.link.now.site (view_of c.args.pass.now) (view_of c.loop.pass) c.args.output.now c.loop.output c.loop.invariant.forwards) (c.fetch.ensures.gone (cc))

pub returns-in-Err-hand_on-clause-forwards : goal.returns-in-Err-hand_on-clause-forwards
returns-in-Err-hand_on-clause-forwards g c =
    forwards_until c.args.link.now.site (view_of c.args.pass.now) (view_of c.fetch.new.pass) c.args.output.now c.hand_on.new.output c.in-Err-hand_on.fault
    (forwards_more c.args.link.now.site (view_of c.args.pass.now) (view_of c.loop.pass) (view_of c.fetch.new.pass) c.args.output.now c.loop.output c.hand_on.new.output c.in-Ok-Some.downs c.loop.invariant.forwards
    (subst (λ o. IfSome o (λ downs. Answers c.args.link.now.site (view_of c.loop.pass) (view_of c.fetch.new.pass) downs)) c.in-Ok-Some.field-0-is c.in-Ok-Some.ensures.brings).brings
    (subst (λ downs. PutsLines c.loop.output (flat_map down_lines downs) c.hand_on.new.output) c.as_slice-messages.ensures.messages c.hand_on.ensures.put))
    c.in-Err-hand_on.ensures.fault

pub returns-then-is_last-clause-forwards : goal.returns-then-is_last-clause-forwards
returns-then-is_last-clause-forwards g c =
    forwards_last c.args.link.now.site (view_of c.args.pass.now) (view_of c.loop.pass) (view_of c.fetch.new.pass) c.args.output.now c.loop.output c.hand_on.new.output c.in-Ok-Some.downs c.loop.invariant.forwards
    (subst (λ o. IfSome o (λ downs. Answers c.args.link.now.site (view_of c.loop.pass) (view_of c.fetch.new.pass) downs)) c.in-Ok-Some.field-0-is c.in-Ok-Some.ensures.brings)
    (subst (λ downs. length downs < most_fetched) c.as_slice-messages.ensures.messages (subst (λ n. n < most_fetched) c.in-Ok.ensures.noted (c.is_last.ensures.0 c.if-is_last.true)))
    (subst (λ downs. PutsLines c.loop.output (flat_map down_lines downs) c.hand_on.new.output) c.as_slice-messages.ensures.messages c.hand_on.ensures.put)

pub loop-preserved : goal.loop-preserved
loop-preserved g c = record {
  pass = c.fetch.ensures.pass;
  forwards = forwards_more c.args.link.now.site (view_of c.args.pass.now) (view_of c.loop.pass) (view_of c.fetch.new.pass) c.args.output.now c.loop.output c.hand_on.new.output c.in-Ok-Some.downs c.loop.invariant.forwards
      (subst (λ o. IfSome o (λ downs. Answers c.args.link.now.site (view_of c.loop.pass) (view_of c.fetch.new.pass) downs)) c.in-Ok-Some.field-0-is c.in-Ok-Some.ensures.brings).brings
      (subst (λ downs. PutsLines c.loop.output (flat_map down_lines downs) c.hand_on.new.output) c.as_slice-messages.ensures.messages c.hand_on.ensures.put);
  flushed = c.hand_on.ensures.flushed c.loop.invariant.flushed;
}
