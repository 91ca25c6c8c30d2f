use Rattle.std.proofs.Common.{sym, subst, Option}
use Rattle.jup_session.specs.Prelude.{view_of, SessionFault, puts_sent}
use Rattle.jup_hub.specs.declared.hub.Pass.{Pass}
use Rattle.jup_session.specs.Sessions.{Departs, HasServed, Wrote, told_line}
use Rattle.jup_session.proofs.Calls.{served_alone, leaves_after, departs_none, forwards_serves, wrote_so}
use Rattle.jup_session.proofs.sessions.writing.write_half.Goals as goal
use Rattle.jup_session.proofs.sessions.writing.write_half.Goals.{then-not-is_gone, else-not-is_gone}

pub returns-clause-served : goal.returns-clause-served
returns-clause-served g c =
    let site = c.args.link.now.site in
    elim c.if-not-is_gone.branch [
      | then-not-is_gone w ↦ subst (λ (p : Pass). HasServed site (view_of p)) (sym w.pass-is)
          (served_alone site (view_of c.args.pass) (view_of w.leave.new.pass) c.requires.new
          (leaves_after site (view_of c.args.pass) (view_of c.forward_all-forwarded.new.pass) (view_of w.leave.new.pass)
          (forwards_serves site (view_of c.args.pass) (view_of c.forward_all-forwarded.new.pass) c.args.output c.forward_all-forwarded.new.output c.forward_all-forwarded.ensures.forwards.forwards)
          w.leave.ensures.leaves))
      | else-not-is_gone w ↦ subst (λ (p : Pass). HasServed site (view_of p)) (sym w.pass-is)
          (served_alone site (view_of c.args.pass) (view_of c.forward_all-forwarded.new.pass) c.requires.new
          (c.forward_all-forwarded.ensures.gone (c.is_gone-is_gone.ensures.0 w.if-not-is_gone.false)))
    ]

pub returns-clause-wrote : goal.returns-clause-wrote
returns-clause-wrote g c =
    let site = c.args.link.now.site in
    let here = c.forward_all-forwarded.new.pass in
    subst (λ (o : Option SessionFault). Wrote site (view_of c.args.pass) c.args.output (view_of c.if-not-is_gone.pass) c.part-both.new.output c.tell_fault-told.result o) (sym c.err.ensures.value)
    (wrote_so site (view_of c.args.pass) (view_of here) (view_of c.if-not-is_gone.pass) c.args.output c.forward_all-forwarded.new.output c.part-both.new.output c.tell_fault-told.result _ c.forward_all-forwarded.ensures.forwards
    (elim c.if-not-is_gone.branch [
      | then-not-is_gone w ↦ subst (λ (p : Pass). Departs site (view_of here) (view_of p)) (sym w.pass-is) w.leave.ensures.departs
      | else-not-is_gone w ↦ subst (λ (p : Pass). Departs site (view_of here) (view_of p)) (sym w.pass-is) (departs_none site (view_of here))
    ])
    c.tell_fault-told.ensures.fault
    (puts_sent c.forward_all-forwarded.new.output c.tell_fault-told.new.output c.part-both.new.output (told_line c.tell_fault-told.result) c.tell_fault-told.ensures.put c.part-both.ensures.put))
