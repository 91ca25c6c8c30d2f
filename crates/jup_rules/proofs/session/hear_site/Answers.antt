use Rattle.std.proofs.Common.{sym, ap, subst, ◌∙◌}
use Rattle.jup_rules.specs.Sessions.{said_by, IsSaidBy}
use Rattle.jup_rules.proofs.Sessions.{is_said, said_so, refused_unsaid}
use Rattle.jup_rules.proofs.session.hear_site.Goals as goal

pub returns-in-Ok-clause-said : goal.returns-in-Ok-clause-said
returns-in-Ok-clause-said c =
    said_so c.in-Ok.gathered c.said_by.result c.args.gather.now c.push.new.self c.args.line.now
    (subst (IsSaidBy c.in-Ok.gathered) (sym (c.said_by.ensures ∙ ap said_by c.message_of.ensures)) (is_said c.in-Ok.gathered)) c.in-Ok.ensures.gathered

pub returns-in-Ok-clause-refused : goal.returns-in-Ok-clause-refused
returns-in-Ok-clause-refused c =
    refused_unsaid c.args.gather.now c.push.new.self c.args.line.now c.in-Ok.gathered c.said_by.result c.in-Ok.ensures.step
    (subst (IsSaidBy c.in-Ok.gathered) (sym (c.said_by.ensures ∙ ap said_by c.message_of.ensures)) (is_said c.in-Ok.gathered))
