use Rattle.std.proofs.Common.{rules}
use Rattle.jup_world.specs.Insides.{bare_attached}
use Rattle.jup_world.proofs.Answers as answers
use Rattle.jup_world.proofs.world.attached.Attached.edit.Goals as goal

pub returns-in-Ok-clause-reply : goal.returns-in-Ok-clause-reply
returns-in-Ok-clause-reply c = answers.edit_made c.args.commands.now c.args.self.now.site c.edit_batch.new.self c.in-Ok.field-0 c.in-Ok.ensures.answer

pub returns-in-Ok-clause-ok : goal.returns-in-Ok-clause-ok
returns-in-Ok-clause-ok c = answers.edit_sent c.args.commands.now (bare_attached c.args.self.now) c.edit_batch.new.self _ c.in-Ok.field-0 c.in-Ok.ensures.answer (search rules)

pub returns-in_ok-edit_refusal-in-Err-clause-reply :
    goal.returns-in_ok-edit_refusal-in-Err-clause-reply
returns-in_ok-edit_refusal-in-Err-clause-reply c =
    answers.edit_refused c.args.commands.now c.args.self.now.site c.edit_batch.new.self c.in-Err.fault _ c.in_ok-edit_refusal-in-Err.ensures.other c.in_ok-edit_refusal-in-Err.ensures.same c.in-Err.ensures.answer

pub returns-in_ok-edit_refusal-in-Err-clause-ok : goal.returns-in_ok-edit_refusal-in-Err-clause-ok
returns-in_ok-edit_refusal-in-Err-clause-ok c =
    answers.edit_stays c.args.commands.now (bare_attached c.args.self.now) c.edit_batch.new.self _ c.in-Err.fault c.in_ok-edit_refusal-in-Err.ensures.other c.in-Err.ensures.answer (search rules)
