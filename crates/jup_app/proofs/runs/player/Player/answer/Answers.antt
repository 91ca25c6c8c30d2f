use Rattle.std.proofs.Common.{◌∙◌, ap, Ok, Err, [], ◌∷◌, ◌++◌}
use Rattle.jup_app.proofs.Passes as passes
use Rattle.jup_app.proofs.Calls.{caught_handles}
use Rattle.jup_app.proofs.runs.player.Player.answer.Goals as goal

pub returns-in_ok-receive-in-Ok-clause-answered : goal.returns-in_ok-receive-in-Ok-clause-answered
returns-in_ok-receive-in-Ok-clause-answered g c =
    let one = c.in_ok-catch_up.ensures.same in
    let two = c.in_ok-send-in-Ok.ensures.same in
    record {
      reply = Ok c.in-Ok.made.edit;
      replies = c.in_ok-push-in-Ok.ensures.items ∙ ap (λ v. v.items ++ Ok c.in-Ok.made.edit ∷ []) (two.1 ∙ one.1);
      works = passes.works_made _ _ _ _ _ _ _ _ _ _ _ _ _ _ _ _ c.in_ok-catch_up.ensures.handled c.in-Ok.ensures.answer
          (passes.handles_for _ _ _ _ _ _ _ _ one.0 c.in_ok-send-in-Ok.ensures.handled)
          (passes.handles_for _ _ _ _ _ _ _ _ (two.0 ∙ one.0) c.in_ok-receive-in-Ok.ensures.handled);
    }

pub returns-in_ok-push-in-Err-clause-answered : goal.returns-in_ok-push-in-Err-clause-answered
returns-in_ok-push-in-Err-clause-answered g c =
    passes.declined_answer _ _ _ _ _ _ _ _ _ _ _ _ _ c.in_ok-catch_up.ensures.handled c.in-Err.ensures.answer c.in_ok-decline-in-Err.ensures.answer
    (c.in_ok-push-in-Err.ensures.items ∙ ap (λ v. v.items ++ Err c.in_ok-decline-in-Err.field-0 ∷ []) c.in_ok-catch_up.ensures.same.1)

pub returns-in_ok-receive-in-Ok-clause-caught : goal.returns-in_ok-receive-in-Ok-clause-caught
returns-in_ok-receive-in-Ok-clause-caught g c =
    caught_handles _ _ _ _ _ _ _ _ _ (caught_handles _ _ _ _ _ _ _ _ _ c.in_ok-catch_up.ensures.caught c.in_ok-send-in-Ok.ensures.handled) c.in_ok-receive-in-Ok.ensures.handled
