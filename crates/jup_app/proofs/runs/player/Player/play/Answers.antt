use Rattle.std.proofs.Common.{arith, refl, ◌∙◌}
use Rattle.jup_app.proofs.Passes as passes
use Rattle.jup_app.proofs.runs.player.Player.play.Goals as goal

pub loop-command-init : goal.loop-command-init
loop-command-init g c = record { fits = c.requires.pass; number = refl; played = passes.played_none _ _ _ _ _ c.requires.fresh }

pub loop-command-preserved : goal.loop-command-preserved
loop-command-preserved g c = record {
  fits = c.in_ok-answer.ensures.pass;
  number = c.in_ok-answer.ensures.number ∙ c.loop-command.invariant.number;
  played = passes.played_more _ _ _ _ _ _ _ _ _ _ _ _ _ _ _ (omega arith) c.command-item.is c.loop-command.invariant.played (passes.answered_for _ _ _ _ _ _ _ _ _ _ _ c.loop-command.invariant.number c.in_ok-answer.ensures.answered);
}

pub returns-clause-played : goal.returns-clause-played
returns-clause-played g c = passes.played_all _ _ _ _ _ _ _ _ _ _ (omega arith) c.loop-command.invariant.played
