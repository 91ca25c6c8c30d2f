use Rattle.std.proofs.Common.{sym, ◌∙◌, true≢false}
use Rattle.jup_app.proofs.Passes as passes
use Rattle.jup_app.proofs.Calls.{caught, caught_none}
use Rattle.jup_app.proofs.runs.player.Player.catch_up.Goals as goal

pub returns-in_ok-receive-clause-handled : goal.returns-in_ok-receive-clause-handled
returns-in_ok-receive-clause-handled g c =
    let met = c.news-is_late.ensures.met in
    passes.handles_both _ _ _ _ _ _ _ _ _ _ (passes.handles_news _ _ _ _ _ met.0 met.1 met.2) c.in_ok-receive.ensures.handled

pub returns-else-is_late-clause-handled : goal.returns-else-is_late-clause-handled
returns-else-is_late-clause-handled g c = let met = c.news-is_late.ensures.met in passes.handles_news _ _ _ _ _ met.0 met.1 met.2

pub returns-in_ok-receive-clause-caught : goal.returns-in_ok-receive-clause-caught
returns-in_ok-receive-clause-caught g c = let met = c.news-is_late.ensures.met in caught _ _ _ _ met.0 met.1 met.2 c.in_ok-receive.ensures.fetched

pub returns-else-is_late-clause-caught : goal.returns-else-is_late-clause-caught
returns-else-is_late-clause-caught g c = let met = c.news-is_late.ensures.met in caught_none _ _ _ met.0 met.1 (λ later. true≢false (sym (met.3.1 later) ∙ c.if-is_late.false))
