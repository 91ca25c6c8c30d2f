use Rattle.jup_redial.proofs.Hearings.{all_heard}
use Rattle.jup_redial.proofs.redialed.Redialed.hear.Goals as goal

pub returns-clause-heard : goal.returns-clause-heard
returns-clause-heard c =
    all_heard c.args.piece.now c.args.now c.args.self.now c.hear_link-heard.new.self c.hear_link-heard.result.heard c.hear_link-heard.result.rest.now _ _ _
    c.carriage-was.ensures c.has_opened-opened.ensures c.hear_link-heard.ensures.heard c.hear_link-heard.ensures.same c.follow.ensures
