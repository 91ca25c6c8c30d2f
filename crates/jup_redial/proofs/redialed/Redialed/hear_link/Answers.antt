use Rattle.jup_redial.proofs.Hearings.{link_heard}
use Rattle.jup_redial.specs.contracts.redialed.Redialed.{the_view}
use Rattle.jup_redial.proofs.redialed.Redialed.hear_link.Goals as goal

pub returns-clause-heard : goal.returns-clause-heard
returns-clause-heard c =
    link_heard c.args.piece.now c.hear.result.rest.now c.args.self.now (the_view c.self.inside) c.note_bytes.new.self c.hear.result.heard c.hear.new.self c.self.view_is
    c.note_bytes.ensures c.hear.ensures.heard
