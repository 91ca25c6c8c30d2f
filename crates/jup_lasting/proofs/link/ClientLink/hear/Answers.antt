use Rattle.jup_lasting.specs.contracts.link.ClientLink.{the_view}
use Rattle.jup_lasting.proofs.Moving.{piece_heard}
use Rattle.jup_lasting.proofs.link.ClientLink.hear.Goals as goal

pub returns-clause-heard : goal.returns-clause-heard
returns-clause-heard c =
    piece_heard c.args.piece.now c.take-arrival.result.rest.now c.args.self.now (the_view c.self.inside) c.take-arrival.new.self c.take-arrival.result.arrival _ _ c.self.view_is
    c.take-arrival.ensures.arrival c.take-arrival.ensures.taken c.hear_arrival-heard.ensures
