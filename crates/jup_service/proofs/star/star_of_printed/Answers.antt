use Rattle.jup_service.proofs.star.star_of_printed.Goals as goal

pub returns-in-Ok : goal.returns-in-Ok
returns-in-Ok c = record { windows = _; printed = c.in_ok-board.ensures.board; is = c.in-Ok.ensures.opened }
