use Rattle.jup_board.proofs.Texts.{heading, heading_passed}
use Rattle.jup_board.proofs.heading.behind_heading.Goals as goal

pub returns-clause-rest : goal.returns-clause-rest
returns-clause-rest c = heading c.args.text.now c.skip_listening-listening.result.0.now c.skip_order-order.result.0.now c.skip_listening-listening.ensures.rest c.skip_order-order.ensures.rest

pub returns-clause-board : goal.returns-clause-board
returns-clause-board c = heading_passed c.args.text.now c.skip_listening-listening.result.0.now c.skip_order-order.result.0.now c.skip_listening-listening.ensures.rest c.skip_order-order.ensures.rest
