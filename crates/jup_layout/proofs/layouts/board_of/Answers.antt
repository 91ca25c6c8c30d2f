use Rattle.jup_layout.specs.Prelude.{Distinct}
use Rattle.jup_layout.proofs.Boards.{back}
use Rattle.jup_layout.proofs.Texts.{made_said, made_every}
use Rattle.jup_layout.proofs.layouts.board_of.Goals as goal

pub returns-clause-said : goal.returns-clause-said
returns-clause-said c = made_said Distinct c.args.lines.now c.build.result c.build.ensures

pub returns-clause-every : goal.returns-clause-every
returns-clause-every c = made_every Distinct c.args.lines.now c.build.result c.build.ensures

pub returns-clause-back : goal.returns-clause-back
returns-clause-back c = back c.build.result c.args.lines.now c.build.ensures
