use Rattle.jup_layout.proofs.Texts.{accepts, as_lines, text_said, text_every}
use Rattle.jup_layout.proofs.layouts.layout.Goals as goal

pub returns-clause-said : goal.returns-clause-said
returns-clause-said c = text_said c.args.text.now c.lay_out.result c.lay_out.ensures

pub returns-clause-every : goal.returns-clause-every
returns-clause-every c = text_every c.args.text.now c.lay_out.result c.lay_out.ensures c.requires

pub returns-clause-accepts : goal.returns-clause-accepts
returns-clause-accepts c = accepts c.args.text.now c.lay_out.result c.lay_out.ensures

pub returns-clause-as_lines : goal.returns-clause-as_lines
returns-clause-as_lines c = as_lines c.args.text.now c.lay_out.result c.lay_out.ensures
