use Rattle.std.proofs.Common.{◌∙◌}
use Rattle.jup_wire.proofs.Spellings.{label_from_read}
use Rattle.jup_wire.proofs.fields.LabelFieldValue.read.Goals as goal

pub returns : goal.returns
returns c = c.ok.ensures.value ∙ label_from_read c.args.bytes.now c.read.result c.read.ensures.label c.read.ensures.accepts
