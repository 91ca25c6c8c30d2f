use Rattle.jup_wire.proofs.Spellings.{int_is}
use Rattle.jup_wire.proofs.fields.I32FieldValue.read.Goals as goal

pub returns : goal.returns
returns c = int_is c.args.bytes.now _ c.read_integer.ensures
