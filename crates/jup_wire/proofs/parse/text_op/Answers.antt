use Rattle.jup_wire.proofs.Readings.{insertion_headed, deletion_headed}
use Rattle.jup_wire.proofs.parse.text_op.Goals as goal

pub returns-in-Some : goal.returns-in-Some
returns-in-Some c = insertion_headed c.args.bytes.now c.as_slice.result.now c.in-Some.rest.now c.insertion.result c.as_slice.ensures c.in-Some.ensures c.insertion.ensures

pub returns-in-Some-behind : goal.returns-in-Some-behind
returns-in-Some-behind c = deletion_headed c.args.bytes.now c.as_slice-2.result.now c.in-Some-behind.rest.now c.deletion.result c.as_slice-2.ensures c.in-Some-behind.ensures c.deletion.ensures
