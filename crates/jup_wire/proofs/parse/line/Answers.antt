use Rattle.jup_wire.proofs.Readings.{do_headed, batch_headed}
use Rattle.jup_wire.proofs.parse.line.Goals as goal

pub returns-in-Some : goal.returns-in-Some
returns-in-Some c = do_headed c.args.bytes.now c.as_slice.result.now c.in-Some.rest.now c.operation.result c.as_slice.ensures c.in-Some.ensures c.operation.ensures

pub returns-in-Some-behind : goal.returns-in-Some-behind
returns-in-Some-behind c = batch_headed c.args.bytes.now c.as_slice-2.result.now c.in-Some-behind.rest.now c.batch.result c.as_slice-2.ensures c.in-Some-behind.ensures c.batch.ensures
