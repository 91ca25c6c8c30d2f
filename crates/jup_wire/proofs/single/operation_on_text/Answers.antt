use Rattle.jup_wire.proofs.Readings.{id_there, operation_there}
use Rattle.jup_wire.proofs.single.operation_on_text.Goals as goal

pub returns : goal.returns
returns c =
    let win = id_there c.in_ok-rest.rest.now c.in_ok-win.rest.now c.in_ok-win.win c.in_ok-win.ensures in
    let wid = id_there c.in_ok-win.rest.now c.in_ok-wid.rest.now c.in_ok-wid.wid c.in_ok-wid.ensures in
    operation_there c.args.bytes.now c.as_slice.result.now c.in_ok-rest.rest.now c.in_ok-win.rest.now c.in_ok-wid.rest.now c.as_slice-2.result.now c.in_ok-rest-2.rest.now c.in_ok-op.rest.now c.in_ok-win.win c.in_ok-wid.wid c.in_ok-op.op
    c.as_slice.ensures c.as_slice-2.ensures c.in_ok-rest.ensures win wid c.in_ok-rest-2.ensures c.in_ok-op.ensures
