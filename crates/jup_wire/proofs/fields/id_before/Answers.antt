use Rattle.std.proofs.Common.{arith}
use Rattle.jup_wire.proofs.Streams.{id_none, id_some, id_large}
use Rattle.jup_wire.proofs.fields.id_before.Goals as goal

pub returns-in_err-number : goal.returns-in_err-number
returns-in_err-number c = rw c.from_residual.ensures (id_none c.args.bytes.now c.in_err-number.ensures)

pub returns-in-Ok : goal.returns-in-Ok
returns-in-Ok c =
    let p = c.in-Ok.ensures in
    rw p.1 (id_some c.args.bytes.now c.in_ok-number.rest.now c.in_ok-number.number c.in_ok-number.ensures p.0)

pub returns-in-Err : goal.returns-in-Err
returns-in-Err c =
    let large = c.in-Err.ensures in
    id_large c.args.bytes.now c.in_ok-number.rest.now c.in_ok-number.number c.in_ok-number.ensures (omega (arith, large))
