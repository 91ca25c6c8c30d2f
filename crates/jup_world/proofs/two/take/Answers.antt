use Rattle.jup_world.proofs.Known.{received_room}
use Rattle.jup_world.proofs.two.take.Goals as goal

-- there was room for the operation as it was sent
pub apply-requires-clause-room : goal.apply-requires-clause-room
apply-requires-clause-room c =
    let room = rw c.in-Op.is at c.requires.room in
    rw c.receive-op.ensures.op (received_room c.args.end.now.link.link c.in-Op.msg.heard c.in-Op.msg.op c.args.end.now.text room)
