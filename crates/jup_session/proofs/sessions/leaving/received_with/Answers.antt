use Rattle.std.proofs.Common.{arith}
use Rattle.jup_session.proofs.Calls.{said_more}
use Rattle.jup_session.proofs.sessions.leaving.received_with.Goals as goal

pub loop-down-preserved : goal.loop-down-preserved
loop-down-preserved c =
    let more = said_more c.args.downs.now c.loop-down.down-index c.down-item.result (omega (arith, c.loop-down-test.true)) c.down-item.is in
    omega (arith, more, c.max-received.ensures, c.received_by.ensures, c.loop-down.invariant)
