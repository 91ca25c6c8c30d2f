use Rattle.std.proofs.Common.{◌≡◌, take}
use Rattle.jup_session.specs.Sessions.{said_received}
use Rattle.jup_session.proofs.sessions.leaving.received_with.Given as goal

abbrev pub invariant-loop-down : goal.invariant-loop-down
invariant-loop-down l = l.received ≡ said_received (take l.down-index l.downs)
