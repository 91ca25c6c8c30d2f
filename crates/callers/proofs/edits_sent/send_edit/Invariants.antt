use Rattle.std.proofs.Common.{take}
use Rattle.callers.proofs.Calls.{HasSent}
use Rattle.callers.proofs.edits_sent.send_edit.Given as goal

-- the lines so far, and the message that the last of them ended
abbrev pub invariant-loop-line : goal.invariant-loop-line
invariant-loop-line l = HasSent (take l.line-index l.line-items) l.sent l.gather
