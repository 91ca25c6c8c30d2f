use Rattle.std.proofs.Common.{length}
use Rattle.jup_board.proofs.FollowingLines.{Reads}
use Rattle.jup_board.proofs.reading.read_printed.Given as goal

-- the lines that were taken, and what is left
abbrev pub invariant-loop-reader : goal.invariant-loop-reader
invariant-loop-reader l = Reads l.fn.text l.initial.lines.rest.now l.lines.rest.now l.reader

-- the bytes of the lines that are left
abbrev pub decreases-loop-reader : goal.decreases-loop-reader
decreases-loop-reader l = length l.lines.rest.now
