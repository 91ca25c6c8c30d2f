use Rattle.std.proofs.Common.{length}
use Rattle.jup_script.proofs.star.read_board.Given as goal

-- the bytes of the lines that are left
abbrev pub decreases-loop-reader : goal.decreases-loop-reader
decreases-loop-reader l = length l.script.rest.now
