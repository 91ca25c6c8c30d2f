use Rattle.std.proofs.Common.{length}
use Rattle.jup_script.proofs.star.play_lines.Given as goal

-- the bytes of the lines that are left
abbrev pub decreases-loop-line : goal.decreases-loop-line
decreases-loop-line g l = length l.script.rest.now
