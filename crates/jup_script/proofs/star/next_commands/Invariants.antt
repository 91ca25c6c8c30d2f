use Rattle.std.proofs.Common.{◌≤◌, length}
use Rattle.jup_script.proofs.star.next_commands.Given as goal

-- the lines of the script get no more
abbrev pub invariant-loop : goal.invariant-loop
invariant-loop l = length l.script.rest.now ≤ length l.fn.script.rest.now
