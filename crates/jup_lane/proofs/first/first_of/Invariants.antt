use Rattle.std.proofs.Common.{◌++◌}
use Rattle.jup_lane.proofs.Trays.{IsHeld}
use Rattle.jup_lane.proofs.first.first_of.Given as goal

-- the lines so far are a part of a message, which is held
abbrev pub invariant-loop-line : goal.invariant-loop-line
invariant-loop-line l = IsHeld l.gather (l.line-iterator.head.now ++ l.line-iterator.wrapped.now) l.there.items
