use Rattle.std.proofs.Common.{◌≡◌, take}
use Rattle.jup_world.specs.Twos.{named_from}
use Rattle.jup_world.proofs.two.named_text.Given as goal

-- the text holds the characters so far
abbrev pub invariant-loop-at : goal.invariant-loop-at
invariant-loop-at l = l.text.items ≡ named_from 1 (take l.at l.start)
