use Rattle.std.proofs.Common.{◌≡◌, ◌↔◌, take}
use Rattle.jup_keys.proofs.hash.KeyHash.matches.Given as goal

-- no difference so far
abbrev pub invariant-loop-place : goal.invariant-loop-place
invariant-loop-place l = (l.difference ≡ 0) ↔ (take l.place l.self ≡ take l.place l.other)
