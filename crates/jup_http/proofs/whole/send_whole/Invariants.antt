use Rattle.std.proofs.Common.{◌≡◌, ◌<◌, ℕ, List, ◌++◌, length, IsTrue}
use Rattle.std.specs.Io.KnownBytes.{Appends}
use Rattle.jup_http.proofs.whole.send_whole.Given as goal

-- the first bytes are sent, and some are left
abbrev pub invariant-loop : goal.invariant-loop
invariant-loop g l = ((sent : List ℕ) × (l.fn.bytes ≡ sent ++ l.rest) × Appends (g.O.Write.contents l.fn.to) (g.O.Write.contents l.to) sent)
    × (0 < length l.rest) × (IsTrue (g.O.Peer.is_well l.fn.to) → IsTrue (g.O.Peer.is_well l.to))
