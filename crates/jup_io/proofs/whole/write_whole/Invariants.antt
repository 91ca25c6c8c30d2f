use Rattle.std.proofs.Common.{◌≡◌, ℕ, List, ◌++◌, IsTrue}
use Rattle.std.specs.Io.KnownBytes.{Appends}
use Rattle.jup_io.proofs.whole.write_whole.Given as goal

abbrev pub invariant-loop : goal.invariant-loop
invariant-loop g l = ((done : List ℕ) × (l.fn.bytes ≡ done ++ l.rest) × Appends (g.O.Write.contents l.fn.to) (g.O.Write.contents l.to) done)
    × (IsTrue (g.O.Peer.is_well l.fn.to) → IsTrue (g.O.Peer.is_well l.to))
