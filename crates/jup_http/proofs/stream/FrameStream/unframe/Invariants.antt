use Rattle.std.specs.Prelude.{map, ◌≡◌, ◌≤◌, ℕ, List, ◌++◌, length, drop, take}
use Rattle.jup_http.specs.Streams.{brought, tells}
use Rattle.jup_http.specs.Events.{standing}
use Rattle.jup_http.proofs.stream.FrameStream.unframe.Given as goal

abbrev pub invariant-loop-taken : goal.invariant-loop-taken
invariant-loop-taken l = record {
  room : l.given ≤ length l.buf;
  told : (more : List ℕ) → tells (standing l.fn.self) (l.bytes ++ more) ≡ map brought (take l.given l.buf) ++ tells (standing l.self) (drop l.taken l.bytes ++ more);
}
