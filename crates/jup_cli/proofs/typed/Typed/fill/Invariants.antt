use Rattle.std.proofs.Common.{length}
use Rattle.jup_cli.proofs.Typing.{Fills}
use Rattle.jup_cli.proofs.typed.Typed.fill.Given as goal

abbrev pub invariant-loop-byte : goal.invariant-loop-byte
invariant-loop-byte l = Fills l.fn.self l.self

abbrev pub decreases-loop-byte : goal.decreases-loop-byte
decreases-loop-byte l = length l.self.rest
