use Rattle.std.proofs.Common.{take}
use Rattle.jup_embed.specs.Numbers.{SpellAll}
use Rattle.jup_embed.proofs.plain.commands.read_commands.Given as goal

abbrev pub invariant-loop-k : goal.invariant-loop-k
invariant-loop-k l = SpellAll (take l.k l.from) (take l.k l.to)
