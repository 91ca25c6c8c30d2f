use Rattle.std.proofs.Common.{arith, refl}
use Rattle.jup_embed.proofs.Numbers.{one_more, first_wrong}
use Rattle.jup_embed.proofs.plain.commands.read_commands.Goals as goal

pub returns-in-Err-clause-refused : goal.returns-in-Err-clause-refused
returns-in-Err-clause-refused c = λ _.
    first_wrong c.loop-k.k c.args.from.now _ _ c.in-Err.fault c.loop-k-test.true c.loop-k.invariant (record { none = c.in-Err.ensures.none refl; answer = c.in-Err.ensures.fault })

pub loop-k-preserved : goal.loop-k-preserved
loop-k-preserved c =
    one_more c.loop-k.k c.args.from.now c.loop-k.to _ c.in-Ok.command c.loop-k-test.true (omega (arith, c.loop-k.auto.to, c.requires, c.loop-k-test.true)) c.loop-k.invariant c.in-Ok.ensures.spelled
