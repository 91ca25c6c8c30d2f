use Rattle.std.proofs.Common.{arith, subst, sym}
use Rattle.jup_wire.proofs.Streams.{flat_map_more}
use Rattle.jup_rules.specs.Sessions.{down_lines}
use Rattle.jup_rules.proofs.session.put_downs.Goals as goal

pub loop-down-preserved : goal.loop-down-preserved
loop-down-preserved g c =
    subst (λ lines. g.S.LineSink.takes c.args.sink.now lines c.put_message.new.sink)
    (sym (flat_map_more down_lines _ c.loop-down.down-index c.down-item.result (omega (arith, c.loop-down-test.true)) c.down-item.is))
    (g.S.LineSink.takes_more _ _ _ _ _ c.loop-down.invariant c.in_ok-put_message.ensures)
