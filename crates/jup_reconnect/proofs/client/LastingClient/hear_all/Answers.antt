use Rattle.jup_reconnect.proofs.Hearing.{through_more}
use Rattle.jup_reconnect.proofs.client.LastingClient.hear_all.Goals as goal

pub loop-rest-preserved : goal.loop-rest-preserved
loop-rest-preserved c =
    through_more c.args.bytes.now c.loop-rest.rest.now c.in_ok-rest.rest.now c.args.self.now c.loop-rest.self c.hear.new.self c.loop-rest.invariant c.in_ok-rest.ensures.heard
