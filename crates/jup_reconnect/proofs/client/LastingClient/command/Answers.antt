use Rattle.jup_reconnect.specs.contracts.client.LastingClient.{the_view}
use Rattle.jup_reconnect.proofs.Hearing.{commands_so}
use Rattle.jup_reconnect.proofs.client.LastingClient.command.Goals as goal

pub returns : goal.returns
returns c =
    commands_so c.args.line.now c.in_ok-asked.asked c.in-Some.request c.in_ok-request.field-0 c.args.self.now (the_view c.self.inside) _ c.take_line.new.self c.self.view_is c.in-Some.is
    c.in_ok-asked.ensures.asked c.in_ok-request.ensures.done
