use Rattle.jup_embed.specs.contracts.client.Client.{the_view}
use Rattle.jup_embed.proofs.Sessions.{over_from}
use Rattle.jup_embed.proofs.client.Client.take_in.Goals.{in-Opening+in-Err-1, in-Opening+in-Ok-1, in-Open+in-Begun-1, in-Open+in-Nothing-1, in-Greeting-1}
use Rattle.jup_embed.proofs.client.Client.take_in.Goals as goal

pub returns-in-Err-clause-ends : goal.returns-in-Err-clause-ends
returns-in-Err-clause-ends c =
    let from = over_from c.args.bytes.now c.args.self.now c.read_in-fed.new.self (the_view c.self-2.inside) c.match-self-2.self c.in-Err.end c.in-Err.ensures.ends c.self-2.view_is in
    elim c.match-self-2.branch [ in-Opening+in-Err-1 w ↦ from w.self-is | in-Opening+in-Ok-1 w ↦ from w.self-is | in-Open+in-Begun-1 w ↦ from w.self-is | in-Open+in-Nothing-1 w ↦ from w.self-is | in-Greeting-1 w ↦ from w.self-is ]
