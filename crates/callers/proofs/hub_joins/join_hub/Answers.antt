use Rattle.jup_hub.specs.Passes.{view_of}
use Rattle.callers.proofs.Calls.{joined_number}
use Rattle.callers.proofs.hub_joins.join_hub.Goals as goal

pub returns-clause-number : goal.returns-clause-number
returns-clause-number g c = joined_number (view_of c.args.pass.now) (view_of c.join_site.new.pass) c.join_site.result c.join_site.ensures.made
