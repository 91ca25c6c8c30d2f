use Rattle.jup_hub.specs.Prelude.{Leave}
use Rattle.jup_star.specs.declared.calls.StarReply.TheVariants.{Left}
use Rattle.jup_hub.specs.Passes.{view_of}
use Rattle.jup_hub.proofs.Histories.{never_lacks, leaving_asks_nothing}
use Rattle.jup_hub.proofs.hub.Hub.leave.Goals as goal

pub returns-clause-memory : goal.returns-clause-memory
returns-clause-memory g c = never_lacks (λ r. Left r) (Leave c.args.site) (view_of c.args.pass.now) (view_of c.act.new.pass) c.act.result (leaving_asks_nothing c.args.site) c.act.ensures.made
