use Rattle.std.proofs.Common.{subst}
use Rattle.jup_client.specs.Clients.{HasTold}
use Rattle.jup_client.proofs.Clients.{refused_still}
use Rattle.jup_client.proofs.opening.extended.Goals as goal

pub returns-in-Err : goal.returns-in-Err
returns-in-Err c = λ lines told. refused_still lines c.args.line.now c.in-Err.fault (subst (λ b. HasTold lines b) c.in-Err.is told)
