use Rattle.std.proofs.Common.{rules}
use Rattle.jup_resume.specs.FirstLines.{IsOfCarrier}
use Rattle.jup_links.proofs.Beginnings.{IsBeginning, cannot_be}
use Rattle.jup_links.proofs.first_bytes.FirstBytes.of.Goals as goal

pub returns-else-may_be_of_carrier : goal.returns-else-may_be_of_carrier
returns-else-may_be_of_carrier c =
    let other : IsOfCarrier c.args.bytes.now → ⊥ = search rules in
    let short : IsBeginning c.args.bytes.now → ⊥ = search rules in
    cannot_be c.args.bytes.now other short
