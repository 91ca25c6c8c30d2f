use Rattle.std.proofs.Common.{rules}
use Rattle.jup_gather.specs.Gathering.{Gathers, held}
use Rattle.jup_gather.proofs.Gathering.{gathers_on}
use Rattle.jup_gather.proofs.gather.Gather.push.Goals as goal

pub returns-clause-gathered : goal.returns-clause-gathered
returns-clause-gathered c =
    let taken = c.match-replace.taken in
    let comes : Gathers c.args.self.now c.args.line.now taken.gathered (held taken.state) = search rules in
    gathers_on c.args.self.now (held taken.state) c.args.line.now taken.gathered comes
