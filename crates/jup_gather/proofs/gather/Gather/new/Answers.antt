use Rattle.jup_gather.proofs.Gathering.{at_first}
use Rattle.jup_gather.proofs.gather.Gather.new.Goals as goal

pub returns-clause-gathered : goal.returns-clause-gathered
returns-clause-gathered c = at_first
