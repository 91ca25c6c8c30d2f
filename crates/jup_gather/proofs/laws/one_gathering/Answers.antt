use Rattle.jup_gather.proofs.Gathering.{one_gathering}
use Rattle.jup_gather.proofs.laws.one_gathering.Goals as goal

pub returns : goal.returns
returns c = one_gathering
