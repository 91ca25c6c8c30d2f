use Rattle.jup_gather.proofs.Gathering.{message_comes_whole}
use Rattle.jup_gather.proofs.laws.message_comes_whole.Goals as goal

pub returns : goal.returns
returns c = message_comes_whole
