use Rattle.jup_batch.specs.Boards.{batch_laws}
use Rattle.jup_batch.proofs.laws.batches_are_lawful.Goals as goal

pub returns : goal.returns
returns c = batch_laws
