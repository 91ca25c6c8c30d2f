use Rattle.jup_mixed.specs.Prelude.{board_batches, batch_laws, most_batches, order_symmetric}
use Rattle.jup_mixed.proofs.Worlds as worlds
use Rattle.jup_mixed.proofs.promises.mixed_agree.Goals as goal

pub returns-clause-kept : goal.returns-clause-kept
returns-clause-kept c m is = worlds.home-promises board_batches batch_laws most_batches m (worlds.home-reached m is)

pub returns-clause-replies : goal.returns-clause-replies
returns-clause-replies c m is event = worlds.all-replies board_batches batch_laws most_batches m (worlds.home-reached m is) event

pub returns-clause-detached : goal.returns-clause-detached
returns-clause-detached c m is = worlds.home-full board_batches batch_laws most_batches m (worlds.home-reached m is)

pub returns-clause-order : goal.returns-clause-order
returns-clause-order c m is events = worlds.home-order board_batches batch_laws events most_batches m (worlds.home-reached m is)

pub returns-clause-copies : goal.returns-clause-copies
returns-clause-copies c m is events = worlds.home-copies board_batches batch_laws order_symmetric events most_batches m (worlds.home-reached m is) (worlds.past-reached m is)
