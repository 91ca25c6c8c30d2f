use Rattle.jup_batch.specs.Boards as board
use Rattle.jup_star.specs.Prelude.{batch_laws}
use Rattle.jup_star.proofs.FaultTests.{same_test}
use Rattle.jup_star.proofs.take.fits.Goals as goal

pub returns : goal.returns
returns c = same_test _ _ _ c.valid.ensures (batch_laws.decides c.args.op.now (board.bare c.args.board.now))
