use Rattle.std.proofs.Common.{subst, sym, ◌∙◌, arith}
use Rattle.jup_star.specs.Prelude.{BoardBatch, batch_laws}
use Rattle.jup_batch.specs.Boards as board
use Rattle.jup_star.proofs.Stars.{room_operation}
use Rattle.jup_star.proofs.site.show.Goals as goal

pub apply-requires : goal.apply-requires
apply-requires c =
    let P : BoardBatch → Type 0 = λ o. board.HasRoom o 0 c.args.board.now in (
      omega arith,
      (
        (batch_laws.decides c.receive-op.result (board.bare c.args.board.now)).0 (sym c.fits.ensures ∙ c.if-not-fits.false),
        subst P (sym c.receive-op.ensures.op) (room_operation c.args.board.now c.args.end.now.link c.args.msg c.requires.room),
      ),
    )
