use Rattle.jup_star.proofs.Sites.{room_inserts}
use Rattle.jup_star.proofs.site.reserve_shown.Goals as goal

pub returns-clause-inserts : goal.returns-clause-inserts
returns-clause-inserts c = room_inserts c.args.op.now c.args.board.now c.reserve.result c.reserve.ensures.refused_without_room
