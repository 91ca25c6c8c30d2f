use Rattle.std.proofs.Common.{sym, subst}
use Rattle.jup_world.specs.Prelude.{board_batches, batch_laws, most_batches}
use Rattle.jup_world.specs.Worlds.{opened_world, run}
use Rattle.jup_world.specs.Boards.{BoardWorld}
use Rattle.jup_world.specs.Traces.{OrdersAgree}
use Rattle.jup_world.specs.Lanes.{opened_lanes}
use Rattle.jup_world.specs.Happenings.{IsLaneWorld}
use Rattle.jup_world.proofs.Worlds as world_laws
use Rattle.jup_world.proofs.Lanes.Worlds.{tried_keeps}
use Rattle.jup_world.proofs.Copies.Sites as copies
use Rattle.jup_site.proofs.PastBoards.{order_symmetric}
use Rattle.jup_world.proofs.promises.orders_agree.Goals as goal

pub returns-clause-copies : goal.returns-clause-copies
returns-clause-copies c w reached events =
    let opened = world_laws.opened_sound reached.board reached.limit reached.opening reached.limited in
    let at = world_laws.run_sound reached.events (opened_world board_batches reached.board reached.limit) opened in
    subst (λ (u : BoardWorld). OrdersAgree board_batches u (run board_batches u events)) (sym reached.is)
    (copies.run_copies board_batches batch_laws order_symmetric most_batches (run board_batches (opened_world board_batches reached.board reached.limit) reached.events) at.sound
    (copies.past_stars_run board_batches batch_laws order_symmetric most_batches reached.events (opened_world board_batches reached.board reached.limit) opened.sound
    (copies.past_stars_opened board_batches batch_laws order_symmetric most_batches reached.limit reached.board opened.sound))
    events)

pub returns-clause-bytes : goal.returns-clause-bytes
returns-clause-bytes c board limit events later w v opening some limited first steps =
    let opened : IsLaneWorld (opened_lanes board limit) = record { world = world_laws.world_new board limit opening some limited; carry = tt } in
    let past = copies.lane_past_stars order_symmetric (opened_lanes board limit) w opened
    (copies.past_stars_opened board_batches batch_laws order_symmetric most_batches limit board opened.world.board.sound) events first in
    copies.tried_copies order_symmetric w v (tried_keeps events (opened_lanes board limit) w opened first) past later steps
