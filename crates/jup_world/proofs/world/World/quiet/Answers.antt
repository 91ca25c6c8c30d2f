use Rattle.std.proofs.Common.{◌↔◌, List, IsTrue, map, sym, subst}
use Rattle.jup_world.specs.contracts.world.World.{the_view}
use Rattle.jup_world.specs.Boards.{BoardAttached}
use Rattle.jup_world.specs.Insides.{bare_attached}
use Rattle.jup_world.specs.Happenings.{AllQuiet}
use Rattle.jup_world.specs.Lanes.{messages_of}
use Rattle.jup_world.proofs.Drains.Deliveries.{quiet_world, all_agree}
use Rattle.jup_world.proofs.Lanes.Sites.{messages_map}
use Rattle.jup_world.proofs.Lanes.Worlds.{still_quiet}
use Rattle.jup_world.proofs.world.World.quiet.Goals as goal

-- the test answers whether no message is on its way
test : (c : goal.After-are_quiet) → IsTrue c.are_quiet.result ↔ AllQuiet c.self.inside.star (messages_of (the_view c.self.inside)).sites
test c =
    let is : IsTrue c.are_quiet.result ↔ AllQuiet c.self.inside.star (map bare_attached c.self.inside.sites.items) = rw c.deref.ensures.value at c.are_quiet.ensures in
    subst (λ (xs : List BoardAttached). IsTrue c.are_quiet.result ↔ AllQuiet c.self.inside.star xs) (sym (messages_map c.self.inside.sites.items)) is

pub returns-clause-quiet : goal.returns-clause-quiet
returns-clause-quiet c =
    let quiet = quiet_world (messages_of (the_view c.self.inside)) c.self.invariant.world in
    let still = still_quiet (the_view c.self.inside) c.self.invariant.carry in
    rw (← c.self.view_is) (λ holds. still.1 (quiet.0 ((test c).0 holds)), λ holds. (test c).1 (quiet.1 (still.0 holds)))

pub returns-clause-agree : goal.returns-clause-agree
returns-clause-agree c =
    let quiet = quiet_world (messages_of (the_view c.self.inside)) c.self.invariant.world in
    rw (← c.self.view_is) (λ holds. all_agree (messages_of (the_view c.self.inside)) c.self.invariant.world (quiet.0 ((test c).0 holds)))
