use Rattle.std.proofs.Common.{◌≡◌, ◌≤◌, ℕ, List, sym, subst, map, Some}
use Rattle.jup_world.specs.Boards.{BoardAttached}
use Rattle.jup_world.specs.Insides.{lane_of}
use Rattle.jup_world.specs.Worlds.{AreAscending}
use Rattle.jup_world.specs.Lanes.{LaneSite, lane_site}
use Rattle.jup_world.proofs.Lanes.Sites.{messages_map}
use Rattle.jup_world.proofs.Drains.Rounds.{within_lanes}
use Rattle.jup_world.proofs.world.World.last_number.Goals as goal

pub returns-in-Some : goal.returns-in-Some
returns-in-Some c =
    let last = rw c.deref.ensures.value at c.in-Some.ensures.value in
    let up = subst (λ (xs : List BoardAttached). AreAscending 0 c.self.inside.star.given xs) (messages_map c.self.inside.sites.items) c.self.invariant.world.numbered.ascending in
    let within = within_lanes c.self.inside.star.given c.self.inside.sites.items c.in-Some.attached.now up last in
    rw (← c.self.view_is) (subst (λ n. (i : ℕ) (a : LaneSite) → lane_site i (map lane_of c.self.inside.sites.items) ≡ Some a → (1 ≤ i) × (i ≤ n)) (sym c.number.ensures) within)
