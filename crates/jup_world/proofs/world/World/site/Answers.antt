use Rattle.std.proofs.Common.{◌≡◌, ◌∙◌, List, sym, ap, subst, map, Some, None, is_some, false, rules, option_map}
use Rattle.jup_world.specs.Prelude.{board_batches, batch_laws, Attached}
use Rattle.jup_world.specs.contracts.world.World.{the_view}
use Rattle.jup_world.specs.Worlds as worlds
use Rattle.jup_world.specs.Boards.{BoardAttached}
use Rattle.jup_world.specs.Insides.{lane_of, bare_attached}
use Rattle.jup_world.specs.Lanes.{lane_site, messages_of}
use Rattle.jup_world.proofs.Worlds.{none_stray, plain_linked}
use Rattle.jup_world.proofs.Happenings.{found_at, number_at}
use Rattle.jup_world.proofs.Lanes.Sites.{messages_map}
use Rattle.jup_world.proofs.Lanes.LaneEvents.{lane_found, lane_none}
use Rattle.jup_world.proofs.Drains.Deliveries as delivering
use Rattle.jup_world.proofs.world.World.site.Goals as goal

pub place_of-requires : goal.place_of-requires
place_of-requires c =
    let up = subst (λ (xs : List BoardAttached). worlds.AreAscending 0 c.self.inside.star.given xs) (messages_map c.self.inside.sites.items) c.self.invariant.world.numbered.ascending in
    (c.self.inside.star.given, subst (λ (xs : List Attached). worlds.AreAscending 0 c.self.inside.star.given (map bare_attached xs)) (sym c.deref.ensures.value) up)

pub returns-clause-site : goal.returns-clause-site
returns-clause-site c =
    let place = rw c.deref.ensures.value at c.in_ok-at.ensures.place in
    let found = lane_found c.args.number c.self.inside.sites.items c.in_ok-at.at c.index.result.now place ∙ ap (λ a. Some (lane_of a)) (sym c.index.ensures) in
    rw (← c.self.view_is) (sym (ap (option_map (λ a. a.site)) found))

-- the site at its place is the attached site of its number
found : (c : goal.After-index) → worlds.attached c.args.number (messages_of (the_view c.self.inside)).sites ≡ Some (bare_attached c.index.result.now)
found c =
    let place = rw c.deref.ensures.value at c.in_ok-at.ensures.place in
    ap (worlds.attached c.args.number) (messages_map c.self.inside.sites.items)
    ∙ found_at c.args.number c.self.inside.sites.items c.in_ok-at.at c.index.result.now place ∙ ap (λ a. Some (bare_attached a)) (sym c.index.ensures)

pub returns-clause-content : goal.returns-clause-content
returns-clause-content c =
    rw (← c.self.view_is) ((delivering.promises (messages_of (the_view c.self.inside)) c.self.invariant.world).site_content c.args.number (bare_attached c.index.result.now) (found c))

pub returns-clause-attached : goal.returns-clause-attached
returns-clause-attached c =
    rw (← c.self.view_is) (sym (ap is_some (found c)) ∙ plain_linked board_batches batch_laws (messages_of (the_view c.self.inside)) c.self.invariant.world.board.strays (none_stray c.self.inside.trace.items) c.args.number)

pub returns-clause-number : goal.returns-clause-number
returns-clause-number c =
    let place = rw c.deref.ensures.value at c.in_ok-at.ensures.place in
    ap (λ (a : Attached). a.site.number) c.index.ensures ∙ number_at c.args.number c.self.inside.sites.items c.in_ok-at.at c.index.result.now place

pub returns-clause-running : goal.returns-clause-running
returns-clause-running c =
    (delivering.promises (messages_of (the_view c.self.inside)) c.self.invariant.world).running c.args.number (bare_attached c.index.result.now) (found c)

pub returns-clause-made : goal.returns-clause-made
returns-clause-made c =
    rw (← c.self.view_is) ((delivering.tallies_of (messages_of (the_view c.self.inside)) c.self.invariant.world).made c.args.number (bare_attached c.index.result.now) (found c))

pub returns-clause-backlog : goal.returns-clause-backlog
returns-clause-backlog c =
    (delivering.backlogs (messages_of (the_view c.self.inside)) c.self.invariant.world).backlog c.args.number (bare_attached c.index.result.now) (found c)

pub returns-in_err-at-clause-site : goal.returns-in_err-at-clause-site
returns-in_err-at-clause-site c =
    let none = rw c.deref.ensures.value at c.in_err-at.ensures.place in
    let absent : lane_site c.args.number c.args.self.now.sites ≡ None = rw (← c.self.view_is) (lane_none c.args.number c.self.inside.sites.items none) in
    rw absent (search rules)

pub returns-in_err-at-clause-attached : goal.returns-in_err-at-clause-attached
returns-in_err-at-clause-attached c =
    let none = rw c.deref.ensures.value at c.in_err-at.ensures.place in
    let absent = ap (worlds.attached c.args.number) (messages_map c.self.inside.sites.items) ∙ none in
    let gone : is_some c.from_residual.result ≡ false = search rules in
    rw (← c.self.view_is) (gone ∙ sym (ap is_some absent) ∙ plain_linked board_batches batch_laws (messages_of (the_view c.self.inside)) c.self.invariant.world.board.strays (none_stray c.self.inside.trace.items) c.args.number)
