use Rattle.std.proofs.Common.{ap, ◌∙◌, sym, map, subst, slice_set, ◌≤◌}
use Rattle.std.proofs.lemmas.List.{map-set}
use Rattle.jup_star.specs.Prelude.{board_batches, shape}
use Rattle.jup_star.specs.declared.link.Link.{Link}
use Rattle.jup_star.specs.Stars.{is_of, operation_at, link_heard, BoardLink, bare_link}
use Rattle.jup_star.proofs.Stars.{place_below, can_hear, found_is, place_of_site}
use Rattle.jup_star.proofs.LinkChanges.{others_set, has_room_at}
use Rattle.jup_star.proofs.take.hear_at.Goals as goal

pub hear-requires-clause-number : goal.hear-requires-clause-number
hear-requires-clause-number c = (can_hear _ _ _ _ _ _ c.index_mut.ensures.value c.requires.place c.requires.heard).number

pub hear-requires-clause-count : goal.hear-requires-clause-count
hear-requires-clause-count c = (can_hear _ _ _ _ _ _ c.index_mut.ensures.value c.requires.place c.requires.heard).count

pub hear-requires-clause-named : goal.hear-requires-clause-named
hear-requires-clause-named c = (can_hear _ _ _ _ _ _ c.index_mut.ensures.value c.requires.place c.requires.heard).named

pub hear-requires-clause-room : goal.hear-requires-clause-room
hear-requires-clause-room c =
    let P : Link → Type 0 = λ l. 1 ≤ l.outbox.spare in
    let below = place_below c.args.site c.args.links.now.items c.args.at c.requires.place in
    subst P (sym c.index_mut.ensures.value) (has_room_at c.args.links.now.items c.args.at c.index_mut.result.now below c.requires.room).outbox

pub returns-clause-op : goal.returns-clause-op
returns-clause-op c = λ l found.
    c.hear.ensures.op ∙ ap (λ (k : Link). operation_at board_batches k.end.link c.args.msg) c.index_mut.ensures.value
    ∙ ap (λ (k : BoardLink). operation_at board_batches k.end c.args.msg) (found_is c.args.site c.args.links.now.items c.args.at c.index_mut.result.now l c.requires.place found)

pub returns-clause-links : goal.returns-clause-links
returns-clause-links c = λ l found.
    map-set bare_link c.args.links.now.items c.args.at c.hear.new.self
    ∙ ap (λ (k : BoardLink). slice_set (map bare_link c.args.links.now.items) c.args.at k)
    (c.hear.ensures.link ∙ ap (λ (k : Link). link_heard board_batches c.args.msg (bare_link k)) c.index_mut.ensures.value
    ∙ ap (link_heard board_batches c.args.msg) (found_is c.args.site c.args.links.now.items c.args.at c.index_mut.result.now l c.requires.place found))

pub returns-clause-room : goal.returns-clause-room
returns-clause-room c =
    let site = ap (is_of c.args.site) c.hear.ensures.link ∙ ap (λ (k : Link). is_of c.args.site (bare_link k)) c.index_mut.ensures.value in
    others_set (shape c.args.msg.op) c.args.site c.args.links.now.items c.args.at c.hear.new.self
    (site ∙ place_of_site c.args.site c.args.links.now.items c.args.at c.index_mut.result.now c.requires.place) c.requires.room
