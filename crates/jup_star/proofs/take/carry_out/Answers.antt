use Rattle.std.proofs.Common.{◌≡◌, ap, ◌∙◌, sym, map, subst, length, arith, List, cond}
use Rattle.jup_star.specs.Prelude.{BoardBatch, batch_laws, board_batches}
use Rattle.jup_batch.specs.Boards as board
use Rattle.jup_star.specs.Stars.{is_of, link_sent, without, links_after, BoardLink, bare_link, AllCount}
use Rattle.jup_star.proofs.LinkChanges.{found_some, without_set, lent_back}
use Rattle.jup_star.proofs.Stars as stars
use Rattle.jup_star.proofs.Relabels.{accepted_relabels}
use Rattle.jup_star.proofs.take.carry_out.Goals as goal

pub returns-then-not-fits-clause-others : goal.returns-then-not-fits-clause-others
returns-then-not-fits-clause-others c = λ no.
    let found = found_some _ _ _ c.requires.place in
    ap (without c.args.site) (c.hear_at-op.ensures.links found.0 found.1)
    ∙ without_set c.args.site (map bare_link c.args.links.now.items) c.args.at _ c.requires.place (stars.found_of _ _ _ _ c.requires.place found.1)

pub apply-requires : goal.apply-requires
apply-requires c =
    let found = found_some _ _ _ c.requires.place in
    let P : BoardBatch → Type 0 = λ o. board.HasRoom o 0 c.args.board.now in (
      omega arith,
      (
        (batch_laws.decides c.hear_at-op.result (board.bare c.args.board.now)).0 (sym c.fits.ensures ∙ c.if-not-fits.false),
        subst P (sym (c.hear_at-op.ensures.op found.0 found.1)) (stars.room_operation c.args.board.now found.0.end c.args.msg c.requires.board_room),
      ),
    )

pub send_others-requires-clause-relabels : goal.send_others-requires-clause-relabels
send_others-requires-clause-relabels c = accepted_relabels c.hear_at-op.result (board.bare c.args.board.now) (sym c.fits.ensures ∙ c.if-not-fits.false)

pub send_others-requires-clause-counted : goal.send_others-requires-clause-counted
send_others-requires-clause-counted c =
    let found = found_some _ _ _ c.requires.place in
    let links = ap (map bare_link) c.deref_mut.ensures.value ∙ c.hear_at-op.ensures.links found.0 found.1 in
    subst AllCount (sym links) (stars.counted_heard c.args.site (map bare_link c.args.links.now.items) c.args.at found.0 c.args.msg c.requires.place found.1
    (c.requires.heard found.0 found.1).count c.requires.counted)

pub returns-clause-links : goal.returns-clause-links
returns-clause-links c = λ done l found.
    let send : BoardBatch → List BoardLink → List BoardLink = λ o ks. map (λ k. cond (is_of c.args.site k) k (link_sent o k)) ks in
    let lengths : length c.send_others.new.links ≡ c.hear_at-op.new.links.len = omega (arith, c.deref_mut.ensures.len, c.send_others.auto.links) in
    ap (map bare_link) (lent_back c.hear_at-op.new.links.len c.send_others.new.links c.hear_at-op.new.links.items lengths)
    ∙ c.send_others.ensures ∙ ap (λ ks. send c.hear_at-op.result (map bare_link ks)) c.deref_mut.ensures.value ∙ ap (send c.hear_at-op.result) (c.hear_at-op.ensures.links l found)
    ∙ stars.all_after c.args.site (map bare_link c.args.links.now.items) c.args.at l c.args.msg c.hear_at-op.result c.requires.apart c.requires.place found
    ∙ ap (λ (o : BoardBatch). links_after board_batches c.args.site c.args.msg o (map bare_link c.args.links.now.items)) (c.hear_at-op.ensures.op l found)

pub send_others-requires-clause-room : goal.send_others-requires-clause-room
send_others-requires-clause-room c =
    let found = found_some _ _ _ c.requires.place in
    let same : board.shape c.hear_at-op.result ≡ board.shape c.args.msg.op =
    ap (λ (o : BoardBatch). board.shape o) (c.hear_at-op.ensures.op found.0 found.1) ∙ stars.shape_operation found.0.end c.args.msg in
    rw (same, c.deref_mut.ensures.value) c.hear_at-op.ensures.room
