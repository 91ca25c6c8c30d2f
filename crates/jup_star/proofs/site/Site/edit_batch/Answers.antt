use Rattle.std.proofs.Common.{rules, ◌≡◌, ◌∙◌, length, sym, ap, subst, Ok, ◌<◌}
use Rattle.jup_star.specs.Prelude.{after_send, BoardBatch, board_batches}
use Rattle.jup_batch.specs.Boards as board
use Rattle.jup_star.specs.Sites.{IsSite, edit_answer, BoardSite}
use Rattle.jup_star.specs.contracts.site.Site.{the_view}
use Rattle.jup_star.specs.Messages.{RelabelNoText}
use Rattle.jup_star.proofs.Relabels.{valid_relabels}
use Rattle.jup_star.proofs.Sites.{length_edits, edited_site, edited_with}
use Rattle.jup_star.proofs.site.Site.edit_batch.Goals as goal

pub invariant_of-self-2 : goal.invariant_of-self-2
invariant_of-self-2 c =
    let ops = c.in_ok-op.op in
    let s : BoardSite = the_view c.self.inside in
    let kept = c.in_ok-prepared.ensures.board in
    let Answer : BoardSite → Type 0 = λ x. edit_answer board_batches c.args.commands.now x ≡ Ok ops in
    let Valid : BoardSite → Type 0 = λ x. board.IsValid ops x.board in
    let Room : BoardSite → Type 0 = λ x. x.made < x.limit in
    let answer = subst Answer (sym c.self.view_is) c.in_ok-op.ensures.ok in
    let valid = subst Valid (sym c.self.view_is) c.in_ok-op.ensures.valid in
    let room = subst Room (sym c.self.view_is) c.in_ok-op.ensures.room in
    let board_is = c.apply.ensures.after ∙ ap (λ (o : BoardBatch). board.after o (board.bare c.prepare.new.board)) c.in_ok-prepared.ensures.op ∙ ap (board.after ops) kept in
    let end_is = c.send-msg.ensures.link ∙ ap (λ (o : BoardBatch). after_send c.prepare.new.end.link o) c.in_ok-prepared.ensures.op ∙ ap (λ e. after_send e ops) c.in_ok-prepared.ensures.end in
    let counted = c.all_insertions.ensures.count ∙ ap (λ (o : BoardBatch). board.insertions (board.edit_of o)) (c.as_slice.ensures.ops ∙ c.in_ok-prepared.ensures.op) in
    subst (IsSite board_batches)
    (sym (edited_with s ops _ _ _ board_is end_is counted))
    (edited_site s c.args.commands.now ops answer valid room c.self.invariant)

pub returns-clause-edits : goal.returns-clause-edits
returns-clause-edits c = ap (λ (es : board.BoardEdits). length es) c.in_ok-prepared.ensures.edits ∙ length_edits c.in_ok-op.op ∙ c.in_ok-op.ensures.same_length

pub returns-clause-relabels : goal.returns-clause-relabels
returns-clause-relabels c =
    let is : c.send-msg.result.op ≡ c.in_ok-op.op = search rules in
    let valid : board.IsValid c.in_ok-op.op c.args.self.now.board = c.in_ok-op.ensures.valid in
    subst RelabelNoText (sym is) (valid_relabels c.in_ok-op.op c.args.self.now.board valid.valid)
