use Rattle.std.proofs.Common.{◌≡◌, None, IfSome, is_some, ◌∙◌, sym, ap, subst}
use Rattle.jup_star.specs.Prelude.{answered, board_batches, accepts, batch_laws}
use Rattle.jup_batch.specs.Boards as board
use Rattle.jup_star.specs.Faults.{first_fault}
use Rattle.jup_star.specs.Stars.{operation_at}
use Rattle.jup_star.specs.Sites.{IsSite, deliver_tests, BoardSite}
use Rattle.jup_star.specs.contracts.site.Site.{the_view}
use Rattle.jup_star.proofs.Sites.{admitted_foreign, admitted_count, shown_site, shown_with}
use Rattle.jup_star.proofs.site.Site.show_edit.Goals as goal

pub invariant_of-self-2 : goal.invariant_of-self-2
invariant_of-self-2 c =
    let s : BoardSite = the_view c.self.inside in
    let m = c.args.msg in
    let op = operation_at board_batches s.end m in
    let is = c.in-Some.is in
    let shows = ap is_some is in
    let same = c.reserve_shown.ensures.board in
    let Early : BoardSite → Type 0 = λ x. first_fault (deliver_tests board_batches x m) ≡ None in
    let early = subst Early (sym c.self.view_is) c.requires in
    let valid = (batch_laws.decides op s.board).0 (ap (accepts op) (sym same) ∙ sym c.show.ensures.fits ∙ shows) in
    subst (IsSite board_batches)
    (sym (shown_with s m _ _ (subst (λ r. IfSome r (λ o. board.bare c.show.new.board ≡ board.after o (board.bare c.reserve_shown.new.board))) is c.show.ensures.shown ∙ ap (λ o. board.after o (board.bare c.reserve_shown.new.board)) (subst (λ r. IfSome r (λ o. o ≡ operation_at board_batches c.self.inside.end.link m)) is c.show.ensures.op) ∙ ap (board.after op) same) (c.acknowledge.ensures.end ∙ ap answered c.show.ensures.end)))
    (shown_site s m valid (admitted_foreign s m early) (admitted_count s m early) c.self.invariant)
