use Rattle.std.proofs.Common.{Ok, Some, ap, sym, subst, ◌∙◌, IsTrue}
use Rattle.jup_window.specs.Boards as board
use Rattle.jup_layout.specs.Drafts.{is_free}
use Rattle.jup_layout.proofs.Drafting.{window_refused, window_taken, allowed, free-more}
use Rattle.jup_layout.proofs.drafts.Draft.with_window.Goals as goal

pub returns-in-Err : goal.returns-in-Err
returns-in-Err c =
    rw c.of_board.ensures (window_refused c.args.win c.args.self c.self.inside.board c.in-Err.fault (ap (λ d. d.board) (sym c.self.view_is)) c.in-Err.ensures.refusal)

pub invariant_of-result : goal.invariant_of-result
invariant_of-result c = record {
  free = subst (λ b. IsTrue (is_free c.self.inside.home c.self.inside.last b)) (sym c.in_default.ensures.ok)
      (free-more c.self.inside.home c.self.inside.last c.self.inside.board c.args.win (allowed _ c.in_default.ensures.refusal) c.self.invariant.free);
  kept = c.self.invariant.kept;
}

pub returns : goal.returns
returns c =
    window_taken c.args.win c.args.self c.self.inside.board c.add_window.new.self (ap (λ d. d.board) (sym c.self.view_is)) c.in_default.ensures.refusal c.in_default.ensures.ok
    ∙ ap (λ d. Ok (record { board = board.bare c.add_window.new.self; window = Some c.args.win; home = d.home; last = d.last; naming = d.naming })) (sym c.self.view_is)
