use Rattle.std.proofs.Common.{Ok, Some, ap, sym, ◌∙◌}
use Rattle.jup_window.specs.Boards as board
use Rattle.jup_window.specs.Widgets as widget
use Rattle.jup_layout.proofs.Drafting.{same_Ok, widget_refused, widget_taken}
use Rattle.jup_layout.proofs.drafts.Draft.with_widget.Goals as goal

pub returns-in-Some-refusal_of_widget : goal.returns-in-Some-refusal_of_widget
returns-in-Some-refusal_of_widget c =
    rw c.of_board.ensures (widget_refused c.in-Some.win c.args.wid (widget.bare c.args.widget) c.args.self c.in_ok-board.board c.in-Some-refusal_of_widget.fault
    (ap (λ d. d.window) (sym c.self.view_is) ∙ c.in-Some.is) (same_Ok _ _ c.in_ok-board.ensures) c.in-Some-refusal_of_widget.ensures)

pub returns : goal.returns
returns c =
    widget_taken c.in-Some.win c.args.wid (widget.bare c.args.widget) c.args.self c.in_ok-board.board
    (ap (λ d. d.window) (sym c.self.view_is) ∙ c.in-Some.is) (same_Ok _ _ c.in_ok-board.ensures) (sym c.in_default-refusal_of_widget.ensures)
    ∙ ap (λ n. Ok (record { board = board.bare c.in_ok-board.board; window = Some c.in-Some.win; home = Some c.in-Some.win; last = Some (c.args.wid, widget.bare c.args.widget); naming = n })) (ap (λ d. d.naming) (sym c.self.view_is))
