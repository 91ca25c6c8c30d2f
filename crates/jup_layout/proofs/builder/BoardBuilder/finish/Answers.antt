use Rattle.std.proofs.Common.{Ok, sym, subst, ap, ◌∙◌}
use Rattle.jup_window.specs.Boards as board
use Rattle.jup_layout.specs.Prelude.{Distinct}
use Rattle.jup_layout.specs.Drafts.{Built, HasTaken}
use Rattle.jup_layout.proofs.Drafting.{same_Ok}
use Rattle.jup_layout.proofs.Texts.{held_whole}
use Rattle.jup_layout.proofs.Saying.{board_said}
use Rattle.jup_layout.proofs.builder.BoardBuilder.finish.Goals as goal

pub returns-in-Ok-clause-said : goal.returns-in-Ok-clause-said
returns-in-Ok-clause-said c = λ lines taken.
    let b : Built = record { drafted = c.self.inside.draft; next = c.self.inside.number } in
    board_said Distinct lines (board.bare c.in-Ok.board) (held_whole Distinct lines b (subst (λ (x : Built). HasTaken Distinct lines x) (sym c.self.view_is) taken) ∙ ap (λ w. Ok w) (same_Ok _ _ c.in-Ok.ensures))
