use borrow.Follows.Closed.{read_of}
use Rattle.std.proofs.Common.{◌≡◌, Some, refl, ap, ◌∙◌}
use Rattle.std.specs.Option.{ghost_name_of, option_and_then}
use Rattle.jup_window.specs.Prelude.{Widget}
use Rattle.jup_window.specs.Entries.{at_id, change_at}
use Rattle.jup_window.proofs.BoardChanges.{put-changed, put-same}
use Rattle.jup_window.proofs.boards.Board.widget_mut.Goals as goal

pub returns-in_err-window : goal.returns-in_err-window
returns-in_err-window c =
    rw (c.from_residual.ensures, ← c.self.view_is) (
      refl,
      record { writes_back = tt; widget = ap (λ o. option_and_then (λ ws. at_id c.args.wid ws) o) c.in_err-window.ensures.value },
    )

pub returns : goal.returns
returns c =
    let there : Some c.window.inside.widgets ≡ at_id c.args.win c.self.inside.windows = rw (← c.window.view_is) at c.in_ok-window.ensures.value in
    rw (← c.self.view_is) (
      λ t. read_of (ghost_name_of c.get_mut-2.result)
          (λ (w : Widget). put-changed c.args.win (λ ws. change_at c.args.wid (λ _. w) ws) c.self.inside.windows c.window.inside.widgets there t)
          (put-same c.args.win c.self.inside.windows c.window.inside.widgets there t),
      record { writes_back = tt; widget = c.get_mut-2.ensures.value ∙ ap (λ o. option_and_then (λ ws. at_id c.args.wid ws) o) there },
    )
