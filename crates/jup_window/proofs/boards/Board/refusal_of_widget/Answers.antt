use Rattle.std.proofs.Common.{ap, sym, ◌∙◌, refl}
use Rattle.std.specs.Option.{option_copied}
use Rattle.jup_window.specs.Entries.{entry_fault}
use Rattle.jup_window.proofs.boards.Board.refusal_of_widget.Goals as goal

pub returns-in-Some : goal.returns-in-Some
returns-in-Some c =
    let found = ap (λ o. option_copied o) (sym c.in-Some.is) ∙ c.get.ensures in
    rw (← c.windows.ensures.windows, ← found) (c.refusal.ensures ∙ ap (λ ws. entry_fault c.args.wid ws) c.widgets.ensures.widgets)

pub returns-in-None : goal.returns-in-None
returns-in-None c =
    let found = ap (λ o. option_copied o) (sym c.in-None.is) ∙ c.get.ensures in
    rw (← c.windows.ensures.windows, ← found) refl
