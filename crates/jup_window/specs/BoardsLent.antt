-- What a board ends as, once a `&mut` to one of its widgets has ended.
use Rattle.std.specs.Prelude.{Option}
use Rattle.std.specs.Borrow.{LendsIf, Fml, MutBor}
use Rattle.jup_window.specs.Prelude.{Widget}
use Rattle.jup_window.specs.Entries.{Place, change_widget}
use Rattle.jup_window.specs.Boards.{Windows}
use Rattle.jup_window.specs.contracts.boards.Board.{the_row}
use Rattle.jup_window.specs.contracts.kinds.Widget.{the_row as widget_row}

-- the widget at the place is the last one written through r, and at `None` the board stays as it is
abbrev pub lends_widget : MutBor Windows → Place → Option (MutBor Widget) → Fml
lends_widget b p r = LendsIf the_row widget_row b r (λ w. change_widget p (λ _. w) b.now) b.now
