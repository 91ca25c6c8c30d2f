use Rattle.std.proofs.Common.{Ok, sym, subst}
use Rattle.jup_window.specs.Boards as board
use Rattle.jup_layout.specs.Drafts.{Follows}
use Rattle.jup_layout.proofs.Drafting.{whole-bare}
use Rattle.jup_layout.proofs.drafts.Draft.whole.Goals as goal

pub returns : goal.returns
returns c =
    rw (← c.self.view_is) (subst (λ (ws : board.Windows). Follows board.bare c.put.result (Ok ws))
    (sym (whole-bare c.in-Some.win c.in-Some-last.wid c.in-Some-last.widget c.self.inside.home c.self.inside.last c.self.inside.board c.in-Some.is c.in-Some-last.is)) c.put.ensures)
