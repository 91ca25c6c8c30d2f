use Rattle.std.proofs.Common.{subst, rules}
use Rattle.jup_layout.specs.Drafts.{board_lines}
use Rattle.jup_board.specs.Boards.{Gathered, PutsNumbered}
use Rattle.jup_board.proofs.Texts.{laid_whole}
use Rattle.jup_board.proofs.layout_text.write_layout.Goals as goal

pub returns-clause-layout : goal.returns-clause-layout
returns-clause-layout c =
    let lines = board_lines c.args.board.now in
    let puts : PutsNumbered c.new-sink.result lines c.put_board.new.sink = search rules in
    laid_whole c.args.board.now c.put_board.new.sink c.whole.result (subst (λ (put : Gathered). PutsNumbered put lines c.put_board.new.sink) c.new-sink.ensures puts) c.whole.ensures.whole c.whole.ensures.all
