use Rattle.std.proofs.Common.{ap, ◌∙◌, rules}
use Rattle.jup_window.specs.Entries.{change_at, with_entry}
use Rattle.jup_text.specs.Boards.{Draft}
use Rattle.jup_text.proofs.board_reader.BoardReader.put.Goals as goal

pub returns-clause-ok : goal.returns-clause-ok
returns-clause-ok c = λ line is. record {
  win = c.in-Some.win;
  wid = c.args.read.wid;
  widget = c.args.read.widget;
  in_last = search rules;
  spelled = is;
  allowed = search rules;
  board = c.in_ok-add_widget.ensures.ok ∙ ap (λ (d : Draft). change_at c.in-Some.win (with_entry c.args.read.wid c.args.read.widget) d.0) c.self.view_is;
  window = search rules;
}
