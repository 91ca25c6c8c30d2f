use Rattle.jup_cli.proofs.running.Client.answer.Goals as goal

pub returns : goal.returns
returns g c = record {
  answer = c.in_ok-said.field-0;
  answers = c.in_ok-said.ensures;
  said = c.say.ensures.lines;
  board = c.board.result.now;
  shown = c.board.ensures;
  text_is = c.in_ok-text.ensures;
}
