use Rattle.jup_keys.proofs.Readings.{answer_cut}
use Rattle.jup_keys.proofs.answer.Answer.read.Goals as goal

pub returns : goal.returns
returns c = answer_cut c.args.text.now c.in_ok-word.word.now c.in_ok-word.fields.now _ c.in_ok-word.ensures c.read_behind.ensures
