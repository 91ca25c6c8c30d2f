use Rattle.jup_resume.proofs.Readings.{read_whole}
use Rattle.jup_resume.proofs.note.Note.read.Goals as goal

pub returns : goal.returns
returns c = read_whole c.args.text.now c.in_ok-word.word.now c.in_ok-word.fields.now _ c.in_ok-word.ensures c.read_behind.ensures
