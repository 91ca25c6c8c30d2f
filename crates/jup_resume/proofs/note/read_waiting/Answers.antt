use Rattle.std.proofs.Common.{sym, ◌∙◌}
use Rattle.jup_resume.proofs.Texts.{tells_difference}
use Rattle.jup_resume.proofs.Readings.{none_waiting, none_cut_waiting}
use Rattle.jup_resume.proofs.note.read_waiting.Goals as goal

pub returns-in_err-read_number : goal.returns-in_err-read_number
returns-in_err-read_number c = rw c.from_residual.ensures (λ value is. none_waiting c.args.fields.now c.in_default.ensures c.in_err-read_number.ensures value.0 value.1 is)

pub returns-then-ne : goal.returns-then-ne
returns-then-ne c = λ value is. none_cut_waiting c.args.fields.now c.in-Some.seconds.now c.in-Some.word.now c.in-Some.ensures (λ n small number word. tells_difference c.in-Some.word.now c.as_slice.result.now c.ne.result c.ne.ensures c.if-ne.true (word ∙ sym c.as_slice.ensures)) value.0 value.1 is

pub returns-in_err-read_number-2 : goal.returns-in_err-read_number-2
returns-in_err-read_number-2 c = rw c.from_residual-in_err-read_number-2.ensures
    (λ value is. none_cut_waiting c.args.fields.now c.in-Some.seconds.now c.in-Some.word.now c.in-Some.ensures (λ n small number word. c.in_err-read_number-2.ensures n small number) value.0 value.1 is)
