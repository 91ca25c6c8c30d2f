use Rattle.std.specs.Prelude.{decimal}
use Rattle.jup_text.proofs.CommandWords.{no_second, number_word}
use Rattle.jup_text.proofs.commands.read_insertion.Goals as goal

pub returns-in_err-read_value : goal.returns-in_err-read_value
returns-in_err-read_value c = rw c.from_residual-in_err-read_value.ensures
    (λ read is. no_second c.args.text.now (decimal c.in_ok-place.place) c.in_ok-place.rest.now (decimal read.0) _ (number_word c.in_ok-place.place c.in_ok-place.ensures.read.0) (number_word read.0 is.0)
    c.in_ok-place.ensures.read.1 (c.in_err-read_value.ensures read.1 is.1))
