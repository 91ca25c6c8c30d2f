use Rattle.std.proofs.Common.{ℕ, decimal}
use Rattle.jup_text.specs.Prelude.{IsU32}
use Rattle.jup_text.proofs.CommandWords.{no_first, number_word}
use Rattle.jup_text.proofs.commands.next_place.Goals as goal

pub returns-in_err-word-clause-none : goal.returns-in_err-word-clause-none
returns-in_err-word-clause-none c = rw c.from_residual.ensures (λ (n : ℕ) rest is. c.in_err-word.ensures.none (decimal n) rest (number_word n is))

pub returns-in_err-read_number-clause-none : goal.returns-in_err-read_number-clause-none
returns-in_err-read_number-clause-none c = rw c.from_residual-in_err-read_number.ensures
    (no_first decimal IsU32 number_word c.args.text.now c.in_ok-word.word.now c.in_ok-word.rest.now c.in_ok-word.ensures.read.0 c.in_ok-word.ensures.read.1 c.in_err-read_number.ensures)
