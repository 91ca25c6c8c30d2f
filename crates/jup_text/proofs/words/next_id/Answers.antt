use Rattle.std.proofs.Common.{ℕ, decimal}
use Rattle.jup_text.specs.Commands.{IsId}
use Rattle.jup_text.proofs.CommandWords.{no_first, id_word}
use Rattle.jup_text.proofs.words.next_id.Goals as goal

pub returns-in_err-word-clause-none : goal.returns-in_err-word-clause-none
returns-in_err-word-clause-none c = rw c.from_residual.ensures (λ (n : ℕ) rest is. c.in_err-word.ensures.none (decimal n) rest (id_word n is))

pub returns-in_err-id_of-clause-none : goal.returns-in_err-id_of-clause-none
returns-in_err-id_of-clause-none c = rw c.from_residual-in_err-id_of.ensures
    (no_first decimal IsId id_word c.args.text.now c.in_ok-word.word.now c.in_ok-word.rest.now c.in_ok-word.ensures.read.0 c.in_ok-word.ensures.read.1 c.in_err-id_of.ensures)
