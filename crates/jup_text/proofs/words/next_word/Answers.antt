use Rattle.std.proofs.Common.{◌∷◌, ◌++◌, ◌+◌, List, ℕ, take, sym, ap, ◌∙◌}
use Rattle.jup_number.proofs.Numbers.{range_from}
use Rattle.jup_text.proofs.Quotes.{no_byte, byte_here, lacks_before}
use Rattle.jup_text.proofs.words.next_word.Goals as goal

pub returns-in_err-at-clause-none : goal.returns-in_err-at-clause-none
returns-in_err-at-clause-none c = rw c.from_residual.ensures (no_byte 32 c.args.text.now c.in_err-at.ensures.place)

pub returns-clause-read : goal.returns-clause-read
returns-clause-read c =
    let found = c.in_ok-at.ensures.place in (
      lacks_before 32 c.args.text.now c.in_ok-at.at found,
      byte_here 32 c.args.text.now c.in_ok-at.at found ∙ ap (λ (t : List ℕ). take c.in_ok-at.at c.args.text.now ++ 32 ∷ t) (sym (range_from c.args.text.now (c.in_ok-at.at + 1))),
    )
