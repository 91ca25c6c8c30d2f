use Rattle.std.proofs.Common.{◌≢◌, ◌∷◌, [], rules}
use Rattle.jup_text.proofs.Quotes.{more_than_a_char}
use Rattle.jup_text.proofs.quoted.char_of.Goals as goal

pub returns-else-is_end : goal.returns-else-is_end
returns-else-is_end c =
    let no_end : c.in_ok-value.rest.now ≢ 34 ∷ [] = search rules in
    let front = c.in_ok-value.ensures.read in
    more_than_a_char c.args.word.now c.in_ok-behind_quote.field-0.now c.in_ok-value.rest.now c.in_ok-value.value c.in_ok-behind_quote.ensures front.0 front.1 no_end
