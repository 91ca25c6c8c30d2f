use Rattle.jup_text.proofs.Quotes.{IsHexOf}
use Rattle.jup_text.proofs.quoted.read_hexadecimal.Given as goal

abbrev pub invariant-loop-digit : goal.invariant-loop-digit
invariant-loop-digit l = IsHexOf l.digits l.digit-index l.value
