use Rattle.jup_http.proofs.TextLemmas.{text_is_taken}
use Rattle.jup_http.proofs.laws.utf8_is_taken.Goals as goal

pub returns : goal.returns
returns c bs text = text_is_taken bs text
