use Rattle.std.proofs.Common.{◌≢◌, [], sym, ◌∙◌, append-nil, rules}
use Rattle.jup_text.specs.Words.{quoted}
use Rattle.jup_text.proofs.Quotes.{one_label}
use Rattle.jup_text.proofs.quoted.label_of.Goals as goal

pub returns-else-is_empty : goal.returns-else-is_empty
returns-else-is_empty c =
    let more : c.in-Some.rest.now ≢ [] = search rules in
    let read = c.in-Some.ensures.read in
    one_label c.args.word.now c.in-Some.label c.in-Some.rest.now read.0 read.1 more

pub returns-in_default : goal.returns-in_default
returns-in_default c label is same = c.in_default.ensures.none label [] is (same ∙ sym (append-nil (quoted label)))
