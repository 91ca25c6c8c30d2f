use Rattle.std.proofs.Common.{sym, ◌∙◌, rules, decimal}
use Rattle.jup_text.proofs.CommandWords.{id_word}
use Rattle.jup_text.proofs.BoardLines.{same_fronts, labels_end, spaced_labels}
use Rattle.jup_text.proofs.board_reader.widget_lines.read_list.Goals as goal

pub returns-in_default-clause-every : goal.returns-in_default-clause-every
returns-in_default-clause-every c = λ wid labels id held same.
    let split = c.split_word.ensures in
    let parts = same_fronts c.split_word.result.0.now (decimal wid) c.split_word.result.1.now (spaced_labels labels) split.word (id_word wid id) split.behind (labels_end labels) (sym split.parts ∙ same) in
    absurd (c.in_default.ensures wid id parts.0)

pub returns-in_err-labels-clause-every : goal.returns-in_err-labels-clause-every
returns-in_err-labels-clause-every c = λ wid labels id held same.
    let split = c.split_word.ensures in
    let parts = same_fronts c.split_word.result.0.now (decimal wid) c.split_word.result.1.now (spaced_labels labels) split.word (id_word wid id) split.behind (labels_end labels) (sym split.parts ∙ same) in
    let missing = c.in_err-labels.ensures.every labels held parts.1 in
    search rules
