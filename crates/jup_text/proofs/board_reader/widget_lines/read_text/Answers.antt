use Rattle.std.proofs.Common.{rules}
use Rattle.jup_text.specs.Words.{quoted}
use Rattle.jup_text.proofs.BoardLines.{behind_id}
use Rattle.jup_text.proofs.board_reader.widget_lines.read_text.Goals as goal

pub returns-in_default-clause-every : goal.returns-in_default-clause-every
returns-in_default-clause-every c = λ wid chars id held same. absurd (c.in_default.ensures.none wid (quoted chars) id same)

pub returns-in_err-chars-clause-every : goal.returns-in_err-chars-clause-every
returns-in_err-chars-clause-every c = λ wid chars id held same.
    let read = c.in-Some.ensures.read in
    let missing = c.in_err-chars.ensures.every chars held (behind_id c.args.rest.now c.in-Some.text.now (quoted chars) c.in-Some.wid wid read.0 id read.1 same) in
    search rules
