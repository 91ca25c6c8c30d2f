use Rattle.std.proofs.Common.{◌≡◌, ◌≢◌, rules, codes}
use Rattle.jup_board.proofs.Texts.{listening, uncut_listening, unspaced_listening, other_word}
use Rattle.jup_board.proofs.heading.behind_listening.Goals as goal

pub returns-in_err-line : goal.returns-in_err-line
returns-in_err-line c = rw c.from_residual.ensures (uncut_listening c.args.text.now c.in_err-line.ensures)

pub returns-in_err-word : goal.returns-in_err-word
returns-in_err-word c =
    let cut = c.in_ok-line.ensures in
    rw c.from_residual-in_err-word.ensures (unspaced_listening c.args.text.now c.in_ok-line.line.now c.in_ok-line.rest.now cut.1 cut.0 c.in_err-word.ensures)

pub returns-then-eq : goal.returns-then-eq
returns-then-eq c =
    let kind : c.in_ok-word.word.now ≡ codes "listening" = search rules in
    let cut = c.in_ok-line.ensures in
    listening c.args.text.now c.in_ok-line.line.now c.in_ok-word.word.now c.in_ok-word._address.now c.in_ok-line.rest.now cut.1 cut.0 c.in_ok-word.ensures.1 kind

pub returns : goal.returns
returns c =
    let other : c.in_ok-word.word.now ≢ codes "listening" = search rules in
    let cut = c.in_ok-line.ensures in
    other_word c.args.text.now c.in_ok-line.line.now c.in_ok-line.rest.now c.in_ok-word.word.now c.in_ok-word._address.now cut.1 cut.0 c.in_ok-word.ensures.1 c.in_ok-word.ensures.0 other
