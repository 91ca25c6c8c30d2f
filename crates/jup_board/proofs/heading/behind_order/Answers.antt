use Rattle.std.proofs.Common.{◌≡◌, ◌≢◌, rules, codes}
use Rattle.jup_board.proofs.Texts.{order, uncut_order, unspaced_order, no_number, other_order}
use Rattle.jup_board.proofs.heading.behind_order.Goals as goal

pub returns-in_err-line : goal.returns-in_err-line
returns-in_err-line c = rw c.from_residual.ensures (uncut_order c.args.text.now c.in_err-line.ensures)

pub returns-in_err-word : goal.returns-in_err-word
returns-in_err-word c =
    let cut = c.in_ok-line.ensures in
    rw c.from_residual-in_err-word.ensures (unspaced_order c.args.text.now c.in_ok-line.line.now c.in_ok-line.rest.now cut.1 cut.0 c.in_err-word.ensures)

pub returns-in_err-_edits : goal.returns-in_err-_edits
returns-in_err-_edits c =
    let cut = c.in_ok-line.ensures in
    rw c.from_residual-in_err-_edits.ensures
    (no_number c.args.text.now c.in_ok-line.line.now c.in_ok-line.rest.now c.in_ok-word.word.now c.in_ok-word.number.now cut.1 cut.0 c.in_ok-word.ensures.1 c.in_ok-word.ensures.0 c.in_err-_edits.ensures)

pub returns-then-eq : goal.returns-then-eq
returns-then-eq c =
    let kind : c.in_ok-word.word.now ≡ codes "order" = search rules in
    let read = c.in_ok-_edits.ensures in
    order c.args.text.now c.in_ok-line.line.now c.in_ok-word.word.now c.in_ok-word.number.now c.in_ok-line.rest.now c.in_ok-_edits._edits c.in_ok-line.ensures.1 c.in_ok-word.ensures.1 kind read.0 read.1

pub returns : goal.returns
returns c =
    let other : c.in_ok-word.word.now ≢ codes "order" = search rules in
    let cut = c.in_ok-line.ensures in
    other_order c.args.text.now c.in_ok-line.line.now c.in_ok-line.rest.now c.in_ok-word.word.now c.in_ok-word.number.now cut.1 cut.0 c.in_ok-word.ensures.1 c.in_ok-word.ensures.0 other
