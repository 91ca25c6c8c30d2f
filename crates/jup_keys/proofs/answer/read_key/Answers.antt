use Rattle.jup_keys.proofs.Readings.{uncut_key, no_right_key, no_key_key}
use Rattle.jup_keys.proofs.answer.read_key.Goals as goal

pub returns-in_err-right : goal.returns-in_err-right
returns-in_err-right c = rw c.from_residual.ensures (uncut_key c.args.fields.now c.in_err-right.ensures)

pub returns-in_err-read : goal.returns-in_err-read
returns-in_err-read c = rw c.from_residual-in_err-read.ensures (no_right_key c.args.fields.now c.in_ok-right.right.now c.in_ok-right.key.now c.in_ok-right.ensures c.in_err-read.ensures)

pub returns-in_err-read-2 : goal.returns-in_err-read-2
returns-in_err-read-2 c = rw c.from_residual-in_err-read-2.ensures (no_key_key c.args.fields.now c.in_ok-right.right.now c.in_ok-right.key.now c.in_ok-right.ensures c.in_err-read-2.ensures)
