use Rattle.jup_keys.proofs.Readings.{uncut_open, no_id_open, no_key_open}
use Rattle.jup_keys.proofs.request.read_open.Goals as goal

pub returns-in_err-id : goal.returns-in_err-id
returns-in_err-id c = rw c.from_residual.ensures (uncut_open c.args.fields.now c.in_err-id.ensures)

pub returns-in_err-read : goal.returns-in_err-read
returns-in_err-read c = rw c.from_residual-in_err-read.ensures (no_id_open c.args.fields.now c.in_ok-id.id.now c.in_ok-id.key.now c.in_ok-id.ensures c.in_err-read.ensures)

pub returns-in_err-read-2 : goal.returns-in_err-read-2
returns-in_err-read-2 c = rw c.from_residual-in_err-read-2.ensures (no_key_open c.args.fields.now c.in_ok-id.id.now c.in_ok-id.key.now c.in_ok-id.ensures c.in_err-read-2.ensures)
