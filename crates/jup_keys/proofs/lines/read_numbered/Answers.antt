use Rattle.jup_keys.proofs.KeyringReadings.{uncut_numbered, no_number, no_hash}
use Rattle.jup_keys.proofs.lines.read_numbered.Goals as goal

pub returns-in_err-number : goal.returns-in_err-number
returns-in_err-number c = rw c.from_residual.ensures (uncut_numbered c.args.fields.now c.in_err-number.ensures)

pub returns-in_err-read_key_number : goal.returns-in_err-read_key_number
returns-in_err-read_key_number c = rw c.from_residual-in_err-read_key_number.ensures (no_number c.args.fields.now c.in_ok-number.number.now c.in_ok-number.hash.now c.in_ok-number.ensures c.in_err-read_key_number.ensures)

pub returns-in_err-read : goal.returns-in_err-read
returns-in_err-read c = rw c.from_residual-in_err-read.ensures (no_hash c.args.fields.now c.in_ok-number.number.now c.in_ok-number.hash.now c.in_ok-number.ensures c.in_err-read.ensures)
