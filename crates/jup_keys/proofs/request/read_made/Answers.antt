use Rattle.jup_keys.proofs.Readings.{uncut_made, no_key_made, no_source_made}
use Rattle.jup_keys.proofs.request.read_made.Goals as goal

pub returns-in_err-key : goal.returns-in_err-key
returns-in_err-key c = rw c.from_residual.ensures (uncut_made c.args.fields.now c.in_err-key.ensures)

pub returns-in_err-read : goal.returns-in_err-read
returns-in_err-read c = rw c.from_residual-in_err-read.ensures (no_key_made c.args.fields.now c.in_ok-key.key.now c.in_ok-key.source.now c.in_ok-key.ensures c.in_err-read.ensures)

pub returns-in_err-read_source : goal.returns-in_err-read_source
returns-in_err-read_source c = rw c.from_residual-in_err-read_source.ensures (no_source_made c.args.fields.now c.in_ok-key.key.now c.in_ok-key.source.now c.in_ok-key.ensures c.in_err-read_source.ensures)
