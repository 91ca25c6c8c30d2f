use Rattle.jup_keys.proofs.Readings.{uncut_make, no_id_make, no_made_make}
use Rattle.jup_keys.proofs.request.read_make.Goals as goal

pub returns-in_err-id : goal.returns-in_err-id
returns-in_err-id c = rw c.from_residual.ensures (uncut_make c.args.fields.now c.in_err-id.ensures)

pub returns-in_err-id-2 : goal.returns-in_err-id-2
returns-in_err-id-2 c = rw c.from_residual-in_err-id-2.ensures (no_id_make c.args.fields.now c.in_ok-id.id.now c.in_ok-id.made.now c.in_ok-id.ensures c.in_err-id-2.ensures)

pub returns-in_err-key : goal.returns-in_err-key
returns-in_err-key c = rw c.from_residual-in_err-key.ensures (no_made_make c.args.fields.now c.in_ok-id.id.now c.in_ok-id.made.now c.in_ok-id.ensures c.in_err-key.ensures)
