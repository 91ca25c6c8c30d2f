use Rattle.jup_keys.proofs.KeyringReadings.{uncut_lower, no_edit, no_read}
use Rattle.jup_keys.proofs.lines.read_lower.Goals as goal

pub returns-in_err-edit : goal.returns-in_err-edit
returns-in_err-edit c = rw c.from_residual.ensures (uncut_lower c.args.lines.now c.in_err-edit.ensures)

pub returns-in_err-read_line : goal.returns-in_err-read_line
returns-in_err-read_line c = rw c.from_residual-in_err-read_line.ensures (no_edit c.args.lines.now c.in_ok-edit.edit.now c.in_ok-edit.read.now c.in_ok-edit.ensures c.in_err-read_line.ensures)

pub returns-in_err-read_line-2 : goal.returns-in_err-read_line-2
returns-in_err-read_line-2 c = rw c.from_residual-in_err-read_line-2.ensures (no_read c.args.lines.now c.in_ok-edit.edit.now c.in_ok-edit.read.now c.in_ok-edit.ensures c.in_err-read_line-2.ensures)
