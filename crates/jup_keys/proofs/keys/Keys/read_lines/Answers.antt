use Rattle.jup_keys.proofs.KeyringReadings.{uncut_keyring, no_own, no_lower}
use Rattle.jup_keys.proofs.keys.Keys.read_lines.Goals as goal

pub returns-in_err-own : goal.returns-in_err-own
returns-in_err-own c = rw c.from_residual.ensures (uncut_keyring c.args.lines.now c.in_err-own.ensures)

pub returns-in_err-own-2 : goal.returns-in_err-own-2
returns-in_err-own-2 c = rw c.from_residual-in_err-own-2.ensures (no_own c.args.lines.now c.in_ok-own.own.now c.in_ok-own.lower.now c.in_ok-own.ensures c.in_err-own-2.ensures)

pub returns-in_err-edit : goal.returns-in_err-edit
returns-in_err-edit c = rw c.from_residual-in_err-edit.ensures (no_lower c.args.lines.now c.in_ok-own.own.now c.in_ok-own.lower.now c.in_ok-own.ensures c.in_err-edit.ensures)
