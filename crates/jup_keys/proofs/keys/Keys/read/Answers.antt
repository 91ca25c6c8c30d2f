use Rattle.jup_keys.proofs.KeyringReadings.{no_feed, keyring_read}
use Rattle.jup_keys.proofs.keys.Keys.read.Goals as goal

pub returns-in_err-before : goal.returns-in_err-before
returns-in_err-before c = rw c.from_residual.ensures (no_feed c.args.text.now c.in_err-before.ensures)

pub returns : goal.returns
returns c = keyring_read c.args.text.now c.in_ok-before.field-0.now _ c.in_ok-before.ensures c.read_lines.ensures
