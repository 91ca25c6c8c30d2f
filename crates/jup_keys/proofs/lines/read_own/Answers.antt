use Rattle.jup_keys.proofs.KeyringReadings.{own_read}
use Rattle.jup_keys.proofs.lines.read_own.Goals as goal

pub returns : goal.returns
returns c = own_read c.args.line.now c.in_ok-behind.field-0.now _ c.in_ok-behind.ensures c.read.ensures
