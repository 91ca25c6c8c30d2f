use Rattle.jup_keys.proofs.KeyringReadings.{line_read}
use Rattle.jup_keys.proofs.lines.read_line.Goals as goal

pub returns : goal.returns
returns c = line_read c.args.heading.now c.args.line.now c.in_ok-behind.field-0.now _ c.in_ok-behind.ensures c.read_numbered.ensures
