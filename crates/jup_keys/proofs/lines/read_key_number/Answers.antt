use Rattle.jup_keys.proofs.KeyringReadings.{none_zero}
use Rattle.jup_keys.proofs.lines.read_key_number.Goals as goal

pub returns-then-number-eq0 : goal.returns-then-number-eq0
returns-then-number-eq0 c = none_zero c.args.digits.now c.in_ok-number.number c.if-number-eq0.true c.in_ok-number.ensures
