use Rattle.std.proofs.Common.{rules}
use Rattle.jup_number.proofs.Numbers.{none_by_nothing, none_by_zeros, digits_read}
use Rattle.jup_number.proofs.read_number.Goals as goal

pub returns-then-is_empty : goal.returns-then-is_empty
returns-then-is_empty c = none_by_nothing c.args.digits.now (search rules)

pub returns-then-digits-gt1 : goal.returns-then-digits-gt1
returns-then-digits-gt1 c = none_by_zeros c.args.digits.now c.if-digits-eq48.true c.if-digits-gt1.true

pub returns : goal.returns
returns c = digits_read c.args.digits.now _ (search rules) (search rules) c.value_of.ensures
