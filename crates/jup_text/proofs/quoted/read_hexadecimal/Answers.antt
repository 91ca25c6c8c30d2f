use Rattle.std.proofs.Common.{◌≡◌, ◌<◌, ◌≤◌, inl, inr, arith, rules, length, lit<}
use Rattle.jup_text.proofs.Quotes.{one_more, no_more, all_read, zero_read, zeros_not_read, length_not_read, sum_small}
use Rattle.jup_text.proofs.quoted.read_hexadecimal.Goals as goal
use Rattle.jup_text.proofs.quoted.read_hexadecimal.Goals.{then-is_empty-via-then-is_empty, then-is_empty-via-else-is_empty+then-digits-gt6}

pub returns-then-is_empty : goal.returns-then-is_empty
returns-then-is_empty c n small =
    elim c.then-is_empty.branch [
      | then-is_empty-via-then-is_empty w ↦ let none : length c.args.digits.now ≡ 0 = search rules in length_not_read c.args.digits.now n (inl none) small
      | then-is_empty-via-else-is_empty+then-digits-gt6 w ↦ let long = w.if-digits-gt6.true in length_not_read c.args.digits.now n (inr long) small
    ]

pub returns-then-digits-eq1 : goal.returns-then-digits-eq1
returns-then-digits-eq1 c = (lit< tt, zero_read c.args.digits.now c.if-digits-eq1.true c.if-digits-eq48.true)

pub returns-else-digits-eq1 : goal.returns-else-digits-eq1
returns-else-digits-eq1 c n small = zeros_not_read c.args.digits.now n c.if-digits-eq1.false c.if-digits-eq48.true small

pub overflow_mul-value : goal.overflow_mul-value
overflow_mul-value c =
    let short : length c.args.digits.now ≤ 6 = omega arith in
    let most = sum_small c.args.digits.now c.loop-digit.digit-index c.loop-digit.value 0 short c.loop-digit-test.true c.loop-digit.invariant (lit< tt) in
    omega (arith, most)

pub overflow_add-value : goal.overflow_add-value
overflow_add-value c =
    let short : length c.args.digits.now ≤ 6 = omega arith in
    let most = sum_small c.args.digits.now c.loop-digit.digit-index c.loop-digit.value _ short c.loop-digit-test.true c.loop-digit.invariant c.in_ok-value.ensures.0 in
    omega (arith, most)

pub returns-in_err-value : goal.returns-in_err-value
returns-in_err-value c = rw c.from_residual.ensures
    (λ n small. no_more c.args.digits.now c.loop-digit.digit-index c.loop-digit.value n c.loop-digit-test.true c.if-digits-eq48.false c.in_err-value.ensures small)

pub loop-digit-preserved : goal.loop-digit-preserved
loop-digit-preserved c =
    one_more c.args.digits.now c.loop-digit.digit-index c.loop-digit.value _ c.loop-digit-test.true c.if-digits-eq48.false c.loop-digit.invariant c.in_ok-value.ensures.0 c.in_ok-value.ensures.1

pub returns : goal.returns
returns c =
    let some : 0 < length c.args.digits.now = search rules in
    let done = c.loop-digit-test.false in
    let short : length c.args.digits.now ≤ 6 = omega arith in
    let end = c.loop-digit.auto.digit-index-end in
    all_read c.args.digits.now c.loop-digit.digit-index c.loop-digit.value done (omega (arith, end, short)) (omega (arith, done, some)) c.loop-digit.invariant
