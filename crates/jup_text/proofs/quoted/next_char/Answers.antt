use Rattle.std.proofs.Common.{inl, inr, arith, rules}
use Rattle.jup_text.proofs.Quotes.{quote_not_read, plain_read, plain_scalar, front_not_read}
use Rattle.jup_text.proofs.quoted.next_char.Goals as goal
use Rattle.jup_text.proofs.quoted.next_char.Goals.{in_default-via-then-text-lt1, in_default-via-else-text-lt1+in_default+then-text-lt32, in_default-via-else-text-lt1+in_default+else-text-lt32+else-text-lt127}

pub returns-in-34-clause-none : goal.returns-in-34-clause-none
returns-in-34-clause-none c = quote_not_read c.args.text.now (omega arith) (omega arith)

pub returns-in-32-to-126-clause-read : goal.returns-in-32-to-126-clause-read
returns-in-32-to-126-clause-read c =
    (plain_scalar c.from.result (omega arith), plain_read c.args.text.now c.from.result (omega arith) (omega arith) (omega arith) (omega arith) (omega arith) (omega arith))

pub returns-in_default-clause-none : goal.returns-in_default-clause-none
returns-in_default-clause-none c =
    elim c.in_default.branch [
      | in_default-via-then-text-lt1 w ↦ front_not_read c.args.text.now (λ some. absurd (search rules))
      | in_default-via-else-text-lt1+in_default+then-text-lt32 w ↦ front_not_read c.args.text.now (λ some. inl (omega arith))
      | in_default-via-else-text-lt1+in_default+else-text-lt32+else-text-lt127 w ↦ front_not_read c.args.text.now (λ some. inr (omega arith))
    ]
