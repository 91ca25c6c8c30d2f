use Rattle.std.proofs.Common.{◌≢◌, ◌<◌, ℕ, List, None, Some, length, get_or, drop, subst, rules}
use Rattle.std.specs.Prelude.{decimal}
use Rattle.jup_number.specs.Numbers.{IsU32, IsReadingOf}
use Rattle.jup_number.proofs.Numbers.{read_from_zero, none_below_zero, read_below_zero, range_from}
use Rattle.jup_number.proofs.read_integer.Goals as goal
use Rattle.jup_number.proofs.read_integer.Goals.{then-is_empty-via-then-is_empty, then-is_empty-via-else-is_empty+then-bytes-ne45}

pub returns-then-is_empty : goal.returns-then-is_empty
returns-then-is_empty c =
    let plain : 0 < length c.args.bytes.now → get_or c.args.bytes.now 0 0 ≢ 45 =
    elim c.then-is_empty.branch [
      | then-is_empty-via-then-is_empty w ↦ λ some. absurd (search rules)
      | then-is_empty-via-else-is_empty+then-bytes-ne45 w ↦ λ some. w.if-bytes-ne45.true
    ] in
    read_from_zero c.args.bytes.now _ _ plain c.in_ok-read_number.ensures c.from_zero.ensures

pub returns-in_err-read_number-2 : goal.returns-in_err-read_number-2
returns-in_err-read_number-2 c =
    let some : 0 < length c.args.bytes.now = search rules in
    let none : IsReadingOf decimal IsU32 (drop 1 c.args.bytes.now) None =
    subst (λ (ds : List ℕ). IsReadingOf decimal IsU32 ds None) (range_from c.args.bytes.now 1) c.in_err-read_number-2.ensures in
    rw c.from_residual-in_err-read_number-2.ensures (none_below_zero c.args.bytes.now some c.if-bytes-ne45.false none)

pub returns : goal.returns
returns c =
    let some : 0 < length c.args.bytes.now = search rules in
    read_below_zero c.args.bytes.now _ _ some c.if-bytes-ne45.false
    (subst (λ (ds : List ℕ). IsReadingOf decimal IsU32 ds (Some c.in_ok-read_number-2.field-0)) (range_from c.args.bytes.now 1) c.in_ok-read_number-2.ensures)
    c.below_zero.ensures
