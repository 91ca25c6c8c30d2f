use Rattle.std.proofs.Common.{◌≡◌, ◌+◌, ◌^◌, ◌<◌, List, ℕ, get_or, drop, Some, sym, ap, ◌∙◌, arith}
use Rattle.jup_wire.specs.Fields.{with_rest}
use Rattle.jup_wire.proofs.Spellings.{range_from}
use Rattle.jup_wire.proofs.Streams.{numeral_none, numeral_zeros, numeral_is}
use Rattle.jup_wire.proofs.fields.numeral_before.Goals as goal
use Rattle.jup_wire.proofs.fields.numeral_before.Goals.{else-bytes-eq48-via-then-bytes-eq48+else-at-gt1, else-bytes-eq48-via-else-bytes-eq48}

pub returns-then-at-eq0 : goal.returns-then-at-eq0
returns-then-at-eq0 c = ap (with_rest (drop (c.args.at + 1) c.args.bytes.now)) (numeral_none c.args.bytes.now c.args.at c.requires.within c.if-at-eq0.true)

pub returns-then-at-gt1 : goal.returns-then-at-gt1
returns-then-at-gt1 c = ap (with_rest (drop (c.args.at + 1) c.args.bytes.now)) (numeral_zeros c.args.bytes.now c.args.at c.requires.within c.if-bytes-eq48.true c.if-at-gt1.true)

pub returns : goal.returns
returns c =
    let one : get_or c.args.bytes.now 0 0 ≡ 48 → c.args.at ≡ 1 =
    elim c.else-bytes-eq48.branch [
      | else-bytes-eq48-via-then-bytes-eq48+else-at-gt1 w ↦ λ zero_first. let few = w.if-at-gt1.false in let some = c.if-at-eq0.false in omega (arith, few, some)
      | else-bytes-eq48-via-else-bytes-eq48 w ↦ λ zero_first. absurd (w.if-bytes-eq48.false zero_first)
    ] in
    let small : c.args.value < 2 ^ 32 = omega arith in
    ap (with_rest (drop (c.args.at + 1) c.args.bytes.now)) (numeral_is c.args.bytes.now c.args.at c.args.value c.requires.within c.if-at-eq0.false one (c.requires.digits, c.requires.value, small))
    ∙ ap (λ (t : List ℕ). Some (c.args.value, t)) (sym (range_from c.args.bytes.now (c.args.at + 1)))
