use Rattle.std.proofs.Common.{◌≡◌, true, take}
use Rattle.jup_number.proofs.Numbers.{IsValueOf}
use Rattle.jup_wire.proofs.Spellings.{lacks}
use Rattle.jup_wire.proofs.fields.number_before.Given as goal

-- the digits so far, none of which is the separator, and what they write
abbrev pub invariant-loop-at : goal.invariant-loop-at
invariant-loop-at l = record {
  open_ended : lacks l.separator (take l.at l.bytes) ≡ true;
  value : IsValueOf (take l.at l.bytes) l.value;
}
