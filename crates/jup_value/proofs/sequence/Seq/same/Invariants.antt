use Rattle.std.proofs.Common.{◌≡◌}
use Rattle.jup_value.proofs.sequence.Seq.same.Given as goal

-- the sequences are equal exactly if what is left of them is
abbrev pub invariant-loop-item : goal.invariant-loop-item
invariant-loop-item g l = record {
  from_rest : l.item-iterator ≡ l.others → l.self.items ≡ l.other.items;
  to_rest : l.self.items ≡ l.other.items → l.item-iterator ≡ l.others;
}
