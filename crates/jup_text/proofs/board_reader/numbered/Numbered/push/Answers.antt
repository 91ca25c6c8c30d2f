use Rattle.std.proofs.Common.{◌+◌, arith}
use Rattle.jup_text.proofs.BoardLines.{IsNumberedTo-insert}
use Rattle.jup_text.proofs.board_reader.numbered.Numbered.push.Goals as goal

-- the last number grows by one
pub invariant_of-self-2 : goal.invariant_of-self-2
invariant_of-self-2 g c = record {
  counted = rw (c.insert.ensures.items, c.reserve_one.ensures.items)
      (IsNumberedTo-insert c.args.self.now.last (c.args.self.now.last + 1) c.args.self.now.items.items c.len-place.result c.args.value c.args.self.now.counted (omega arith));
}
