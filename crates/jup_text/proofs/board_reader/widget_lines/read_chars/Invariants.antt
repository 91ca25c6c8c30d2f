use Rattle.std.proofs.Common.{length, map}
use Rattle.jup_text.specs.Boards.{AreNumbered}
use Rattle.jup_text.proofs.Quotes.{HasRead}
use Rattle.jup_text.proofs.board_reader.widget_lines.read_chars.Given as goal

-- the characters so far, and what follows them
abbrev pub invariant-loop-value : goal.invariant-loop-value
invariant-loop-value l = record {
  read : HasRead l.fn.text (map (λ item. item.value) l.items.items.items) l.rest;
  numbered : AreNumbered l.fn.last l.items.items.items l.items.last;
}

abbrev pub decreases-loop-value : goal.decreases-loop-value
decreases-loop-value l = length l.rest
