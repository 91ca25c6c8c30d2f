use Rattle.std.proofs.Common.{◌≡◌, ◌∷◌, ◌++◌, length}
use Rattle.jup_text.specs.Prelude.{IsLabelText, flat_map, AllByRecursion}
use Rattle.jup_text.specs.Words.{quoted}
use Rattle.jup_text.specs.Boards.{AreNumbered}
use Rattle.jup_text.proofs.board_reader.widget_lines.read_labels.Given as goal

-- the labels so far, and what follows them
abbrev pub invariant-loop-label : goal.invariant-loop-label
invariant-loop-label l = record {
  read : l.fn.labels ≡ flat_map (λ item. 32 ∷ quoted item.value) l.items.items.items ++ l.rest;
  numbered : AreNumbered l.fn.last l.items.items.items l.items.last;
  texts : AllByRecursion (λ item. IsLabelText item.value) l.items.items.items;
}

abbrev pub decreases-loop-label : goal.decreases-loop-label
decreases-loop-label l = length l.rest
