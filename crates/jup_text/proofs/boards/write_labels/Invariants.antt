use Rattle.std.proofs.Common.{◌≡◌, ◌∷◌, ◌++◌, List, ℕ}
use Rattle.std.specs.Fmt.{HasWritten, IsPlainFormatter}
use Rattle.jup_text.specs.Prelude.{Item, flat_map}
use Rattle.jup_text.specs.Words.{quoted}
use Rattle.jup_text.proofs.boards.write_labels.Given as goal

-- the labels so far are written, and the items that are left
abbrev pub invariant-loop-item : goal.invariant-loop-item
invariant-loop-item g l =
    IsPlainFormatter l.initial.f → (done : List (Item (List ℕ))) × HasWritten g.W.Write.write_str_gives l.initial.f (flat_map (λ item. 32 ∷ quoted item.value) done) l.f
    × (done ++ l.item-iterator ≡ l.fn.list.items)
