use Rattle.std.proofs.Common.{◌≡◌, ℕ, List, ◌++◌, map, flat_map}
use Rattle.std.specs.Fmt.{HasWritten, IsPlainFormatter}
use Rattle.jup_text.specs.Words.{quoted_char}
use Rattle.jup_text.proofs.quoted.QuotedDisplay.fmt.Given as goal

-- what was written since the quote, and the items that are left
abbrev pub invariant-loop-item : goal.invariant-loop-item
invariant-loop-item g l =
    IsPlainFormatter l.initial.f → (done : List ℕ) × HasWritten g.W.Write.write_str_gives l.initial.f (flat_map quoted_char done) l.f
    × (done ++ map (λ item. item.value) l.item-iterator ≡ map (λ item. item.value) l.fn.self.0.now.items)
