use Rattle.std.proofs.Common.{◌≡◌, take, drop}
use Rattle.jup_embed.specs.Views.{values_of}
use Rattle.jup_embed.proofs.board_view.copy_chars.Given as goal

-- so many characters from the place on were copied
abbrev pub invariant-loop-k : goal.invariant-loop-k
invariant-loop-k l = take l.k l.to ≡ take l.k (drop l.place (values_of l.text.items))
