-- How much of a layout is read.
use Rattle.std.proofs.Common.{◌≡◌, ◌∙◌, ap, ℕ, List, [], ◌++◌, Option, Some, None, arith, ◌+◌, ◌≤◌, length, take, IfSome, option_map}
use Rattle.std.proofs.lemmas.List.{take_all, length-take}

-- one more byte than a layout may have is asked for: if fewer came they are all
pub read_whole : (most limit : ℕ) (remaining : Option (List ℕ)) (before text : List ℕ) → limit ≡ most + 1 → before ≡ [] → IfSome (option_map (take limit) remaining) (λ bytes. text ≡ before ++ bytes)
    → length text ≤ most → IfSome remaining (λ bytes. text ≡ bytes)
read_whole most limit None before text asked none read short = tt
read_whole most limit (Some bytes) before text asked none read short =
    let is : text ≡ take limit bytes = read ∙ ap (λ (l : List ℕ). l ++ take limit bytes) none in
    is ∙ take_all limit bytes (omega (arith, ap length is, length-take limit bytes, asked))
