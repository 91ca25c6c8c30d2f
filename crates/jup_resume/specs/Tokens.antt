-- The tokens of links.
use Rattle.std.specs.Prelude.{◌≡◌, ◌⊎◌, ℕ, ◌≤◌, List, All, length}

-- `0` to `9`, or `a` to `f`
abbrev pub IsTokenDigit : ℕ → Type 0
IsTokenDigit byte = ((48 ≤ byte) × (byte ≤ 57)) ⊎ ((97 ≤ byte) × (byte ≤ 102))

-- the spelling of a token: 32 digits
pub record IsTokenText (text : List ℕ) : Type 0 where
  pub long : length text ≡ 32
  pub digits : All IsTokenDigit text
