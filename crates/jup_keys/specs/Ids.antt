-- The IDs of boards.
use Rattle.std.specs.Prelude.{◌≡◌, ◌⊎◌, ℕ, ◌≤◌, List, All, length}

-- `a` to `z`, or `2` to `7`
abbrev pub IsIdLetter : ℕ → Type 0
IsIdLetter byte = ((97 ≤ byte) × (byte ≤ 122)) ⊎ ((50 ≤ byte) × (byte ≤ 55))

-- the spelling of an ID: 12 letters
pub record IsIdText (text : List ℕ) : Type 0 where
  pub long : length text ≡ 12
  pub letters : All IsIdLetter text
