-- Numbers, and their one spelling.
use Rattle.std.specs.Prelude.{ℕ, ◌^◌, ◌<◌, ℤ, FitsSigned, ◌≡◌, ◌≢◌, List, Option, Some, None}
use Rattle.std.specs.Int.{w32}

-- The ranges of numbers.

abbrev pub IsU32 : ℕ → Type 0
IsU32 n = n < 2 ^ 32

abbrev pub IsInt : ℤ → Type 0
IsInt z = FitsSigned w32 z

-- What is read is what the bytes spell, and nothing else.

-- the bytes are the text of the value that was read, which is in its range; with none read, they are the text of no such value
abbrev pub IsReadingOf : {A : Type 0} → (A → List ℕ) → (A → Type 0) → List ℕ → Option A → Type 0
IsReadingOf text IsIn bytes (Some value) = IsIn value × (bytes ≡ text value)
IsReadingOf {A = A} text IsIn bytes None = (value : A) → IsIn value → bytes ≢ text value
