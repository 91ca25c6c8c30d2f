-- What a user types, line by line.
use Rattle.std.specs.Prelude.{◌≡◌, ◌≢◌, ℕ, List, [], ◌∷◌, ◌++◌, Option, Bool, All}
use Rattle.jup_client.specs.Clients.{typed_on}

-- the line so far, the bytes that were read and are on no line yet, and whether the input has ended
pub record Typing : Type 0 where
  pub line : Option (List ℕ)
  pub rest : List ℕ
  pub over : Bool

abbrev pub typing : Option (List ℕ) → List ℕ → Bool → Typing
typing line rest over = record { line = line; rest = rest; over = over }

-- the line with these bytes after it
abbrev pub typed_all : Option (List ℕ) → List ℕ → Option (List ℕ)
typed_all line [] = line
typed_all line (byte ∷ bytes) = typed_all (typed_on line byte) bytes

-- bytes without a line feed
abbrev pub IsWithin : List ℕ → Type 0
IsWithin bytes = All (λ byte. byte ≢ 10) bytes

-- these bytes went to the line, in their order
pub record MovesOn (a : Typing) (bytes : List ℕ) (b : Typing) : Type 0 where
  pub within : IsWithin bytes
  pub line : b.line ≡ typed_all a.line bytes
  pub over : b.over ≡ a.over

-- the bytes up to the first line feed are the rest of the line, and those after it are kept
abbrev pub EndsLine : Typing → Typing → Type 0
EndsLine a b = (bytes : List ℕ) × (a.rest ≡ bytes ++ 10 ∷ b.rest) × MovesOn a bytes b

-- there is no line feed: all bytes are of the line
abbrev pub UsesUp : Typing → Typing → Type 0
UsesUp a b = (b.rest ≡ []) × MovesOn a a.rest b
