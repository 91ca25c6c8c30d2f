-- Lines as bytes.
use Rattle.std.specs.Prelude.{◌≡◌, ◌≢◌, ℕ, List, [], ◌∷◌, ◌++◌}
use Rattle.std.specs.List.{AllByRecursion}

-- no byte is this one
abbrev pub Lacks : ℕ → List ℕ → Type 0
Lacks byte bytes = AllByRecursion (λ b. b ≢ byte) bytes

-- the bytes of a line without its line feed, 10
abbrev pub Text : Type 0
Text = List ℕ

-- no line feed is in a text
abbrev pub HasNoFeed : Text → Type 0
HasNoFeed text = Lacks 10 text

-- the bytes of a line
abbrev pub spelled : Text → List ℕ
spelled text = text ++ 10 ∷ []

-- bytes as they are cut at the first separator in them: what is before it, and what is after it
pub record IsCut (separator : ℕ) (bytes before behind : List ℕ) : Type 0 where
  pub first : Lacks separator before
  pub whole : bytes ≡ before ++ separator ∷ behind
