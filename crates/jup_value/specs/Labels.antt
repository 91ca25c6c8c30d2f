-- The texts of labels.
use Rattle.std.specs.Prelude.{◌≡◌, ℕ, ◌≤◌, ◌-◌, List, ◌++◌, length, take, All, replicate}
use Rattle.jup_limits.specs.Limits.{longest_label}

-- a text of 1 to 48 bytes, each from a space to `~`
pub record IsLabelText (text : List ℕ) : Type 0 where
  pub some : 1 ≤ length text
  pub short : length text ≤ longest_label
  pub plain : All (λ byte. (32 ≤ byte) × (byte ≤ 126)) text

-- the text, followed by zeros up to 48 bytes
abbrev pub padded : List ℕ → List ℕ
padded text = text ++ replicate (longest_label - length text) 0

-- these are the fields of a label: a label's text of this length, and zeros after it
pub record AreLabelFields (len : ℕ) (bytes : List ℕ) : Type 0 where
  pub long : length (take len bytes) ≡ len
  pub zeros : padded (take len bytes) ≡ bytes
  pub text : IsLabelText (take len bytes)
