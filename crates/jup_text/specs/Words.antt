-- The words of texts, and texts in quotes.
use Rattle.std.specs.Prelude.{◌==◌, ℕ, false, ◌||◌, ◌&&◌, nat_le, if◌then◌else◌, List, [], ◌∷◌, ◌++◌, ◌≢◌, decimal}
use Rattle.std.specs.Char.{IsScalar}
use Rattle.std.specs.Fmt.{digits}
use Rattle.std.specs.List.{flat_map, AllByRecursion}
use Rattle.jup_value.specs.declared.names.Name.{Name}

-- Texts in double quotes: each has one spelling.

-- the number in lower case hexadecimal, with no leading zero
abbrev pub hexadecimal : ℕ → List ℕ
hexadecimal = digits 16 false

-- a character between quotes: a quote or a backslash after a backslash, any other from a space to `~` itself, every other as `\u{H}`, H its number
unfoldable pub quoted_char : ℕ → List ℕ
quoted_char c =
    if c == 34 || c == 92 then 92 ∷ c ∷ []
    else (if nat_le 32 c && nat_le c 126 then c ∷ [] else 92 ∷ 117 ∷ 123 ∷ hexadecimal c ++ 125 ∷ [])

-- a text in quotes
abbrev pub quoted : List ℕ → List ℕ
quoted chars = 34 ∷ flat_map quoted_char chars ++ 34 ∷ []

-- each is the code of a `char`
abbrev pub AreScalars : List ℕ → Type 0
AreScalars chars = AllByRecursion IsScalar chars

-- Words that commands, edits and boards share.

-- no byte is a space
abbrev pub IsWord : List ℕ → Type 0
IsWord bytes = AllByRecursion (λ byte. byte ≢ 32) bytes

-- a name: its site, a dot, its number
abbrev pub name_text : Name → List ℕ
name_text name = decimal name.site ++ 46 ∷ decimal name.number
