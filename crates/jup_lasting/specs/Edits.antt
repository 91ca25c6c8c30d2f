-- How many edits lines of the client have. The first line of an edit is its `batch` line, and the others are `do` lines.
use Rattle.std.specs.Prelude.{ℕ, ◌+◌, Bool, true, false, List, [], ◌∷◌, codes, nat_eq}
use Rattle.std.specs.List.{starts_with}
use Rattle.jup_resume.specs.Texts.{Text}

abbrev pub begins_edit : Text → Bool
begins_edit text = starts_with nat_eq text (codes "batch ")

abbrev pub goes_on : Text → Bool
goes_on text = starts_with nat_eq text (codes "do ")

abbrev pub one_if : Bool → ℕ
one_if true = 1
one_if false = 0

-- how many edits begin among lines
abbrev pub edits_begun : List Text → ℕ
edits_begun [] = 0
edits_begun (text ∷ texts) = one_if (begins_edit text) + edits_begun texts

-- how many edits have lines among these: those that begin there, and the one of which the first is a later line
abbrev pub edits_among : List Text → ℕ
edits_among [] = 0
edits_among (text ∷ texts) = edits_begun (text ∷ texts) + one_if (goes_on text)
