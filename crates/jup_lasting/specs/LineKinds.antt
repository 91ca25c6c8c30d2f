-- What a line of the server means to the link that brings it.
use Rattle.std.specs.Prelude.{◌≡◌, ◌≢◌, ◌⊎◌, ℕ, List, ◌++◌, codes, decimal}
use Rattle.jup_number.specs.Numbers.{IsU32}
use Rattle.jup_lasting.specs.declared.line_kind.LineKind.{LineKind}
use Rattle.jup_lasting.specs.declared.line_kind.LineKind.TheVariants.{Ready, Last, Other}

-- the line by which a server reports a fault
abbrev pub error_text : ℕ → List ℕ
error_text number = codes "error " ++ decimal number

-- the line by which it says goodbye
abbrev pub bye_text : List ℕ
bye_text = codes "bye"

-- no line of the link comes after it
abbrev pub IsLast : List ℕ → Type 0
IsLast text = (text ≡ bye_text) ⊎ ((number : ℕ) × IsU32 number × (text ≡ error_text number))

abbrev pub IsOfKind : List ℕ → LineKind → Type 0
IsOfKind text Ready = text ≡ codes "ready"
IsOfKind text Last = IsLast text
IsOfKind text Other = (text ≢ codes "ready") × (text ≢ bye_text) × ((number : ℕ) → IsU32 number → text ≢ error_text number)
