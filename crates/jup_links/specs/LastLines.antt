-- The lines by which a server ends a link.
use Rattle.std.specs.Prelude.{◌≢◌, ℕ, List, ◌++◌, codes, decimal}
use Rattle.jup_number.specs.Numbers.{IsU32}
use Rattle.jup_links.specs.declared.last_line.LastLine.{LastLine}
use Rattle.jup_links.specs.declared.last_line.LastLine.TheVariants.{Bye, Error}

-- its one spelling, without its line feed
abbrev pub last_text : LastLine → List ℕ
last_text Bye = codes "bye"
last_text (Error number) = codes "error " ++ decimal number

-- a last line that can be spelled
abbrev pub IsLast : LastLine → Type 0
IsLast Bye = Unit {0}
IsLast (Error number) = IsU32 number

-- the text is none
abbrev pub IsNoLast : List ℕ → Type 0
IsNoLast text = (last : LastLine) → IsLast last → text ≢ last_text last
