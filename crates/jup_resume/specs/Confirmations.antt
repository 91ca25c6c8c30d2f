-- When an end confirms the lines that it has taken.
use Rattle.std.specs.Prelude.{◌≡◌, ◌⊎◌, ℕ, ◌+◌, ◌<◌, ◌≤◌, Bool, true, false}

-- how many lines are taken before they are confirmed
abbrev pub most_unconfirmed : ℕ
most_unconfirmed = 64

-- for how many seconds an end hands nothing to a connection before it confirms again
abbrev pub longest_quiet : ℕ
longest_quiet = 60

pub record Confirmation : Type 0 where
  pub taken : ℕ  -- how many lines are taken for good
  pub told : ℕ  -- how many of them the last `got` on this carrier confirmed
  pub quiet : ℕ  -- for how many seconds nothing was handed to the connection
  pub is_owed : Bool  -- whether a `got` is owed, grown or not

-- the carrier that opened the link, before its first line
abbrev pub nothing_taken : Confirmation
nothing_taken = record { taken = 0; told = 0; quiet = 0; is_owed = false }

-- a `got` is to be written now
abbrev pub IsDue : Confirmation → Type 0
IsDue c = (c.is_owed ≡ true) ⊎ ((c.told + most_unconfirmed ≤ c.taken) ⊎ (longest_quiet ≤ c.quiet))

-- it is to be written before the last line
abbrev pub IsDueAtEnd : Confirmation → Type 0
IsDueAtEnd c = (c.is_owed ≡ true) ⊎ (c.told < c.taken)

-- it was written
abbrev pub after_telling : Confirmation → Confirmation
after_telling c = record c { told = c.taken; quiet = 0; is_owed = false }

-- a new carrier carries the link
abbrev pub after_beginning : Confirmation → Confirmation
after_beginning c = record c { quiet = 0; is_owed = true }
