-- Which carrier a link has.
use Rattle.std.specs.Prelude.{◌≡◌, ℕ, ◌+◌, ◌-◌, ◌%◌, ◌^◌, ◌<◌, Bool, true, false, Option, Some, None, IsSomeAnd}

pub record Carrying : Type 0 where
  pub number : ℕ  -- of the present carrier, or of the last one
  pub is_there : Bool
  pub has_ended : Bool  -- whether the client's bytes have ended on it
  pub since : Option ℕ  -- from when the link waits for a carrier, or the last line was written to the one that is there

-- the first carrier opened the link
abbrev pub first_carrier : Carrying
first_carrier = record { number = 1; is_there = true; has_ended = false; since = None }

-- this carrier carries the link now
abbrev pub IsPresent : ℕ → Carrying → Type 0
IsPresent number c = (c.is_there ≡ true) × (c.number ≡ number)

-- another carrier has taken the link
abbrev pub after_taking_over : Carrying → Carrying
after_taking_over c = record { number = (c.number + 1) % 2 ^ 64; is_there = true; has_ended = false; since = None }

-- the carrier is gone, and the link waits from then on
abbrev pub after_losing : ℕ → Carrying → Carrying
after_losing now c = record c { is_there = false; since = Some now }

-- The link has waited for so many milliseconds. Both times are whole ones, so more than these have to lie between them.
abbrev pub HasWaited : ℕ → ℕ → Carrying → Type 0
HasWaited now most c = IsSomeAnd c.since (λ since. most < now - since)
