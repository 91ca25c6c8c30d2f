-- Changes of a link, and the threads that wait for them.
use Rattle.std.specs.Prelude.{Bool, ◌||◌}

pub record Concerns : Type 0 where
  pub session : Bool
  pub carriers : Bool

abbrev pub concerns : Bool → Bool → Concerns
concerns session carriers = record { session = session; carriers = carriers }

-- those whom one of two changes concerns
abbrev pub both : Concerns → Concerns → Concerns
both one other = concerns (one.session || other.session) (one.carriers || other.carriers)
