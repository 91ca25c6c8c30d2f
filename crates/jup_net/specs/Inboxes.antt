-- What a link has brought, and its reader has not taken.
use Rattle.std.specs.Prelude.{ℕ, ◌*◌, List, Option, Some, None, Result, Ok, ◌≡◌, ◌≤◌, ◌-◌, [], ◌++◌, length, take, Bool, if◌then◌else◌, IsErrAnd}
use Rattle.std.specs.IoError.{error_kind}
use Rattle.std.specs.declared.io.Error.{Error}
use Rattle.std.specs.declared.io.ErrorKind.TheVariants.{Other}
use Rattle.jup_net.specs.declared.inbox.LinkEnd.{LinkEnd}
use Rattle.jup_net.specs.declared.inbox.LinkEnd.TheVariants.{Failed, Over}
use Rattle.jup_net.specs.declared.inbox.Given.{Given}
use Rattle.jup_net.specs.declared.inbox.Given.TheVariants.{Bytes, End}

-- bytes that may wait: 32 MiB
abbrev pub most_unread : ℕ
most_unread = 32 * 1048576

-- the bytes that wait, and how the link ended, if it has
abbrev pub Arrived : Type 0
Arrived = List ℕ × Option LinkEnd

-- What a reader is given: first the bytes that wait, at least one of them, in the order in which they came. Once there are none, it is
-- given how the link ended. It is given nothing only before the link has ended
abbrev pub AreGiven : Arrived → Arrived → List ℕ → Option Given → Type 0
AreGiven before behind buf (Some (Bytes len)) = (1 ≤ len) × (len ≤ length buf) × (before.0 ≡ take len buf ++ behind.0) × (behind.1 ≡ before.1)
AreGiven before behind buf (Some (End end)) = (before ≡ ([], Some end)) × (behind ≡ before)
AreGiven before behind buf None = (before ≡ ([], None)) × (behind ≡ before)

-- how many bytes these are
abbrev pub count_in : Given → ℕ
count_in (Bytes len) = len
count_in (End end) = 0

-- a read of what is given: a link that is over ends its bytes, and one that failed fails the read
abbrev pub IsReadOf : Given → Result ℕ Error → Type 0
IsReadOf (Bytes len) read = read ≡ Ok len
IsReadOf (End Over) read = read ≡ Ok 0
IsReadOf (End Failed) read = IsErrAnd read (λ error. error_kind error ≡ Other)

-- what a link has brought, and whether its reader has left
pub record Shared : Type 0 where
  pub arrived : Arrived
  pub left : Bool

abbrev pub shared : Arrived → Bool → Shared
shared arrived left = record { arrived = arrived; left = left }

-- how many bytes may be put: none ever more once the reader has left
abbrev pub room_in : Shared → Option ℕ
room_in s = if s.left then None else Some (most_unread - length s.arrived.0)
