-- How long a peer that takes nothing is waited for.
use Rattle.std.specs.Prelude.{◌≡◌, ◌⊎◌, ℕ, Result, Ok, Err}
use Rattle.std.specs.IoError.{error_kind}
use Rattle.std.specs.declared.io.ErrorKind.{ErrorKind}
use Rattle.std.specs.declared.io.ErrorKind.TheVariants.{TimedOut, WouldBlock}
use Rattle.jup_io.specs.declared.patience.Unwritten.{Unwritten}
use Rattle.jup_io.specs.declared.patience.Unwritten.TheVariants.{Again, Lost}

-- how many waits in a row a peer is given in which it takes nothing, and how many it has had since it last took a byte
pub record Waiting : Type 0 where
  pub most : ℕ
  pub waited : ℕ

abbrev pub waiting : ℕ → ℕ → Waiting
waiting most waited = record { most = most; waited = waited }

-- a read or a write that waited for as long as its socket lets it
abbrev pub IsWait : ErrorKind → Type 0
IsWait kind = (kind ≡ WouldBlock) ⊎ (kind ≡ TimedOut)

-- the peer is to be given up, by a failure of this kind
abbrev pub IsLostBy : ErrorKind → Result ℕ Unwritten → Type 0
IsLostBy kind (Ok taken) = ⊥
IsLostBy kind (Err Again) = ⊥
IsLostBy kind (Err (Lost error)) = error_kind error ≡ kind
