-- What a read of a link comes to.
use Rattle.std.specs.Prelude.{ℕ, List, Option, Result, Ok, Err, ◌≡◌, ◌≤◌, ◌⊎◌, take}
use Rattle.std.specs.Io.KnownBytes.{Consumes, Keeps, IsAtEnd}
use Rattle.std.specs.IoError.{error_kind}
use Rattle.std.specs.declared.io.Error.{Error}
use Rattle.std.specs.declared.io.ErrorKind.{ErrorKind}
use Rattle.std.specs.declared.io.ErrorKind.TheVariants.{Interrupted}
use Rattle.jup_io.specs.Patience.{IsWait}
use Rattle.jup_net.specs.declared.inbox.LinkEnd.TheVariants.{Failed, Over}
use Rattle.jup_net.specs.declared.draining.Came.{Came}
use Rattle.jup_net.specs.declared.draining.Came.TheVariants.{Bytes, End, Nothing}

-- a read that is made again: it was interrupted, or waited for as long as its link lets it
abbrev pub IsMadeAgain : ErrorKind → Type 0
IsMadeAgain kind = (kind ≡ Interrupted) ⊎ IsWait kind

-- What a read into a piece came to: the bytes that it put, or the end of the link if there are none. One that failed is made again, or ends the link
abbrev pub IsCame : Result ℕ Error → List ℕ → Came → Type 0
IsCame (Ok len) piece (Bytes bytes) = (1 ≤ len) × (bytes.now ≡ take len piece)
IsCame (Ok len) piece Nothing = ⊥
IsCame (Ok len) piece (End Over) = len ≡ 0
IsCame (Ok len) piece (End Failed) = ⊥
IsCame (Err error) piece (Bytes bytes) = ⊥
IsCame (Err error) piece Nothing = IsMadeAgain (error_kind error)
IsCame (Err error) piece (End Over) = ⊥
IsCame (Err error) piece (End Failed) = IsMadeAgain (error_kind error) → ⊥

-- what a reader has left, if that is known, once a read of it has come to this
abbrev pub HasCome : Option (List ℕ) → Option (List ℕ) → Came → Type 0
HasCome old new (Bytes bytes) = Consumes old new bytes.now
HasCome old new Nothing = Keeps old new
HasCome old new (End Over) = Keeps old new × IsAtEnd new
HasCome old new (End Failed) = Keeps old new
