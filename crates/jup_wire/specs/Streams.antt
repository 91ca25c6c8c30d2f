-- Bytes that come in pieces.
use Rattle.std.specs.Prelude.{◌≡◌, ◌≢◌, ℕ, ◌<◌, List, [], ◌∷◌, ◌++◌, length, All, Option, Some, None, MatchOption, Result, Ok, Err, take, ◌+◌, ◌≤◌, vec_len, vec_capacity}
use Rattle.std.specs.Global.{Vec}
use Rattle.jup_wire.specs.Prelude.{WireFault, BadLine, LongLine, BadVersion, EarlyEnd, Line, flat_map, AllByRecursion}
use Rattle.jup_wire.specs.declared.part.Part.{Part}
use Rattle.jup_wire.specs.Lines.{line_text, spelling, HasSpelling, IsBad}

-- Streams of bytes that come in pieces.

-- lines, one after another, and what comes after them
abbrev pub stream_of : List Line → List ℕ → List ℕ
stream_of lines rest = flat_map spelling lines ++ rest

-- part of a line: fewer than 256 bytes and no line feed
pub record IsPart (bytes : List ℕ) : Type 0 where
  pub short : length bytes < 256
  pub open_ended : All (λ byte. byte ≢ 10) bytes

-- a whole line that is wrong in this way
pub record IsBadLine (fault : WireFault) (bytes : List ℕ) : Type 0 where
  pub text : List ℕ
  pub part : IsPart text
  pub whole : bytes ≡ text ++ 10 ∷ []
  pub bad : IsBad fault text

-- the reader reports the fault for these bytes in place of a line
abbrev pub IsFaulty : WireFault → List ℕ → Type 0
IsFaulty BadLine bytes = IsBadLine BadLine bytes
IsFaulty BadVersion bytes = IsBadLine BadVersion bytes
IsFaulty LongLine bytes = (length bytes ≡ 256) × All (λ byte. byte ≢ 10) bytes
IsFaulty EarlyEnd bytes = ⊥

-- after the lines comes what has the fault
pub record Faults (fault : WireFault) (bytes : List ℕ) (lines : List Line) : Type 0 where
  pub told : List ℕ
  pub more : List ℕ
  pub faulty : IsFaulty fault told
  pub stream : bytes ≡ stream_of lines (told ++ more)

-- the state of a reader: the part of a line that it holds, or the fault that it met
pub record Progress : Type 0 where
  pub part : List ℕ
  pub fault : Option WireFault

-- the bytes are these lines, and then a part of a line, or what has the fault
pub record HasRead (bytes : List ℕ) (lines : List Line) (reader : Progress) : Type 0 where
  pub spelled : AllByRecursion HasSpelling lines
  pub rest : MatchOption reader.fault ((bytes ≡ stream_of lines reader.part) × IsPart reader.part) (λ fault. Faults fault bytes lines)

-- what the end of the bytes is, after a fault or a part of a line
abbrev pub ending_at : Option WireFault → List ℕ → Result (Unit {0}) WireFault
ending_at (Some fault) part = Err fault
ending_at None [] = Ok tt
ending_at None (byte ∷ part) = Err EarlyEnd

-- what a line feed after a text makes of it: the line that it is, or a fault, whatever comes after it
abbrev pub Ends : List ℕ → Result Line WireFault → Type 0
Ends text (Ok line) = HasSpelling line × (text ≡ line_text line)
Ends text (Err fault) = (more : List ℕ) → Faults fault (text ++ 10 ∷ more) []

-- the lines that bytes begin with, up to a fault or the last line feed, after which the rest follows
abbrev pub ReadsTo : List ℕ → List Line → Option WireFault → List ℕ → Type 0
ReadsTo bytes lines None rest = AllByRecursion HasSpelling lines × (bytes ≡ stream_of lines rest) × All (λ byte. byte ≢ 10) rest
ReadsTo bytes lines (Some fault) rest = AllByRecursion HasSpelling lines × Faults fault bytes lines

-- after these bytes, which began with a part of a line, these are the lines, and a part or a fault is left
abbrev pub Reads : List ℕ → List Line → Option WireFault → List ℕ → Type 0
Reads bytes lines fault part = HasRead bytes lines (record { part = part; fault = fault })

-- The bytes that a part of a line holds.

abbrev pub part_bytes : Part → List ℕ
part_bytes part = take part.len part.bytes

-- Appending to a vector that has room.

-- room for so many more bytes
abbrev pub HasRoom : Vec ℕ → ℕ → Type 0
HasRoom out room = vec_len out + room ≤ vec_capacity out

-- new is old with the text at its end, which took at most so much room
pub record Appends (old new : Vec ℕ) (text : List ℕ) (most : ℕ) : Type 0 where
  pub items : new.items ≡ old.items ++ text
  pub len : vec_len new ≤ vec_len old + most
  pub capacity : vec_capacity old ≤ vec_capacity new
