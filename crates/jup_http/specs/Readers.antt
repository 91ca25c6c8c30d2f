-- What a reader of messages has left, and what it answers.
use Rattle.std.specs.Prelude.{◌≡◌, ℕ, List, [], ◌∷◌, ◌++◌, slice_range, Option, None, Some, option_map, Result, Ok, IsErrAnd}
use Rattle.std.specs.List.{flat_map}
use Rattle.std.specs.Io.KnownBytes.{Appends}
use Rattle.std.specs.IoError.{error_kind}
use Rattle.std.specs.declared.io.Error.{Error}
use Rattle.std.specs.declared.io.ErrorKind.TheVariants.{InvalidData}
use Rattle.jup_http.specs.declared.held.Held.{Held}
use Rattle.jup_http.specs.declared.reader.MessageReader.{MessageReader}
use Rattle.jup_http.specs.declared.ending.Ending.{Ending}
use Rattle.jup_http.specs.declared.ending.Ending.TheVariants.{Closed, Broken}
use Rattle.jup_http.specs.Events.{standing}
use Rattle.jup_http.specs.Frames.{held_bytes, pong_frame}
use Rattle.jup_http.specs.Streams.{Told, brought, ping, closed, broken, tells, brings, data_of}

-- the bytes that were read and not taken
abbrev pub untaken : {I O : Type 0} → MessageReader I O → List ℕ
untaken r = slice_range r.piece r.start r.end

-- the payloads of the messages of data that these bytes, and those that the reader below has left, bring
abbrev pub payloads_left : {I O : Type 0} → (I → Option (List ℕ)) → MessageReader I O → Option (List ℕ)
payloads_left remaining r = option_map (λ xs. brings (standing r.stream) (untaken r ++ xs)) (remaining r.from)

-- ---- what is heard, and answered

-- a ping whose pong is due
abbrev pub due : Option Held → List Told
due None = []
due (Some held) = ping (held_bytes held) ∷ []

-- what the reader has not dealt with: the ping whose pong is due, and what those bytes report
abbrev pub told_left : {I O : Type 0} → (I → Option (List ℕ)) → MessageReader I O → Option (List Told)
told_left remaining r = option_map (λ xs. due r.ping ++ tells (standing r.stream) (untaken r ++ xs)) (remaining r.from)

-- what the reader has written, where that is known
abbrev pub written : {I O : Type 0} → (O → Option (List ℕ)) → MessageReader I O → Option (List ℕ)
written contents r = contents r.to

-- how the frames have ended, once they have
abbrev pub ended_by : {I O : Type 0} → MessageReader I O → Option Ending
ended_by r = r.ending

-- what is known begins with this, and loses it
abbrev pub Takes : Option (List Told) → Option (List Told) → List Told → Type 0
Takes None new told = Unit {0}
Takes (Some all) None told = ⊥
Takes (Some all) (Some left) told = all ≡ told ++ left

-- nothing is known to be left
abbrev pub IsDealtWith : Option (List Told) → Type 0
IsDealtWith None = Unit {0}
IsDealtWith (Some left) = left ≡ []

-- a pong answers a ping, and has its payload; nothing else has an answer (RFC 6455, section 5.5.3)
abbrev pub pong_to : Told → List ℕ
pong_to (brought b) = []
pong_to (ping payload) = pong_frame payload
pong_to (closed code) = []
pong_to (broken b) = []

abbrev pub pongs_to : List Told → List ℕ
pongs_to told = flat_map pong_to told

-- what came next was dealt with: its data was given, and the pong of each of its pings was written, in order
pub record Hears (old new : Option (List Told)) (before after : Option (List ℕ)) (payload : List ℕ) : Type 0 where
  pub told : List Told
  pub first : Takes old new told
  pub given : data_of told ≡ payload
  pub answered : Appends before after (pongs_to told)

-- the same if a read or a write failed: no data was lost, and the pongs may be cut off
pub record HearsInPart (old new : Option (List Told)) (before after : Option (List ℕ)) : Type 0 where
  pub told : List Told
  pub sent : List ℕ
  pub unsent : List ℕ
  pub first : Takes old new told
  pub given : data_of told ≡ []
  pub pongs : pongs_to told ≡ sent ++ unsent
  pub answered : Appends before after sent

-- ---- how the frames end

-- how they have ended once this was dealt with: by a close or a breach in it, and else as before
abbrev pub ending_after : Option Ending → List Told → Option Ending
ending_after e [] = e
ending_after e (brought b ∷ told) = ending_after e told
ending_after e (ping payload ∷ told) = ending_after e told
ending_after e (closed code ∷ told) = ending_after (Some (Closed code)) told
ending_after e (broken b ∷ told) = ending_after (Some (Broken b)) told

-- what came next was dealt with, and the frames have ended by it if it ends them
pub record EndsBy (old new : Option (List Told)) (before after : Option Ending) : Type 0 where
  pub told : List Told
  pub first : Takes old new told
  pub ending : after ≡ ending_after before told

-- they have not ended by a broken rule
abbrev pub IsUnbroken : Option Ending → Type 0
IsUnbroken None = Unit {0}
IsUnbroken (Some (Closed code)) = Unit {0}
IsUnbroken (Some (Broken b)) = ⊥

-- what a read answers once nothing more is reported: no byte, or that the data is invalid if a rule was broken
abbrev pub IsReadAtEnd : Option Ending → Result ℕ Error → Type 0
IsReadAtEnd None read = read ≡ Ok 0
IsReadAtEnd (Some (Closed code)) read = read ≡ Ok 0
IsReadAtEnd (Some (Broken b)) read = IsErrAnd read (λ error. error_kind error ≡ InvalidData)
