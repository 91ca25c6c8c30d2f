-- A link, at its server.
use Rattle.std.specs.Prelude.{◌≡◌, ◌⊎◌, ℕ, ◌*◌, ◌+◌, ◌<◌, if◌then◌else◌, Bool, true, false, List, [], ◌++◌, length, Option, None, Some, IsSome, IsTrue}
use Rattle.std.specs.Option.{SomeIff}
use Rattle.jup_resume.specs.Texts.{spelled}
use Rattle.jup_resume.specs.Notes.{note_text}
use Rattle.jup_resume.specs.Confirmations.{Confirmation, nothing_taken, IsDue, IsDueAtEnd, after_telling}
use Rattle.jup_resume.specs.declared.note.Note.{Note}
use Rattle.jup_resume.specs.declared.note.Note.TheVariants.{Link, Got}
use Rattle.jup_links.specs.Carriages.{Carrying, first_carrier, IsPresent, HasWaited}
use Rattle.jup_links.specs.Ways.{Up, new_up, Down, new_down, most_written, last_bytes, IsNextLast, IsFilled, AreNextLines}
use Rattle.jup_links.specs.declared.last_line.LastLine.{LastLine}
use Rattle.jup_links.specs.declared.carried.State.{State}
use Rattle.jup_links.specs.declared.carried.State.TheVariants.{Runs, Unused, Holds, Spent, Refused}

pub record Linked : Type 0 where
  pub token : List ℕ
  pub seconds : ℕ  -- for how many it waits for a carrier
  pub up : Up
  pub down : Down
  pub confirming : Confirmation  -- of the lines of the way up
  pub carriage : Carrying
  pub opening : Option Note  -- the first note of the present carrier, if it was not written yet
  pub ended : Option ℕ  -- when its session returned
  pub is_lost : Bool  -- whether it ended without a last line

-- a link of this token, which waits for so many seconds: its first carrier is there, and its session is about to begin
abbrev pub new_link : List ℕ → ℕ → Linked
new_link token seconds = record {
  token = token;
  seconds = seconds;
  up = new_up;
  down = new_down;
  confirming = nothing_taken;
  carriage = first_carrier;
  opening = Some (Link token seconds false);
  ended = None;
  is_lost = false;
}

-- it has waited for as long as it waits
abbrev pub IsOutOfTime : ℕ → Linked → Type 0
IsOutOfTime now l = HasWaited now (l.seconds * 1000) l.carriage

-- its session is still to return, and can put no further line
abbrev pub IsEnding : Linked → Type 0
IsEnding l = (l.ended ≡ None) × (IsTrue l.is_lost ⊎ IsSome l.down.last)

-- only its count is left, once its session has returned
abbrev pub IsSpent : Linked → Type 0
IsSpent l = IsTrue l.is_lost ⊎ (IsSome l.ended × (l.down.lines.kept ≡ []))

-- its site could not join
abbrev pub IsRefused : Linked → Type 0
IsRefused l = IsSome l.ended × (l.down.is_open ≡ false)

-- a carrier may be told of it: its site has joined, or was refused
abbrev pub HasBegun : Linked → Type 0
HasBegun l = IsTrue l.down.is_open ⊎ IsSome l.ended

-- it has no carrier since then, and a newcomer may have its place
pub record IsUnused (l : Linked) (since : ℕ) : Type 0 where
  pub goes_on : l.ended ≡ None
  pub waits : l.carriage.since ≡ Some since
  pub no_edits : l.up.has_edits ≡ false
  pub no_end : IsEnding l → ⊥

-- what a server sees of it
abbrev pub IsIn : Linked → State → Type 0
IsIn l Refused = IsRefused l
IsIn l Spent = IsSome l.ended × IsSpent l × (IsRefused l → ⊥)
IsIn l (Holds ended) = (l.ended ≡ Some ended) × (l.carriage.is_there ≡ false) × (IsSpent l → ⊥) × (IsRefused l → ⊥)
IsIn l (Unused since) = IsUnused l since
IsIn l Runs =
    (IsSome l.ended → IsTrue l.carriage.is_there × (IsSpent l → ⊥) × (IsRefused l → ⊥))
    × ((since : ℕ) → IsUnused l since → ⊥)

-- What a carrier is given to write.

abbrev pub note_bytes : Option Note → List ℕ
note_bytes None = []
note_bytes (Some note) = spelled (note_text note)

-- the first note of a carrier is written once, and never to a site that was refused
abbrev pub opening_bytes : Linked → List ℕ
opening_bytes l = if l.down.is_open then note_bytes l.opening else []

-- a `got` of so many lines, if one is due
abbrev pub got_bytes : Option ℕ → List ℕ
got_bytes None = []
got_bytes (Some taken) = spelled (note_text (Got taken))

abbrev pub after_got_bytes : Option ℕ → Confirmation → Confirmation
after_got_bytes None c = c
after_got_bytes (Some taken) c = after_telling c

-- both notes were written, each if it is due
pub record AreNotes (old new : Linked) (bytes : List ℕ) : Type 0 where
  pub due : Option ℕ
  pub is_due : SomeIff due (IsDue old.confirming) old.confirming.taken
  pub whole : bytes ≡ opening_bytes old ++ got_bytes due
  pub noted : new ≡ record old { opening = None; confirming = after_got_bytes due old.confirming }

-- the last line of the link was written behind these bytes, and a `got` before it if one is due
pub record WritesLast (old new : Linked) (before after : List ℕ) : Type 0 where
  pub due : Option ℕ
  pub is_due : SomeIff due (IsTrue old.down.is_open × IsDueAtEnd old.confirming) old.confirming.taken
  pub last : LastLine
  pub is_next : IsNextLast old.down.lines last
  pub whole : after ≡ before ++ got_bytes due ++ last_bytes last
  pub noted : new ≡ record old { down = record old.down { lines = record old.down.lines { sent = old.down.lines.sent + 1 } }; confirming = after_got_bytes due old.confirming }

-- the lines that come next, and then the last line of the link
pub record WritesToLast (old new : Linked) (before after : List ℕ) : Type 0 where
  pub down : Down
  pub bytes : List ℕ
  pub lines : AreNextLines old.down down before bytes
  pub room : length bytes < most_written
  pub last : WritesLast (record old { down = down }) new bytes after

-- as many lines as there are without the last, or as there is room for
pub record WritesOn (old new : Linked) (before after : List ℕ) : Type 0 where
  pub lines : AreNextLines old.down new.down before after
  pub all : IsFilled new.down after
  pub noted : new ≡ record old { down = new.down }

-- whether the last line is among them
abbrev pub WritesLines : Bool → Linked → Linked → List ℕ → List ℕ → Type 0
WritesLines true old new before after = WritesToLast old new before after
WritesLines false old new before after = WritesOn old new before after

-- notes, and then lines
pub record HasLines (has_last : Bool) (old new : Linked) (bytes : List ℕ) : Type 0 where
  pub noted : Linked
  pub told : Linked
  pub notes : List ℕ
  pub are_notes : AreNotes old noted notes
  pub lines : WritesLines has_last noted told notes bytes
  pub heard : new ≡ record told { confirming = record told.confirming { quiet = new.confirming.quiet } }

-- the carrier has the link, of which something is left and may be told
pub record IsOfCarrier (number : ℕ) (l : Linked) : Type 0 where
  pub present : IsPresent number l.carriage
  pub left : IsSpent l → ⊥
  pub begun : HasBegun l

-- nothing is different but what was written and told
pub record IsOnlyWritten (old new : Linked) : Type 0 where
  pub link : new ≡ record old { down = new.down; confirming = new.confirming; opening = new.opening }
  pub lines : new.down ≡ record old.down { lines = record old.down.lines { sent = new.down.lines.sent } }
