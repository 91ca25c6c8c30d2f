-- The two ways of a link, at its server.
use Rattle.std.specs.Prelude.{◌≡◌, ◌⊎◌, ◌↔◌, ℕ, ◌+◌, ◌<◌, ◌≤◌, Bool, true, false, List, ◌++◌, Option, None, Some, length, take, codes, IsTrue}
use Rattle.std.specs.List.{flat_map, AllByRecursion}
use Rattle.jup_resume.specs.Texts.{Text, spelled}
use Rattle.jup_resume.specs.Keepers.{Keeping, nothing_put, unsent, IsAllWritten, IsNextLine, after_put, after_begin}
use Rattle.jup_links.specs.LastLines.{last_text, IsLast, IsNoLast}
use Rattle.jup_links.specs.declared.last_line.LastLine.{LastLine}

-- the lines of a site
pub record Up : Type 0 where
  pub taken : ℕ  -- how many were taken
  pub waiting : Keeping  -- those of them that were not given to the session
  pub handled : ℕ  -- how many had their effect
  pub has_edits : Bool  -- whether an edit is among these

-- how many lines are taken of it at most, of which the last is `bye`
abbrev pub most_taken : ℕ
most_taken = 4294967294

-- nothing came from it
abbrev pub new_up : Up
new_up = record { taken = 0; waiting = after_begin 0 nothing_put; handled = 0; has_edits = false }

-- the lines for a site
pub record Down : Type 0 where
  pub lines : Keeping  -- those that were put
  pub is_open : Bool  -- whether its site has joined
  pub is_ready : Bool  -- whether `ready` was put
  pub last : Option LastLine  -- the last line, once the session has put it

-- nothing was put
abbrev pub new_down : Down
new_down = record { lines = after_begin 0 nothing_put; is_open = false; is_ready = false; last = None }

-- how many bytes the server keeps of a way down, without its last line
abbrev pub most_kept : ℕ
most_kept = 262144

-- a line was put that is not the last
pub record IsLinePut (text : Text) (old new : Down) : Type 0 where
  pub no_last : IsNoLast text
  pub lines : new.lines ≡ after_put text old.lines
  pub is_open : new.is_open ≡ true
  pub is_ready : IsTrue new.is_ready ↔ (IsTrue old.is_ready ⊎ (text ≡ codes "ready"))
  pub last : new.last ≡ old.last

-- the last line was noted
pub record IsEndNoted (text : Text) (old new : Down) : Type 0 where
  pub last : LastLine
  pub is_last : IsLast last
  pub spelled : text ≡ last_text last
  pub noted : new ≡ record old { last = Some last }

abbrev pub HasPut : Text → Down → Down → Type 0
HasPut text old new = IsLinePut text old new ⊎ IsEndNoted text old new

-- The last line was put. One that would be the 4,294,967,296th line is only noted
pub record IsClosed (line : LastLine) (old new : Down) : Type 0 where
  pub lines : (new.lines ≡ after_put (last_text line) old.lines) ⊎ ((4294967295 ≤ old.lines.dropped + length old.lines.kept) × (new.lines ≡ old.lines))
  pub is_open : new.is_open ≡ old.is_open
  pub is_ready : new.is_ready ≡ old.is_ready
  pub last : new.last ≡ Some line

-- The lines that a carrier is given next.

-- no line begins behind so many bytes of a piece
abbrev pub most_written : ℕ
most_written = 8192

-- the next line to be written is not the last of the link
pub record IsLineNext (k : Keeping) : Type 0 where
  pub text : Text
  pub next : IsNextLine k (spelled text)
  pub no_last : IsNoLast text

abbrev pub last_bytes : LastLine → List ℕ
last_bytes last = spelled (last_text last)

-- it is this one
pub record IsNextLast (k : Keeping) (last : LastLine) : Type 0 where
  pub is_last : IsLast last
  pub next : IsNextLine k (last_bytes last)

abbrev pub IsLastNext : Keeping → Type 0
IsLastNext k = (last : LastLine) × IsNextLast k last

-- the lines were written behind these bytes that follow on those written before, in their order, and none of them is the last of the link
pub record AreNextLines (old new : Down) (before after : List ℕ) : Type 0 where
  pub lines : List Text
  pub follow : unsent old.lines ≡ lines ++ unsent new.lines
  pub no_last : AllByRecursion IsNoLast lines
  pub whole : after ≡ before ++ flat_map spelled lines
  pub noted : new ≡ record old { lines = record old.lines { sent = old.lines.sent + length lines } }
  pub room : (count : ℕ) → count < length lines → length (before ++ flat_map spelled (take count lines)) < most_written  -- each begins within it

-- there are no more for now, or the piece is full
abbrev pub IsFilled : Down → List ℕ → Type 0
IsFilled new bytes = IsAllWritten new.lines ⊎ (most_written ≤ length bytes)

-- the same, or the next one is the last of the link
abbrev pub AreAll : Down → List ℕ → Type 0
AreAll new bytes = IsFilled new bytes ⊎ IsLastNext new.lines
