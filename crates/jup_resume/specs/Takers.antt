-- The end of one way of a link that takes lines.
use Rattle.std.specs.Prelude.{◌≡◌, ℕ, ◌<◌, List, [], ◌++◌, length}
use Rattle.jup_resume.specs.Texts.{HasNoFeed, IsCut}
use Rattle.jup_resume.specs.Notes.{note_text, IsNote}
use Rattle.jup_resume.specs.FirstLines.{IsNoNote}
use Rattle.jup_resume.specs.declared.taker.Arrival.{Arrival}
use Rattle.jup_resume.specs.declared.taker.Arrival.TheVariants.{Part, Note as IsNoteLine, Line, LongLine}

-- what came of a line, and how many lines were handed on
pub record Taking : Type 0 where
  pub part : List ℕ
  pub taken : ℕ

-- part of a line: fewer than 256 bytes and no line feed
pub record IsPart (bytes : List ℕ) : Type 0 where
  pub short : length bytes < 256
  pub open_ended : HasNoFeed bytes

-- the piece goes on within the line
pub record GoesOn (old piece new rest : List ℕ) : Type 0 where
  pub part : new ≡ old ++ piece
  pub is_part : IsPart new
  pub all : rest ≡ []

-- a line feed in the piece ends a line with this text
pub record EndsLine (old piece new rest text : List ℕ) : Type 0 where
  pub behind : List ℕ
  pub cut : IsCut 10 piece behind rest
  pub whole : text ≡ old ++ behind
  pub open_ended : HasNoFeed text
  pub short : length text < 256
  pub part : new ≡ []

-- so many bytes of the piece have no line feed that a line is too long
pub record IsTooLong (old piece new rest text : List ℕ) : Type 0 where
  pub behind : List ℕ
  pub cut : piece ≡ behind ++ rest
  pub open_ended : HasNoFeed behind
  pub whole : text ≡ old ++ behind
  pub long : length text ≡ 256
  pub part : new ≡ []

-- a piece makes this of the part of a line that came before it, and leaves the rest
abbrev pub Brings : List ℕ → List ℕ → Arrival → List ℕ → List ℕ → Type 0
Brings old piece Part new rest = GoesOn old piece new rest
Brings old piece (IsNoteLine note) new rest = IsNote note × EndsLine old piece new rest (note_text note)
Brings old piece (Line text) new rest = IsNoNote text × EndsLine old piece new rest text
Brings old piece (LongLine text) new rest = IsTooLong old piece new rest text

-- a whole line is a note, or one of the link
abbrev pub IsLineOf : List ℕ → Arrival → Type 0
IsLineOf text Part = ⊥
IsLineOf text (IsNoteLine note) = IsNote note × (text ≡ note_text note)
IsLineOf text (Line line) = IsNoNote text × (line ≡ text)
IsLineOf text (LongLine line) = ⊥

-- no line that came has a line feed
abbrev pub IsFeedless : Arrival → Type 0
IsFeedless Part = Unit {0}
IsFeedless (IsNoteLine note) = Unit {0}
IsFeedless (Line text) = HasNoFeed text
IsFeedless (LongLine text) = HasNoFeed text
