-- The client's end of a link that outlives its connections.
use Rattle.std.specs.Prelude.{◌≡◌, ◌≢◌, ◌⊎◌, ℕ, ◌+◌, ◌-◌, ◌<◌, ◌≤◌, min, Bool, true, false, List, [], ◌∷◌, ◌++◌, Option, None, Some}
use Rattle.std.specs.List.{concat}
use Rattle.jup_resume.specs.Texts.{Text, spelled}
use Rattle.jup_resume.specs.Notes.{note_text}
use Rattle.jup_resume.specs.Keepers.{Keeping, nothing_put, after_put, after_cut, after_begin, after_got, unsent, IsPlace, IsGot, IsAllWritten, IsWritten}
use Rattle.jup_resume.specs.Takers.{Taking, Brings}
use Rattle.jup_resume.specs.Confirmations.{Confirmation, nothing_taken, IsDue, after_telling, after_beginning}
use Rattle.jup_resume.specs.declared.note.Note.{Note}
use Rattle.jup_resume.specs.declared.note.Note.TheVariants.{Hello, Link as OpensLink, Resume, Resumed as SaysResumed, Ended as SaysEnded, Got}
use Rattle.jup_resume.specs.declared.taker.Arrival.{Arrival}
use Rattle.jup_resume.specs.declared.taker.Arrival.TheVariants.{Part, Note as IsNoteLine, Line as IsLine, LongLine as IsLongLine}
use Rattle.jup_lasting.specs.LineKinds.{IsOfKind}
use Rattle.jup_lasting.specs.Edits.{begins_edit, one_if, edits_among}
use Rattle.jup_lasting.specs.Answers.{Says}
use Rattle.jup_lasting.specs.declared.line_kind.LineKind.{LineKind}
use Rattle.jup_lasting.specs.declared.line_kind.LineKind.TheVariants as kind
use Rattle.jup_lasting.specs.declared.terms.Terms.{Terms}
use Rattle.jup_lasting.specs.declared.carriage.Carriage.{Carriage}
use Rattle.jup_lasting.specs.declared.carriage.Carriage.TheVariants.{Cut, Asking, Carried, Last, Over}
use Rattle.jup_lasting.specs.declared.first_answer.FirstAnswer.{FirstAnswer}
use Rattle.jup_lasting.specs.declared.first_answer.FirstAnswer.TheVariants as answer
use Rattle.jup_lasting.specs.declared.link.Heard.{Heard}
use Rattle.jup_lasting.specs.declared.link.Heard.TheVariants as heard

pub record Link : Type 0 where
  pub up : Keeping  -- what it keeps of its own lines
  pub down : Taking  -- what came of a line of the server, and how many lines were taken
  pub confirming : Confirmation  -- when it confirms those
  pub carriage : Carriage
  pub waiting : List ℕ  -- what is left of the line that is on its way to the connection
  pub terms : Option Terms  -- what the server said as it opened the link
  pub is_ready : Bool  -- whether the server's board came whole
  pub lines : ℕ  -- how many lines were put
  pub edits : ℕ  -- how many edits were put
  pub arrived : Option ℕ  -- how many of them had their effect, if the server has said that
  pub silence : ℕ  -- for how many seconds no byte came on this connection

-- before the first connection
abbrev pub new_link : Link
new_link = record {
  up = nothing_put;
  down = record { part = []; taken = 0 };
  confirming = nothing_taken;
  carriage = Cut;
  waiting = [];
  terms = None;
  is_ready = false;
  lines = 0;
  edits = 0;
  arrived = None;
  silence = 0;
}

-- no connection is to carry it
abbrev pub IsIdle : Carriage → Type 0
IsIdle Cut = Unit {0}
IsIdle Asking = ⊥
IsIdle Carried = ⊥
IsIdle Last = ⊥
IsIdle Over = Unit {0}

-- Its first line on a connection.

abbrev pub asks : Option Terms → ℕ → Note
asks None taken = Hello
asks (Some terms) taken = Resume terms.token taken

-- it asks a new connection to carry the link, with the count of the lines that it has taken
abbrev pub after_asking : Link → Link
after_asking c = record c { carriage = Asking; waiting = spelled (note_text (asks c.terms c.down.taken)); silence = 0 }

-- A connection broke.

abbrev pub cut_of : Carriage → Carriage
cut_of Cut = Cut
cut_of Asking = Cut
cut_of Carried = Cut
cut_of Last = Over
cut_of Over = Over

-- it keeps its lines and its counts, and drops the part of a line that came
abbrev pub broken : Link → Link
broken c = record c { up = after_cut c.up; down = record c.down { part = [] }; carriage = cut_of c.carriage; waiting = [] }

-- Its lines.

abbrev pub with_text : Text → Link → Link
with_text text c = record c { up = after_put text c.up; lines = min (c.lines + 1) 4294967295; edits = min (c.edits + one_if (begins_edit text)) 4294967295 }

-- What it hears.

abbrev pub given_up : Link → Link
given_up c = record c { carriage = Over; waiting = [] }

-- it ends by this number
abbrev pub EndsBy : ℕ → Link → Heard → Link → Type 0
EndsBy number c h d = (h ≡ heard.Over number) × (d ≡ given_up c)

-- nothing of it is for the site
abbrev pub Only : Link → Heard → Link → Type 0
Only changed h d = (h ≡ heard.Nothing) × (d ≡ changed)

abbrev pub is_last : LineKind → Bool
is_last kind.Ready = false
is_last kind.Last = true
is_last kind.Other = false

abbrev pub ready_after : LineKind → Bool → Bool
ready_after kind.Ready before = true
ready_after kind.Last before = before
ready_after kind.Other before = before

abbrev pub owed_after : LineKind → Bool → Bool
owed_after kind.Ready before = before
owed_after kind.Last before = true
owed_after kind.Other before = before

abbrev pub carriage_after : LineKind → Carriage → Carriage
carriage_after kind.Ready before = before
carriage_after kind.Last before = Last
carriage_after kind.Other before = before

-- a line of this kind is handed on, and counts
abbrev pub with_taken : LineKind → Link → Link
with_taken k c = record c {
  down = record c.down { taken = c.down.taken + 1 };
  confirming = record c.confirming { taken = c.down.taken + 1; is_owed = owed_after k c.confirming.is_owed };
  carriage = carriage_after k c.carriage;
  is_ready = ready_after k c.is_ready;
}

-- a line of the link: it is handed on; or it is one more than a way may have
abbrev pub HearsText : List ℕ → Link → Heard → Link → Type 0
HearsText text c h d =
    ((c.down.taken < 4294967295) × (h ≡ heard.Line text) × ((k : LineKind) × IsOfKind text k × (d ≡ with_taken k c)))
    ⊎ ((4294967295 ≤ c.down.taken) × EndsBy 37 c h d)

-- a note after the server's first line
abbrev pub HearsNote : Note → Link → Heard → Link → Type 0
HearsNote Hello c h d = EndsBy 42 c h d
HearsNote (OpensLink token seconds kept) c h d = EndsBy 40 c h d
HearsNote (Resume token taken) c h d = EndsBy 40 c h d
HearsNote (SaysResumed taken) c h d = EndsBy 40 c h d
HearsNote (SaysEnded taken) c h d = EndsBy 40 c h d
HearsNote (Got taken) c h d = (IsGot c.up taken × Only (record c { up = after_got taken c.up }) h d) ⊎ ((IsGot c.up taken → ⊥) × EndsBy 36 c h d)

abbrev pub HearsArrival : Arrival → Link → Heard → Link → Type 0
HearsArrival Part c h d = Only c h d
HearsArrival (IsNoteLine note) c h d = HearsNote note c h d
HearsArrival (IsLine text) c h d = HearsText text c h d
HearsArrival (IsLongLine text) c h d = (h ≡ heard.LongLine text) × (d ≡ given_up c)

-- The answer to its first line.

-- the connection does not carry the link
abbrev pub Loses : Link → Heard → Link → Type 0
Loses c h d = (h ≡ heard.Lost) × (d ≡ broken c)

-- the link is over by this number, and so many of its edits had their effect; one whose board has not come begins again, since nothing is lost with it
abbrev pub Forgets : ℕ → Option ℕ → Link → Heard → Link → Type 0
Forgets number arrived c h d =
    ((c.is_ready ≡ true) × (h ≡ heard.Over number) × (d ≡ record (given_up (broken c)) { arrived = arrived }))
    ⊎ ((c.is_ready ≡ false) × (h ≡ heard.Begins) × (d ≡ new_link))

-- the numbers by which a server refuses a `resume` for good
abbrev pub IsFinal : ℕ → Type 0
IsFinal number = (number ≡ 35) ⊎ ((number ≡ 36) ⊎ ((number ≡ 40) ⊎ (number ≡ 42)))

-- of the lines after the first so many no edit had its effect
abbrev pub edits_within : ℕ → Link → ℕ
edits_within taken c = c.edits - min (edits_among (unsent (after_begin taken c.up))) 4294967295

-- after `hello 4`
abbrev pub Opens : FirstAnswer → Link → Heard → Link → Type 0
Opens answer.Nothing c h d = Only c h d
Opens (answer.Opened terms) c h d =
    (IsPlace c.up 0 × Only (record c { up = after_begin 0 c.up; carriage = Carried; terms = Some terms }) h d) ⊎ ((IsPlace c.up 0 → ⊥) × EndsBy 36 c h d)
Opens (answer.Resumed taken) c h d = Loses c h d
Opens (answer.Ended taken) c h d = Loses c h d
Opens (answer.Refused number) c h d = EndsBy number c h d
Opens answer.Strange c h d = Loses c h d

-- after `resume`
abbrev pub Resumes : FirstAnswer → Link → Heard → Link → Type 0
Resumes answer.Nothing c h d = Only c h d
Resumes (answer.Opened terms) c h d = Loses c h d
Resumes (answer.Resumed taken) c h d =
    (IsPlace c.up taken × Only (record c { up = after_begin taken c.up; confirming = after_beginning c.confirming; carriage = Carried }) h d)
    ⊎ ((IsPlace c.up taken → ⊥) × EndsBy 36 c h d)
Resumes (answer.Ended taken) c h d =
    (IsPlace c.up taken × Forgets 35 (Some (edits_within taken c)) c h d) ⊎ ((IsPlace c.up taken → ⊥) × Forgets 35 None c h d)
Resumes (answer.Refused number) c h d = (IsFinal number × Forgets number None c h d) ⊎ ((IsFinal number → ⊥) × Loses c h d)
Resumes answer.Strange c h d = Loses c h d

abbrev pub IsAnswered : Option Terms → FirstAnswer → Link → Heard → Link → Type 0
IsAnswered None said c h d = Opens said c h d
IsAnswered (Some terms) said c h d = Resumes said c h d

-- what a piece brought, by how the link is carried
abbrev pub HearsIn : Carriage → Arrival → Link → Heard → Link → Type 0
HearsIn Cut arrival c h d = Only c h d
HearsIn Asking arrival c h d = (said : FirstAnswer) × Says arrival said × IsAnswered c.terms said c h d
HearsIn Carried arrival c h d = HearsArrival arrival c h d
HearsIn Last arrival c h d = Only c h d
HearsIn Over arrival c h d = Only c h d

-- bytes of the connection, up to the end of the first line in them
abbrev pub HearsPiece : List ℕ → Link → Heard → List ℕ → Link → Type 0
HearsPiece piece c h rest d = (arrival : Arrival) × (part : List ℕ) × Brings c.down.part piece arrival part rest
    × HearsIn c.carriage arrival (record c { down = record c.down { part = part } }) h d

-- What it writes.

-- `got` may be written
abbrev pub MayTell : Carriage → Type 0
MayTell Cut = ⊥
MayTell Asking = ⊥
MayTell Carried = Unit {0}
MayTell Last = Unit {0}
MayTell Over = ⊥

-- a `got` is due
abbrev pub OwesGot : Link → Type 0
OwesGot c = MayTell c.carriage × IsDue c.confirming

-- a line of the link is to be written
abbrev pub HasLine : Link → Type 0
HasLine c = (c.carriage ≡ Carried) × (IsAllWritten c.up → ⊥)

-- something is to be written now
abbrev pub HasMore : Link → Type 0
HasMore c = (c.waiting ≢ []) ⊎ (OwesGot c ⊎ HasLine c)

abbrev pub TellsGot : Link → Link → Type 0
TellsGot c d = OwesGot c × (d ≡ record c { waiting = spelled (note_text (Got c.confirming.taken)); confirming = after_telling c.confirming })

abbrev pub PutsLine : Link → Link → Type 0
PutsLine c d = (OwesGot c → ⊥) × (c.carriage ≡ Carried) × IsWritten c.up d.up [] d.waiting × (d ≡ record c { up = d.up; waiting = d.waiting })

-- a line is on its way: the one that was, or else a `got` that is due, or else the next of the link
abbrev pub IsBegun : Link → Link → Type 0
IsBegun c d = ((c.waiting ≢ []) × (d ≡ c)) ⊎ ((c.waiting ≡ []) × (TellsGot c d ⊎ PutsLine c d))

abbrev pub Begins : Bool → Link → Link → Type 0
Begins true c d = IsBegun c d
Begins false c d = (HasMore c → ⊥) × (d ≡ c)

-- bytes of the line that is on its way are handed to the connection
abbrev pub MovesSome : List ℕ → Link → Link → Type 0
MovesSome bytes c d = (begun : Link) × IsBegun c begun × (begun.waiting ≡ bytes ++ d.waiting) × (d ≡ record begun { waiting = d.waiting })

-- these are, one after the other
abbrev pub Moves : List (List ℕ) → Link → Link → Type 0
Moves [] c d = d ≡ c
Moves (bytes ∷ pieces) c d = (middle : Link) × MovesSome bytes c middle × Moves pieces middle d

-- all these bytes are, line by line
abbrev pub MovesLines : List ℕ → Link → Link → Type 0
MovesLines bytes c d = (pieces : List (List ℕ)) × Moves pieces c d × (bytes ≡ concat pieces)

-- with bytes the connection is quiet no more
abbrev pub after_handing : List ℕ → Link → Link
after_handing [] c = c
after_handing (byte ∷ bytes) c = record c { confirming = record c.confirming { quiet = 0 } }

abbrev pub MovesOut : List ℕ → Link → Link → Type 0
MovesOut bytes c d = (moved : Link) × MovesLines bytes c moved × (d ≡ after_handing bytes moved)

-- Time.

abbrev pub longest_silence : ℕ
longest_silence = 90

-- so many seconds pass on a connection
abbrev pub elapsed : ℕ → Carriage → Link → Link
elapsed seconds Cut c = c
elapsed seconds Asking c = record c { silence = min (c.silence + seconds) 4294967295 }
elapsed seconds Carried c = record c { confirming = record c.confirming { quiet = min (c.confirming.quiet + seconds) 4294967295 }; silence = min (c.silence + seconds) 4294967295 }
elapsed seconds Last c = c
elapsed seconds Over c = c

-- no byte came for too long on a connection that carries the link, or that is to carry it
abbrev pub IsSilent : Link → Type 0
IsSilent c = ((c.carriage ≡ Asking) ⊎ (c.carriage ≡ Carried)) × (longest_silence ≤ c.silence)
