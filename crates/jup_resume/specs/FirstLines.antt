-- What the first line of a connection asks for.
use Rattle.std.specs.Prelude.{◌≡◌, ◌≢◌, ◌⊎◌, ℕ, List, ◌++◌, codes, decimal}
use Rattle.jup_number.specs.Numbers.{IsU32}
use Rattle.jup_resume.specs.Notes.{note_text, IsNote}
use Rattle.jup_resume.specs.declared.note.Note.{Note}
use Rattle.jup_resume.specs.declared.note.Note.TheVariants.{Hello, Resume}
use Rattle.jup_resume.specs.declared.first_line.FirstLine.{FirstLine}
use Rattle.jup_resume.specs.declared.first_line.FirstLine.TheVariants.{Session, Opens, Resumes, OtherVersion, Misspelled}

abbrev pub BeginsWith : List ℕ → List ℕ → Type 0
BeginsWith front bytes = (rest : List ℕ) × (bytes ≡ front ++ rest)

-- the line belongs to a carrier, and not to a session of protocol 3
abbrev pub IsOfCarrier : List ℕ → Type 0
IsOfCarrier bytes = BeginsWith (codes "hello 4") bytes ⊎ BeginsWith (codes "resume ") bytes

-- it is no note
abbrev pub IsNoNote : List ℕ → Type 0
IsNoNote text = (note : Note) → IsNote note → text ≢ note_text note

-- it greets in a version of the protocol
abbrev pub NamesVersion : List ℕ → Type 0
NamesVersion text = (version : ℕ) × IsU32 version × (text ≡ codes "hello " ++ decimal version)

-- what a text asks for as a first line
abbrev pub AsksFor : List ℕ → FirstLine → Type 0
AsksFor text Session = IsOfCarrier text → ⊥
AsksFor text Opens = text ≡ note_text Hello
AsksFor text (Resumes token taken) = IsNote (Resume token taken) × (text ≡ note_text (Resume token taken))
AsksFor text OtherVersion = IsOfCarrier text × IsNoNote text × NamesVersion text
AsksFor text Misspelled = IsOfCarrier text × IsNoNote text × (NamesVersion text → ⊥)
