-- The notes of a carrier, each in its one spelling.
use Rattle.std.specs.Prelude.{◌≡◌, ℕ, nat_eq, Bool, true, false, ◌||◌, List, [], ◌∷◌, ◌++◌, codes, decimal, Option}
use Rattle.std.specs.List.{starts_with}
use Rattle.jup_number.specs.Numbers.{IsU32, IsReadingOf}
use Rattle.jup_resume.specs.Tokens.{IsTokenText}
use Rattle.jup_resume.specs.declared.note.Note.{Note}
use Rattle.jup_resume.specs.declared.note.Note.TheVariants.{Hello, Link, Resume, Resumed, Ended, Got}

-- the first word of a note
abbrev pub word_of : Note → List ℕ
word_of Hello = codes "hello"
word_of (Link token seconds kept) = codes "link"
word_of (Resume token taken) = codes "resume"
word_of (Resumed taken) = codes "resumed"
word_of (Ended taken) = codes "ended"
word_of (Got taken) = codes "got"

abbrev pub kept_text : Bool → List ℕ
kept_text true = codes " kept"
kept_text false = []

-- for how many seconds a link waits, and whether what is confirmed outlives the server
abbrev pub waiting_text : ℕ × Bool → List ℕ
waiting_text waiting = decimal waiting.0 ++ kept_text waiting.1

abbrev pub IsWaiting : ℕ × Bool → Type 0
IsWaiting waiting = IsU32 waiting.0

-- what comes after that word and a space
abbrev pub fields_of : Note → List ℕ
fields_of Hello = codes "4"
fields_of (Link token seconds kept) = token ++ 32 ∷ waiting_text (seconds, kept)
fields_of (Resume token taken) = token ++ 32 ∷ decimal taken
fields_of (Resumed taken) = decimal taken
fields_of (Ended taken) = decimal taken
fields_of (Got taken) = decimal taken

-- the one spelling of a note, without its line feed
abbrev pub note_text : Note → List ℕ
note_text note = word_of note ++ 32 ∷ fields_of note

-- a note whose fields can be spelled
abbrev pub IsNote : Note → Type 0
IsNote Hello = Unit {0}
IsNote (Link token seconds kept) = IsTokenText token × IsU32 seconds
IsNote (Resume token taken) = IsTokenText token × IsU32 taken
IsNote (Resumed taken) = IsU32 taken
IsNote (Ended taken) = IsU32 taken
IsNote (Got taken) = IsU32 taken

-- a text begins with the word of a note, as no line of a link does
abbrev pub begins_note : List ℕ → Bool
begins_note text =
    starts_with nat_eq text (codes "got ")
    || starts_with nat_eq text (codes "link ")
    || starts_with nat_eq text (codes "hello ")
    || starts_with nat_eq text (codes "ended ")
    || starts_with nat_eq text (codes "resume ")
    || starts_with nat_eq text (codes "resumed ")

-- the note that was read has this word, and these fields after it; with none read, no note has them
abbrev pub IsReadingBehind : List ℕ → List ℕ → Option Note → Type 0
IsReadingBehind word fields read = IsReadingOf fields_of (λ note. IsNote note × (word_of note ≡ word)) fields read
