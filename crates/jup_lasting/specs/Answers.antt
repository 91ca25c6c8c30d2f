-- What the server's first line on a connection says.
use Rattle.std.specs.Prelude.{◌≡◌, ◌⊎◌, ℕ, ◌<◌, ◌≤◌, List}
use Rattle.jup_number.specs.Numbers.{IsU32}
use Rattle.jup_resume.specs.declared.note.Note.{Note}
use Rattle.jup_resume.specs.declared.note.Note.TheVariants.{Hello, Link, Resume, Resumed as SaysResumed, Ended as SaysEnded, Got}
use Rattle.jup_resume.specs.declared.taker.Arrival.{Arrival}
use Rattle.jup_resume.specs.declared.taker.Arrival.TheVariants.{Part, Note as IsNoteLine, Line, LongLine}
use Rattle.jup_lasting.specs.LineKinds.{error_text}
use Rattle.jup_lasting.specs.declared.first_answer.FirstAnswer.{FirstAnswer}
use Rattle.jup_lasting.specs.declared.first_answer.FirstAnswer.TheVariants.{Nothing, Opened, Resumed, Ended, Refused, Strange}

-- the most seconds for which a server lets a link wait
abbrev pub most_seconds : ℕ
most_seconds = 86400

abbrev pub SaysNote : Note → FirstAnswer → Type 0
SaysNote Hello answer = answer ≡ Strange
SaysNote (Link token seconds kept) answer =
    ((seconds ≤ most_seconds) × (answer ≡ Opened (record { token = token; seconds = seconds; kept = kept }))) ⊎ ((most_seconds < seconds) × (answer ≡ Strange))
SaysNote (Resume token taken) answer = answer ≡ Strange
SaysNote (SaysResumed taken) answer = answer ≡ Resumed taken
SaysNote (SaysEnded taken) answer = answer ≡ Ended taken
SaysNote (Got taken) answer = answer ≡ Strange

-- a line that is no note: `error N`, or a strange one
abbrev pub SaysText : List ℕ → FirstAnswer → Type 0
SaysText text answer =
    ((number : ℕ) × IsU32 number × (text ≡ error_text number) × (answer ≡ Refused number))
    ⊎ (((number : ℕ) → IsU32 number → text ≡ error_text number → ⊥) × (answer ≡ Strange))

abbrev pub Says : Arrival → FirstAnswer → Type 0
Says Part answer = answer ≡ Nothing
Says (IsNoteLine note) answer = SaysNote note answer
Says (Line text) answer = SaysText text answer
Says (LongLine text) answer = answer ≡ Strange
