-- What a piece of bytes leaves.
use Rattle.std.proofs.Common.{◌≢◌, ◌<◌, ℕ, List, ◌∷◌, length, ap, arith, length-append}
use Rattle.jup_resume.specs.Notes.{note_text}
use Rattle.jup_resume.specs.Takers.{Brings, EndsLine}
use Rattle.jup_resume.specs.declared.taker.Arrival.{Arrival}
use Rattle.jup_resume.specs.declared.taker.Arrival.TheVariants.{Part, Note, Line, LongLine}

ended_shorter : (old piece new rest text : List ℕ) → EndsLine old piece new rest text → length rest < length piece
ended_shorter old piece new rest text ends =
    let whole = ap length ends.cut.whole in
    omega (arith, whole, length-append ends.behind (10 ∷ rest))

-- a line or a part of one takes some bytes
pub brings_shorter : (old piece new rest : List ℕ) (arrival : Arrival) → length old < 256 → Brings old piece arrival new rest → length piece ≢ 0 → length rest < length piece
brings_shorter old piece new rest Part short brings some =
    let none = ap length brings.all in
    omega (arith, none, some)
brings_shorter old piece new rest (Note note) short brings some = ended_shorter old piece new rest (note_text note) brings.1
brings_shorter old piece new rest (Line text) short brings some = ended_shorter old piece new rest text brings.1
brings_shorter old piece new rest (LongLine text) short brings some =
    let cut = ap length brings.cut in
    let whole = ap length brings.whole in
    let long = brings.long in
    omega (arith, cut, whole, long, short, length-append brings.behind rest, length-append old brings.behind)

-- what is left of a line is no whole one
pub brings_short : (old piece new rest : List ℕ) (arrival : Arrival) → Brings old piece arrival new rest → length new < 256
brings_short old piece new rest Part brings = brings.is_part.short
brings_short old piece new rest (Note note) brings = let none = ap length brings.1.part in omega (arith, none)
brings_short old piece new rest (Line text) brings = let none = ap length brings.1.part in omega (arith, none)
brings_short old piece new rest (LongLine text) brings = let none = ap length brings.part in omega (arith, none)
