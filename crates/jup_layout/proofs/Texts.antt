-- Lines and texts, as layouts.
use Rattle.std.proofs.Common.{◌≡◌, ℕ, ◌≤◌, List, [], ◌∷◌, ◌++◌, length, Option, Some, None, ap, ◌∙◌, arith, Result, Ok, Err, refl, sym, inl, inr, rules, MatchResult, IfOk, append-nil, ◌==◌, ◌≢◌, ◌⊎◌, suc, ◌+◌, ◌<◌, take, drop, IsOkUnless, flat_map, length-append, take-append-drop}
use Rattle.std.proofs.lemmas.List.Concat.{flat_map-cons}
use Rattle.std.proofs.lemmas.Option.{MatchOption-at_none}
use Rattle.std.proofs.lemmas.Bool.{cases_Bool, ne_eqb}
use Rattle.jup_limits.specs.Limits.{longest_input}
use Rattle.jup_layout.specs.Prelude.{Windows, WireFault, Line, LayoutFault, Numbered, Naming, Refusal, NoMemory, DoubleId, TooMany, BadId, BadBounds, Misplaced, BadItemName}
use Rattle.jup_window.specs.Boards as board
use Rattle.jup_wire.specs.Lines.{line_text, spelling}
use Rattle.jup_wire.specs.Streams.{stream_of, Progress, HasRead, IsPart, Faults, ending_at}
use Rattle.jup_wire.proofs.Streams.{one_read}
use Rattle.jup_layout.specs.Drafts.{Drafted, blank, whole, ◌>>?◌, lines_taken, board_with, layout_with, no_memory, ended, Describes, AreLines, Lays, refusal_number, Built, taken, Follows, at_line, board_from, HasTaken, Makes}
use Rattle.jup_layout.specs.Said.{MayFollow, AreLayoutLines, Shows, IsLayout}
use Rattle.jup_layout.proofs.Drafting.{same_Ok, lines_plain}
use Rattle.jup_layout.proofs.Saying.{board_said, board_may}

-- A text has at least as many bytes as lines.

pub spelled_long : (lines : List Line) → length lines ≤ length (flat_map spelling lines)
spelled_long [] = omega arith
spelled_long (l ∷ ls) =
    let rest = spelled_long ls in
    let whole = ap (λ (t : List ℕ). length t) (flat_map-cons spelling l ls) ∙ length-append (spelling l) (flat_map spelling ls) in
    let one = length-append (line_text l) (10 ∷ []) in
    omega (arith, rest, whole, one)

stream_long : (bytes rest : List ℕ) (lines : List Line) → bytes ≡ stream_of lines rest → length lines ≤ length bytes
stream_long bytes rest lines e =
    let long = spelled_long lines in
    let whole = ap (λ (t : List ℕ). length t) e ∙ length-append (flat_map spelling lines) rest in
    omega (arith, long, whole)

read_parts : (bytes part : List ℕ) (fault : Option WireFault) (lines : List Line) → HasRead bytes lines (record { part = part; fault = fault }) → length lines ≤ length bytes
read_parts bytes part None lines read = stream_long bytes part lines read.rest.0
read_parts bytes part (Some fault) lines read = let f = read.rest in stream_long bytes (f.told ++ f.more) lines f.stream

pub lines_fit : (bytes : List ℕ) (lines : List Line) (reader : Progress) → HasRead bytes lines reader → length lines ≤ length bytes
lines_fit bytes lines reader read = read_parts bytes reader.part reader.fault lines read

-- Texts that are whole lines, as layouts.

no_bytes : (part : List ℕ) → length part ≡ 0 → part ≡ []
no_bytes [] e = refl
no_bytes (byte ∷ part) e = absurd (omega (arith, e))

nothing_left : (text part : List ℕ) (lines : List Line) → text ≡ flat_map spelling lines → text ≡ stream_of lines part → part ≡ []
nothing_left text part lines all stream =
    let long = ap (λ (t : List ℕ). length t) (sym all ∙ stream) ∙ length-append (flat_map spelling lines) part in
    no_bytes part (omega (arith, long))

read_whole : (text : List ℕ) (lines : List Line) → AreLines text lines → HasRead text lines (record { part = []; fault = None })
read_whole text lines are =
    let part : IsPart [] = search rules in
    record { spelled = are.spelled; rest = (are.whole ∙ sym (append-nil (flat_map spelling lines)), part) }

same_layout : (r : Result board.Windows LayoutFault) (n : ℕ) → (r >>? λ windows. ended n (Ok tt) windows) ≡ r
same_layout (Ok windows) n = refl
same_layout (Err fault) n = refl

-- a text that is whole lines describes what they do
pub described : (text : List ℕ) (due : Result board.Windows LayoutFault) (lines : List Line) → Describes text due → AreLines text lines → due ≡ layout_with lines
described text due lines d are =
    let one = one_read text d.lines lines d.reader (record { part = []; fault = None }) d.read (read_whole text lines are) in
    let left : (text ≡ stream_of d.lines d.reader.part) × IsPart d.reader.part = MatchOption-at_none _ (λ fault. Faults fault text d.lines) one.1 d.read.rest in
    let none : d.reader.part ≡ [] = nothing_left text d.reader.part d.lines (are.whole ∙ ap (λ ls. flat_map spelling ls) (sym one.0)) left.0 in
    let end : ending_at d.reader.fault d.reader.part ≡ Ok tt = ap (λ f. ending_at f d.reader.part) one.1 ∙ ap (λ p. ending_at None p) none in
    d.is
    ∙ ap (λ e. layout_with d.lines >>? λ windows. ended (length d.lines) e windows) end
    ∙ same_layout (layout_with d.lines) (length d.lines)
    ∙ ap layout_with one.0

pub accepts : (text : List ℕ) (r : Result board.Windows LayoutFault) → Lays text r → (lines : List Line) (windows : board.Windows) → AreLines text lines → layout_with lines ≡ Ok windows
    → MatchResult r (λ made. board.bare made ≡ windows) (λ fault. fault ≡ no_memory)
accepts text (Ok made) lays lines windows are is = same_Ok _ _ (described text (Ok (board.bare made)) lines lays are ∙ is)
accepts text (Err fault) lays lines windows are is =
    elim lays [ inl none ↦ none | inr d ↦ absurd (let no : Err fault ≡ Ok windows = described text (Err fault) lines d are ∙ is in cc) ]

-- what a layout gives, its lines give if the names have only to be distinct
from_taken : (r : Result Drafted LayoutFault) (lines : List Line) (windows : board.Windows) → lines_taken 1 (blank (Numbered 0)) lines ≡ r → (r >>? λ d. Ok (whole d)) ≡ Ok windows → board_with lines ≡ Ok windows
from_taken (Ok end) lines windows is e = ap (λ r. r >>? λ d. Ok (whole d)) (lines_plain lines 1 (blank (Numbered 0)) end is) ∙ e
from_taken (Err fault) lines windows is e = absurd cc

pub as_lines : (text : List ℕ) (r : Result board.Windows LayoutFault) → Lays text r → IfOk r (λ made. (lines : List Line) → AreLines text lines → board_with lines ≡ Ok (board.bare made))
as_lines text (Ok made) lays = λ lines are. from_taken (lines_taken 1 (blank (Numbered 0)) lines) lines (board.bare made) refl (sym (described text (Ok (board.bare made)) lines lays are))
as_lines text (Err fault) lays = tt

-- Lines taken one by one.

-- lines, and then others
lines_taken-append : (xs ys : List Line) (number : ℕ) (d : Drafted) → lines_taken number d (xs ++ ys) ≡ (lines_taken number d xs >>? λ e. lines_taken (number + length xs) e ys)
lines_taken-append [] ys number d = ap (λ n. lines_taken n d ys) (let same : number ≡ number + 0 = omega arith in same)
lines_taken-append (x ∷ xs) ys number d =
    elim (cases_Bool (number == 4294967295)) [
      | inl last ↦ rw last refl
      | inr other ↦ rw other (go (taken d x) (λ next. lines_taken-append xs ys (suc number) next))
    ]
  where
    go : (r : Result Drafted Refusal) → ((next : Drafted) → lines_taken (suc number) next (xs ++ ys) ≡ (lines_taken (suc number) next xs >>? λ e. lines_taken (suc number + length xs) e ys))
        → (at_line number r >>? λ n. lines_taken (suc number) n (xs ++ ys)) ≡ ((at_line number r >>? λ n. lines_taken (suc number) n xs) >>? λ e. lines_taken (number + suc (length xs)) e ys)
    go (Ok next) rest = rest next ∙ ap (λ m. lines_taken (suc number) next xs >>? λ e. lines_taken m e ys) (let same : suc number + length xs ≡ number + suc (length xs) = omega arith in same)
    go (Err refusal) rest = refl

-- what more lines make of all is what they make of what is held
pub held_more : (naming : Naming) (lines more : List Line) (b : Built) → HasTaken naming lines b → lines_taken 1 (blank naming) (lines ++ more) ≡ lines_taken b.next b.drafted more
held_more naming lines more b held =
    lines_taken-append lines more 1 (blank naming)
    ∙ ap (λ r. r >>? λ e. lines_taken (1 + length lines) e more) held.0
    ∙ ap (λ n. lines_taken n b.drafted more) (let same : 1 + length lines ≡ b.next = omega (arith, held.1) in same)

-- one more line
pub line_taken : (naming : Naming) (lines : List Line) (line : Line) (b : Built) (next : Drafted) → HasTaken naming lines b → b.next ≢ 4294967295 → taken b.drafted line ≡ Ok next
    → HasTaken naming (lines ++ line ∷ []) (record { drafted = next; next = b.next + 1 })
line_taken naming lines line b next held other is = (
  held_more naming lines (line ∷ []) b held ∙ rw (ne_eqb b.next 4294967295 other) (ap (λ r. at_line b.next r >>? λ d. Ok d) is),
  omega (arith, held.1, length-append lines (line ∷ [])),
)

-- a line that is refused
line_refused : (naming : Naming) (lines : List Line) (line : Line) (b : Built) (refusal : Refusal) → HasTaken naming lines b → b.next ≢ 4294967295 → taken b.drafted line ≡ Err refusal
    → board_from naming (lines ++ line ∷ []) ≡ Err (record { line = b.next; number = refusal_number refusal })
line_refused naming lines line b refusal held other is =
    let step : lines_taken b.next b.drafted (line ∷ []) ≡ Err (record { line = b.next; number = refusal_number refusal }) = rw (ne_eqb b.next 4294967295 other) (ap (λ r. at_line b.next r >>? λ d. Ok d) is) in
    ap (λ r. r >>? λ d. Ok (whole d)) (held_more naming lines (line ∷ []) b held ∙ step)

-- one line too many
pub too_many : (naming : Naming) (lines : List Line) (line : Line) (b : Built) → HasTaken naming lines b → b.next ≡ 4294967295
    → board_from naming (lines ++ line ∷ []) ≡ Err (record { line = b.next; number = 11 })
too_many naming lines line b held last =
    let step : lines_taken b.next b.drafted (line ∷ []) ≡ Err (record { line = b.next; number = 11 }) = rw last refl in
    ap (λ r. r >>? λ d. Ok (whole d)) (held_more naming lines (line ∷ []) b held ∙ step)

-- a refused line, by the number of its fault
pub refused_line : (naming : Naming) (lines : List Line) (line : Line) (b : Built) (refusal : Refusal) (fault : LayoutFault) → HasTaken naming lines b → b.next ≢ 4294967295
    → Follows (λ (d : Drafted). d) (Err refusal) (taken b.drafted line) → (refusal ≡ NoMemory → fault ≡ no_memory)
    → ((refusal ≡ NoMemory → ⊥) → fault ≡ record { line = b.next; number = refusal_number refusal }) → (fault ≡ no_memory) ⊎ (board_from naming (lines ++ line ∷ []) ≡ Err fault)
refused_line naming lines line b NoMemory fault held other due none at = inl (none refl)
refused_line naming lines line b DoubleId fault held other due none at = inr (line_refused naming lines line b DoubleId held other due ∙ ap Err (sym (at (λ e. cc))))
refused_line naming lines line b TooMany fault held other due none at = inr (line_refused naming lines line b TooMany held other due ∙ ap Err (sym (at (λ e. cc))))
refused_line naming lines line b BadId fault held other due none at = inr (line_refused naming lines line b BadId held other due ∙ ap Err (sym (at (λ e. cc))))
refused_line naming lines line b BadBounds fault held other due none at = inr (line_refused naming lines line b BadBounds held other due ∙ ap Err (sym (at (λ e. cc))))
refused_line naming lines line b Misplaced fault held other due none at = inr (line_refused naming lines line b Misplaced held other due ∙ ap Err (sym (at (λ e. cc))))
refused_line naming lines line b BadItemName fault held other due none at = inr (line_refused naming lines line b BadItemName held other due ∙ ap Err (sym (at (λ e. cc))))

-- the board of what is held
pub held_whole : (naming : Naming) (lines : List Line) (b : Built) → HasTaken naming lines b → board_from naming lines ≡ Ok (whole b.drafted)
held_whole naming lines b held = ap (λ r. r >>? λ d. Ok (whole d)) held.0

-- a refused line is the fault of all lines that begin so
pub refused_early : (naming : Naming) (front more : List Line) (fault : LayoutFault) → board_from naming front ≡ Err fault → board_from naming (front ++ more) ≡ Err fault
refused_early naming front more fault e =
    ap (λ r. r >>? λ d. Ok (whole d)) (lines_taken-append front more 1 (blank naming)) ∙ go (lines_taken 1 (blank naming) front) e
  where
    go : (r : Result Drafted LayoutFault) → (r >>? λ d. Ok (whole d)) ≡ Err fault → ((r >>? λ d. lines_taken (1 + length front) d more) >>? λ d. Ok (whole d)) ≡ Err fault
    go (Ok d) f = absurd cc
    go (Err other) f = let same : Err other ≡ Err fault = f in ap (λ (r : Result Windows LayoutFault). r) same

pub refused_within : (naming : Naming) (lines front : List Line) (n : ℕ) (fault : LayoutFault) → front ≡ take n lines → board_from naming front ≡ Err fault → board_from naming lines ≡ Err fault
refused_within naming lines front n fault is e =
    ap (board_from naming) (sym (take-append-drop n lines) ∙ ap (λ ls. ls ++ drop n lines) (sym is)) ∙ refused_early naming front (drop n lines) fault e

-- What lines and texts say is what is made of them.

-- ---- lines

pub made_said : (naming : Naming) (lines : List Line) (r : Result board.Windows LayoutFault) → Makes r (board_from naming lines) → IfOk r (λ made. MayFollow naming [] lines × Shows lines (board.bare made))
made_said naming lines (Ok made) makes = board_said naming lines (board.bare made) makes
made_said naming lines (Err fault) makes = tt

pub made_every : (naming : Naming) (lines : List Line) (r : Result board.Windows LayoutFault) → Makes r (board_from naming lines) → MayFollow naming [] lines → length lines < 4294967295 → IsOkUnless r no_memory
made_every naming lines (Ok made) makes may few = tt
made_every naming lines (Err fault) makes may few =
    let due = board_may naming lines may few in
    elim makes [ inl none ↦ none | inr other ↦ absurd (let no : Ok due.0 ≡ Err fault = sym due.1 ∙ other in cc) ]

-- ---- texts

-- nothing is left of a text that ends well
whole_text : (text : List ℕ) (lines : List Line) (part : List ℕ) (fault : Option WireFault) → HasRead text lines (record { part = part; fault = fault }) → ending_at fault part ≡ Ok tt → AreLines text lines
whole_text text lines part (Some fault) read e = absurd cc
whole_text text lines [] None read e = record { spelled = read.spelled; whole = read.rest.0 ∙ append-nil (flat_map spelling lines) }
whole_text text lines (byte ∷ part) None read e = absurd cc

both_well : (r : Result board.Windows LayoutFault) (end : Result (Unit {0}) WireFault) (count : ℕ) (windows : board.Windows) → Ok windows ≡ (r >>? λ made. ended count end made) → (r ≡ Ok windows) × (end ≡ Ok tt)
both_well (Ok made) (Ok done) count windows e = (sym e, refl)
both_well (Ok made) (Err fault) count windows e = absurd cc
both_well (Err fault) end count windows e = absurd cc

pub text_said : (text : List ℕ) (r : Result board.Windows LayoutFault) → Lays text r → IfOk r (λ made. IsLayout text (board.bare made))
text_said text (Ok made) lays =
    let both = both_well (layout_with lays.lines) (ending_at lays.reader.fault lays.reader.part) (length lays.lines) (board.bare made) lays.is in
    let said = board_said (Numbered 0) lays.lines (board.bare made) both.0 in
    record { lines = lays.lines; spelled = whole_text text lays.lines lays.reader.part lays.reader.fault lays.read both.1; may = said.0; shows = said.1 }
text_said text (Err fault) lays = tt

pub text_every : (text : List ℕ) (r : Result board.Windows LayoutFault) → Lays text r → length text ≤ longest_input → (lines : List Line) → AreLines text lines → AreLayoutLines lines → IsOkUnless r no_memory
text_every text (Ok made) lays short lines are may = tt
text_every text (Err fault) lays short lines are may =
    let long = spelled_long lines in
    let due = board_may (Numbered 0) lines may (omega (arith, long, short, ap (λ (t : List ℕ). length t) are.whole)) in
    accepts text (Err fault) lays lines due.0 are due.1
