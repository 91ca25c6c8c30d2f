-- A link of protocol 4 is reliable.
use Rattle.std.proofs.Common.{◌≡◌, ℕ, List, [], ◌∷◌, ◌++◌, refl, sym, ap, ◌∙◌, inl, inr, append_assoc, subst}
use Rattle.jup_served.specs.Prelude.{Joined, Line, spelling, flat_map, flat_map-cons, flat_map-append}
use Rattle.jup_wire.specs.Lines.{line_text}
use Rattle.jup_resume.specs.Texts.{spelled}
use Rattle.jup_resume.specs.Notes.{begins_note}
use Rattle.jup_resume.specs.Ways.{Way, IsRun}
use Rattle.jup_resume.proofs.WayRuns.{run_on, keeps}
use Rattle.jup_honest.specs.Sites.{Step, Connection, after, Begins, IsReliable, IsReliableThrough}
use Rattle.jup_honest.proofs.Backlogs.{begins_chain}
use Rattle.jup_socket.specs.Sockets.{all_said, said_lines, written_down, UpSocket, DownSocket, AtSocket}
use Rattle.jup_socket.proofs.Sockets.{up_reliable, down_reliable}
use Rattle.jup_session.specs.Prelude.{Hello}
use Rattle.jup_carried.specs.Carried.{Ways, AreRuns, GoOn, texts, bytes_handed, Hears, CarriesUp, CarriesDown, Carries, AtEach}

-- # Bytes

pub text_bytes : (lines : List Line) → flat_map spelled (texts lines) ≡ flat_map spelling lines
text_bytes [] = refl
text_bytes (l ∷ lines) = flat_map-cons spelled (line_text l) (texts lines) ∙ ap (λ bs. spelling l ++ bs) (text_bytes lines) ∙ sym (flat_map-cons spelling l lines)

-- the first of some lines have the first of their bytes
pub first_bytes : {A : Type 0} (bytes : A → List ℕ) (before : List ℕ) (all first : List A) → Begins all first → Begins (before ++ flat_map bytes all) (before ++ flat_map bytes first)
first_bytes bytes before all first begins = (
  flat_map bytes begins.0,
  ap (λ xs. before ++ flat_map bytes xs) begins.1 ∙ ap (λ bs. before ++ bs) (flat_map-append bytes first begins.0) ∙ sym (append_assoc before (flat_map bytes first) (flat_map bytes begins.0)),
)

-- the lines that a way handed on are the first of those that are put there
pub handed_first : (lines : List Line) (way : Way) → IsRun begins_note way → Begins (texts lines) way.put → Begins (texts lines) way.handed
handed_first lines way is put = begins_chain (texts lines) way.put way.handed put (keeps begins_note way is).in_order

-- and so is what was read of them
pub read_first : (before : List ℕ) (lines : List Line) (way : Way) → IsRun begins_note way → Begins (texts lines) way.put → (read : List ℕ) → Begins (before ++ bytes_handed way) read
    → Begins (before ++ flat_map spelling lines) read
read_first before lines way is put read first =
    let bytes = begins_chain (before ++ flat_map spelled (texts lines)) (before ++ bytes_handed way) read (first_bytes spelled before (texts lines) way.handed (handed_first lines way is put)) first in
    (bytes.0, ap (λ bs. before ++ bs) (sym (text_bytes lines)) ∙ bytes.1)

-- # A link

up_socket : (c : Connection) (way : Way) → IsRun begins_note way → CarriesUp c way → UpSocket c
up_socket c way is u =
    let lines = said_lines (all_said c.sent u.puts.bye) in
    let read = read_first (spelling Hello) lines way is u.puts.put u.brought.read u.first in
    record { bye = u.puts.bye; spelled = (tt, u.puts.spells); brought = u.brought; left = read.0; bytes = sym read.1 ∙ sym (flat_map-cons spelling Hello lines) }

down_socket : (answer : Joined) (c : Connection) (way : Way) → IsRun begins_note way → CarriesDown answer c way → Hears c.handed way → DownSocket answer c
down_socket answer c way is d hears =
    let read = read_first [] (written_down answer c.fetched d.last) way is d.put hears.received.read hears.first in
    record { last = d.last; ends = d.ends; spelled = d.spells; received = hears.received; left = read.0; bytes = sym read.1 }

pub at_socket : (answer : Joined) (c : Connection) (ways : Ways) → AreRuns ways → Carries answer c ways → Hears c.handed ways.down → AtSocket answer c
at_socket answer c ways are k hears = record { up = up_socket c ways.up are.up k.up; down = down_socket answer c ways.down are.down k.down hears }

pub reliable : (answer : Joined) (c : Connection) (ways : Ways) → AreRuns ways → Carries answer c ways → IsReliable c
reliable answer c ways are k = record {
  up = up_reliable c (up_socket c ways.up are.up k.up);
  down = elim k.down.hears as (λ h. Begins c.fetched c.handed) [
    | inl none ↦ (c.fetched, ap (λ ds. ds ++ c.fetched) (sym none))
    | inr hears ↦ down_reliable answer c (down_socket answer c ways.down are.down k.down hears)
  ];
}

-- # At each moment

pub runs_on : (old new : Ways) → GoOn old new → AreRuns old → AreRuns new
runs_on old new on are = record {
  up = subst (IsRun begins_note) (sym on.up) (run_on begins_note old.up on.ups are.up on.ups_allowed);
  down = subst (IsRun begins_note) (sym on.down) (run_on begins_note old.down on.downs are.down on.downs_allowed);
}

pub each_reliable : (answer : Joined) (steps : List Step) (c : Connection) (ways last : Ways) → AreRuns ways → AtEach (Carries answer) steps c ways last → IsReliableThrough steps c
each_reliable answer [] c ways last are at = reliable answer c ways are at.0
each_reliable answer (step ∷ steps) c ways last are at =
    (reliable answer c ways are at.0, each_reliable answer steps (after step c) at.1.0 last (runs_on ways at.1.0 at.1.1 are) at.1.2)
