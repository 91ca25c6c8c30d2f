-- One way of a link: lines are put at one end and handed on at the other. One carrier after another brings their bytes. Each
-- may break at any byte, and each end may be killed at any moment and go on from its disk.
use Rattle.std.specs.Prelude.{◌≡◌, ℕ, ◌-◌, ◌≤◌, Bool, true, false, ◌&&◌, nat_eq, nat_lt, List, [], ◌∷◌, ◌++◌, length, take, drop, replicate, Option, None, Some}
use Rattle.std.specs.List.{AllByRecursion}
use Rattle.jup_resume.specs.Texts.{Text, HasNoFeed, spelled}
use Rattle.jup_resume.specs.Keepers.{Keeping, nothing_put, after_put, unsent, after_write, after_cut, after_begin, after_got, IsPlace, IsGot, reach}

-- A line is one of the link, which is handed on, or a note of the carrier, which is not.

-- those of the link among lines
abbrev pub with_line : Bool → Text → List Text → List Text
with_line true text texts = texts
with_line false text texts = text ∷ texts

abbrev pub lines_in : (Text → Bool) → List Text → List Text
lines_in note [] = []
lines_in note (text ∷ texts) = with_line (note text) text (lines_in note texts)

-- a line was read whole: it is handed on unless it is a note
abbrev pub with_read : Bool → Text → List Text → List Text
with_read true text handed = handed
with_read false text handed = handed ++ text ∷ []

-- Both ends and what is between them.
pub record Way : Type 0 where
  pub put : List Text  -- all lines that were put at the sending end
  pub keeper : Keeping  -- what it keeps of them
  pub stored : ℕ  -- how many of them are on its disk
  pub wire : List ℕ  -- bytes that were written to the present carrier and have not come
  pub part : Text  -- what came of a line of which the rest has not
  pub handed : List Text  -- the lines that the other end has handed on
  pub safe : ℕ  -- how many of them are on its disk
  pub counts : List ℕ  -- counts of such lines, on their way back on the present carrier
  pub place : Option ℕ  -- the count with which that carrier began, if the sending end has not heard it

-- before the first line
abbrev pub new_way : Way
new_way = record { put = []; keeper = nothing_put; stored = 0; wire = []; part = []; handed = []; safe = 0; counts = []; place = None }

-- What may happen.
pub data Event : Type 0 where
  Puts : Text → Event  -- a line is put
  Stores : Event  -- all lines put so far come to the sending end's disk
  Writes : Event  -- the next line that is on that disk is written to the carrier
  Notes : Text → Event  -- a note is written to it
  Comes : Event  -- the next byte comes
  Saves : Event  -- all lines handed on so far come to the other end's disk
  Tells : Event  -- that end writes how many are there
  Hears : Event  -- the oldest such count comes to the sending end
  Begins : Event  -- the count with which the carrier began comes to it
  Breaks : Event  -- the carrier breaks, and another takes its place
  SenderFails : ℕ → Event  -- the sending end is killed, and goes on from its disk, which lacks the last so many of the lines that it was told to drop
  TakerFails : Event  -- the other end is killed, and goes on from its disk

-- a byte comes: the last of a line, or another
abbrev pub with_byte : (Text → Bool) → Way → ℕ → List ℕ → Bool → Way
with_byte note w b bs true = record w { wire = bs; part = []; handed = with_read (note w.part) w.part w.handed }
with_byte note w b bs false = record w { wire = bs; part = w.part ++ b ∷ [] }

abbrev pub come : (Text → Bool) → Way → List ℕ → Way
come note w [] = w
come note w (b ∷ bs) = with_byte note w b bs (nat_eq b 10)

-- a line is written
abbrev pub with_line_of : Way → List Text → Way
with_line_of w [] = w
with_line_of w (text ∷ texts) = record w { keeper = after_write w.keeper; wire = w.wire ++ spelled text }

-- if the end knows where to begin and the line is on its disk
abbrev pub write_if : Way → Bool → Way
write_if w true = with_line_of w (unsent w.keeper)
write_if w false = w

-- a count comes to an end that knows where to begin
abbrev pub with_count : Way → List ℕ → Way
with_count w [] = w
with_count w (n ∷ ns) = record w { keeper = after_got n w.keeper; counts = ns }

abbrev pub hear_if : Way → Bool → Way
hear_if w true = with_count w w.counts
hear_if w false = w

-- the count with which the carrier began comes
abbrev pub with_place : Way → Option ℕ → Way
with_place w None = w
with_place w (Some n) = record w { keeper = after_begin n w.keeper; place = None }

-- a new carrier, which begins with the count of the lines that were handed on
abbrev pub renewed : List Text → Keeping → Way → Way
renewed handed keeper w = record w { keeper = after_cut keeper; wire = []; part = []; handed = handed; counts = []; place = Some (length handed) }

-- what a sending end has after a kill: the lines on its disk, from number n on
abbrev pub kept_after : ℕ → List Text → Keeping
kept_after n put = record { dropped = n; kept = drop n put; sent = 0; is_open = false }

abbrev pub happens : (Text → Bool) → Way → Event → Way
happens note w (Puts text) = record w { put = w.put ++ text ∷ []; keeper = after_put text w.keeper }
happens note w Stores = record w { stored = length w.put }
happens note w Writes = write_if w (w.keeper.is_open && nat_lt (reach w.keeper) w.stored)
happens note w (Notes text) = record w { wire = w.wire ++ spelled text }
happens note w Comes = come note w w.wire
happens note w Saves = record w { safe = length w.handed }
happens note w Tells = record w { counts = w.counts ++ w.safe ∷ [] }
happens note w Hears = hear_if w w.keeper.is_open
happens note w Begins = with_place w w.place
happens note w Breaks = renewed w.handed w.keeper w
happens note w (SenderFails n) =
    renewed w.handed (kept_after (w.keeper.dropped - n) (take w.stored w.put)) (record w { put = take w.stored w.put })
happens note w TakerFails = renewed (take w.safe w.handed) w.keeper w

-- a whole run
abbrev pub run : (Text → Bool) → List Event → Way → Way
run note [] w = w
run note (e ∷ es) w = run note es (happens note w e)

-- so many bytes come
abbrev pub comes : ℕ → List Event
comes count = replicate count Comes

-- a line that is put is one of the link, and a note is one
abbrev pub IsAllowed : (Text → Bool) → Event → Type 0
IsAllowed note (Puts text) = HasNoFeed text × (note text ≡ false)
IsAllowed note Stores = Unit {0}
IsAllowed note Writes = Unit {0}
IsAllowed note (Notes text) = HasNoFeed text × (note text ≡ true)
IsAllowed note Comes = Unit {0}
IsAllowed note Saves = Unit {0}
IsAllowed note Tells = Unit {0}
IsAllowed note Hears = Unit {0}
IsAllowed note Begins = Unit {0}
IsAllowed note Breaks = Unit {0}
IsAllowed note (SenderFails n) = Unit {0}
IsAllowed note TakerFails = Unit {0}

abbrev pub AreAllowed : (Text → Bool) → List Event → Type 0
AreAllowed note events = AllByRecursion (IsAllowed note) events

-- a way is what allowed events made of a new one
pub record IsRun (note : Text → Bool) (way : Way) : Type 0 where
  pub events : List Event
  pub allowed : AreAllowed note events
  pub is : way ≡ run note events new_way

-- What a way promises, whatever happened.

-- these begin with those
abbrev pub BeginWith : List Text → List Text → Type 0
BeginWith all first = (rest : List Text) × (all ≡ first ++ rest)

-- each count that comes to the sending end is one that it can take
abbrev pub TakesNext : Keeping → List ℕ → Type 0
TakesNext k [] = Unit {0}
TakesNext k (n ∷ ns) = IsGot k n

abbrev pub TakesPlace : Keeping → Option ℕ → Type 0
TakesPlace k None = Unit {0}
TakesPlace k (Some n) = IsPlace k n

pub record Keeps (w : Way) : Type 0 where
  -- what was handed on is the beginning of what was put: none is lost, none comes twice, and they keep their order
  pub in_order : BeginWith w.put w.handed
  -- and of what is on the sender's disk
  pub stored : length w.handed ≤ w.stored
  -- what the sending end keeps no more is on the other end's disk
  pub safe : w.keeper.dropped ≤ w.safe
  pub safe_of : w.safe ≤ length w.handed
  -- it keeps all that comes after
  pub kept : w.keeper.kept ≡ drop w.keeper.dropped w.put
  -- it refuses no count
  pub place : TakesPlace w.keeper w.place
  pub counts : w.keeper.is_open ≡ true → TakesNext w.keeper w.counts
  -- once it has written all on a carrier that brought all, all that was put was handed on
  pub whole : w.keeper.is_open ≡ true → unsent w.keeper ≡ [] → w.wire ≡ [] → w.handed ≡ w.put

-- A run, so that the promises are not empty: a line is written, its carrier breaks within it, the sender is killed, and a third carrier brings it.
abbrev pub no_note : Text → Bool
no_note text = false

abbrev pub broken_run : List Event
broken_run =
    Puts (65 ∷ 66 ∷ []) ∷ Stores ∷ Breaks ∷ Begins ∷ Writes ∷ Comes ∷ Breaks ∷ Begins ∷ Writes ∷ Comes ∷ Comes
    ∷ SenderFails 0 ∷ Begins ∷ Writes ∷ Comes ∷ Comes ∷ Comes ∷ Saves ∷ Tells ∷ Hears ∷ []
