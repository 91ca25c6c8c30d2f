-- What a session does, byte for byte.
use Rattle.std.proofs.Common.{◌≡◌, ◌≢◌, ℕ, Bool, not, List, [], ◌∷◌, ◌++◌, Option, None, Ok, Err, IsTrue, inl, inr}
use Rattle.jup_session.specs.Prelude.{Joined, Join, JoinedReply, bare_joined, Line, Hello, line_bytes, HubFault, HubEvent, View, Made, Ending, Stop, Hub, Stream, NoMemory, Misplaced, WriteFailed, ending_of, ended_by, last_line, standing, Keeper, WritesFront, Sourced, HandsOn, Stops, Untaken, Undone, flat_map, AllByRecursion, HasRead}
use Rattle.jup_hub.specs.Histories.{tally, after_split, Called}
use Rattle.jup_session.specs.Sessions.{GivesBack, IsLeaveOf, Departs, lines_brought, AreFetchesFor, FetchesAll, TellsFault, welcome_lines, Heard, Over, Stopped, ByLine, AtMessage, Spent}

-- What a session reads, takes and writes, byte for byte.

-- a source before its first read, of a reader with these bytes
pub record IsFresh (from : Option (List ℕ)) (start : Sourced) : Type 0 where
  pub known : start.known ≡ from
  pub read : HasRead [] [] start.progress
  pub waiting : start.waiting ≡ []
  pub reads : start.reads ≡ 0

-- the site joined, and the hub answered this
abbrev pub Enters : Joined → View → View → Type 0
Enters joined v w = Called Join (JoinedReply (bare_joined (Ok joined))) v w

-- why the site does not join: there is no first line, or it is no greeting, or the hub refuses the join
pub data IsTurnedAway (a : Sourced) (v : View) (b : Sourced) (w : View) (ending : Ending) : Type 0 where
  NoLine : (stop : Stop) → Stops a stop b → w ≡ v → ending ≡ ended_by stop → IsTurnedAway a v b w ending
  NoGreeting : (line : Line) → HandsOn a (line ∷ []) b → line ≢ Hello → w ≡ v → ending ≡ ending_of (Stream Misplaced) → IsTurnedAway a v b w ending
  NoJoin : (fault : HubFault) → HandsOn a (Hello ∷ []) b → Made (λ r. JoinedReply (bare_joined r)) Join v w (Err fault) → ending ≡ ending_of (Hub fault) → IsTurnedAway a v b w ending

-- the site said hello and joined under this number, and the session is to write these lines
pub record IsWelcomed (site : ℕ) (a : Sourced) (v : View) (b : Sourced) (w : View) (lines : List Line) : Type 0 where
  pub hello : HandsOn a (Hello ∷ []) b
  pub joined : Joined
  pub site_is : joined.site ≡ site
  pub enters : Enters joined v w
  pub lines_are : lines ≡ welcome_lines joined

-- the site joined, and left since a write of its welcome failed
pub record IsUnwelcome (a : Sourced) (v : View) (b : Sourced) (w : View) (ending : Ending) (failed : Bool) (lines : List Line) : Type 0 where
  pub site : ℕ
  pub behind : View
  pub welcomed : IsWelcomed site a v b behind lines
  pub departs : Departs site behind w
  pub failed_is : IsTrue failed
  pub ending_is : ending ≡ ending_of (Stream WriteFailed)

-- A session that ends before both halves begin. Its lines are the last line alone, or the welcome, which is cut off
pub data EndsEarly (a : Sourced) (v : View) (b : Sourced) (w : View) (ending : Ending) (failed : Bool) (lines : List Line) : Type 0 where
  TurnedAway : IsTurnedAway a v b w ending → lines ≡ last_line ending ∷ [] → EndsEarly a v b w ending failed lines
  Unwelcome : IsUnwelcome a v b w ending failed lines → EndsEarly a v b w ending failed lines

-- Both halves of a session, from the pass v, which has joined the site, to the pass x.
-- In: under its own number are takes of just the messages that the lines read spell, in order, up to the reason why there are no more.
-- Out: under one number more are fetches, and then the calls that give back and leave. The lines are those of the messages that these fetches brought, in order,
-- and the last line. The fetches bring all that waits, unless the half stopped for a fault. The ending is what the reading half heard, unless the writing half
-- reported such a fault
pub record BothHalves (site : ℕ) (a : Sourced) (v x : View) (ending : Ending) (failed : Bool) (undone : Undone) (lines : List Line) : Type 0 where
  pub last : Sourced
  pub heard : Ending
  pub read : View
  pub hears : Heard site a (after_split v) last read heard undone.untaken
  pub told : Option Ending
  pub fault : TellsFault told undone.unsent
  pub ending_is : ending ≡ standing told heard
  pub fetches : List HubEvent
  pub back : List HubEvent
  pub leaves : List HubEvent
  pub made : x.made ≡ read.made
  pub kept : x.kept ≡ read.kept ++ tally (v.splits ∷ v.number) (fetches ++ (back ++ leaves)) ∷ []
  pub alone : AreFetchesFor site fetches
  pub all : FetchesAll failed fetches undone.unsent
  pub gives_back : GivesBack site 0 back
  pub departs : AllByRecursion (λ e. IsLeaveOf site e.call) leaves
  pub lines_are : lines ≡ lines_brought fetches ++ last_line ending ∷ []

-- a session that welcomed its site, and served it by both halves
pub record IsServed (a : Sourced) (v x : View) (ending : Ending) (failed : Bool) (undone : Undone) (lines : List Line) : Type 0 where
  pub site : ℕ
  pub greeted : Sourced
  pub behind : View
  pub first : List Line
  pub later : List Line
  pub welcomed : IsWelcomed site a v greeted behind first
  pub halves : BothHalves site greeted behind x ending failed undone later
  pub lines_are : lines ≡ first ++ later

-- a session that left nothing undone
abbrev pub all_done : Undone
all_done = record { untaken = None; unsent = None }

-- The lines that a session is to write, by the bytes of its reader and by the answers of its hub. If it has no room for any line, it reads nothing, and
-- the one line reports that it is out of memory. Otherwise the session ends early, or both halves serve the site
pub data HasLines (from : Option (List ℕ)) (v x : View) (ending : Ending) (failed : Bool) (undone : Undone) (lines : List Line) : Type 0 where
  NoRoom : x ≡ v → ending ≡ ending_of (Stream NoMemory) → undone ≡ all_done → lines ≡ last_line ending ∷ [] → HasLines from v x ending failed undone lines
  Early : (start last : Sourced) → IsFresh from start → EndsEarly start v last x ending failed lines → undone ≡ all_done → HasLines from v x ending failed undone lines
  Served : (start : Sourced) → IsFresh from start → IsServed start v x ending failed undone lines → HasLines from v x ending failed undone lines

-- A session, from the pass v to the pass x, over a reader with these bytes and a writer that held `old`. The writer then holds the bytes of the session's
-- lines as well: all of them, or a front if a write failed
pub record IsExact (from old new : Option (List ℕ)) (v x : View) (ending : Ending) (failed : Bool) (undone : Undone) : Type 0 where
  pub lines : List Line
  pub has_lines : HasLines from v x ending failed undone lines
  pub wrote : WritesFront old new (flat_map line_bytes lines) (not failed)

-- The bytes that a session read and wrote, and the lines and messages of those that it read.

module _ {a b : Sourced} {v w : View} {ending : Ending} where
  -- the bytes of a session that turned its peer away, and the lines of them that it looked at
  abbrev pub bytes_away : IsTurnedAway a v b w ending → List ℕ
  bytes_away (NoLine stop stops same is) = stops.reads.bytes
  bytes_away (NoGreeting line handed other same is) = handed.bytes
  bytes_away (NoJoin fault handed made is) = handed.bytes

  abbrev pub lines_away : IsTurnedAway a v b w ending → List Line
  lines_away (NoLine stop stops same is) = []
  lines_away (NoGreeting line handed other same is) = line ∷ []
  lines_away (NoJoin fault handed made is) = Hello ∷ []

module _ {a b : Sourced} {v w : View} {ending : Ending} {failed : Bool} {lines : List Line} where
  -- the same of a session that ended before it served
  abbrev pub bytes_early : EndsEarly a v b w ending failed lines → List ℕ
  bytes_early (TurnedAway away is) = bytes_away away
  bytes_early (Unwelcome un) = un.welcomed.hello.bytes

  abbrev pub lines_early : EndsEarly a v b w ending failed lines → List Line
  lines_early (TurnedAway away is) = lines_away away
  lines_early (Unwelcome un) = Hello ∷ []

module _ {site count : ℕ} {b c : Sourced} {w x : View} {keeper : Keeper} {ending : Ending} {withheld : Option Untaken} where
  -- the bytes after those of the messages that were taken
  abbrev pub bytes_over : Over site count b c w x keeper ending withheld → List ℕ
  bytes_over (Stopped stop stops same ends none) = stops.reads.bytes
  bytes_over (ByLine line later handed same leads none) = handed.bytes
  bytes_over (AtMessage line later incoming handed leads ends) = handed.bytes
  bytes_over (Spent at same all is none) = []

  -- the line that ended the session
  abbrev pub lines_over : Over site count b c w x keeper ending withheld → List Line
  lines_over (Stopped stop stops same ends none) = []
  lines_over (ByLine line later handed same leads none) = line ∷ []
  lines_over (AtMessage line later incoming handed leads ends) = line ∷ []
  lines_over (Spent at same all is none) = []

module _ {site : ℕ} {a c : Sourced} {v x : View} {ending : Ending} {withheld : Option Untaken} where
  -- the same of the reading half; it read nothing if it could not begin
  abbrev pub bytes_heard : Heard site a v c x ending withheld → List ℕ
  bytes_heard (inl h) = h.hears.handed.bytes ++ bytes_over h.over
  bytes_heard (inr h) = []

  abbrev pub lines_heard : Heard site a v c x ending withheld → List Line
  lines_heard (inl h) = h.hears.lines ++ lines_over h.over
  lines_heard (inr h) = []

module _ {from : Option (List ℕ)} {v x : View} {ending : Ending} {failed : Bool} {undone : Undone} {lines : List Line} where
  -- the same of any session
  abbrev pub bytes_of : HasLines from v x ending failed undone lines → List ℕ
  bytes_of (NoRoom same is done are) = []
  bytes_of (Early start last fresh ends done) = bytes_early ends
  bytes_of (Served start fresh served) = served.welcomed.hello.bytes ++ bytes_heard served.halves.hears

  abbrev pub lines_of : HasLines from v x ending failed undone lines → List Line
  lines_of (NoRoom same is done are) = []
  lines_of (Early start last fresh ends done) = lines_early ends
  lines_of (Served start fresh served) = Hello ∷ lines_heard served.halves.hears

module _ {from old new : Option (List ℕ)} {v x : View} {ending : Ending} {failed : Bool} {undone : Undone} where
  -- the bytes that the session read, except a piece that a failed allocation lost
  abbrev pub bytes_read : IsExact from old new v x ending failed undone → List ℕ
  bytes_read e = bytes_of e.has_lines

  -- the lines of them that it looked at
  abbrev pub lines_read : IsExact from old new v x ending failed undone → List Line
  lines_read e = lines_of e.has_lines

  -- the bytes that its writer took
  abbrev pub bytes_written : IsExact from old new v x ending failed undone → List ℕ
  bytes_written e = e.wrote.0

-- these begin with those
abbrev pub BeginWith : {A : Type 0} → List A → List A → Type 0
BeginWith {A = A} all some = (rest : List A) × (all ≡ some ++ rest)
