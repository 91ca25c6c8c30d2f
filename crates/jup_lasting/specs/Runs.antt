-- What a client's link does on the two ways of it, over any sequence of connections.
use Rattle.std.proofs.Common.{inl, inr, ◌≡◌, ◌≢◌, ◌⊎◌, ℕ, ◌-◌, ◌<◌, ◌≤◌, true, false, List, [], ◌∷◌, ◌++◌, length, drop, replicate, Option, None, Some, codes}
use Rattle.std.specs.List.{AllByRecursion}
use Rattle.jup_resume.specs.Texts.{Text, spelled}
use Rattle.jup_resume.specs.Notes.{note_text, begins_note}
use Rattle.jup_resume.specs.Keepers.{unsent, IsAllWritten}
use Rattle.jup_resume.specs.Ways.{Way, new_way, Event, Puts, Stores, Writes, Notes, Comes, Saves, Tells, Hears, Begins, Breaks, SenderFails, TakerFails, happens, run, comes, IsAllowed, IsRun, BeginWith, TakesNext, TakesPlace}
use Rattle.jup_resume.specs.declared.note.Note.{Note}
use Rattle.jup_resume.specs.declared.note.Note.TheVariants.{Hello, Link as OpensLink, Resume, Resumed as SaysResumed, Got}
use Rattle.jup_resume.specs.declared.taker.Arrival.{Arrival}
use Rattle.jup_resume.specs.declared.taker.Arrival.TheVariants.{Part, Note as IsNoteLine, Line as IsLine}
use Rattle.jup_lasting.specs.Answers.{most_seconds}
use Rattle.jup_lasting.specs.Links.{Link, new_link, after_asking, broken, with_text, given_up, elapsed, HearsPiece, IsBegun, Moves, MovesOut}
use Rattle.jup_lasting.specs.declared.terms.Terms.{Terms}
use Rattle.jup_lasting.specs.declared.carriage.Carriage.{Carriage}
use Rattle.jup_lasting.specs.declared.carriage.Carriage.TheVariants as carriage
use Rattle.jup_lasting.specs.declared.link.Heard.{Heard}
use Rattle.jup_lasting.specs.declared.link.Heard.TheVariants as heard

-- The two ways of a link, and the client's end of both. The first line of the client on a connection is on no way: the server reads it
-- before the connection carries them.

pub record Ways : Type 0 where
  pub up : Way  -- the client's lines
  pub down : Way  -- the server's

-- what a connection is to them
pub data Connection : Type 0 where
  Silent : Connection  -- no byte of it has come
  Carrier : Connection  -- it carries both ways
  Stranger : Connection  -- its bytes are of no way

pub record Moment : Type 0 where
  pub link : Link  -- the client's end
  pub ways : Ways
  pub connection : Connection  -- the one that the client has, or is to have
  pub said : List Text  -- the lines that were put at the client's end
  pub told : List Text  -- the lines that it handed on

-- before the first connection
abbrev pub start : Moment
start = record { link = new_link; ways = record { up = new_way; down = new_way }; connection = Silent; said = []; told = [] }

-- A step: a call at the client's end, or what happens elsewhere.
pub data Step : Type 0 where
  Ask : Step  -- it asks a new connection to carry the link
  Cut : Step  -- its connection broke
  GiveUp : Step  -- its site refused what came
  Put : Text → Step  -- its site says a line
  MoveOut : List ℕ → Step  -- these bytes are moved out for the connection
  Hear : List ℕ → Step  -- of these bytes of the connection it hears those up to the end of the first line
  NoteBytes : Step
  Elapse : ℕ → Step
  Serve : List Event → List Event → Step  -- the server's ends of the way up and of the way down do so much
  Restart : ℕ → Step  -- the server was killed, and goes on from its disk, which lacks the last so many counts that it heard
  Carry : Step  -- the server has read the client's first line, and the connection is the next carrier of both ways
  CarryLate : Step  -- it has read the first line of an older connection, which is the next carrier until the client's is

-- What the client's bytes do on the ways.

-- what is begun is a `got`, a note by which the client confirms all lines that it handed on, or the next line of the way up
abbrev pub with_begun : (c d : Link) → IsBegun c d → Ways → Ways
with_begun c d (inl old) ways = ways
with_begun c d (inr (none, inl got)) ways =
    record { up = happens begins_note ways.up (Notes (note_text (Got c.confirming.taken))); down = run begins_note (Saves ∷ Tells ∷ []) ways.down }
with_begun c d (inr (none, inr line)) ways = record ways { up = happens begins_note ways.up Writes }

abbrev pub with_moved : (pieces : List (List ℕ)) (c d : Link) → Moves pieces c d → Ways → Ways
with_moved [] c d same ways = ways
with_moved (bytes ∷ pieces) c d (middle, some, more) ways = with_moved pieces middle d more (with_begun c some.0 some.1 ways)

-- What an honest server's bytes say of the ways.

-- its first line on a carrier is `link`, or `resumed` with the count of lines with which that carrier began
abbrev pub Answers : Option Terms → Note → Option ℕ → Type 0
Answers None (OpensLink token seconds kept) place = (seconds ≤ most_seconds) × (place ≡ Some 0)
Answers (Some terms) (SaysResumed taken) place = place ≡ Some taken
Answers terms other place = ⊥

-- each further note is a `got` with the oldest count that is on its way back
abbrev pub Confirms : Note → List ℕ → Type 0
Confirms (Got taken) counts = counts ≡ taken ∷ drop 1 counts
Confirms other counts = ⊥

-- what comes next on the carrier is as an honest server says it: no line begins as a note does, and none is one too many
abbrev pub TellsTruth : Carriage → Arrival → Link → Way → Type 0
TellsTruth carriage.Asking Part c up = Unit {0}
TellsTruth carriage.Asking (IsNoteLine note) c up = Answers c.terms note up.place
TellsTruth carriage.Carried Part c up = Unit {0}
TellsTruth carriage.Carried (IsNoteLine note) c up = Confirms note up.counts
TellsTruth carriage.Carried (IsLine text) c up = (begins_note text ≡ false) × (c.down.taken < 4294967295)
TellsTruth other arrival c up = ⊥

-- a note that comes brings the count with which the carrier began, or one that confirms
abbrev pub with_note : Carriage → Arrival → Way → Way
with_note carriage.Asking (IsNoteLine note) up = happens begins_note up Begins
with_note carriage.Carried (IsNoteLine note) up = happens begins_note up Hears
with_note other arrival up = up

-- the line that it hands on, if it does
abbrev pub lines_of : Heard → List Text
lines_of (heard.Line text) = text ∷ []
lines_of other = []

-- the carrier brings bytes of the way down, one by one, and the client hears them
pub record HearsCarrier (piece : List ℕ) (h : Heard) (rest : List ℕ) (m n : Moment) : Type 0 where
  pub more : List ℕ
  pub hears : HearsPiece piece m.link h rest n.link
  pub carrier : m.connection ≡ Carrier
  pub brought : m.ways.down.wire ≡ piece ++ more
  pub honest : TellsTruth m.link.carriage hears.0 m.link m.ways.up
  pub up : n.ways.up ≡ with_note m.link.carriage hears.0 m.ways.up
  pub down : n.ways.down ≡ run begins_note (comes (length piece - length rest)) m.ways.down
  pub same : n ≡ record m { link = n.link; ways = record { up = n.ways.up; down = n.ways.down }; told = m.told ++ lines_of h }

-- a connection that does not carry the ways brings bytes, by which the link neither goes on nor begins again
pub record HearsOther (piece : List ℕ) (h : Heard) (rest : List ℕ) (m n : Moment) : Type 0 where
  pub hears : HearsPiece piece m.link h rest n.link
  pub asks : m.link.carriage ≡ carriage.Asking
  pub other : m.connection ≢ Carrier
  pub shut : n.link.carriage ≢ carriage.Carried
  pub one_link : h ≢ heard.Begins
  pub same : n ≡ record m { link = n.link; connection = Stranger; told = m.told ++ lines_of h }

-- bytes come after the last line, or the link is over
pub record HearsNothing (piece : List ℕ) (h : Heard) (rest : List ℕ) (m n : Moment) : Type 0 where
  pub hears : HearsPiece piece m.link h rest n.link
  pub over : (m.link.carriage ≡ carriage.Last) ⊎ (m.link.carriage ≡ carriage.Over)
  pub same : n ≡ record m { link = n.link; told = m.told ++ lines_of h }

-- what a piece brings, and the bytes that it leaves
abbrev pub HearsBytes : List ℕ → Heard → List ℕ → Moment → Moment → Type 0
HearsBytes piece h rest m n = HearsCarrier piece h rest m n ⊎ (HearsOther piece h rest m n ⊎ HearsNothing piece h rest m n)

-- What happens at the server, and between.

-- the server takes the lines of the way up
abbrev pub IsOfTaker : Event → Type 0
IsOfTaker Comes = Unit {0}
IsOfTaker Saves = Unit {0}
IsOfTaker Tells = Unit {0}
IsOfTaker other = ⊥

-- and puts those of the way down
abbrev pub IsOfSender : Event → Type 0
IsOfSender (Puts text) = IsAllowed begins_note (Puts text)
IsOfSender Stores = Unit {0}
IsOfSender Writes = Unit {0}
IsOfSender (Notes text) = IsAllowed begins_note (Notes text)
IsOfSender Hears = Unit {0}
IsOfSender Begins = Unit {0}
IsOfSender other = ⊥

-- both ways have another carrier
abbrev pub with_carrier : Ways → Ways
with_carrier ways = record { up = happens begins_note ways.up Breaks; down = happens begins_note ways.down Breaks }

-- what a step does
abbrev pub Happens : Step → Moment → Moment → Type 0
Happens Ask m n = (m.link.carriage ≡ carriage.Cut) × (n ≡ record m { link = after_asking m.link; connection = Silent })
Happens Cut m n = n ≡ record m { link = broken m.link; connection = Silent }
Happens GiveUp m n = n ≡ record m { link = given_up m.link }
Happens (Put text) m n = IsAllowed begins_note (Puts text)
    × (n ≡ record m { link = with_text text m.link; ways = record m.ways { up = run begins_note (Puts text ∷ Stores ∷ []) m.ways.up }; said = m.said ++ text ∷ [] })
Happens (MoveOut bytes) m n = (moves : MovesOut bytes m.link n.link) × (n ≡ record m { link = n.link; ways = with_moved moves.1.0 m.link moves.0 moves.1.1 m.ways })
Happens (Hear piece) m n = (h : Heard) × (rest : List ℕ) × HearsBytes piece h rest m n
Happens NoteBytes m n = n ≡ record m { link = record m.link { silence = 0 } }
Happens (Elapse seconds) m n = n ≡ record m { link = elapsed seconds m.link.carriage m.link }
Happens (Serve ups downs) m n = AllByRecursion IsOfTaker ups × AllByRecursion IsOfSender downs
    × (n ≡ record m { ways = record { up = run begins_note ups m.ways.up; down = run begins_note downs m.ways.down } })
Happens (Restart lost) m n = (m.connection ≢ Carrier)
    × (n ≡ record m { ways = record { up = happens begins_note m.ways.up TakerFails; down = happens begins_note m.ways.down (SenderFails lost) } })
Happens Carry m n = (m.link.carriage ≡ carriage.Asking) × (m.connection ≡ Silent) × (n ≡ record m { ways = with_carrier m.ways; connection = Carrier })
Happens CarryLate m n = (m.connection ≢ Carrier) × (n ≡ record m { ways = with_carrier m.ways })

-- steps, one after the other
abbrev pub Leads : List Step → Moment → Moment → Type 0
Leads [] m n = n ≡ m
Leads (step ∷ steps) m n = (middle : Moment) × Happens step m middle × Leads steps middle n

-- What holds then: the client hears and says what one unbroken link would bring.
pub record IsOneLink (m : Moment) : Type 0 where
  -- the lines that it handed on are the first that the server put, in order, each once
  pub told : BeginWith m.ways.down.put m.told
  -- the lines that the server took are the first that its site said, in order, each once
  pub said : BeginWith m.said m.ways.up.handed
  -- it keeps all lines but those that the server has for good
  pub kept : m.link.up.kept ≡ drop m.link.up.dropped m.said
  pub safe : m.link.up.dropped ≤ m.ways.up.safe
  -- it asks for the lines after those that it handed on
  pub counts : m.link.down.taken ≡ length m.told
  -- and confirms just these
  pub confirms : m.link.confirming.taken ≡ length m.told
  -- once all is written and has come, the server took all that its site said
  pub all_said : m.link.carriage ≡ carriage.Carried → IsAllWritten m.link.up → m.ways.up.wire ≡ [] → m.ways.up.handed ≡ m.said
  -- and the client handed on all that the server put
  pub all_told : m.ways.down.keeper.is_open ≡ true → unsent m.ways.down.keeper ≡ [] → m.ways.down.wire ≡ [] → m.told ≡ m.ways.down.put
  -- no count of an honest server is refused
  pub place : m.connection ≡ Carrier → TakesPlace m.link.up m.ways.up.place
  pub next : m.link.carriage ≡ carriage.Carried → TakesNext m.link.up m.ways.up.counts
  -- each way is a run of the machine that has two such ends
  pub up : IsRun begins_note m.ways.up
  pub down : IsRun begins_note m.ways.down

-- A run, so that the law is not empty: the connection breaks within a line each way.
abbrev pub welcoming : Note
welcoming = OpensLink (replicate 32 48) 300 false

abbrev pub cut_run : List Step
cut_run =
    Ask ∷ MoveOut (spelled (note_text Hello)) ∷ Carry
    ∷ Serve [] (Begins ∷ Notes (note_text welcoming) ∷ Puts (codes "ready") ∷ Stores ∷ Writes ∷ [])
    ∷ Hear (spelled (note_text welcoming)) ∷ Hear (codes "rea")
    ∷ Put (codes "ping 1") ∷ MoveOut (codes "pi") ∷ Serve (comes 2) []
    ∷ Cut ∷ Ask ∷ MoveOut (spelled (note_text (Resume (replicate 32 48) 0))) ∷ Carry
    ∷ Serve [] (Begins ∷ Notes (note_text (SaysResumed 0)) ∷ Writes ∷ [])
    ∷ Hear (spelled (note_text (SaysResumed 0))) ∷ Hear (spelled (codes "ready"))
    ∷ MoveOut (spelled (note_text (Got 1)) ++ spelled (codes "ping 1"))
    ∷ Serve (comes 13 ++ Saves ∷ Tells ∷ []) (Hears ∷ Notes (note_text (Got 1)) ∷ []) ∷ Hear (spelled (note_text (Got 1))) ∷ []
