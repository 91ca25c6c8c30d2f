-- A session as its client sees it.
use Rattle.std.specs.Prelude.{ℕ, Bool, true, false, List, [], Option, Some, None, ◌≡◌, Result, Ok, Err, ◌⊎◌, ◌++◌, ◌∷◌, ◌||◌, if◌then◌else◌, length}
use Rattle.std.specs.List.{flat_map}
use Rattle.jup_embed.specs.Prelude.{BoardOp, Command, EditFault, Made, Line, WireFault, line_bytes, Said, ClientEnd, Heard, ClientState, NoMemory, Wire, Request, Told, Answer, end_of_fault, Phase, EmbedFault}
use Rattle.jup_batch.specs.Boards.{Windows, after}
use Rattle.jup_star.specs.Sites.{BoardSite, EditAnswers, edit_reply, is_edit_memory}
use Rattle.jup_wire.specs.Streams.{Progress, HasRead}
use Rattle.jup_gather.specs.Gathering.{piece_lines}
use Rattle.jup_client.specs.declared.opening.Opening.{Opening}
use Rattle.jup_client.specs.Clients.{Hears, IsGreeted, HearsWelcome, Answers, Begun, IsHeld, ComesTo}
use Rattle.jup_stream.specs.Saying.{said_piece}
use Rattle.jup_embed.specs.declared.client.Stage.{Stage}
use Rattle.jup_embed.specs.declared.phase.Phase.TheVariants as phase
use Rattle.jup_embed.specs.declared.client.Stage.TheVariants as stage
use Rattle.jup_embed.specs.declared.refusals.EmbedFault.TheVariants as fault
use Rattle.jup_client.specs.Prelude.{BoardBatch, UpOp}
use Rattle.jup_stream.specs.declared.saying.Said.TheVariants.{Up as SaysUp}
use Rattle.jup_client.specs.declared.asking.Request.TheVariants.{Sync}
use Rattle.jup_stream.specs.declared.faults.StreamFault.TheVariants.{ReadsSpent}

-- The operations that a board took and that the client has not told its user.

-- these operations, how many that the client has told are still held, whether they are kept at all, and for how many more there is room
pub record Untold : Type 0 where
  pub untold : List BoardOp
  pub told : ℕ
  pub watched : Bool
  pub room : ℕ

-- what is kept of the operations of an edit
abbrev pub kept : Bool → List BoardOp → List BoardOp
kept true ops = ops
kept false ops = []

-- the operations of another site's edit that a board took
abbrev pub operations_in : Option BoardBatch → List BoardOp
operations_in None = []
operations_in (Some ops) = ops

-- those of an edit that the client says to the server
abbrev pub operations_said : Option Said → List BoardOp
operations_said (Some (SaysUp (UpOp msg))) = msg.op
operations_said other = []

-- What a line of the server makes of a session.

-- what a line does that the client does not answer, and of which its user sees nothing
abbrev pub nothing_heard : Heard
nothing_heard = record { said = None; is_synced = false; shown = None }

-- what the first line makes of the session
abbrev pub Greets : Result Opening ClientEnd → Phase → Result Heard ClientEnd → Phase → Type 0
Greets (Ok opening) old r new = (r ≡ Ok nothing_heard) × (new ≡ phase.Opening opening)
Greets (Err end) old r new = (r ≡ Err end) × (new ≡ old)

-- what a later line of the welcome makes of the session
abbrev pub Opens : Opening → Result (Option ClientState) ClientEnd → Result Heard ClientEnd → Phase → Type 0
Opens opening (Ok None) r new = (r ≡ Ok nothing_heard) × (new ≡ phase.Opening opening)
Opens opening (Ok (Some state)) r new = (r ≡ Ok nothing_heard) × (new ≡ phase.Open state)
Opens opening (Err end) r new = r ≡ Err end

-- the greeting, then the rest of the welcome, then messages, which the client hears
abbrev pub PhaseHears : Line → Phase → Result Heard ClientEnd → Phase → Type 0
PhaseHears line phase.Greeting r new = (opened : Result Opening ClientEnd) × IsGreeted line opened × Greets opened phase.Greeting r new
PhaseHears line (phase.Opening old) r new = (taken : Result (Option ClientState) ClientEnd) × (opening : Opening) × HearsWelcome line old taken opening × Opens opening taken r new
PhaseHears line (phase.Open old) r new = (state : ClientState) × Hears line old r state × (new ≡ phase.Open state)
PhaseHears line (phase.Over end) r new = (r ≡ Err end) × (new ≡ phase.Over end)

-- Bytes for the server, which wait to be sent.

-- the bytes that wait, how many that were taken are still held, and for how many more there is room
pub record Waiting : Type 0 where
  pub bytes : List ℕ
  pub sent : ℕ
  pub room : ℕ

-- so many of the bytes that were taken are held while others wait, and none once no byte waits
abbrev pub held_of : List ℕ → ℕ → ℕ
held_of [] sent = 0
held_of (byte ∷ bytes) sent = sent

-- the lines of what a client says, as bytes
abbrev pub said_bytes : Option Said → List ℕ
said_bytes None = []
said_bytes (Some said) = flat_map line_bytes (piece_lines (said_piece said))

-- A session as its client sees it, and what each call makes of it.

-- How the bytes fed so far were read, and how far the session is. The bytes that wait to be sent. The operations that the board took and that the client
-- has not told, and whether it keeps them. The lines of a batch of commands that has begun. Whether the server answered the last ping.
pub record Session : Type 0 where
  pub progress : Progress
  pub phase : Phase
  pub waiting : List ℕ
  pub changes : List BoardOp
  pub watched : Bool
  pub asked : Option Begun
  pub synced : Bool

-- before the first byte of a session whose link greets in its place
abbrev pub IsUngreeted : Bool → Session → Type 0
IsUngreeted watched c = HasRead [] [] c.progress × (c.phase ≡ phase.Greeting) × (c.waiting ≡ []) × (c.changes ≡ []) × (c.watched ≡ watched)

-- it is over, by this end if it was not before
abbrev pub over_by : ClientEnd → Phase → Phase
over_by end phase.Greeting = phase.Over end
over_by end (phase.Opening opening) = phase.Over end
over_by end (phase.Open state) = phase.Over end
over_by end (phase.Over before) = phase.Over before

abbrev pub ended_by : ClientEnd → Session → Session
ended_by end c = record c { phase = over_by end c.phase }

-- how many pings the client of an open session sent
abbrev pub pings_in : Phase → ℕ
pings_in phase.Greeting = 0
pings_in (phase.Opening opening) = 0
pings_in (phase.Open state) = state.pings
pings_in (phase.Over end) = 0

abbrev pub stage_of : Phase → Stage
stage_of phase.Greeting = stage.Greeting
stage_of (phase.Opening opening) = stage.Opening
stage_of (phase.Open state) = stage.Open
stage_of (phase.Over end) = stage.Over end

-- what an open session shows
abbrev pub board_in : Phase → Option Windows
board_in (phase.Open state) = Some state.site.board
board_in other = None

-- the number of its site, and how many of its edits are not acknowledged
abbrev pub site_in : Phase → Option (ℕ × ℕ)
site_in (phase.Open state) = Some (state.site.number, length state.site.end.outgoing)
site_in other = None

-- after a line: the client's answer waits after the bytes that waited, and what the board took is kept after what was kept
abbrev pub after_heard : Heard → Phase → Session → Session
after_heard heard p c = record c { phase = p; waiting = c.waiting ++ said_bytes heard.said; changes = c.changes ++ kept c.watched (operations_in heard.shown); synced = c.synced || heard.is_synced }

pub record HearsLine (line : Line) (c d : Session) : Type 0 where
  pub heard : Heard
  pub left : Phase
  pub hears : PhaseHears line c.phase (Ok heard) left
  pub after : d ≡ after_heard heard left c

-- these lines were heard, in order
abbrev pub HearsLines : List Line → Session → Session → Type 0
HearsLines [] c d = d ≡ c
HearsLines (line ∷ lines) c d = (middle : Session) × HearsLine line c middle × HearsLines lines middle d

-- whatever came before: the lines of all the bytes so far are those from before and these, in order
abbrev pub ReadsOn : List ℕ → List Line → Progress → Progress → Type 0
ReadsOn bytes lines p q = (before : List ℕ) (heard : List Line) → HasRead before heard p → HasRead (before ++ bytes) (heard ++ lines) q

-- the lines that these bytes complete were heard, in order
abbrev pub Feeds : List ℕ → Session → Session → Type 0
Feeds bytes c d = (lines : List Line) × HearsLines lines (record c { progress = d.progress }) d × ReadsOn bytes lines c.progress d.progress

-- only how far the session is may be another
abbrev pub KeepsRest : Session → Session → Type 0
KeepsRest c d = d ≡ record c { phase = d.phase }

-- a line is refused so: by the session, or since an allocation fails
abbrev pub RefusesLine : Line → Session → ClientEnd → Type 0
RefusesLine line c end = (end ≡ NoMemory) ⊎ ((left : Phase) × PhaseHears line c.phase (Err end) left)

-- why these lines were not heard: the first is refused; if there is none, what comes after the lines so far has a fault
abbrev pub RefusesRest : List Line → Session → ClientEnd → Type 0
RefusesRest (line ∷ lines) c end = RefusesLine line c end
RefusesRest [] c end = (fault : WireFault) × (c.progress.fault ≡ Some fault) × (end ≡ end_of_fault (Wire fault))

-- of these lines the first were heard, in order, and the session still has what they changed and said; the rest was not heard, for this reason
pub record HearsUpTo (lines : List Line) (c : Session) (end : ClientEnd) (d : Session) : Type 0 where
  pub heard : List Line
  pub rest : List Line
  pub parts : lines ≡ heard ++ rest
  pub middle : Session
  pub hears : HearsLines heard c middle
  pub refuses : RefusesRest rest middle end
  pub after : KeepsRest middle d

-- how bytes are refused: the session was over, and stays so; an allocation fails before a line is heard; or lines are heard up to one
abbrev pub Ends : List ℕ → Session → ClientEnd → Session → Type 0
Ends bytes c end d = ((c.phase ≡ phase.Over end) × (d ≡ c)) ⊎ ((end ≡ NoMemory) × KeepsRest c d)
    ⊎ ((lines : List Line) × HearsUpTo lines (record c { progress = d.progress }) end d × ReadsOn bytes lines c.progress d.progress)

-- an edit of these commands was made at the site of an open session, and nothing else of it changed
abbrev pub EditedIn : List Command → Phase → Made → Phase → Type 0
EditedIn commands (phase.Open old) made (phase.Open new) = EditAnswers commands old.site new.site (Ok made) × (new ≡ record old { site = new.site })
EditedIn commands old made new = ⊥

-- after the client said something: its lines wait, and the operations of an edit are kept
abbrev pub after_saying : Option Said → Phase → Session → Session
after_saying said p c = record c { phase = p; waiting = c.waiting ++ said_bytes said; changes = c.changes ++ kept c.watched (operations_said said) }

pub record MakesEdit (commands : List Command) (c d : Session) : Type 0 where
  pub made : Made
  pub left : Phase
  pub edited : EditedIn commands c.phase made left
  pub after : d ≡ after_saying (Some (SaysUp made.up)) left c

-- a refusal of the site; out of memory is a refusal of its own
abbrev pub refusal_of : EditFault → EmbedFault
refusal_of refused = if is_edit_memory refused then fault.NoMemory else fault.Edit refused

-- a site refuses these commands so
abbrev pub RefusesAt : List Command → BoardSite → EmbedFault → Type 0
RefusesAt commands site fault.NoMemory = Unit {0}
RefusesAt commands site (fault.Edit refused) = Err refused ≡ edit_reply commands site
RefusesAt commands site other = ⊥

abbrev pub RefusedIn : List Command → EditFault → Phase → Type 0
RefusedIn commands refused (phase.Open state) = Err refused ≡ edit_reply commands state.site
RefusedIn commands refused other = ⊥

-- the board has not come whole
abbrev pub IsUnopened : Phase → Type 0
IsUnopened phase.Greeting = Unit {0}
IsUnopened (phase.Opening opening) = Unit {0}
IsUnopened (phase.Open state) = ⊥
IsUnopened (phase.Over end) = ⊥

-- why an edit is refused: an allocation fails, or the session is not open, or its site refuses the commands
abbrev pub RefusesEdit : List Command → Phase → EmbedFault → Type 0
RefusesEdit commands p fault.NoMemory = Unit {0}
RefusesEdit commands p fault.NotOpen = IsUnopened p
RefusesEdit commands p (fault.Over end) = p ≡ phase.Over end
RefusesEdit commands p (fault.Edit refused) = RefusedIn commands refused p

-- after a ping the session is not synced until the server answers it
abbrev pub still_synced : Request → Bool → Bool
still_synced Sync synced = false
still_synced other synced = synced

-- an open session answered a request
abbrev pub AnsweredIn : Request → Phase → Answer → Phase → Type 0
AnsweredIn request (phase.Open old) answer (phase.Open new) = Answers request old (Ok answer) new
AnsweredIn request old answer new = ⊥

-- a request was done: the caller gets the client's answer, and what the client says waits
pub record IsDone (request : Request) (c : Session) (told : Told) (d : Session) : Type 0 where
  pub answer : Answer
  pub left : Phase
  pub answered : AnsweredIn request c.phase answer left
  pub tells : told ≡ answer.told
  pub after : d ≡ record (after_saying answer.said left c) { synced = still_synced request c.synced }

-- a ping is refused since no number is left for it
abbrev pub HasNoPing : Request → Phase → ClientEnd → Type 0
HasNoPing request p end = (request ≡ Sync) × (pings_in p ≡ 4294967295) × (end ≡ end_of_fault ReadsSpent)

-- why a request is refused: an allocation fails, or the session is not open, or it is over, or it is one ping too many
abbrev pub RefusesRequest : Request → Phase → EmbedFault → Type 0
RefusesRequest request p fault.NoMemory = Unit {0}
RefusesRequest request p fault.NotOpen = IsUnopened p
RefusesRequest request p (fault.Over end) = (p ≡ phase.Over end) ⊎ HasNoPing request p end
RefusesRequest request p (fault.Edit refused) = ⊥

-- a refused request changes nothing
abbrev pub Asks : Request → Session → Result Told EmbedFault → Session → Type 0
Asks request c (Ok told) d = IsDone request c told d
Asks request c (Err refused) d = d ≡ c

-- what was asked for, if a line completed a request, is done
abbrev pub Does : Option Request → Option Told → Session → Session → Type 0
Does None None c d = d ≡ c
Does (Some request) (Some told) c d = IsDone request c told d
Does asked told c d = ⊥

abbrev pub DoesAsked : Result (Option Told) EmbedFault → Option Request → Session → Session → Type 0
DoesAsked (Ok told) asked c d = Does asked told c d
DoesAsked (Err refused) asked c d = d ≡ c

-- a line of a user is held, or completes this request
abbrev pub TakesLine : List ℕ → Option Request → Session → Session → Type 0
TakesLine line asked c d = ((lines : List (List ℕ)) → IsHeld lines c.asked → ComesTo (lines ++ line ∷ []) asked d.asked) × (d ≡ record c { asked = d.asked })

-- what a line of a user does: it is held, or completes a request, which is done; a refusal changes nothing but which lines are held
abbrev pub Commands : Result (Option Told) EmbedFault → List ℕ → Session → Session → Type 0
Commands (Ok told) line c d = (asked : Option Request) × ((lines : List (List ℕ)) → IsHeld lines c.asked → ComesTo (lines ++ line ∷ []) asked d.asked)
    × DoesAsked (Ok told) asked (record c { asked = d.asked }) d
Commands (Err refused) line c d = d ≡ record c { asked = d.asked }

-- Copies of the board of an open session. A copy takes each operation that the client tells.

-- what a copy lacks of the board is what the client has not told
abbrev pub LacksUntold : Windows → Session → Type 0
LacksUntold copy c = board_in c.phase ≡ Some (after c.changes copy)

-- a copy that lacked just that before a call lacks just that after it
abbrev pub KeepsCopies : Session → Session → Type 0
KeepsCopies c d = (copy : Windows) → c.watched ≡ true → LacksUntold copy c → LacksUntold copy d
