-- A client of a link that outlives its connections: one session, and the client's end of the link that carries its lines.
use Rattle.std.specs.Prelude.{ℕ, ◌+◌, ◌-◌, ◌<◌, nat_lt, nat_le, Bool, List, [], ◌∷◌, ◌++◌, length, Option, None, Some, ◌≡◌, ◌≢◌, ◌⊎◌, if◌then◌else◌, Result, Ok, Err, codes, decimal}
use Rattle.std.specs.List.{flat_map}
use Rattle.jup_number.specs.Numbers.{IsU32, IsReadingOf}
use Rattle.jup_resume.specs.Texts.{Text, spelled}
use Rattle.jup_lasting.specs.Links.{Link, new_link, after_asking, with_text, given_up, HearsPiece, MovesOut, HasMore}
use Rattle.jup_lasting.specs.declared.carriage.Carriage.{Carriage}
use Rattle.jup_lasting.specs.declared.carriage.Carriage.TheVariants as carriage
use Rattle.jup_lasting.specs.declared.link.Heard.{Heard}
use Rattle.jup_lasting.specs.declared.link.Heard.TheVariants as heard
use Rattle.jup_embed.specs.Prelude.{ClientEnd, Command, Request, Told}
use Rattle.jup_embed.specs.declared.phase.Phase.{Phase}
use Rattle.jup_embed.specs.declared.refusals.EmbedFault.{EmbedFault}
use Rattle.jup_client.specs.declared.ends.ClientEnd.TheVariants.{Fault}
use Rattle.jup_client.specs.declared.asking.Request.TheVariants.{Sync, Quit, Edit, Batch, Show, Bad}
use Rattle.jup_embed.specs.declared.phase.Phase.TheVariants as phase
use Rattle.jup_embed.specs.declared.refusals.EmbedFault.TheVariants as embed
use Rattle.jup_embed.specs.Sessions.{Session, IsUngreeted, Feeds, Ends, ended_by, pings_in, MakesEdit, IsDone, TakesLine}
use Rattle.jup_reconnect.specs.declared.faults.LastingFault.{LastingFault}
use Rattle.jup_reconnect.specs.declared.faults.LastingFault.TheVariants.{Refused, Cut, Carried, Pings, LinesSpent}

pub record Lasting : Type 0 where
  pub session : Session  -- a cut changes nothing of it
  pub link : Link
  pub answered : ℕ  -- the number of the last ping that the server has answered

-- before the first byte: `hello 4` waits
abbrev pub IsFreshLasting : Bool → Lasting → Type 0
IsFreshLasting watched c = IsUngreeted watched c.session × (c.link ≡ after_asking new_link) × (c.answered ≡ 0)

-- a call is refused since the session is over
abbrev pub OverBy : ClientEnd → LastingFault
OverBy end = Refused (embed.Over end)

-- Connections.

-- why `resume` is refused: the session is over, or a connection carries the link or is to, or an allocation fails
abbrev pub RefusesResume : Lasting → LastingFault → Type 0
RefusesResume c (Refused embed.NotOpen) = ⊥
RefusesResume c (Refused (embed.Over end)) = c.session.phase ≡ phase.Over end
RefusesResume c (Refused (embed.Edit fault)) = ⊥
RefusesResume c (Refused embed.NoMemory) = c.link.carriage ≡ carriage.Cut
RefusesResume c Cut = ⊥
RefusesResume c Carried = c.link.carriage ≢ carriage.Cut
RefusesResume c Pings = ⊥
RefusesResume c LinesSpent = ⊥

-- What goes out.

-- something waits for this connection
abbrev pub IsWaiting : Lasting → Type 0
IsWaiting c = HasMore c.link ⊎ ((c.link.carriage ≡ carriage.Carried) × (0 < length c.session.waiting))

-- lines are put on a link, in order
abbrev pub with_texts : List Text → Link → Link
with_texts [] link = link
with_texts (text ∷ texts) link = with_texts texts (with_text text link)

-- the first lines that the session says are on the link, and wait there in place of in the session
pub record PutsSaid (c d : Lasting) : Type 0 where
  pub texts : List Text
  pub said : c.session.waiting ≡ flat_map spelled texts ++ d.session.waiting
  pub put : d.link ≡ with_texts texts c.link
  pub session : d.session ≡ record c.session { waiting = d.session.waiting }
  pub answered : d.answered ≡ c.answered

-- what the session says is put on the link, and these bytes of the link are handed to the connection
abbrev pub MovesSaid : List ℕ → Lasting → Lasting → Type 0
MovesSaid bytes c d = (middle : Lasting) × PutsSaid c middle × MovesOut bytes middle.link d.link × (d ≡ record middle { link = d.link })

-- What comes in.

abbrev pub pong_text : ℕ → List ℕ
pong_text number = codes "pong " ++ decimal number

-- the session takes a line of the server: its text, and then its line feed
abbrev pub FeedsLine : Text → Session → Session → Type 0
FeedsLine text c d = (middle : Session) × Feeds text c middle × Feeds (10 ∷ []) middle d

abbrev pub EndsLine : Text → Session → ClientEnd → Session → Type 0
EndsLine text c end d = Ends text c end d ⊎ ((middle : Session) × Feeds text c middle × Ends (10 ∷ []) middle end d)

-- the last ping that the server has answered: that of the line, if it is a pong, or else the one before
abbrev pub answered_after : Option ℕ → ℕ → ℕ
answered_after None before = before
answered_after (Some number) before = number

-- a line is the pong with this number, or none
abbrev pub IsPong : Text → Option ℕ → Type 0
IsPong text pong = IsReadingOf pong_text IsU32 text pong

-- the client notes the number of a pong
abbrev pub NotesPong : Text → Lasting → Lasting → Type 0
NotesPong text c d = (pong : Option ℕ) × IsPong text pong × (d ≡ record c { answered = answered_after pong c.answered })

-- a link that carries its lines is given up, and one whose last line came is not
abbrev pub left_by : Carriage → Link → Link
left_by carriage.Carried link = given_up link
left_by carriage.Cut link = link
left_by carriage.Asking link = link
left_by carriage.Last link = link
left_by carriage.Over link = link

-- a line of the link goes to the session; if that refuses it, the link is given up
abbrev pub TakesText : Text → Lasting → Result (Unit {0}) LastingFault → Lasting → Type 0
TakesText text c (Ok done) d = (pong : Option ℕ) × IsPong text pong × FeedsLine text c.session d.session
    × (d ≡ record c { session = d.session; answered = answered_after pong c.answered })
TakesText text c (Err fault) d = (end : ClientEnd) × (fault ≡ OverBy end) × (pong : Option ℕ) × IsPong text pong × EndsLine text c.session end d.session
    × (d ≡ record c { session = d.session; link = left_by c.link.carriage c.link; answered = answered_after pong c.answered })

-- the session is over by a fault of this number
abbrev pub EndsBy : ℕ → Lasting → Result (Unit {0}) LastingFault → Lasting → Type 0
EndsBy number c r d = (r ≡ Err (OverBy (Fault number))) × (d ≡ record c { session = ended_by (Fault number) c.session })

-- what a piece brought is done
abbrev pub Handles : Heard → Lasting → Result (Unit {0}) LastingFault → Lasting → Type 0
Handles heard.Nothing c r d = (r ≡ Ok tt) × (d ≡ c)
Handles (heard.Line text) c r d = TakesText text c r d
Handles (heard.LongLine text) c r d = EndsBy 41 c r d
Handles heard.Lost c r d = (r ≡ Err Cut) × (d ≡ c)
Handles heard.Begins c r d = (r ≡ Err Cut) × IsUngreeted c.session.watched d.session × (d ≡ record c { session = d.session; answered = 0 })
Handles (heard.Over number) c r d = EndsBy number c r d

-- bytes up to the end of the first line in them are heard, and these are left
abbrev pub HearsOne : List ℕ → Lasting → Result (Unit {0}) LastingFault → List ℕ → Lasting → Type 0
HearsOne piece c r rest d = (h : Heard) × (link : Link) × HearsPiece piece c.link h rest link × Handles h (record c { link = link }) r d

-- bytes are heard line by line, up to those that are left
abbrev pub Through : List (List ℕ) → List ℕ → List ℕ → Lasting → Lasting → Type 0
Through [] bytes left c d = (left ≡ bytes) × (d ≡ c)
Through (rest ∷ lefts) bytes left c d = (middle : Lasting) × HearsOne bytes c (Ok tt) rest middle × Through lefts rest left middle d

-- a byte of the connection was heard
abbrev pub with_bytes : List ℕ → Lasting → Lasting
with_bytes [] c = c
with_bytes (byte ∷ bytes) c = record c { link = record c.link { silence = 0 } }

-- all bytes were heard
abbrev pub FeedsLasting : List ℕ → Lasting → Lasting → Type 0
FeedsLasting bytes c d = (lefts : List (List ℕ)) × Through lefts bytes [] (with_bytes bytes c) d

-- the first lines were heard, and the next one ends the session or the connection by this fault
abbrev pub StopsAt : List ℕ → Lasting → LastingFault → Lasting → Type 0
StopsAt bytes c fault d = (lefts : List (List ℕ)) × (left rest : List ℕ) × (middle : Lasting) × Through lefts bytes left c middle × HearsOne left middle (Err fault) rest d

-- why bytes are refused: the session is over, or no connection carries the link, and nothing changes; or a line ends the session or the connection
abbrev pub RefusesBytes : List ℕ → Lasting → LastingFault → Lasting → Type 0
RefusesBytes bytes c fault d =
    ((end : ClientEnd) × (c.session.phase ≡ phase.Over end) × (fault ≡ OverBy end) × (d ≡ c))
    ⊎ (((c.link.carriage ≡ carriage.Cut) × (fault ≡ Cut) × (d ≡ c))
    ⊎ StopsAt bytes (with_bytes bytes c) fault d)

-- What its user asks for.

-- the most lines of a link before its last, the most that one call puts, and the most pings that a server has not answered
abbrev pub most_lines : ℕ
most_lines = 4294967293

abbrev pub longest_call : ℕ
longest_call = 33

abbrev pub most_pings : ℕ
most_pings = 1000

-- with the lines of one more call only the last line is left. What waits has no more lines than bytes
abbrev pub is_spent : Lasting → Bool
is_spent c = nat_lt most_lines (length c.session.waiting + c.link.lines + longest_call)

-- so many pings are not answered that no more may follow
abbrev pub is_pinging : Lasting → Bool
is_pinging c = nat_le most_pings (pings_in c.session.phase - c.answered)

-- whether one more call may put lines
abbrev pub room_in : Phase → Bool → Result (Unit {0}) LastingFault
room_in (phase.Over end) spent = Err (OverBy end)
room_in phase.Greeting spent = if spent then Err LinesSpent else Ok tt
room_in (phase.Opening opening) spent = if spent then Err LinesSpent else Ok tt
room_in (phase.Open state) spent = if spent then Err LinesSpent else Ok tt

abbrev pub room_answer : Lasting → Result (Unit {0}) LastingFault
room_answer c = room_in c.session.phase (is_spent c)

-- whether one more ping may follow
abbrev pub ping_answer : Result (Unit {0}) LastingFault → Bool → Result (Unit {0}) LastingFault
ping_answer (Err fault) pinging = Err fault
ping_answer (Ok room) pinging = if pinging then Err Pings else Ok tt

-- whether a request may be done: one that puts lines needs room for them, and only a ping may be one too many
abbrev pub admission : Request → Lasting → Result (Unit {0}) LastingFault
admission (Edit command) c = room_answer c
admission (Batch commands) c = room_answer c
admission Sync c = ping_answer (room_answer c) (is_pinging c)
admission Show c = Ok tt
admission Quit c = Ok tt
admission Bad c = Ok tt

-- a call that was not admitted is refused so
abbrev pub IfShut : {A : Type 0} → Result (Unit {0}) LastingFault → Result A LastingFault → Type 0
IfShut (Ok done) r = Unit {0}
IfShut (Err fault) r = r ≡ Err fault

-- why a call is refused: it was not admitted, or the session refuses it
abbrev pub RefusesCall : Result (Unit {0}) LastingFault → (EmbedFault → Type 0) → LastingFault → Type 0
RefusesCall admitted by_session fault = (admitted ≡ Err fault) ⊎ ((inner : EmbedFault) × (fault ≡ Refused inner) × by_session inner)

-- the session made an edit, and nothing else changed
abbrev pub EditsLasting : List Command → Lasting → Lasting → Type 0
EditsLasting commands c d = MakesEdit commands c.session d.session × (d ≡ record c { session = d.session })

-- the session did a request, and nothing else changed
abbrev pub DoesLasting : Request → Told → Lasting → Lasting → Type 0
DoesLasting request told c d = IsDone request c.session told d.session × (d ≡ record c { session = d.session })

-- What a line of a user does: it is held, or completes a request, which is done. A refusal changes nothing but which lines are held.
abbrev pub CommandsLasting : Result (Option Told) LastingFault → List ℕ → Lasting → Lasting → Type 0
CommandsLasting (Ok None) line c d = TakesLine line None c.session d.session × (d ≡ record c { session = d.session })
CommandsLasting (Ok (Some told)) line c d = (request : Request) × (middle : Session) × TakesLine line (Some request) c.session middle × DoesLasting request told (record c { session = middle }) d
CommandsLasting (Err fault) line c d = d ≡ record c { session = record c.session { asked = d.session.asked } }
