-- Sessions, their sites and their clients.
use Rattle.std.specs.Prelude.{◌≡◌, ℕ, Bool, List, ◌∷◌, Option, IsTrue, ◌≤◌, ◌++◌, ◌⊎◌, [], option_to_list, Ok}
use Rattle.jup_served.specs.Prelude.{highest_limit, bare, BoardBatch, Windows, Joined, Up, UpPing, IsOpening, HubEvent, View, Tally, Ending, Answer, ClientHeard as Heard, ClientState, Said, SaysUp, Sourced, AllByRecursion, flat_map, IsFresh, IsServed, Served, IsExact, bytes_read, bytes_written, spelling, HasSpelling}
use Rattle.jup_star.specs.Stars.{new_star}
use Rattle.jup_hub.specs.Histories.{is_among, tallies, calls_by, BeginsWith, Meets, IsLegal, AllTallied, AllApart, calls_of_others}
use Rattle.jup_honest.specs.Sites.{IsCausalThrough, SiteRun, opening, calls, start, now, Step, Edit, Deliver, Ping, Called}
use Rattle.jup_client.specs.Clients.{AnswersEdit, Answers, Delivers}
use Rattle.jup_socket.specs.Sockets.{all_said, said_lines, Received}
use Rattle.jup_session.specs.Sessions.{IsCallFor, IsSession, HasMadeNone}
use Rattle.jup_session.specs.declared.sessions.undone.Undone.{Undone}
use Rattle.jup_session.specs.Prelude.{Hello}
use Rattle.jup_client.specs.declared.asking.Request.TheVariants.{Sync}

-- A session that has ended, and the site that it served.

-- A session by its contract. It has the bytes of its reader, and what its writer held before and after, if these are known. Then it has
-- the pass that it was given, the one that it gave back, its ending, whether a write failed, and what it left undone
pub record Ended : Type 0 where
  pub from : Option (List ℕ)
  pub old : Option (List ℕ)
  pub new : Option (List ℕ)
  pub given : View
  pub back : View
  pub ending : Ending
  pub failed : Bool
  pub undone : Undone
  pub calls : IsSession given back
  pub exact : IsExact from old new given back ending failed undone

-- it welcomed a site, and both its halves served that
pub record ServesSite (s : Ended) : Type 0 where
  pub start : Sourced
  pub fresh : IsFresh s.from start
  pub served : IsServed start s.given s.back s.ending s.failed s.undone s.exact.lines
  pub is : s.exact.has_lines ≡ Served start fresh served

module _ {s : Ended} where
  -- the hub's answer to its join
  abbrev pub answer_of : ServesSite s → Joined
  answer_of serves = record serves.served.welcomed.joined { board = bare serves.served.welcomed.joined.board }

  -- the number under which its writing half called the hub
  abbrev pub writer_of : ServesSite s → List ℕ
  writer_of serves = serves.served.behind.splits ∷ serves.served.behind.number

  -- the fetches that this half made before the site began to leave
  abbrev pub fetches_for : ServesSite s → List HubEvent
  fetches_for serves = serves.served.halves.fetches

-- nobody but the session makes a call for the site: each such call is under a number of the session's pass
abbrev pub IsOwnedBy : Ended → ℕ → List HubEvent → Type 0
IsOwnedBy s site log = AllByRecursion (λ e. IsCallFor site e.call → IsTrue (is_among e.by (tallies s.back))) log

-- A site that a session serves, at some moment before it begins to leave; and the client at the other end.

-- The session was given a pass that had made no call. The pass that it gave back meets the history `log`, and the run has the first
-- calls of that, up to some moment. The run is of the session's site: it begins with the answer to the session's join. At its end the site has not
-- begun to leave: so far the writing half has only fetched
pub record IsMoment (run : SiteRun) (log : List HubEvent) (s : Ended) (serves : ServesSite s) : Type 0 where
  pub new : HasMadeNone s.given
  pub opened : s.back.opening ≡ opening run
  pub meets : Meets s.back log
  pub first : BeginsWith log (calls run)
  pub answer : run.answer ≡ answer_of serves
  pub stays : BeginsWith (fetches_for serves) (calls_by (writer_of serves) (calls run))

-- The client wrote `hello`, the messages that its site sent so far, more of them, and perhaps a bye. What the session read is the first of
-- these bytes
pub record HasWritten (run : SiteRun) (read : List ℕ) : Type 0 where
  pub more : List (Up BoardBatch)
  pub bye : Bool
  pub spelled : AllByRecursion HasSpelling (Hello ∷ said_lines (all_said ((now run).sent ++ more) bye))
  pub left : List ℕ
  pub bytes : read ++ left ≡ flat_map spelling (Hello ∷ said_lines (all_said ((now run).sent ++ more) bye))

-- The client read the first of the bytes that the session wrote, and delivered to the site what the site received so far
pub record HasReceived (run : SiteRun) (written : List ℕ) : Type 0 where
  pub received : Received (now run).handed
  pub left : List ℕ
  pub bytes : received.read ++ left ≡ written

-- A session serves the site of this run, over the board and the limit that its hub was opened with. Each line that the session is to write has a spelling
pub record IsServing (run : SiteRun) (log : List HubEvent) (s : Ended) : Type 0 where
  pub serves : ServesSite s
  pub moment : IsMoment run log s serves
  pub opens : IsOpening run.board
  pub limited : run.limit ≤ highest_limit
  pub spelled : AllByRecursion HasSpelling s.exact.lines

-- Its client is of this product, and no message came before it was sent
pub record IsServedRun (run : SiteRun) (log : List HubEvent) (s : Ended) : Type 0 where
  pub serving : IsServing run log s
  pub up : HasWritten run (bytes_read s.exact)
  pub down : HasReceived run (bytes_written s.exact)
  pub causal : IsCausalThrough run.steps (start run)

-- A hub that sessions alone have called.

-- the numbers of these sessions, each with its calls
abbrev pub all_tallies : List Ended → List Tally
all_tallies [] = []
all_tallies (s ∷ sessions) = tallies s.back ++ all_tallies sessions

-- a session is one of these
abbrev pub IsOneOf : Ended → List Ended → Type 0
IsOneOf s [] = ⊥
IsOneOf s (t ∷ sessions) = (t ≡ s) ⊎ IsOneOf s sessions

-- The history of the hub is legal. Each session was given a pass that had made no call. Under each number of theirs the history has just the session's calls, and no two
-- of these numbers are equal. No call is under another number
pub record IsSessionHub (keeps : Bool) (board : Windows) (limit : ℕ) (sessions : List Ended) (log : List HubEvent) : Type 0 where
  pub opens : IsOpening board
  pub limited : limit ≤ highest_limit
  pub legal : IsLegal (new_star keeps board limit) log
  pub new : AllByRecursion (λ (s : Ended). HasMadeNone s.given) sessions
  pub tallied : AllTallied log (all_tallies sessions)
  pub apart : AllApart (all_tallies sessions)
  pub alone : calls_of_others (all_tallies sessions) log ≡ []

-- A client of this product through the run of its site.

-- What a client does and says in a step: it answers an edit of its user, hears a message, or answers a sync by a ping. In a call of the
-- hub it has no part
abbrev pub IsClientStep : Step → ClientState → ClientState → List Said → Type 0
IsClientStep (Edit commands) old new saids = (answer : Answer) × AnswersEdit commands old (Ok answer) new × (saids ≡ option_to_list answer.said)
IsClientStep (Deliver down) old new saids = (heard : Heard) × Delivers down old (Ok heard) new × (saids ≡ option_to_list heard.said)
IsClientStep (Ping k) old new saids = (answer : Answer) × Answers Sync old (Ok answer) new × (saids ≡ option_to_list answer.said) × (saids ≡ SaysUp (UpPing k) ∷ [])
IsClientStep (Called e) old new saids = (new ≡ old) × (saids ≡ [])

-- and in several
abbrev pub IsClientRun : List Step → ClientState → ClientState → List Said → Type 0
IsClientRun [] old new saids = (new ≡ old) × (saids ≡ [])
IsClientRun (step ∷ steps) old new saids =
    (between : ClientState) × (first : List Said) × (later : List Said) × IsClientStep step old between first × IsClientRun steps between new later × (saids ≡ first ++ later)
