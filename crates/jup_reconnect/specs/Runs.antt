-- What a client of a link does over any sequence of connections, and what its session is on one unbroken link.
use Rattle.std.specs.Prelude.{◌≡◌, ◌≢◌, ◌⊎◌, ℕ, Bool, List, [], ◌∷◌, ◌++◌, map, replicate, codes, Option, Result, Ok, Err}
use Rattle.std.specs.List.{flat_map}
use Rattle.jup_resume.specs.Texts.{Text, spelled}
use Rattle.jup_resume.specs.Notes.{note_text}
use Rattle.jup_resume.specs.Ways.{Puts, Stores, Writes, Notes, Begins, comes}
use Rattle.jup_resume.specs.declared.note.Note.TheVariants.{Hello, Resume, Resumed, Got}
use Rattle.jup_lasting.specs.Links.{new_link, after_asking, broken, elapsed}
use Rattle.jup_lasting.specs.Runs.{Moment, start, Step, Ask, Cut, Put, MoveOut as MovesBytes, Elapse, Serve, Restart, Carry, CarryLate, Happens, Leads, HearsBytes, IsOneLink, welcoming}
use Rattle.jup_lasting.specs.declared.link.Heard.{Heard}
use Rattle.jup_lasting.specs.declared.link.Heard.TheVariants as heard
use Rattle.jup_client.specs.declared.asking.Request.TheVariants.{Sync}
use Rattle.jup_client.specs.declared.client.Told.TheVariants.{Synced}
use Rattle.jup_embed.specs.Prelude.{BoardOp, Command, ClientEnd, Request, Told}
use Rattle.jup_embed.specs.Sessions.{Session, ended_by, MakesEdit, IsDone, TakesLine}
use Rattle.jup_reconnect.specs.declared.faults.LastingFault.{LastingFault}
use Rattle.jup_reconnect.specs.Lasting.{Lasting, IsFreshLasting, FeedsLine, EndsLine, Handles, PutsSaid, MovesSaid, FeedsLasting, StopsAt, with_bytes}

-- What its user does. A connection has no part in it.
pub data Act : Type 0 where
  Edit : List Command → Act
  Do : Request → Told → Act  -- a request is done, and the user gets this answer
  Hold : List ℕ → Option Request → Act  -- a line is held, or completes a request
  Tell : BoardOp → Act  -- an operation that the board took is told

abbrev pub ActsOn : Act → Session → Session → Type 0
ActsOn (Edit commands) c d = MakesEdit commands c d
ActsOn (Do request told) c d = IsDone request c told d
ActsOn (Hold line asked) c d = TakesLine line asked c d
ActsOn (Tell op) c d = c ≡ record d { changes = op ∷ d.changes }

-- A session on one unbroken link.

-- a turn: the next line of the server comes, the first lines that wait go out, its user does something, or the link ends
pub data Turn : Type 0 where
  Take : Text → Turn
  Give : List Text → Turn
  Acts : Act → Turn
  End : ClientEnd → Turn

abbrev pub Turns : Turn → Session → Session → Type 0
Turns (Take text) c d = FeedsLine text c d ⊎ ((end : ClientEnd) × EndsLine text c end d)
Turns (Give texts) c d = (c.waiting ≡ flat_map spelled texts ++ d.waiting) × (d ≡ record c { waiting = d.waiting })
Turns (Acts act) c d = ActsOn act c d
Turns (End end) c d = d ≡ ended_by end c

abbrev pub AllTurns : List Turn → Session → Session → Type 0
AllTurns [] c d = d ≡ c
AllTurns (turn ∷ turns) c d = (middle : Session) × Turns turn c middle × AllTurns turns middle d

-- the lines that came, those that went out, and what its user did, in order
abbrev pub taken_in : List Turn → List Text
taken_in [] = []
taken_in (Take text ∷ turns) = text ∷ taken_in turns
taken_in (other ∷ turns) = taken_in turns

abbrev pub given_in : List Turn → List Text
given_in [] = []
given_in (Give texts ∷ turns) = texts ++ given_in turns
given_in (other ∷ turns) = given_in turns

abbrev pub acts_in : List Turn → List Act
acts_in [] = []
acts_in (Acts act ∷ turns) = act ∷ acts_in turns
acts_in (other ∷ turns) = acts_in turns

-- A client of a link that is cut.

pub record Situation : Type 0 where
  pub session : Session
  pub answered : ℕ
  pub moment : Moment  -- its end of the link, and both ways

abbrev pub client_of : Situation → Lasting
client_of s = record { session = s.session; link = s.moment.link; answered = s.answered }

-- a call, or what happens elsewhere
pub data Call : Type 0 where
  Feed : List ℕ → Call  -- bytes of the connection are fed
  MoveOut : List ℕ → Call  -- these bytes are moved out for it
  OfLink : Step → Call  -- it is cut, asks a new one, or time passes; or the server does something
  OfUser : Act → Call

-- a step that the session has no part in
abbrev pub IsOfLink : Step → Type 0
IsOfLink Ask = Unit {0}
IsOfLink Cut = Unit {0}
IsOfLink (Elapse seconds) = Unit {0}
IsOfLink (Serve ups downs) = Unit {0}
IsOfLink (Restart lost) = Unit {0}
IsOfLink Carry = Unit {0}
IsOfLink CarryLate = Unit {0}
IsOfLink other = ⊥

-- bytes up to the end of the first line in them are heard. (Where the link begins again, another session begins.)
pub record HearsOn (piece : List ℕ) (r : Result (Unit {0}) LastingFault) (rest : List ℕ) (s t : Situation) : Type 0 where
  pub h : Heard
  pub middle : Moment
  pub hears : HearsBytes piece h rest s.moment middle
  pub one_link : h ≢ heard.Begins
  pub handles : Handles h (record (client_of s) { link = middle.link }) r (client_of t)
  pub rest_same : t.moment ≡ record middle { link = t.moment.link }

-- lines are heard, up to the bytes that are left
abbrev pub Passes : List (List ℕ) → List ℕ → List ℕ → Situation → Situation → Type 0
Passes [] bytes left s t = (left ≡ bytes) × (t ≡ s)
Passes (rest ∷ lefts) bytes left s t = (middle : Situation) × HearsOn bytes (Ok tt) rest s middle × Passes lefts rest left middle t

-- a byte of the connection was heard
abbrev pub noted : List ℕ → Situation → Situation
noted [] s = s
noted (byte ∷ bytes) s = record s { moment = record s.moment { link = record s.moment.link { silence = 0 } } }

-- all bytes are heard, or the next line is refused
pub record IsFed (bytes : List ℕ) (s t : Situation) : Type 0 where
  pub lefts : List (List ℕ)
  pub left : List ℕ
  pub middle : Situation
  pub passes : Passes lefts bytes left (noted bytes s) middle
  pub ends : ((left ≡ []) × (t ≡ middle)) ⊎ ((fault : LastingFault) × (rest : List ℕ) × HearsOn left (Err fault) rest middle t)

-- the lines that the session says are put on the link, and these bytes are moved out
pub record MovesOn (bytes : List ℕ) (s t : Situation) : Type 0 where
  pub middle : Lasting
  pub puts : PutsSaid (client_of s) middle
  pub leads : Leads (map Put puts.texts ++ MovesBytes bytes ∷ []) s.moment t.moment
  pub same : client_of t ≡ record middle { link = t.moment.link }

-- what a call does
abbrev pub Does : Call → Situation → Situation → Type 0
Does (Feed bytes) s t = IsFed bytes s t
Does (MoveOut bytes) s t = MovesOn bytes s t
Does (OfLink step) s t = IsOfLink step × Happens step s.moment t.moment × (t ≡ record s { moment = t.moment })
Does (OfUser act) s t = ActsOn act s.session t.session × (t ≡ record s { session = t.session })

-- it is what the clauses of `LastingClient` say of the call
abbrev pub IsCall : Call → Lasting → Lasting → Type 0
IsCall (Feed bytes) c d = FeedsLasting bytes c d ⊎ ((fault : LastingFault) × StopsAt bytes (with_bytes bytes c) fault d)
IsCall (MoveOut bytes) c d = MovesSaid bytes c d
IsCall (OfLink Ask) c d = d ≡ record c { link = after_asking c.link }
IsCall (OfLink Cut) c d = d ≡ record c { link = broken c.link }
IsCall (OfLink (Elapse seconds)) c d = d ≡ record c { link = elapsed seconds c.link.carriage c.link }
IsCall (OfLink other) c d = d ≡ c
IsCall (OfUser act) c d = ActsOn act c.session d.session × (d ≡ record c { session = d.session })

abbrev pub AllDone : List Call → Situation → Situation → Type 0
AllDone [] s t = t ≡ s
AllDone (call ∷ calls) s t = (middle : Situation) × Does call s middle × AllDone calls middle t

abbrev pub acts_of : List Call → List Act
acts_of [] = []
acts_of (OfUser act ∷ calls) = act ∷ acts_of calls
acts_of (other ∷ calls) = acts_of calls

-- before its first connection carries a byte
pub record IsFirst (watched : Bool) (s : Situation) : Type 0 where
  pub fresh : IsFreshLasting watched (client_of s)
  pub first : s.moment ≡ record start { link = after_asking new_link }

-- What holds then: the session is one of an unbroken link of the same lines.
pub record IsUnbroken (first : Session) (calls : List Call) (s : Situation) : Type 0 where
  pub turns : List Turn
  pub led : AllTurns turns first s.session
  -- of the server's lines came the first ones, in order, each once
  pub took : taken_in turns ≡ s.moment.told
  -- the lines that it said went out, and the server took the first ones
  pub gave : given_in turns ≡ s.moment.said
  -- its user did the same
  pub acted : acts_in turns ≡ acts_of calls
  pub link : IsOneLink s.moment

-- A run, so that the law is not empty. The connection breaks within the line after which the client is open, and its user pings on the next one.
abbrev pub cut_calls : List Call
cut_calls =
    MoveOut (spelled (note_text Hello)) ∷ OfLink Carry
    ∷ OfLink (Serve [] (Begins ∷ Notes (note_text welcoming) ∷ Puts (codes "welcome 1 1000") ∷ Puts (codes "ready") ∷ Stores ∷ Writes ∷ Writes ∷ []))
    ∷ Feed (spelled (note_text welcoming) ++ spelled (codes "welcome 1 1000") ++ codes "rea")
    ∷ OfLink Cut ∷ OfLink Ask ∷ MoveOut (spelled (note_text (Resume (replicate 32 48) 1))) ∷ OfLink Carry
    ∷ OfLink (Serve [] (Begins ∷ Notes (note_text (Resumed 0)) ∷ Writes ∷ []))
    ∷ Feed (spelled (note_text (Resumed 0)) ++ spelled (codes "ready"))
    ∷ OfUser (Do Sync Synced) ∷ MoveOut (spelled (note_text (Got 2)) ++ spelled (codes "ping 1")) ∷ OfLink (Serve (comes 13) []) ∷ []
