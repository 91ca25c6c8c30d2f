-- What the threads of a client share of its link.
use Rattle.std.specs.Prelude.{◌≡◌, ◌≢◌, ◌⊎◌, ℕ, ◌+◌, ◌-◌, ◌<◌, Bool, true, false, List, [], ◌∷◌, ◌++◌, length, take, Option, None, Some, is_some, codes, not, ◌&&◌, ◌||◌, nat_eq, if◌then◌else◌}
use Rattle.std.specs.List.{starts_with}
use Rattle.jup_resume.specs.Texts.{Text, IsCut}
use Rattle.jup_net.specs.Inboxes.{Arrived, AreGiven, most_unread}
use Rattle.jup_net.specs.declared.inbox.Given.TheVariants.{Bytes as GivenBytes}
use Rattle.jup_lasting.specs.Links.{Link, new_link, after_asking, broken, with_text, given_up, HearsPiece, HasMore, MovesOut}
use Rattle.jup_lasting.specs.declared.terms.Terms.{Terms}
use Rattle.jup_lasting.specs.declared.carriage.Carriage.{Carriage}
use Rattle.jup_lasting.specs.declared.carriage.Carriage.TheVariants.{Cut, Asking, Carried, Last, Over}
use Rattle.jup_lasting.specs.declared.link.Heard.{Heard}
use Rattle.jup_lasting.specs.declared.link.Heard.TheVariants as heard
use Rattle.jup_redial.specs.Trials.{Trying, never_linked, after_answer, after_failing, trial_after}
use Rattle.jup_redial.specs.declared.fate.Fate.{Fate}
use Rattle.jup_redial.specs.declared.fate.Fate.TheVariants.{Goes, Finished, Refused, Forgotten, Ended, Faulty, Late, Unanswered, Unconnected, NoMemory, Abandoned}
use Rattle.jup_redial.specs.declared.notice.Notice.{Notice}
use Rattle.jup_redial.specs.declared.notice.Notice.TheVariants.{Lost, Resumed}
use Rattle.jup_redial.specs.declared.redialed.Piece.{Piece}
use Rattle.jup_redial.specs.declared.redialed.Piece.TheVariants.{Bytes, Last as NothingAfterLast, Cut as NothingOfACut}
use Rattle.jup_redial.specs.declared.trials.Trial.{Trial}
use Rattle.jup_redial.specs.declared.trials.Trial.TheVariants.{After, Never}

pub record Shared : Type 0 where
  pub link : Link
  pub inbox : Arrived  -- what the client has not read yet
  pub trials : Trying  -- when another connection is tried
  pub fate : Fate
  pub begins : Bool  -- whether the link has begun again, and the client has not
  pub is_left : Bool  -- whether the client reads no more
  pub is_lost : Bool  -- whether the user has read that the link is lost
  pub is_writing : Bool  -- whether a thread may still write to the connection

-- before the first connection
abbrev pub new_shared : Arrived → Option ℕ → Shared
new_shared inbox limit = record {
  link = new_link;
  inbox = inbox;
  trials = never_linked limit;
  fate = Goes;
  begins = false;
  is_left = false;
  is_lost = false;
  is_writing = false;
}

-- the link is over, for this reason
abbrev pub ended : Fate → Shared → Shared
ended fate s = record s { fate = fate; link = given_up s.link }

-- a reason counts only if there was none
abbrev pub fate_if_going : Fate → Fate → Fate
fate_if_going reason Goes = reason
fate_if_going reason Finished = Finished
fate_if_going reason (Refused number) = Refused number
fate_if_going reason (Forgotten number) = Forgotten number
fate_if_going reason (Ended lost) = Ended lost
fate_if_going reason (Faulty number) = Faulty number
fate_if_going reason Late = Late
fate_if_going reason Unanswered = Unanswered
fate_if_going reason Unconnected = Unconnected
fate_if_going reason NoMemory = NoMemory
fate_if_going reason Abandoned = Abandoned

abbrev pub ended_if_going : Fate → Shared → Shared
ended_if_going reason s = ended (fate_if_going reason s.fate) s

-- its client has ended: it reads no more, and what it has not written is dropped; but the server's last line is still confirmed
abbrev pub abandoned : Fate → Shared → Shared
abandoned Finished s = record s { is_left = true }
abandoned Goes s = ended Abandoned (record s { is_left = true })
abandoned (Refused number) s = ended s.fate (record s { is_left = true })
abandoned (Forgotten number) s = ended s.fate (record s { is_left = true })
abandoned (Ended lost) s = ended s.fate (record s { is_left = true })
abandoned (Faulty number) s = ended s.fate (record s { is_left = true })
abandoned Late s = ended s.fate (record s { is_left = true })
abandoned Unanswered s = ended s.fate (record s { is_left = true })
abandoned Unconnected s = ended s.fate (record s { is_left = true })
abandoned NoMemory s = ended s.fate (record s { is_left = true })
abandoned Abandoned s = ended s.fate (record s { is_left = true })

-- What the client does.

-- it has to wait for bytes
abbrev pub HasNothing : Shared → Type 0
HasNothing s = (s.begins ≡ false) × (s.fate ≡ Goes) × (s.inbox ≡ ([], None))

-- it takes bytes, the oldest first; or none, since none came
abbrev pub TakesIf : Bool → Shared → List ℕ → ℕ → Shared → Type 0
TakesIf true s buf len t = (len ≡ 0) × (t ≡ s)
TakesIf false s buf len t =
    (AreGiven s.inbox t.inbox buf (Some (GivenBytes len)) × (t ≡ record s { inbox = t.inbox }))
    ⊎ ((s.inbox.0 ≡ []) × (len ≡ 0) × (t ≡ s))

abbrev pub Takes : Shared → List ℕ → ℕ → Shared → Type 0
Takes s buf len t = TakesIf s.begins s buf len t

-- pings and acknowledgements: no edit is lost with them
abbrev pub holds_no_edit : Text → Bool
holds_no_edit text = starts_with nat_eq text (codes "ping ") || starts_with nat_eq text (codes "ack ")

-- once the link is over, only lines without an edit are dropped
abbrev pub IsDropped : Text → Shared → Shared → Type 0
IsDropped text s t = (holds_no_edit text ≡ true) × (t ≡ s)

-- a line of the client is put; after the server's last line it has no effect
abbrev pub IsPut : Text → Fate → Shared → Shared → Type 0
IsPut text Goes s t = t ≡ record s { link = with_text text s.link }
IsPut text Finished s t = t ≡ s
IsPut text (Refused number) s t = IsDropped text s t
IsPut text (Forgotten number) s t = IsDropped text s t
IsPut text (Ended lost) s t = IsDropped text s t
IsPut text (Faulty number) s t = IsDropped text s t
IsPut text Late s t = IsDropped text s t
IsPut text Unanswered s t = IsDropped text s t
IsPut text Unconnected s t = IsDropped text s t
IsPut text NoMemory s t = IsDropped text s t
IsPut text Abandoned s t = IsDropped text s t

-- it is not put: all its lines were put, memory lacks, or the link is over
abbrev pub IsUnput : Fate → Shared → Shared → Type 0
IsUnput Goes s t = (t ≡ s) ⊎ (t ≡ ended NoMemory s)
IsUnput Finished s t = ⊥
IsUnput (Refused number) s t = t ≡ s
IsUnput (Forgotten number) s t = t ≡ s
IsUnput (Ended lost) s t = t ≡ s
IsUnput (Faulty number) s t = t ≡ s
IsUnput Late s t = t ≡ s
IsUnput Unanswered s t = t ≡ s
IsUnput Unconnected s t = t ≡ s
IsUnput NoMemory s t = t ≡ s
IsUnput Abandoned s t = t ≡ s

-- the greeting of protocol 3, which is no line of the link
abbrev pub greeting : Text
greeting = codes "hello 3"

abbrev pub IsSaid : Text → Shared → Shared → Type 0
IsSaid text s t = ((text ≡ greeting) × (t ≡ s)) ⊎ ((text ≢ greeting) × IsPut text s.fate s t)

-- the first line of some bytes is put, and this is what follows it
abbrev pub PutsFirst : List ℕ → Shared → ℕ → Shared → Type 0
PutsFirst bytes s len t = (text : List ℕ) × (rest : List ℕ) × IsCut 10 bytes text rest × (len + length rest ≡ length bytes) × IsSaid text s t

-- What a connection does.

-- it asks to carry a link that goes on and has no other connection; without memory for that the link is over
abbrev pub Asks : Shared → Bool → Shared → Type 0
Asks s true t = (s.fate ≡ Goes) × (s.link.carriage ≡ Cut) × (t ≡ record s { link = after_asking s.link; is_writing = true })
Asks s false t = (((s.fate ≡ Goes) × (s.link.carriage ≡ Cut) → ⊥) × (t ≡ s)) ⊎ (t ≡ ended NoMemory s)

-- there is no room for what a read may bring
abbrev pub IsFull : Shared → Type 0
IsFull s = (s.is_left ≡ false) × (s.fate ≡ Goes) × (most_unread - length s.inbox.0 < 4353)

-- the first line on a connection said that it carries the link
abbrev pub has_answered : Carriage → Carriage → Bool
has_answered Asking Carried = true
has_answered Asking Cut = false
has_answered Asking Asking = false
has_answered Asking Last = false
has_answered Asking Over = false
has_answered Cut after = false
has_answered Carried after = false
has_answered Last after = false
has_answered Over after = false

abbrev pub answered_with : Option Terms → ℕ → Trying → Trying
answered_with None now t = t
answered_with (Some terms) now t = after_answer terms now t

abbrev pub trials_after : Carriage → Carriage → Option Terms → ℕ → Trying → Trying
trials_after was carriage terms now t = if has_answered was carriage then answered_with terms now t else t

-- bytes come to the client, if it reads on
abbrev pub ComesIf : Bool → List ℕ → Shared → Shared → Type 0
ComesIf true bytes s t = t ≡ s
ComesIf false bytes s t = t ≡ record s { inbox = (s.inbox.0 ++ bytes, s.inbox.1) }

-- without room for them the link is over
abbrev pub Passes : List ℕ → Shared → Bool → Shared → Type 0
Passes bytes s true t = ComesIf s.is_left bytes s t
Passes bytes s false t = (s.is_left ≡ false) × (t ≡ ended NoMemory s)

-- a text comes, and then its line feed
abbrev pub PassesText : Text → Shared → Shared → Type 0
PassesText text s t = ((m : Shared) × Passes text s true m × ((passed : Bool) × Passes (10 ∷ []) m passed t)) ⊎ Passes text s false t

-- the last line ends the link well
abbrev pub fate_after : Carriage → Fate → Fate
fate_after Cut before = before
fate_after Asking before = before
fate_after Carried before = before
fate_after Last before = Finished
fate_after Over before = before

abbrev pub PassesLine : Text → Shared → Shared → Type 0
PassesLine text s t = PassesText text (record s { fate = fate_after s.link.carriage s.fate }) t

abbrev pub PassesLong : List ℕ → Shared → Shared → Type 0
PassesLong text s t = (passed : Bool) × Passes text (record s { fate = Faulty 41 }) passed t

-- the link begins again: what came of its board is dropped
abbrev pub BeginsAgain : Shared → Shared → Type 0
BeginsAgain s t = (t ≡ record s { inbox = ([], None); begins = true }) ⊎ (t ≡ ended NoMemory s)

-- the server's count says how many of the edits are lost
abbrev pub fate_by_count : ℕ → ℕ → Option ℕ → Fate
fate_by_count number edits None = Forgotten number
fate_by_count number edits (Some arrived) = Ended (edits - arrived)

abbrev pub fate_of_answer : ℕ → Bool → Link → Fate
fate_of_answer number false c = Refused number
fate_of_answer number true c = fate_by_count number c.edits c.arrived

-- the server's first line has ended the link, or what came later is wrong
abbrev pub fate_by : ℕ → Carriage → Bool → Link → Fate
fate_by number Asking opened c = fate_of_answer number opened c
fate_by number Cut opened c = Faulty number
fate_by number Carried opened c = Faulty number
fate_by number Last opened c = Faulty number
fate_by number Over opened c = Faulty number

-- what follows from a piece, once the link has heard it
abbrev pub Follows : Heard → Carriage → Bool → ℕ → Shared → Shared → Type 0
Follows heard.Nothing was opened now s t = t ≡ record s { trials = trials_after was s.link.carriage s.link.terms now s.trials }
Follows (heard.Line text) was opened now s t = PassesLine text s t
Follows (heard.LongLine text) was opened now s t = PassesLong text s t
Follows heard.Lost was opened now s t = t ≡ s
Follows heard.Begins was opened now s t = BeginsAgain s t
Follows (heard.Over number) was opened now s t = t ≡ record s { fate = fate_by number was opened s.link }

-- bytes of a connection, up to the end of the first line in them
abbrev pub Hears : List ℕ → ℕ → Shared → List ℕ → Shared → Type 0
Hears piece now s rest t = (h : Heard) × (m : Shared)
    × HearsPiece piece (record s.link { silence = 0 }) h rest m.link
    × (m ≡ record s { link = m.link })
    × Follows h s.link.carriage (is_some s.link.terms) now m t

abbrev pub fate_without_trial : Bool → Trying → Fate
fate_without_trial connected t = if is_some t.patience then Late else (if connected then Unanswered else Unconnected)

-- another connection is tried, or the link is over
abbrev pub LosesBy : Trial → Bool → Shared → Shared → Type 0
LosesBy (After wait) connected s t = t ≡ s
LosesBy Never connected s t = t ≡ ended (fate_without_trial connected s.trials) s

-- a connection broke, or could not be made
abbrev pub Loses : Bool → ℕ → Shared → Trial → Shared → Type 0
Loses connected now s trial t =
    ((s.fate ≡ Goes) × (trial ≡ trial_after now s.trials) × LosesBy trial connected (record s { link = broken s.link; trials = after_failing now s.trials }) t)
    ⊎ ((s.fate ≢ Goes) × (trial ≡ Never) × (t ≡ record s { link = broken s.link }))

-- a connection may write
abbrev pub IsOpen : Carriage → Type 0
IsOpen Cut = ⊥
IsOpen Asking = Unit {0}
IsOpen Carried = Unit {0}
IsOpen Last = ⊥
IsOpen Over = ⊥

-- how many bytes it has
abbrev pub size_of : Piece → ℕ
size_of (Bytes len) = len
size_of NothingAfterLast = 0
size_of NothingOfACut = 0

abbrev pub MovesPiece : List ℕ → Piece → Shared → Shared → Type 0
MovesPiece to (Bytes len) s t = MovesOut (take len to) s.link t.link × (t ≡ record s { link = t.link })
MovesPiece to NothingAfterLast s t = ⊥
MovesPiece to NothingOfACut s t = ⊥

-- what is left to write once the server's last line has come
pub record GivesLast (to : List ℕ) (piece : Piece) (s t : Shared) : Type 0 where
  pub more : HasMore s.link → MovesPiece to piece s t
  pub last : (HasMore s.link → ⊥) → (piece ≡ NothingAfterLast) × (t ≡ s)

-- what a connection writes next, by how the link is carried
abbrev pub GivesPiece : Carriage → Shared → List ℕ → Piece → Shared → Type 0
GivesPiece Cut s to piece t = (piece ≡ NothingOfACut) × (t ≡ s)
GivesPiece Asking s to piece t = MovesPiece to piece s t
GivesPiece Carried s to piece t = MovesPiece to piece s t
GivesPiece Last s to piece t = GivesLast to piece s t
GivesPiece Over s to piece t = (piece ≡ NothingOfACut) × (t ≡ s)

-- What it tells its user.

-- the user waits for the link, or waited for it too long
abbrev pub is_missed_by : Fate → Bool
is_missed_by Goes = true
is_missed_by Finished = false
is_missed_by (Refused number) = false
is_missed_by (Forgotten number) = false
is_missed_by (Ended lost) = false
is_missed_by (Faulty number) = false
is_missed_by Late = true
is_missed_by Unanswered = false
is_missed_by Unconnected = false
is_missed_by NoMemory = false
is_missed_by Abandoned = false

-- the user has not read that the link is lost, and has had it
abbrev pub is_missed : Shared → Bool
is_missed s = not s.is_lost && is_some s.trials.patience && is_missed_by s.fate

abbrev pub resumes_if : Bool → Shared → Option Notice → Shared → Type 0
resumes_if true s told t = (told ≡ Some Resumed) × (t ≡ record s { is_lost = false })
resumes_if false s told t = (told ≡ None) × (t ≡ s)

abbrev pub loses_if : Bool → Shared → Option Notice → Shared → Type 0
loses_if true s told t = (told ≡ Some Lost) × (t ≡ record s { is_lost = true })
loses_if false s told t = (told ≡ None) × (t ≡ s)

-- what the user reads, by how the link is carried
abbrev pub NoticesIn : Carriage → Shared → Option Notice → Shared → Type 0
NoticesIn Cut s told t = loses_if (is_missed s) s told t
NoticesIn Asking s told t = (told ≡ None) × (t ≡ s)
NoticesIn Carried s told t = resumes_if s.is_lost s told t
NoticesIn Last s told t = resumes_if s.is_lost s told t
NoticesIn Over s told t = loses_if (is_missed s) s told t

abbrev pub Notices : Shared → Option Notice → Shared → Type 0
Notices s told t = NoticesIn s.link.carriage s told t
