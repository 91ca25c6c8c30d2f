-- What callers in other languages make of a client, which has one connection or a link that outlives its connections.
use Rattle.std.specs.Prelude.{ℕ, ◌≤◌, min, List, length, take, drop, Option, Result, Ok, Err, ◌≡◌, ◌⊎◌}
use Rattle.jup_embed.specs.Prelude.{ClientEnd, Request, Told}
use Rattle.jup_client.specs.Ends.{client_end_number}
use Rattle.jup_lasting.specs.Links.{broken, after_asking, elapsed, IsSilent}
use Rattle.jup_lasting.specs.declared.terms.Terms.{Terms}
use Rattle.jup_embed.specs.Numbers.{end_answer, MakesSpelled}
use Rattle.jup_embed.specs.declared.plain.commands.PlainCommand.{PlainCommand}
use Rattle.jup_embed.specs.Sessions.{Session, Feeds, Ends, IsDone}
use Rattle.jup_reconnect.specs.declared.any.AnyClient.{AnyClient}
use Rattle.jup_reconnect.specs.declared.any.AnyClient.TheVariants.{Single, Lasting as OfLink}
use Rattle.jup_reconnect.specs.declared.faults.LastingFault.{LastingFault}
use Rattle.jup_reconnect.specs.Lasting.{Lasting, IsWaiting, MovesSaid, FeedsLasting, RefusesBytes, RefusesResume}
use Rattle.jup_reconnect.specs.LastingNumbers.{lasting_answer}

-- the answer of a call that is for a link that outlives its connections
abbrev pub not_lasting : ℕ
not_lasting = 97

abbrev pub session_of : AnyClient → Session
session_of (Single c) = c
session_of (OfLink c) = c.session

-- the same client with another session
abbrev pub with_session : Session → AnyClient → AnyClient
with_session session (Single c) = Single session
with_session session (OfLink c) = OfLink (record c { session = session })

-- it took bytes of the server, or refused some so
abbrev pub FeedsSession : List ℕ → ℕ → Session → Session → Type 0
FeedsSession bytes answer c d = ((answer ≡ 0) × Feeds bytes c d) ⊎ ((end : ClientEnd) × (answer ≡ end_answer (client_end_number end)) × Ends bytes c end d)

abbrev pub FeedsLink : List ℕ → ℕ → Lasting → Lasting → Type 0
FeedsLink bytes answer c d = ((answer ≡ 0) × FeedsLasting bytes c d) ⊎ ((fault : LastingFault) × (answer ≡ lasting_answer (Err fault)) × RefusesBytes bytes c fault d)

abbrev pub FeedsAny : List ℕ → ℕ → AnyClient → AnyClient → Type 0
FeedsAny bytes answer (Single c) (Single d) = FeedsSession bytes answer c d
FeedsAny bytes answer (OfLink c) (OfLink d) = FeedsLink bytes answer c d
FeedsAny bytes answer (Single c) (OfLink d) = ⊥
FeedsAny bytes answer (OfLink c) (Single d) = ⊥

-- so many bytes wait; of a link it is 1 if some do, and 0 if not
abbrev pub Waits : ℕ → AnyClient → Type 0
Waits count (Single c) = count ≡ length c.waiting
Waits count (OfLink c) = ((count ≡ 1) × IsWaiting c) ⊎ ((count ≡ 0) × (IsWaiting c → ⊥))

-- so many bytes were moved out, where there was so much room
abbrev pub MovesAny : ℕ → ℕ → List ℕ → AnyClient → AnyClient → Type 0
MovesAny count room bytes (Single c) (Single d) = (count ≡ min (length c.waiting) room) × (bytes ≡ take count c.waiting) × (d ≡ record c { waiting = drop count c.waiting })
MovesAny count room bytes (OfLink c) (OfLink d) = (count ≤ room) × MovesSaid bytes c d
MovesAny count room bytes (Single c) (OfLink d) = ⊥
MovesAny count room bytes (OfLink c) (Single d) = ⊥

-- its session made an edit of the commands that these numbers spell
abbrev pub EditsAny : List PlainCommand → AnyClient → AnyClient → Type 0
EditsAny told c d = MakesSpelled told (session_of c) (session_of d) × (d ≡ with_session (session_of d) c)

-- its session did a request
abbrev pub DoesAny : Request → Told → AnyClient → AnyClient → Type 0
DoesAny request told c d = IsDone request (session_of c) told (session_of d) × (d ≡ with_session (session_of d) c)

-- its connection broke
abbrev pub CutsAny : ℕ → AnyClient → AnyClient → Type 0
CutsAny answer (Single c) new = (answer ≡ not_lasting) × (new ≡ Single c)
CutsAny answer (OfLink c) new = (answer ≡ 0) × (new ≡ OfLink (record c { link = broken c.link }))

-- it asks a new connection to carry the link, or is refused that so
abbrev pub ResumesAny : ℕ → AnyClient → AnyClient → Type 0
ResumesAny answer (Single c) new = (answer ≡ not_lasting) × (new ≡ Single c)
ResumesAny answer (OfLink c) new = ((answer ≡ 0) × (new ≡ OfLink (record c { link = after_asking c.link })))
    ⊎ ((fault : LastingFault) × (answer ≡ lasting_answer (Err fault)) × RefusesResume c fault × (new ≡ OfLink c))

-- so many seconds passed; of a client of one connection that is nothing
abbrev pub elapsed_any : ℕ → AnyClient → AnyClient
elapsed_any seconds (Single c) = Single c
elapsed_any seconds (OfLink c) = OfLink (record c { link = elapsed seconds c.link.carriage c.link })

-- no byte came for too long
abbrev pub IsSilentAny : AnyClient → Type 0
IsSilentAny (Single c) = ⊥
IsSilentAny (OfLink c) = IsSilent c.link

-- what the server said as it opened the link, and how many edits had their effect
abbrev pub terms_of : AnyClient → Result (Option Terms) ℕ
terms_of (Single c) = Err not_lasting
terms_of (OfLink c) = Ok c.link.terms

abbrev pub arrived_of : AnyClient → Result (Option ℕ) ℕ
arrived_of (Single c) = Err not_lasting
arrived_of (OfLink c) = Ok c.link.arrived
