-- What a session makes of the lines of a site.
use Rattle.std.specs.Prelude.{◌≡◌, ◌≢◌, ◌⊎◌, Bool, true, false, List, [], ◌∷◌, ◌++◌, map, Option, Some, None, Result, Ok, Err, ℕ, ◌+◌, min, count_by}
use Rattle.jup_rules.specs.Prelude.{BoardBatch, Up, Down, DownOp, DownAck, DownPong, UpOp, UpAck, UpPing, Line, Gathered, Star, Said, SaysUp, SaysBye, StreamFault, Misplaced, NoMemory, Ending, Gate, Pongs, Nothing, said_piece, Hub, Stream, Bye, Gone}
use Rattle.jup_wire.specs.declared.line.Line.TheVariants as line
use Rattle.jup_gather.specs.Gathering.{IsPiece, piece_lines, HasGathered, pieces_of, down_piece}
use Rattle.jup_rules.specs.declared.session.Awaits.{Awaits}
use Rattle.jup_rules.specs.declared.session.Incoming.{Incoming}
use Rattle.jup_rules.specs.declared.session.Next.{Next}
use Rattle.jup_rules.specs.declared.session.Next.TheVariants.{Line as NextLine, Take, End}
use Rattle.jup_rules.specs.declared.session.Ring.{Ring}
use Rattle.jup_rules.specs.declared.session.Ring.TheVariants.{All, Own}
use Rattle.jup_rules.specs.Ends.{ending_of}
use Rattle.jup_hub.specs.declared.fault.HubFault.{HubFault}
use Rattle.jup_gather.specs.declared.gathered.Gathered.TheVariants.{Held, Plain}
use Rattle.jup_star.specs.declared.faults.StarFault.TheVariants.{NoLink}

-- What sessions bound by themselves. No message and no state depends on it.

-- messages that one fetch asks for
abbrev pub most_fetched : ℕ
most_fetched = 64

-- pongs that a site may be owed
abbrev pub most_pongs : ℕ
most_pongs = 1024

-- What a site says and what it hears.

-- the lines of a message to a site
abbrev pub down_lines : Down BoardBatch → List Line
down_lines down = piece_lines (down_piece down)

-- whether a message answers a ping
abbrev pub is_pong : Down BoardBatch → Bool
is_pong (DownPong number) = true
is_pong (DownOp msg) = false
is_pong (DownAck count) = false

-- what a site says by the message up that lines are, or by what they are instead; what else no site says is misplaced
abbrev pub said_by : Result (Up BoardBatch) Gathered → Result (Option Said) StreamFault
said_by (Ok up) = Ok (Some (SaysUp up))
said_by (Err Held) = Ok None
said_by (Err (Plain line.Bye)) = Ok (Some SaysBye)
said_by (Err other) = Err Misplaced

-- what lines give is this: a site says nothing yet if they are held, and what else no site says is misplaced
abbrev pub IsSaidBy : Gathered → Result (Option Said) StreamFault → Type 0
IsSaidBy gathered (Ok (Some said)) = pieces_of gathered ≡ said_piece said ∷ []
IsSaidBy gathered (Ok None) = gathered ≡ Held
IsSaidBy gathered (Err fault) = (fault ≡ Misplaced) × (gathered ≢ Held) × ((said : Said) → pieces_of gathered ≢ said_piece said ∷ [])

-- by these lines a site said all that, and those of a message of which some are missing are held
abbrev pub HasSaid : List Line → List Said → Option (List Line) → Type 0
HasSaid lines saids held = HasGathered lines (map said_piece saids) held

-- whatever comes after it, by a line after those that are held a site says nothing
abbrev pub IsUnsaid : Option (List Line) → Line → Type 0
IsUnsaid None line = Unit {0}
IsUnsaid (Some part) line = (said : Said) (more later : List Line) → IsPiece (said_piece said) → part ++ line ∷ more ≢ piece_lines (said_piece said) ++ later

-- why a line of a site is refused: an allocation failed, which changes nothing; or by that line no site says anything
abbrev pub IsRefused : StreamFault → Option (List Line) → Line → Option (List Line) → Type 0
IsRefused fault old line new = ((fault ≡ NoMemory) × (new ≡ old)) ⊎ ((fault ≡ Misplaced) × IsUnsaid old line)

-- What comes next in a session by what its site says: what each message waits for, and what follows once the star has answered.

-- the lines that are held of a message, unless one was misplaced, and how many edits the site has sent
abbrev pub Keeper : Type 0
Keeper = Option (List Line) × ℕ

-- whether a site says an edit
abbrev pub says_edit : Said → Bool
says_edit (SaysUp (UpOp msg)) = true
says_edit (SaysUp (UpAck count)) = false
says_edit (SaysUp (UpPing number)) = false
says_edit SaysBye = false

-- a count of edits, which stops at the largest that there is; no star takes so many
abbrev pub counted : ℕ → ℕ
counted edits = min edits 4294967295

-- by these lines the site said all that, and its edits are counted
abbrev pub HasHeard : List Line → List Said → Keeper → Type 0
HasHeard lines saids keeper = HasSaid lines saids keeper.0 × (keeper.1 ≡ counted (count_by says_edit saids))

-- what a message of a site that sent so many edits before waits for. An edit waits for the gate, which is asked for the next edit, and a ping until few enough pongs are
-- owed
abbrev pub awaits_of : ℕ → Up BoardBatch → Awaits
awaits_of edits (UpOp msg) = Gate (counted (edits + 1))
awaits_of edits (UpPing number) = Pongs
awaits_of edits (UpAck count) = Nothing

-- how many edits the site has sent with this message
abbrev pub edits_with : ℕ → Up BoardBatch → ℕ
edits_with edits (UpOp msg) = counted (edits + 1)
edits_with edits (UpPing number) = edits
edits_with edits (UpAck count) = edits

-- the message with what it waits for
abbrev pub incoming_of : ℕ → Up BoardBatch → Incoming
incoming_of edits up = record { up = up; awaits = awaits_of edits up }

-- what comes next if a site that sent so many edits has said this by a line, or if the line was refused
abbrev pub next_of : ℕ → Result (Option Said) StreamFault → Next
next_of edits (Ok None) = NextLine
next_of edits (Ok (Some (SaysUp up))) = Take (incoming_of edits up)
next_of edits (Ok (Some SaysBye)) = End Bye
next_of edits (Err fault) = End (ending_of (Stream fault))

-- and how many edits it has sent then
abbrev pub edits_after : ℕ → Result (Option Said) StreamFault → ℕ
edits_after edits (Ok None) = edits
edits_after edits (Ok (Some (SaysUp up))) = edits_with edits up
edits_after edits (Ok (Some SaysBye)) = edits
edits_after edits (Err fault) = edits

-- After those lines, by which the site had said all that, one line leads to what comes next. That is another line, if by this one the site says nothing yet.
-- It is the message that the site says, once what that waits for has come. It is the end, if the site says bye, or if the line is refused.
abbrev pub Leads : List Line → List Said → Keeper → Line → Next → Keeper → Type 0
Leads lines saids old line NextLine new = HasHeard (lines ++ line ∷ []) saids new
Leads lines saids old line (Take incoming) new = HasHeard (lines ++ line ∷ []) (saids ++ SaysUp incoming.up ∷ []) new
    × (incoming ≡ incoming_of (count_by says_edit saids) incoming.up)
Leads lines saids old line (End ending) new = ((ending ≡ Bye) × HasHeard (lines ++ line ∷ []) (saids ++ SaysBye ∷ []) new)
    ⊎ ((fault : StreamFault) × (ending ≡ ending_of (Stream fault)) × IsRefused fault old.0 line new.0)

-- whom a message wakes that the star took
abbrev pub rung_by : Up BoardBatch → Ring
rung_by (UpOp msg) = All
rung_by (UpAck count) = Own
rung_by (UpPing number) = Own

-- what follows from the star's answer: if the site has no link any more it is gone, and any other refusal ends the session with its number
abbrev pub outcome : Up BoardBatch → Result (Option ℕ) HubFault → Result Ring Ending
outcome up (Ok place) = Ok (rung_by up)
outcome up (Err (Star NoLink)) = Err Gone
outcome up (Err fault) = Err (ending_of (Hub fault))
