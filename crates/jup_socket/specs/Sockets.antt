-- A link as the bytes of its ends, and what its client says.
use Rattle.std.specs.Prelude.{◌≡◌, ℕ, Bool, true, false, List, [], ◌∷◌, ◌++◌, map, Option, ◌⊎◌, option_to_list, Result, Ok, Err}
use Rattle.std.specs.List.{flat_map, AllByRecursion}
use Rattle.jup_batch.specs.Boards.{BoardBatch, Commands}
use Rattle.jup_socket.specs.Prelude.{Up, Down, Joined, Line, Said, SaysUp, SaysBye, ClientEnd, NoMemory, Answer, Heard, ClientState}
use Rattle.jup_star.specs.Sites.{edit_reply, site_edited, deliver_reply, site_delivered}
use Rattle.jup_wire.specs.declared.line.Line.TheVariants.{Hello, Welcome, Ready, Bye, Error}
use Rattle.jup_wire.specs.Lines.{spelling, HasSpelling}
use Rattle.jup_wire.specs.Streams.{Progress, HasRead}
use Rattle.jup_layout.specs.Drafts.{board_lines}
use Rattle.jup_gather.specs.Gathering.{piece_lines, HasGathered, down_piece}
use Rattle.jup_honest.specs.Sites.{Step, Connection, after, sent_as_made, sent_as_handed}
use Rattle.jup_stream.specs.Saying.{said_piece}
use Rattle.jup_rules.specs.Sessions.{down_lines, HasSaid}

-- The two ways of a link as the bytes that its ends wrote and read.

-- # Up

-- a client that says bye says nothing after it
abbrev pub farewell : Bool → List Said
farewell true = SaysBye ∷ []
farewell false = []

-- what a client says: its messages, and then perhaps a bye
abbrev pub all_said : List (Up BoardBatch) → Bool → List Said
all_said ups bye = map (λ up. SaysUp up) ups ++ farewell bye

-- the lines of that
abbrev pub said_lines : List Said → List Line
said_lines saids = flat_map (λ said. piece_lines (said_piece said)) saids

-- What a session read: `hello`, then whole lines, some of which may wait, and then a part of one. By the others the client said all that, and the first of
-- these messages were brought to the star
pub record Brought (taken : List (Up BoardBatch)) : Type 0 where
  pub read : List ℕ
  pub lines : List Line
  pub waiting : List Line
  pub progress : Progress
  pub reads : HasRead read (Hello ∷ (lines ++ waiting)) progress
  pub saids : List Said
  pub held : Option (List Line)
  pub said : HasSaid lines saids held
  pub later : List Said
  pub takes : saids ≡ map (λ up. SaysUp up) taken ++ later

-- The bytes that the client wrote are those of `hello`, of its messages and perhaps of a bye. The session read the first of them
pub record UpSocket (c : Connection) : Type 0 where
  pub bye : Bool
  pub spelled : AllByRecursion HasSpelling (Hello ∷ said_lines (all_said c.sent bye))
  pub brought : Brought c.taken
  pub left : List ℕ
  pub bytes : brought.read ++ left ≡ flat_map spelling (Hello ∷ said_lines (all_said c.sent bye))

-- # Down

-- a line that ends a session
abbrev pub IsLast : Line → Type 0
IsLast Bye = Unit {0}
IsLast (Error number) = Unit {0}
IsLast line = ⊥

-- a line that does not end a board
abbrev pub IsWithinBoard : Line → Type 0
IsWithinBoard Ready = ⊥
IsWithinBoard line = Unit {0}

-- what a server says as a site has joined: its number and its limit, a board, and that this is all
abbrev pub greeting : ℕ → ℕ → List Line → List Line
greeting site limit body = Welcome site limit ∷ (body ++ Ready ∷ [])

-- the lines of messages down
abbrev pub messages_down : List (Down BoardBatch) → List Line
messages_down downs = flat_map down_lines downs

-- what a session writes: the greeting of the answer to the join, what its fetches brought, and a last line once it ends
abbrev pub written_down : Joined → List (Down BoardBatch) → List Line → List Line
written_down answer fetched last = greeting answer.site answer.limit (board_lines answer.board) ++ (messages_down fetched ++ last)

-- What a client read: a greeting, then whole lines, some of which may wait, and then a part of one. By the others the server said some messages, and the
-- first of these were delivered to the site
pub record Received (delivered : List (Down BoardBatch)) : Type 0 where
  pub read : List ℕ
  pub site : ℕ
  pub limit : ℕ
  pub body : List Line
  pub is_body : AllByRecursion IsWithinBoard body
  pub lines : List Line
  pub waiting : List Line
  pub progress : Progress
  pub reads : HasRead read (greeting site limit body ++ (lines ++ waiting)) progress
  pub downs : List (Down BoardBatch)
  pub held : Option (List Line)
  pub said : HasGathered lines (map down_piece downs) held
  pub later : List (Down BoardBatch)
  pub handed : downs ≡ delivered ++ later

-- The bytes that the session wrote, or is to write, are those of that. The client read the first of them
pub record DownSocket (answer : Joined) (c : Connection) : Type 0 where
  pub last : List Line
  pub ends : AllByRecursion IsLast last
  pub spelled : AllByRecursion HasSpelling (written_down answer c.fetched last)
  pub received : Received c.handed
  pub left : List ℕ
  pub bytes : received.read ++ left ≡ flat_map spelling (written_down answer c.fetched last)

-- # Both

-- a link at one moment
pub record AtSocket (answer : Joined) (c : Connection) : Type 0 where
  pub up : UpSocket c
  pub down : DownSocket answer c

-- and at each
abbrev pub AtSocketThrough : Joined → List Step → Connection → Type 0
AtSocketThrough answer [] c = AtSocket answer c
AtSocketThrough answer (step ∷ steps) c = AtSocket answer c × AtSocketThrough answer steps (after step c)

-- What a client of this product says at its steps.

-- what it says to the server
abbrev pub said_of_answer : Result Answer ClientEnd → List Said
said_of_answer (Ok answer) = option_to_list answer.said
said_of_answer (Err end) = []

abbrev pub said_of_heard : Result Heard ClientEnd → List Said
said_of_heard (Ok heard) = option_to_list heard.said
said_of_heard (Err end) = []

-- if an allocation fails, the client ends, with its site as it was; otherwise the site has made the edit, and the client says its message
abbrev pub IsEditStep : Commands → ClientState → Result Answer ClientEnd → ClientState → Type 0
IsEditStep commands old r new = ((r ≡ Err NoMemory) × (new.site ≡ old.site))
    ⊎ ((new.site ≡ site_edited commands old.site) × (said_of_answer r ≡ map (λ up. SaysUp up) (sent_as_made (edit_reply commands old.site))))

-- the same of a message that it receives
abbrev pub IsDeliverStep : Down BoardBatch → ClientState → Result Heard ClientEnd → ClientState → Type 0
IsDeliverStep down old r new = ((r ≡ Err NoMemory) × (new.site ≡ old.site))
    ⊎ ((new.site ≡ site_delivered down old.site) × (said_of_heard r ≡ map (λ up. SaysUp up) (sent_as_handed (deliver_reply down old.site))))
