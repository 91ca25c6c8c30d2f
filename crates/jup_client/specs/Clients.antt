-- What a user asks a client for, and what it does.
use Rattle.std.specs.Prelude.{ℕ, List, Option, if◌then◌else◌, Some, None, ◌≡◌, ◌≢◌, ◌≤◌, ◌+◌, ◌⊎◌, [], ◌∷◌, ◌++◌, length, map, codes, nat_lt, decimal, IsTrue, IsFalse, true, ◌==◌, Bool, false, Result, Ok, Err, IfOk}
use Rattle.std.specs.List.{AllByRecursion}
use Rattle.std.specs.Option.{option_map}
use Rattle.jup_client.specs.Prelude.{Command, BoardBatch, OpenFault, Down, DownOp, DownAck, DownPong, UpPing, Line, LayoutFault, Distinct, Gathered, Request, Edit, Batch, Sync, Show, Quit, Bad, ClientEnd, Fault, NoMemory, Said, SaysUp, SaysBye, UpAck}
use Rattle.jup_window.specs.Boards.{Windows}
use Rattle.jup_batch.specs.Boards.{board_batches}
use Rattle.jup_window.specs.Commands.{edit_fault_number}
use Rattle.jup_text.specs.Commands.{command_text, batch_text, IsCommand, IsBatchCount, edits_text}
use Rattle.jup_text.specs.Boards.{board_text}
use Rattle.jup_star.specs.declared.site.Delivered.{Delivered}
use Rattle.jup_star.specs.declared.undelivered.Undelivered.{Undelivered}
use Rattle.jup_star.specs.declared.site.Made.{Made as MadeEdit}
use Rattle.jup_star.specs.Sites.{BoardSite, EditAnswers, DeliverAnswers, applied, fault_in, owed_of, shown_after, is_edit_memory, site_open_fault, opened_site}
use Rattle.jup_wire.specs.declared.line.Line.TheVariants as line
use Rattle.jup_layout.specs.Drafts.{Built, board_with, HasTaken}
use Rattle.jup_layout.specs.Said.{Part, SaysNothing, part_of}
use Rattle.jup_gather.specs.Gathering.{Gathers, down_in, message_given}
use Rattle.jup_client.specs.declared.batch_part.BatchPart.{BatchPart}
use Rattle.jup_client.specs.declared.client.Told.{Told}
use Rattle.jup_client.specs.declared.client.Told.TheVariants.{Site, Made, Refused, Synced, Board, Bye, BadCommand}
use Rattle.jup_client.specs.declared.client.Answer.{Answer}
use Rattle.jup_client.specs.declared.client.ClientState.{ClientState}
use Rattle.jup_client.specs.declared.client.Heard.{Heard}
use Rattle.jup_client.specs.declared.opening.Opening.{Opening}
use Rattle.jup_client.specs.declared.client.Told.TheVariants as told
use Rattle.jup_client.specs.Ends.{end_of_fault, end_of_site, end_of_layout, end_of_open}
use Rattle.jup_stream.specs.declared.faults.StreamFault.TheVariants.{Misplaced, ReadsSpent}
use Rattle.jup_gather.specs.declared.gathered.Gathered.TheVariants.{Plain, Held}
use Rattle.jup_window.specs.declared.faults.EditFault.{EditFault}

-- bytes of a line of a user. No message and no state depends on it
abbrev pub longest_command : ℕ
longest_command = 4096

-- What a user asks for: a word or a command is one line, and a batch is a line and one more for each of its commands.

-- how many of its lines are missing, and its commands so far, if each line was one
abbrev pub Begun : Type 0
Begun = ℕ × Option (List Command)

abbrev pub begun : BatchPart → Begun
begun part = (part.missing, if part.is_bad then None else Some part.commands.items)

abbrev pub held : Option BatchPart → Option Begun
held None = None
held (Some part) = Some (begun part)

-- the lines of a request
abbrev pub request_lines : Request → List (List ℕ)
request_lines (Edit command) = command_text command ∷ []
request_lines (Batch commands) = batch_text (length commands.items) ∷ map command_text commands.items
request_lines Sync = codes "sync" ∷ []
request_lines Show = codes "show" ∷ []
request_lines Quit = codes "quit" ∷ []
request_lines Bad = []

-- what may be asked for
abbrev pub IsRequest : Request → Type 0
IsRequest (Edit command) = IsCommand command
IsRequest (Batch commands) = IsBatchCount (length commands.items) × AllByRecursion IsCommand commands.items
IsRequest Sync = Unit {0}
IsRequest Show = Unit {0}
IsRequest Quit = Unit {0}
IsRequest Bad = ⊥

-- these are the lines of that request, with nothing before or after them; or it is bad, and they are those of none
abbrev pub IsRequestOf : List (List ℕ) → Request → Type 0
IsRequestOf lines request = (IsRequest request × (lines ≡ request_lines request))
    ⊎ ((request ≡ Bad) × ((other : Request) → IsRequest other → lines ≢ request_lines other))

-- the text of no command
abbrev pub IsNoCommand : List ℕ → Type 0
IsNoCommand line = (command : Command) → IsCommand command → line ≢ command_text command

-- the commands that these lines are; or one of the lines is none
abbrev pub AreCommands : List (List ℕ) → Option (List Command) → Type 0
AreCommands lines (Some commands) = (lines ≡ map command_text commands) × AllByRecursion IsCommand commands
AreCommands lines None = (before : List (List ℕ)) × (line : List ℕ) × (behind : List (List ℕ)) × (lines ≡ before ++ line ∷ behind) × IsNoCommand line

-- the lines of a batch up to here
pub record IsBegunBy (lines : List (List ℕ)) (begun : Begun) : Type 0 where
  pub count : ℕ
  pub others : List (List ℕ)
  pub may : IsBatchCount count
  pub come : lines ≡ batch_text count ∷ others
  pub commands : AreCommands others begun.1
  pub missing : length others + begun.0 ≡ count
  pub some : 1 ≤ begun.0

-- these lines are held: those of a batch of which some are missing, or none
abbrev pub IsHeld : List (List ℕ) → Option Begun → Type 0
IsHeld lines None = lines ≡ []
IsHeld lines (Some begun) = IsBegunBy lines begun

-- what lines give: they are held if some are missing; else they are a request
abbrev pub ComesTo : List (List ℕ) → Option Request → Option Begun → Type 0
ComesTo lines None held = IsHeld lines held
ComesTo lines (Some request) held = IsRequestOf lines request × (held ≡ None)

-- What a user types, and what a client prints.

-- the line with one more byte: none once it has more than a line of a user may have
abbrev pub typed_on : Option (List ℕ) → ℕ → Option (List ℕ)
typed_on None byte = None
typed_on (Some bytes) byte = if nat_lt (length bytes) longest_command then Some (bytes ++ byte ∷ []) else None

-- what is read of it
abbrev pub text_of : Option (List ℕ) → List ℕ
text_of None = []
text_of (Some bytes) = bytes

-- words, as a line of their own
abbrev pub line_of : List ℕ → List ℕ
line_of words = words ++ 10 ∷ []

-- a word and a number
abbrev pub numbered : List ℕ → ℕ → List ℕ
numbered word number = word ++ 32 ∷ decimal number

-- what a client prints for its user, and the board if it was asked for
abbrev pub told_text : Told → Windows → List ℕ
told_text (Site number) board = line_of (numbered (codes "site") number)
told_text (Made edits) board = codes "made " ++ line_of (edits_text edits)
told_text (Refused fault) board = line_of (numbered (codes "refused") (edit_fault_number fault))
told_text Synced board = line_of (codes "synced")
told_text Board board = board_text board
told_text Bye board = line_of (codes "bye")
told_text BadCommand board = line_of (codes "bad command")

-- What a client makes of its user's requests and of its server's lines.

-- a line out of its place: an error bears its own number, and every other is misplaced
abbrev pub refusal_of : Line → ClientEnd
refusal_of (line.Error number) = Fault number
refusal_of _ = end_of_fault Misplaced

-- what the client says to the server and what the user sees, together, and the latter by itself
abbrev pub saying : Said → Told → Answer
saying said told = record { said = Some said; told = told }

abbrev pub telling : Told → Answer
telling told = record { said = None; told = told }

-- the client sends an edit that was made, and shows it to the user. It shows a refusal by its number, but a failed allocation ends the client
abbrev pub edit_answer : Result MadeEdit EditFault → Result Answer ClientEnd
edit_answer (Ok made) = Ok (saying (SaysUp made.up) (told.Made made.edit))
edit_answer (Err fault) = if is_edit_memory fault then Err NoMemory else Ok (telling (told.Refused fault))

-- pings are numbered from 1, and if no number is left the client ends
abbrev pub sync_answer : ℕ → Result Answer ClientEnd
sync_answer pings = if pings == 4294967295 then Err (end_of_fault ReadsSpent) else Ok (saying (SaysUp (UpPing (pings + 1))) told.Synced)

abbrev pub after_sync : ClientState → ClientState
after_sync c = record c { pings = (if c.pings == 4294967295 then c.pings else c.pings + 1) }

-- an edit of these commands is the site's
abbrev pub AnswersEdit : List Command → ClientState → Result Answer ClientEnd → ClientState → Type 0
AnswersEdit commands c r d = (outcome : Result MadeEdit EditFault) × EditAnswers commands c.site d.site outcome × (r ≡ edit_answer outcome) × (d.gather ≡ c.gather) × (d.pings ≡ c.pings)

-- what a client does for a request: an edit is its site's, and all others leave the site as it is
abbrev pub Answers : Request → ClientState → Result Answer ClientEnd → ClientState → Type 0
Answers (Edit command) c r d = AnswersEdit (command ∷ []) c r d
Answers (Batch commands) c r d = AnswersEdit commands.items c r d
Answers Sync c r d = (r ≡ sync_answer c.pings) × (d ≡ after_sync c)
Answers Show c r d = (r ≡ Ok (telling told.Board)) × (d ≡ c)
Answers Quit c r d = (r ≡ Ok (saying SaysBye told.Bye)) × (d ≡ c)
Answers Bad c r d = (r ≡ Ok (telling told.BadCommand)) × (d ≡ c)

-- the pong with this number, and no other message
abbrev pub is_pong : ℕ → Down BoardBatch → Bool
is_pong pings (DownPong count) = count == pings
is_pong pings (DownOp msg) = false
is_pong pings (DownAck count) = false

-- the message that lines give, and none if they are held; a line that is no message is refused
abbrev pub down_heard : Result (Down BoardBatch) Gathered → Result (Option (Down BoardBatch)) ClientEnd
down_heard (Ok down) = Ok (Some down)
down_heard (Err Held) = Ok None
down_heard (Err (Plain line)) = Err (refusal_of line)
down_heard (Err other) = Err (end_of_fault Misplaced)

-- the client says an acknowledgement that is owed, and returns what its board took
abbrev pub heard_answer : ℕ → Down BoardBatch → Result Delivered Undelivered → Result Heard ClientEnd
heard_answer pings down (Ok delivered) = Ok (record { said = option_map (λ up. SaysUp up) (option_map UpAck delivered.owed); is_synced = is_pong pings down; shown = delivered.shown })
heard_answer pings down (Err refusal) = Err (end_of_site (fault_in refusal))

-- a board took these operations and no others: those that the site applied for the message
pub record Shows (down : Down BoardBatch) (old : BoardSite) (shown : Option BoardBatch) (new : BoardSite) : Type 0 where
  pub operations : shown ≡ applied board_batches down old
  pub board : new.board ≡ shown_after shown old.board

-- a message is delivered to the site
abbrev pub Delivers : Down BoardBatch → ClientState → Result Heard ClientEnd → ClientState → Type 0
Delivers down c r d = (outcome : Result Delivered Undelivered) × DeliverAnswers down c.site d.site (owed_of outcome)
    × IfOk outcome (λ delivered. Shows down c.site delivered.shown d.site) × (r ≡ heard_answer c.pings down outcome) × (d.pings ≡ c.pings)

-- what a client does for what lines give
abbrev pub HearsDown : Result (Option (Down BoardBatch)) ClientEnd → ClientState → Result Heard ClientEnd → ClientState → Type 0
HearsDown (Ok (Some down)) c r d = Delivers down c r d
HearsDown (Ok None) c r d = (r ≡ Ok (record { said = None; is_synced = false; shown = None })) × (d.site ≡ c.site) × (d.pings ≡ c.pings)
HearsDown (Err end) c r d = (r ≡ Err end) × (d.site ≡ c.site) × (d.pings ≡ c.pings)

-- a line is gathered, and the client hears what it gives; if an allocation fails, it hears nothing
abbrev pub Hears : Line → ClientState → Result Heard ClientEnd → ClientState → Type 0
Hears line c r d = ((r ≡ Err NoMemory) × (d ≡ c))
    ⊎ ((gathered : Gathered) × Gathers c.gather line gathered d.gather × HearsDown (down_heard (message_given down_in gathered)) c r d)

-- a client that a server greeted: its site shows the board of the lines; or the lines are none, or no site is opened so, or an allocation failed
abbrev pub IsOpened : ℕ → ℕ → List Line → Result ClientState ClientEnd → Type 0
IsOpened site limit lines (Ok c) = (windows : Windows) × (board_with lines ≡ Ok windows) × (site_open_fault site limit windows ≡ None) × (c ≡ record { site = opened_site site limit windows; gather = Some []; pings = 0 })
IsOpened site limit lines (Err end) = (end ≡ NoMemory) ⊎ ((fault : LayoutFault) × (board_with lines ≡ Err fault) × (end ≡ end_of_layout fault))
    ⊎ ((windows : Windows) × (fault : OpenFault) × (board_with lines ≡ Ok windows) × (site_open_fault site limit windows ≡ Some fault) × (end ≡ end_of_open fault))

-- a server told these lines of its board: what they describe is held, or their first fault
abbrev pub HasTold : List Line → Result Built LayoutFault → Type 0
HasTold lines (Ok built) = HasTaken Distinct lines built
HasTold lines (Err fault) = board_with lines ≡ Err fault

-- the first line tells the number of the site and the limit, and every other is refused
abbrev pub IsGreeted : Line → Result Opening ClientEnd → Type 0
IsGreeted (line.Welcome site limit) (Ok opening) = (opening.site ≡ site) × (opening.limit ≡ limit) × HasTold [] opening.board
IsGreeted (line.Welcome site limit) (Err end) = ⊥
IsGreeted other r = r ≡ Err (refusal_of other)

-- one more line of the board, after these
abbrev pub Extends : Line → List Line → Opening → Result (Option ClientState) ClientEnd → Opening → Type 0
Extends line lines old (Ok None) new = (new.site ≡ old.site) × (new.limit ≡ old.limit) × HasTold (lines ++ line ∷ []) new.board
Extends line lines old (Ok (Some state)) new = ⊥
Extends line lines old (Err end) new = end ≡ NoMemory

-- after the last line of the board
abbrev pub Opens : List Line → Opening → Result (Option ClientState) ClientEnd → Type 0
Opens lines old (Ok None) = ⊥
Opens lines old (Ok (Some state)) = IsOpened old.site old.limit lines (Ok state)
Opens lines old (Err end) = IsOpened old.site old.limit lines (Err end)

-- whether a line says a part of a board
abbrev pub says_something : Part → Bool
says_something SaysNothing = false
says_something part = true

abbrev pub is_of_board : Line → Bool
is_of_board line = says_something (part_of line)

-- a line of a welcome after the first, whatever lines of the board came before: one of the board, or `ready`, which opens the client, and each other is
-- refused
pub record HearsWelcome (next : Line) (old : Opening) (r : Result (Option ClientState) ClientEnd) (new : Opening) : Type 0 where
  pub ready : next ≡ line.Ready → (lines : List Line) → HasTold lines old.board → Opens lines old r
  pub part : IsTrue (is_of_board next) → (lines : List Line) → HasTold lines old.board → Extends next lines old r new
  pub other : next ≢ line.Ready → IsFalse (is_of_board next) → r ≡ Err (refusal_of next)
