-- A site, and what each call makes of it.
use Rattle.std.specs.Prelude.{◌≡◌, ℕ, ◌+◌, ◌*◌, ◌≤◌, Bool, true, false, not, List, [], ◌∷◌, ◌++◌, length, nat_le, Option, Some, None, Result, Ok, Err, if◌then◌else◌, ◌&&◌, ◌||◌, is_none, is_ok, MatchBool}
use Rattle.jup_star.specs.Prelude.{highest_limit, most_operations, most_unacknowledged, last_site, Client, Msg, owes, EndLink as Link, opened, generated, accepts_count, after_send, after_count, answered, next_message, Command, Operations, has_site, BoardBatch, BoardEdits, board_batches, bare, Up, UpAck, Op as UpOp, UpPing, Down, DownOp as Op, DownAck as Ack, DownPong as Pong, SiteFault, OpenFault, BadLimit, BadSite}
use Rattle.jup_window.specs.declared.faults.EditFault.TheVariants.{NoWindow, NoWidget, WrongKind, BadPlace, BadValue, LongText, Backlog, NoMemory, Spent, BadBatch, Stopped as EditStopped}
use Rattle.jup_batch.specs.Boards as board
use Rattle.jup_star.specs.declared.faults.SiteFault.TheVariants.{BadCount, BadAck, BadName, BadOp, Stopped, NoMemory as SiteNoMemory}
use Rattle.jup_star.specs.declared.site.Made.{Made}
use Rattle.jup_star.specs.declared.site.Delivered.{Delivered}
use Rattle.jup_star.specs.declared.undelivered.Undelivered.{Undelivered}
use Rattle.jup_star.specs.declared.undelivered.Undelivered.TheVariants.{NoMemory as HandedBack, Fault}
use Rattle.jup_star.specs.declared.site.Site.TheInside.{Inside}
use Rattle.jup_star.specs.Faults.{count_tests, Test, test, first_fault}
use Rattle.jup_star.specs.Stars.{operation_at, end_after}
use Rattle.jup_batch.specs.Prelude.{EditFault}
use Rattle.std.specs.Option.{option_map}

-- A site, and what each call answers and leaves. The definitions are for any operations: a site's are those on boards.

-- its number, how many edits it may make, its board, its end of the link, how many edits and how many insertions it made, and
-- whether a message stopped it
pub record SiteState (Operation State : Type 0) : Type 0 where
  pub number : ℕ
  pub limit : ℕ
  pub board : State
  pub end : Link Operation
  pub made : ℕ
  pub named : ℕ
  pub stopped : Bool

module _ {Operation State : Type 0} where
  -- a new site
  abbrev pub opened_site : ℕ → ℕ → State → SiteState Operation State
  opened_site number limit board =
      record { number = number; limit = limit; board = board; end = opened Client; made = 0; named = 0; stopped = false }

  -- a site that a message stopped: its board is as it was, and its link is gone
  abbrev pub halted : SiteState Operation State → SiteState Operation State
  halted s = record s { end = opened Client; stopped = true }

  abbrev pub with_end : SiteState Operation State → Link Operation → SiteState Operation State
  with_end s e = record s { end = e }

  abbrev pub running_test : SiteState Operation State → Test SiteFault
  running_test s = test (not s.stopped) Stopped

-- the acknowledgement that an end owes, if it does
abbrev pub owed_up : {Operation : Type 0} → Link Operation → Option (Up Operation)
owed_up e = if owes e.unanswered then Some (UpAck e.received) else None

-- the tests of an acknowledgement
abbrev pub heard_tests : {Operation : Type 0} → Link Operation → ℕ → List (Test SiteFault)
heard_tests e n = test (accepts_count e n) BadAck ∷ []

-- an end that heard a message, where the operation of an edit is still to be received
abbrev pub end_heard : {Operation : Type 0} → Link Operation → Down Operation → Link Operation
end_heard e (Op m) = e
end_heard e (Ack n) = after_count e n
end_heard e (Pong k) = e

module _ (O : Operations) where
  -- a site of a kind of operations
  abbrev pub SiteOf : Type 0
  SiteOf = SiteState O.Op O.State

  -- the operation that a command makes, or the first refusal, memory aside. The refusals are: the site is stopped, the command does
  -- not fit the board, 1,024 edits are not acknowledged, all edits were made
  abbrev pub within_bounds : SiteOf → Result O.Op EditFault → Result O.Op EditFault
  within_bounds s (Err fault) = Err fault
  within_bounds s (Ok op) = if nat_le most_unacknowledged (length s.end.outgoing) then Err Backlog else if nat_le s.limit s.made then Err Spent else Ok op

  abbrev pub edit_answer : O.Command → SiteOf → Result O.Op EditFault
  edit_answer command s = if s.stopped then Err EditStopped else within_bounds s (O.operation_of s.board command s.number s.named)

  -- the site once it made an edit: it applies the edit immediately and queues it
  abbrev pub edited : O.Op → SiteOf → SiteOf
  edited op s = record s {
    board = O.t.after op s.board;
    end = after_send s.end op;
    made = s.made + 1;
    named = s.named + O.insertions (O.t.edit_of op);
  }

  -- the tests of an edit of another site before any memory is asked for, in order: its counts, and that it bears no name of this site
  abbrev pub shown_tests : ℕ → Link O.Op → Msg O.Op → List (Test SiteFault)
  shown_tests number e m = count_tests BadCount BadAck e m ++ test (not (O.bears_site number (O.t.edit_of m.op))) BadName ∷ []

  abbrev pub deliver_tests : SiteOf → Msg O.Op → List (Test SiteFault)
  deliver_tests s m = running_test s ∷ shown_tests s.number s.end m

  -- and once there is memory: the operation, moved past what the star had not received, fits the board
  abbrev pub fits_shown : SiteOf → Msg O.Op → Bool
  fits_shown s m = O.accepts (operation_at O s.end m) s.board

  -- why a message is refused, memory aside
  abbrev pub deliver_fault : Down O.Op → SiteOf → Option SiteFault
  deliver_fault (Op m) s = first_fault (deliver_tests s m ++ test (fits_shown s m) BadOp ∷ [])
  deliver_fault (Ack n) s = first_fault (running_test s ∷ heard_tests s.end n)
  deliver_fault (Pong k) s = first_fault (running_test s ∷ [])

  -- the first fault of a message that is found at the end alone: the operation of an edit is still to be received
  abbrev pub heard_fault : ℕ → Link O.Op → Down O.Op → Option SiteFault
  heard_fault number e (Op m) = first_fault (shown_tests number e m)
  heard_fault number e (Ack n) = first_fault (heard_tests e n)
  heard_fault number e (Pong k) = None

  -- the site once it received a message: an edit is applied, and what is then owed was acknowledged
  abbrev pub received : Down O.Op → SiteOf → SiteOf
  received (Op m) s = record s { board = O.t.after (operation_at O s.end m) s.board; end = answered (end_after O s.end m) }
  received (Ack n) s = with_end s (after_count s.end n)
  received (Pong k) s = s

  -- what it sends back
  abbrev pub sent_back : Down O.Op → SiteOf → Option (Up O.Op)
  sent_back (Op m) s = owed_up (end_after O s.end m)
  sent_back (Ack n) s = None
  sent_back (Pong k) s = None

  -- the operations that it applies: those of an edit, moved past its own edits that the star had not received
  abbrev pub applied : Down O.Op → SiteOf → Option O.Op
  applied (Op m) s = Some (operation_at O s.end m)
  applied (Ack n) s = None
  applied (Pong k) s = None

  -- the site after a message, by its first fault: one stops it
  abbrev pub after_fault : Down O.Op → SiteOf → Option SiteFault → SiteOf
  after_fault down s None = received down s
  after_fault down s (Some e) = if s.stopped then s else halted s

  -- What holds of every site. It made no more edits than it may, and its link carries no more than these. It named no more
  -- items than it made edits, and its board holds no item that it has yet to name
  pub record IsSite (s : SiteOf) : Type 0 where
    pub limited : s.limit ≤ highest_limit
    pub counted : s.made ≤ s.limit
    pub sent : generated s.end ≤ s.made
    pub insertions : s.named ≤ most_operations * s.made
    pub known : (n : O.t.Name) → O.t.holds s.board n → O.site_of n ≡ s.number → O.number_of n ≤ s.named

-- The calls on a site: memory aside, each has one reply and one next site.

-- a site of boards
abbrev pub BoardSite : Type 0
BoardSite = SiteState BoardBatch board.Windows

-- why a site is not opened
abbrev pub site_open_fault : ℕ → ℕ → board.Windows → Option OpenFault
site_open_fault number limit b = first_fault (
    test (nat_le 1 limit && nat_le limit highest_limit) BadLimit
    ∷ test (nat_le 1 number && nat_le number last_site) BadSite
    ∷ test (not (has_site number b)) BadSite
    ∷ [])

-- what a site answers for an edit that it made, and the message of the edit
abbrev pub made_by : BoardBatch → BoardSite → Made
made_by op s = record { edit = board.edit_of op; up = UpOp (next_message s.end op) }

-- what a site answers to a command
abbrev pub made_result : BoardSite → Result BoardBatch EditFault → Result Made EditFault
made_result s (Ok op) = Ok (made_by op s)
made_result s (Err fault) = Err fault

abbrev pub edit_reply : List Command → BoardSite → Result Made EditFault
edit_reply command s = made_result s (edit_answer board_batches command s)

-- and the site that it leaves
abbrev pub after_edit : BoardSite → Result BoardBatch EditFault → BoardSite
after_edit s (Ok op) = edited board_batches op s
after_edit s (Err fault) = s

abbrev pub site_edited : List Command → BoardSite → BoardSite
site_edited command s = after_edit s (edit_answer board_batches command s)

abbrev pub is_edit_memory : EditFault → Bool
is_edit_memory NoWindow = false
is_edit_memory NoWidget = false
is_edit_memory WrongKind = false
is_edit_memory BadPlace = false
is_edit_memory BadValue = false
is_edit_memory LongText = false
is_edit_memory Backlog = false
is_edit_memory NoMemory = true
is_edit_memory Spent = false
is_edit_memory BadBatch = false
is_edit_memory EditStopped = false

abbrev pub edit_lacks_memory : Result Made EditFault → Bool
edit_lacks_memory (Ok made) = false
edit_lacks_memory (Err fault) = is_edit_memory fault

-- what a command does at a site. If an allocation fails, it does nothing, and no other refusal applied. Otherwise the
-- reply and the next site are those of the command
abbrev pub EditAnswers : List Command → BoardSite → BoardSite → Result Made EditFault → Type 0
EditAnswers command s t r = MatchBool (edit_lacks_memory r)
    ((t ≡ s) × (is_ok (edit_answer board_batches command s) ≡ true))
    ((r ≡ edit_reply command s) × (t ≡ site_edited command s))

-- a message up is of an operation that makes the edit
abbrev pub Bears : BoardEdits → Up BoardBatch → Type 0
Bears e (UpOp m) = board.edit_of m.op ≡ e
Bears e (UpAck n) = ⊥
Bears e (UpPing k) = ⊥

-- what a site answers to a message
abbrev pub deliver_result : Down BoardBatch → BoardSite → Option SiteFault → Result (Option (Up BoardBatch)) SiteFault
deliver_result down s None = Ok (sent_back board_batches down s)
deliver_result down s (Some e) = Err e

abbrev pub deliver_reply : Down BoardBatch → BoardSite → Result (Option (Up BoardBatch)) SiteFault
deliver_reply down s = deliver_result down s (deliver_fault board_batches down s)

-- and the site that it leaves
abbrev pub site_delivered : Down BoardBatch → BoardSite → BoardSite
site_delivered down s = after_fault board_batches down s (deliver_fault board_batches down s)

-- whether a site needs memory for a batch of another: only for one that inserts an item, and for one of several operations, of
-- which a copy is made
abbrev pub asks_room : BoardBatch → Bool
asks_room os = nat_le 1 (board.insertions (board.edit_of os)) || nat_le 2 (length os)

-- whether a message comes to ask for memory
abbrev pub deliver_asks : Down BoardBatch → BoardSite → Bool
deliver_asks (Op m) s = is_none (first_fault (deliver_tests board_batches s m)) && asks_room m.op
deliver_asks (Ack n) s = false
deliver_asks (Pong k) s = false

abbrev pub is_site_memory : SiteFault → Bool
is_site_memory SiteNoMemory = true
is_site_memory BadCount = false
is_site_memory BadAck = false
is_site_memory BadName = false
is_site_memory BadOp = false
is_site_memory Stopped = false

abbrev pub deliver_lacks_memory : Result (Option (Up BoardBatch)) SiteFault → Bool
deliver_lacks_memory (Ok back) = false
deliver_lacks_memory (Err fault) = is_site_memory fault

-- what a message does at a site. If an allocation fails, it does nothing, and no refusal that is tested before the
-- allocation applied. Otherwise the reply and the next site are those of the message
abbrev pub DeliverAnswers : Down BoardBatch → BoardSite → BoardSite → Result (Option (Up BoardBatch)) SiteFault → Type 0
DeliverAnswers down s t r = MatchBool (deliver_lacks_memory r)
    ((t ≡ s) × (deliver_asks down s ≡ true))
    ((r ≡ deliver_reply down s) × (t ≡ site_delivered down s))

-- a message has no fault that is found without its board and without memory: an edit is still to be shown, any other message is taken
abbrev pub IsAdmitted : Down BoardBatch → BoardSite → BoardSite → Type 0
IsAdmitted (Op m) s t = (first_fault (deliver_tests board_batches s m) ≡ None) × (t ≡ s)
IsAdmitted (Ack n) s t = DeliverAnswers (Ack n) s t (Ok None)
IsAdmitted (Pong k) s t = DeliverAnswers (Pong k) s t (Ok None)

-- What a site answers to a message that is handed over to it. It is what it answers to one that it only reads, except that the message
-- comes back if an allocation fails.

-- the fault of a refusal
abbrev pub fault_in : Undelivered → SiteFault
fault_in (HandedBack down) = SiteNoMemory
fault_in (Fault fault) = fault

-- the acknowledgement that a site owes after a message
abbrev pub owed_of : Result Delivered Undelivered → Result (Option (Up BoardBatch)) SiteFault
owed_of (Ok delivered) = Ok (option_map UpAck delivered.owed)
owed_of (Err refusal) = Err (fault_in refusal)

-- if an allocation fails, the message comes back and the site is as it was; any other refusal has another fault
abbrev pub HandsBack : Down BoardBatch → BoardSite → BoardSite → Undelivered → Type 0
HandsBack down s t (HandedBack back) = (back ≡ down) × (t ≡ s)
HandsBack down s t (Fault fault) = is_site_memory fault ≡ false

-- whether a message inserts an item
abbrev pub inserts : Down BoardBatch → Bool
inserts (Op m) = nat_le 1 (board.insertions (board.edit_of m.op))
inserts (Ack n) = false
inserts (Pong k) = false

-- a board after the operations that a site applied, if any
abbrev pub shown_after : Option BoardBatch → board.Windows → board.Windows
shown_after None b = b
shown_after (Some op) b = board.after op b

-- A site of the program as contracts see it.

-- a site without the room that it keeps
abbrev pub bare_site : Inside → BoardSite
bare_site s = record {
  number = s.number;
  limit = s.limit;
  board = bare s.board;
  end = s.end.link;
  made = s.made;
  named = s.named;
  stopped = s.stopped;
}
