-- Links: their ends, what travels, and two ends in step.
use Rattle.std.specs.Prelude.{nat_le, nat_lt, nat_eq, Bool, ◌&&◌, if◌then◌else◌, ◌≡◌, ℕ, ◌+◌, ◌-◌, ◌<◌, ◌≤◌, List, [], ◌∷◌, ◌++◌, length, drop}
use Rattle.jup_limits.specs.Limits.{answer_after}
use Rattle.jup_xform.specs.declared.Transform.{Ghosts}
use Rattle.jup_xform.specs.declared.row.Side.{Side}
use Rattle.jup_xform.specs.declared.row.Side.TheVariants.{Client, Server}
use Rattle.jup_xform.specs.Rows.{row_operation, row_entries}
use Rattle.jup_xform.specs.Grids.{past, opposite, after_all, AreValid, GridCloses, mirror}
use Rattle.jup_link.specs.declared.Msg.{Msg}

-- An end of a link: what it counts, what it accepts, and what each call makes of it.

-- an end of a link, without the room in its queue
pub record Link (Op : Type 0) : Type 0 where
  pub side : Side
  pub received : ℕ  -- how many of the other end's operations it received
  pub acknowledged : ℕ  -- how many of its own are known to be received
  pub outgoing : List Op  -- its own that are not, oldest first
  pub unanswered : ℕ  -- how many it received since it last sent an operation or an acknowledgement

-- how many operations an end generated, which is also the number of its next one
abbrev pub generated : {Op : Type 0} → Link Op → ℕ
generated l = l.acknowledged + length l.outgoing

-- a new end
abbrev pub opened : {Op : Type 0} → Side → Link Op
opened side = record { side = side; received = 0; acknowledged = 0; outgoing = []; unanswered = 0 }

-- the other end may say that it received so many operations of this one
pub record IsCount {Op : Type 0} (l : Link Op) (n : ℕ) : Type 0 where
  pub low : l.acknowledged ≤ n
  pub high : n ≤ generated l

-- the next operation of the other end has this number, and one more can be counted
pub record IsNumber {Op : Type 0} (l : Link Op) (n : ℕ) : Type 0 where
  pub next : n ≡ l.received
  pub counted : l.received < 4294967295

-- the same two as tests
abbrev pub accepts_count : {Op : Type 0} → Link Op → ℕ → Bool
accepts_count l n = nat_le l.acknowledged n && nat_le n (generated l)

abbrev pub accepts_number : {Op : Type 0} → Link Op → ℕ → Bool
accepts_number l n = nat_eq n l.received && nat_lt l.received 4294967295

-- the queue without the first n operations that an end generated
abbrev pub unheard : {Op : Type 0} → Link Op → ℕ → List Op
unheard l n = drop (n - l.acknowledged) l.outgoing

-- an end once it knows that the other received n of its operations
abbrev pub after_count : {Op : Type 0} → Link Op → ℕ → Link Op
after_count l n = record l { acknowledged = n; outgoing = unheard l n }

-- an end that sent an operation
abbrev pub after_send : {Op : Type 0} → Link Op → Op → Link Op
after_send l o = record l { outgoing = l.outgoing ++ o ∷ []; unanswered = 0 }

-- an end that sent an acknowledgement
abbrev pub after_ack : {Op : Type 0} → Link Op → Link Op
after_ack l = record l { unanswered = 0 }

-- the operation of a message as an end that has this queue is to apply it: past what its sender had not received
abbrev pub arrived : {Op : Type 0} → (Op → Op → Op) → Link Op → ℕ → Op → Op
arrived past l heard o = row_operation past o (unheard l heard)

-- and that end afterwards. `past` moves the other end's operations, and `other` this one's
abbrev pub after_arrival : {Op : Type 0} → (Op → Op → Op) → (Op → Op → Op) → Link Op → ℕ → Op → Link Op
after_arrival past other l heard o = record {
  side = l.side;
  received = l.received + 1;
  acknowledged = heard;
  outgoing = row_entries past other o (unheard l heard);
  unanswered = l.unanswered + 1;
}

-- the same two at an end, whose side says which is which
abbrev pub received_operation : {Op State Edit : Type 0} → Ghosts Op State Edit → Link Op → ℕ → Op → Op
received_operation t l heard o = arrived (past t (opposite l.side)) l heard o

abbrev pub after_receive : {Op State Edit : Type 0} → Ghosts Op State Edit → Link Op → ℕ → Op → Link Op
after_receive t l heard o = after_arrival (past t (opposite l.side)) (past t l.side) l heard o

-- what travels between two ends: an operation with its number and the count of those that its end received, or that count alone
pub data Message (Op : Type 0) : Type 0 where
  Operation : (mine heard : ℕ) → (o : Op) → Message Op
  Ack : (heard : ℕ) → Message Op

-- the message of an operation that an end generates
abbrev pub message : {Op : Type 0} → Link Op → Op → Message Op
message l o = Operation (generated l) l.received o

-- what a message does at the end that it comes to
abbrev pub link_after : {Op State Edit : Type 0} → Ghosts Op State Edit → Link Op → Message Op → Link Op
link_after t l (Operation mine heard o) = after_receive t l heard o
link_after t l (Ack n) = after_count l n

-- and to the state there
abbrev pub state_after : {Op State Edit : Type 0} → Ghosts Op State Edit → Link Op → State → Message Op → State
state_after t l x (Operation mine heard o) = t.after (received_operation t l heard o) x
state_after t l x (Ack n) = x

-- an end accepts a message, and an operation is then valid there
abbrev pub AcceptsMessage : {Op State Edit : Type 0} → Ghosts Op State Edit → Link Op → State → Message Op → Type 0
AcceptsMessage t l x (Operation mine heard o) = IsNumber l mine × IsCount l heard × t.is_valid (received_operation t l heard o) x
AcceptsMessage t l x (Ack n) = IsCount l n

-- whether an end that received so many operations since it last sent anything owes an acknowledgement
abbrev pub owes : ℕ → Bool
owes unanswered = nat_le answer_after unanswered

-- the acknowledgement that an end owes, if it does, and the end once it sent that
abbrev pub owed : {Op : Type 0} → Link Op → List (Message Op)
owed l = if owes l.unanswered then Ack l.received ∷ [] else []

abbrev pub answered : {Op : Type 0} → Link Op → Link Op
answered l = if owes l.unanswered then after_ack l else l

-- An end as contracts see it.

-- an end, and how many operations its queue has room for
pub record EndState (Op : Type 0) : Type 0 where
  pub link : Link Op
  pub spare : ℕ

-- Messages on their way, oldest first.

-- how many operations are among messages on their way
abbrev pub operation_count : {Op : Type 0} → List (Message Op) → ℕ
operation_count [] = 0
operation_count (Ack n ∷ ms) = operation_count ms
operation_count (Operation mine heard o ∷ ms) = operation_count ms + 1

-- each operation among messages has the property
abbrev pub AllMessages : {Op : Type 0} → (Op → Type 0) → List (Message Op) → Type 0
AllMessages P [] = Unit {0}
AllMessages P (Ack n ∷ ms) = AllMessages P ms
AllMessages P (Operation mine heard o ∷ ms) = P o × AllMessages P ms

-- each operation among messages is apart from this one
abbrev pub MessagesApart : {Op State Edit : Type 0} → Ghosts Op State Edit → List (Message Op) → Op → Type 0
MessagesApart t ms s = AllMessages (λ o. t.are_apart o s) ms

-- Messages of the program as what travels.

-- a message of the program as what travels
abbrev pub sent : {Op : Type 0} → Msg Op → Message Op
sent m = Operation m.mine m.heard m.op

-- that of the next operation of an end
abbrev pub next_message : {Op : Type 0} → Link Op → Op → Msg Op
next_message l o = record { mine = generated l; heard = l.received; op = o }

-- Two ends of a link in step: what they have in common, and what each has ahead.

-- There are two definitions of in step. This one, which the proofs keep, ties each message to the part of the queue that its
-- sender had received. The contract of `ends_agree` has the plainer one, which follows. No proof of an event could go by that.

-- Two ends of a link have a state in common, the base: the one after the operations that both have received. `near_ahead` are the
-- near end's operations that the far end has not received, and `far_ahead` the far end's that the near end has not received. Each
-- list leads from the base to the present state of its end. The near end is the client's; at `mirror t` it is the server's.

-- the states: the grid of the two lists closes, and the base is small by the operations of both and `n` more
pub record StatesMeet {Op State Edit : Type 0} (t : Ghosts Op State Edit) (n : ℕ) (base : State) (near_ahead far_ahead : List Op) (near far : State) : Type 0 where
  pub distinct : t.is_distinct base
  pub small : t.is_small (n + (length near_ahead + length far_ahead)) base
  pub near_valid : AreValid t near_ahead base
  pub far_valid : AreValid t far_ahead base
  pub near_is : near ≡ after_all t near_ahead base
  pub far_is : far ≡ after_all t far_ahead base
  pub closes : GridCloses t near_ahead far_ahead base

-- an operation is the next that the far end receives: past the entries of its queue that the near end had received, it is `a`
pub record IsNext {Op State Edit : Type 0} (t : Ghosts Op State Edit) (received acknowledged : ℕ) (before : List Op) (mine heard : ℕ) (o a : Op) : Type 0 where
  pub number : mine ≡ received
  pub counted : received < 4294967295
  pub low : acknowledged ≤ heard
  pub high : heard ≤ acknowledged + length before
  pub gives : row_operation t.client_past o (drop (heard - acknowledged) before) ≡ a
  pub apart : (other : Op) → t.are_apart o other → t.are_apart a other

-- messages that come to the far end bring the operations `ahead`, and are accepted in turn. `received` and `acknowledged` are
-- the far end's counts, and `before` are the entries of its queue that the near end has received
abbrev pub Comes : {Op State Edit : Type 0} → Ghosts Op State Edit → ℕ → ℕ → List Op → List (Message Op) → List Op → Type 0
Comes t received acknowledged before [] [] = Unit {0}
Comes t received acknowledged before [] (a ∷ ahead) = ⊥
Comes t received acknowledged before (Ack n ∷ ms) ahead =
    (acknowledged ≤ n) × (n ≤ acknowledged + length before)
    × Comes t received n (drop (n - acknowledged) before) ms ahead
Comes t received acknowledged before (Operation mine heard o ∷ ms) [] = ⊥
Comes t received acknowledged before (Operation mine heard o ∷ ms) (a ∷ ahead) =
    IsNext t received acknowledged before mine heard o a
    × Comes t (received + 1) heard (row_entries t.client_past t.server_past o (drop (heard - acknowledged) before)) ms ahead

-- the far end's queue and the stream to it: the other end has received `heard` operations, the last of the queue are `ahead`,
-- and the stream brings `brings`
pub record QueueMeets {Op State Edit : Type 0} (t : Ghosts Op State Edit) (l : Link Op) (heard : ℕ) (ahead : List Op) (stream : List (Message Op)) (brings : List Op) : Type 0 where
  pub before : List Op
  pub queue : l.outgoing ≡ before ++ ahead
  pub count : heard ≡ l.acknowledged + length before
  pub comes : Comes t l.received l.acknowledged before stream brings

-- two ends with their states and streams are in step
pub record InStepAt {Op State Edit : Type 0} (t : Ghosts Op State Edit) (n : ℕ) (base : State) (near_ahead far_ahead : List Op)
    (near_state far_state : State) (near far : Link Op) (out back : List (Message Op)) : Type 0 where
  pub states : StatesMeet t n base near_ahead far_ahead near_state far_state
  pub near_queue : QueueMeets (mirror t) near far.received near_ahead back far_ahead
  pub far_queue : QueueMeets t far near.received far_ahead out near_ahead

-- a client's end and a server's end are in step, and stay so for `n` more edits
pub record InStep {Op State Edit : Type 0} (t : Ghosts Op State Edit) (n : ℕ)
    (client_state server_state : State) (client server : Link Op) (up down : List (Message Op)) : Type 0 where
  pub client_side : client.side ≡ Client
  pub server_side : server.side ≡ Server
  pub base : State
  pub client_ahead : List Op
  pub server_ahead : List Op
  pub meets : InStepAt t n base client_ahead server_ahead client_state server_state client server up down

-- the base once an end receives the first of the other's operations
abbrev pub shared_after : {Op State Edit : Type 0} → Ghosts Op State Edit → List Op → State → State
shared_after t [] x = x
shared_after t (o ∷ os) x = t.after o x

-- the other's operations that it has then not received
abbrev pub rest : {Op : Type 0} → List Op → List Op
rest [] = []
rest (o ∷ os) = os

-- and its own, past the one received
abbrev pub past_first : {Op : Type 0} → (Op → Op → Op) → (Op → Op → Op) → List Op → List Op → List Op
past_first past other [] es = es
past_first past other (o ∷ os) es = row_entries past other o es

-- an end receives all the messages that come to it, in turn, and accepts each. The operations that they give are those of
-- `brings`, each past all of this end's `ahead` as those before it left `ahead`
abbrev pub BringsInTurn : {Op State Edit : Type 0} → Ghosts Op State Edit → Link Op → List Op → List (Message Op) → List Op → Type 0
BringsInTurn t l ahead [] [] = Unit {0}
BringsInTurn t l ahead [] (a ∷ brings) = ⊥
BringsInTurn t l ahead (Ack n ∷ ms) brings = IsCount l n × BringsInTurn t (after_count l n) ahead ms brings
BringsInTurn t l ahead (Operation mine heard o ∷ ms) [] = ⊥
BringsInTurn t l ahead (Operation mine heard o ∷ ms) (a ∷ brings) =
    IsNumber l mine × IsCount l heard × (arrived t.client_past l heard o ≡ row_operation t.client_past a ahead)
    × BringsInTurn t (after_arrival t.client_past t.server_past l heard o) (row_entries t.client_past t.server_past a ahead) ms brings

-- Both ends of a link with the messages between them, and what may happen there.

-- the two ends of a link, the state that each end's owner has, and the messages on their way, oldest first.
-- The last three fields follow what both ends have seen. They are the state after the operations that both
-- received, and those of each end that the other has not received, moved past those that it received itself
pub record Pair (Op State : Type 0) : Type 0 where
  pub client_state : State
  pub server_state : State
  pub client : Link Op
  pub server : Link Op
  pub up : List (Message Op)
  pub down : List (Message Op)
  pub shared : State
  pub client_ahead : List Op
  pub server_ahead : List Op

-- two new ends over one state
abbrev pub opened_pair : {Op State : Type 0} → State → Pair Op State
opened_pair x = record {
  client_state = x;
  server_state = x;
  client = opened Client;
  server = opened Server;
  up = [];
  down = [];
  shared = x;
  client_ahead = [];
  server_ahead = [];
}

-- what may happen: an end makes an edit or acknowledges, or the oldest message of a stream is delivered
pub data PairEvent (Op : Type 0) : Type 0 where
  ClientEdits : (o : Op) → PairEvent Op
  ServerEdits : (o : Op) → PairEvent Op
  ClientAcks : PairEvent Op
  ServerAcks : PairEvent Op
  MovesUp : PairEvent Op
  MovesDown : PairEvent Op

-- the oldest message up reaches the server's end
abbrev pub moved_up : {Op State Edit : Type 0} → Ghosts Op State Edit → Pair Op State → List (Message Op) → Pair Op State
moved_up t p [] = p
moved_up t p (Ack n ∷ ms) = record p { server = link_after t p.server (Ack n); up = ms }
moved_up t p (Operation mine heard o ∷ ms) = record p {
  server = link_after t p.server (Operation mine heard o);
  server_state = state_after t p.server p.server_state (Operation mine heard o);
  up = ms;
  shared = shared_after t p.client_ahead p.shared;
  client_ahead = rest p.client_ahead;
  server_ahead = past_first t.client_past t.server_past p.client_ahead p.server_ahead;
}

-- the oldest message down reaches the client's end
abbrev pub moved_down : {Op State Edit : Type 0} → Ghosts Op State Edit → Pair Op State → List (Message Op) → Pair Op State
moved_down t p [] = p
moved_down t p (Ack n ∷ ms) = record p { client = link_after t p.client (Ack n); down = ms }
moved_down t p (Operation mine heard o ∷ ms) = record p {
  client = link_after t p.client (Operation mine heard o);
  client_state = state_after t p.client p.client_state (Operation mine heard o);
  down = ms;
  shared = shared_after t p.server_ahead p.shared;
  server_ahead = rest p.server_ahead;
  client_ahead = past_first t.server_past t.client_past p.server_ahead p.client_ahead;
}

-- a pair after an event: an end applies an edit immediately, and its message goes last into the stream
abbrev pub pair_after : {Op State Edit : Type 0} → Ghosts Op State Edit → Pair Op State → PairEvent Op → Pair Op State
pair_after t p (ClientEdits o) = record p {
  client = after_send p.client o;
  client_state = t.after o p.client_state;
  up = p.up ++ message p.client o ∷ [];
  client_ahead = p.client_ahead ++ o ∷ [];
}
pair_after t p (ServerEdits o) = record p {
  server = after_send p.server o;
  server_state = t.after o p.server_state;
  down = p.down ++ message p.server o ∷ [];
  server_ahead = p.server_ahead ++ o ∷ [];
}
pair_after t p ClientAcks = record p { client = after_ack p.client; up = p.up ++ Ack p.client.received ∷ [] }
pair_after t p ServerAcks = record p { server = after_ack p.server; down = p.down ++ Ack p.server.received ∷ [] }
pair_after t p MovesUp = moved_up t p p.up
pair_after t p MovesDown = moved_down t p p.down

-- a pair after a list of events
abbrev pub pair_after_all : {Op State Edit : Type 0} → Ghosts Op State Edit → Pair Op State → List (PairEvent Op) → Pair Op State
pair_after_all t p [] = p
pair_after_all t p (e ∷ es) = pair_after_all t (pair_after t p e) es

-- an end may make an edit. It is valid there, and apart from the other end's operations on their way. There is room for one
-- more, and its number is one that the other end can count
pub record MayEdit {Op State Edit : Type 0} (t : Ghosts Op State Edit) (p : Pair Op State) (l : Link Op) (x : State) (incoming : List (Message Op)) (o : Op) : Type 0 where
  pub valid : t.is_valid o x
  pub apart : MessagesApart t incoming o
  pub small : t.is_small (1 + (length p.client_ahead + length p.server_ahead)) p.shared
  pub counted : generated l < 4294967295

-- an event may happen: only an edit has conditions
abbrev pub IsAllowed : {Op State Edit : Type 0} → Ghosts Op State Edit → Pair Op State → PairEvent Op → Type 0
IsAllowed t p (ClientEdits o) = MayEdit t p p.client p.client_state p.down o
IsAllowed t p (ServerEdits o) = MayEdit t p p.server p.server_state p.up o
IsAllowed t p ClientAcks = Unit {0}
IsAllowed t p ServerAcks = Unit {0}
IsAllowed t p MovesUp = Unit {0}
IsAllowed t p MovesDown = Unit {0}

-- each event of a list may happen in its turn
abbrev pub AreAllowed : {Op State Edit : Type 0} → Ghosts Op State Edit → Pair Op State → List (PairEvent Op) → Type 0
AreAllowed t p [] = Unit {0}
AreAllowed t p (e ∷ es) = IsAllowed t p e × AreAllowed t (pair_after t p e) es

-- an end accepts the message that comes next, if there is one, and what it gives is valid there
abbrev pub AcceptsNext : {Op State Edit : Type 0} → Ghosts Op State Edit → Link Op → State → List (Message Op) → Type 0
AcceptsNext t l x [] = Unit {0}
AcceptsNext t l x (m ∷ ms) = AcceptsMessage t l x m

-- both ends of a pair are in step, over what the pair says that both have seen
pub record IsInStep {Op State Edit : Type 0} (t : Ghosts Op State Edit) (p : Pair Op State) : Type 0 where
  pub client_side : p.client.side ≡ Client
  pub server_side : p.server.side ≡ Server
  pub meets : InStepAt t 0 p.shared p.client_ahead p.server_ahead p.client_state p.server_state p.client p.server p.up p.down

-- what two ends promise. They are in step. All messages on their way are accepted in turn, and bring what their sender has ahead.
-- The next message of each stream is accepted, and what it gives is valid there. With nothing on its way the states are equal
pub record Agrees {Op State Edit : Type 0} (t : Ghosts Op State Edit) (p : Pair Op State) : Type 0 where
  pub in_step : IsInStep t p
  pub up_brings : BringsInTurn t p.server p.server_ahead p.up p.client_ahead
  pub down_brings : BringsInTurn (mirror t) p.client p.client_ahead p.down p.server_ahead
  pub next_up : AcceptsNext t p.server p.server_state p.up
  pub next_down : AcceptsNext t p.client p.client_state p.down
  pub equal : p.up ≡ [] → p.down ≡ [] → p.client_state ≡ p.server_state
