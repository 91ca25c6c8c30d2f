-- Two ends of one link over one text.
use Rattle.std.specs.Prelude.{ℕ, ◌<◌, ◌≡◌, ◌+◌, ◌-◌, ◌≤◌, nat_lt, nat_le, true, length, slice_get, List, [], ◌∷◌, ◌++◌, Option, Some, None, Result, Ok, Err, if◌then◌else◌, map}
use Rattle.jup_world.specs.Prelude.{highest_limit, longest_sequence, most_of_two, Ghosts, Side, Client as ClientSide, Server as ServerSide, Name, Item, Items, has_name, SeqOp, InsertOp, DeleteOp, RelabelOp, NoOp, Link, Message, generated, after_send, link_after, state_after, message, answered, AllMessages, InStep, Ack, sent, EditFault, TwoEdit, Insert, Delete, TwoEvent}
use Rattle.jup_seq.specs.Operations.{bare, IsSmall, HasDistinctNames, KeepsOrder, IsValid, after, HasRoom, AreApart, client_past, server_past, Content, content, meaning, edit_of}
use Rattle.jup_seq.specs.Names.{Holds, InsertsName, DeletesName, ChangesName, IsFresh}
use Rattle.jup_seq.specs.Laws.Squares.{square, distinct_after, small_after, small_below, small_before, apart_swap, apart_client, apart_server}
use Rattle.jup_link.specs.Links.{opened, owed}
use Rattle.jup_window.specs.declared.faults.EditFault.TheVariants.{BadPlace, LongText, Spent}
use Rattle.jup_world.specs.declared.two.TwoEvent.TheVariants.{Client, Server, Up, Down}
use Rattle.jup_world.specs.declared.two.TwoReply.{TwoReply}
use Rattle.jup_world.specs.declared.two.TwoReply.TheVariants.{Made, Refused, Moved, Nothing}
use Rattle.jup_world.specs.declared.two.TextEnd.{TextEnd}
use Rattle.jup_world.specs.declared.two.Travelling.{Travelling}
use Rattle.jup_world.specs.declared.two.Travelling.TheVariants.{Op as TravellingOp, Ack as TravellingAck}
use Rattle.jup_world.specs.declared.two.Two.TheInside.{Inside}
use Rattle.jup_window.specs.Prelude.{IsLawful, SeqEdit}

-- Operations on texts alone, as the two ends of one link use them.

-- what `Transform` says of operations on texts
abbrev pub texts : Ghosts (SeqOp ℕ) (Items ℕ) (SeqEdit ℕ)
texts = record {
  Content = Content ℕ;
  content = content;
  meaning = meaning;
  edit_of = edit_of;
  bare = bare;
  is_valid = IsValid;
  after = after;
  has_room = HasRoom;
  can_reserve = λ beside. beside < 4294967295;
  is_distinct = HasDistinctNames;
  is_small = IsSmall;
  keeps_order = KeepsOrder;
  are_apart = AreApart;
  is_fresh = IsFresh;
  Name = Name;
  holds = Holds;
  inserts = InsertsName;
  deletes = DeletesName;
  changes = ChangesName;
  client_past = client_past;
  server_past = server_past;
  Shape = Unit {0};
  shape = λ o. tt;
  copies_freely = λ o. Unit {0};
}

-- the laws that a link needs of them
pub texts_lawful : IsLawful texts
texts_lawful = record {
  square = square;
  distinct_after = distinct_after;
  small_after = small_after;
  small_below = small_below;
  small_before = small_before;
  apart_swap = apart_swap;
  apart_client = apart_client;
  apart_server = apart_server;
}

-- Two ends of one link over one text: what each event does, and what it answers.

-- an end with its text, and how many edits, and insertions among them, it has made
pub record TwoEnd : Type 0 where
  pub text : Items ℕ
  pub link : Link (SeqOp ℕ)
  pub made : ℕ
  pub inserted : ℕ

-- both ends, and the messages on their way, oldest first
pub record TwoState : Type 0 where
  pub client : TwoEnd
  pub server : TwoEnd
  pub up : List (Message (SeqOp ℕ))
  pub down : List (Message (SeqOp ℕ))

-- # Edits

-- the operation of an edit that this site makes at its end, or the first refusal that applies. It is refused for a place past
-- the end, a text of 65,536 items or more, or 16,777,216 edits made
abbrev pub deletion : ℕ → ℕ → Option (Item ℕ) → Result (SeqOp ℕ) EditFault
deletion made place None = Err BadPlace
deletion made place (Some item) = if nat_le highest_limit made then Err Spent else Ok (DeleteOp place item.name)

abbrev pub two_operation : ℕ → TwoEnd → TwoEdit → Result (SeqOp ℕ) EditFault
two_operation site e (Insert place value) =
    if nat_lt (length e.text.items) place then Err BadPlace
    else (if nat_le longest_sequence (length e.text.items) then Err LongText
    else (if nat_le highest_limit e.made then Err Spent
    else Ok (InsertOp place (record { name = record { site = site; number = e.inserted + 1 }; value = value }))))
two_operation site e (Delete place) = deletion e.made place (slice_get e.text.items place)

-- how many items an operation inserts
abbrev pub insertions : SeqOp ℕ → ℕ
insertions (InsertOp place item) = 1
insertions (DeleteOp place name) = 0
insertions (RelabelOp place name value) = 0
insertions NoOp = 0

-- an end that made an operation: it applies the operation immediately, and sends it
abbrev pub made_by : TwoEnd → SeqOp ℕ → TwoEnd
made_by e op = record {
  text = after op e.text;
  link = after_send e.link op;
  made = e.made + 1;
  inserted = e.inserted + insertions op;
}

-- what an edit answers, leaves at its end, and sends
abbrev pub edit_reply : Result (SeqOp ℕ) EditFault → TwoReply
edit_reply (Ok op) = Made
edit_reply (Err fault) = Refused fault

abbrev pub edited : TwoEnd → Result (SeqOp ℕ) EditFault → TwoEnd
edited e (Ok op) = made_by e op
edited e (Err fault) = e

abbrev pub sent_by : TwoEnd → Result (SeqOp ℕ) EditFault → List (Message (SeqOp ℕ))
sent_by e (Ok op) = message e.link op ∷ []
sent_by e (Err fault) = []

-- # Deliveries

-- what a delivery answers, what it leaves at the end that the messages come to, what it leaves of them, and what that end sends back
abbrev pub move_reply : List (Message (SeqOp ℕ)) → TwoReply
move_reply [] = Nothing
move_reply (m ∷ ms) = Moved

abbrev pub delivered : TwoEnd → List (Message (SeqOp ℕ)) → TwoEnd
delivered e [] = e
delivered e (m ∷ ms) = record e { text = state_after texts e.link e.text m; link = answered (link_after texts e.link m) }

abbrev pub left_of : List (Message (SeqOp ℕ)) → List (Message (SeqOp ℕ))
left_of [] = []
left_of (m ∷ ms) = ms

abbrev pub sent_back : TwoEnd → List (Message (SeqOp ℕ)) → List (Message (SeqOp ℕ))
sent_back e [] = []
sent_back e (m ∷ ms) = owed (link_after texts e.link m)

-- # Events: the client's items are named 1.k, the server's 2.k

abbrev pub two_reply : TwoState → TwoEvent → TwoReply
two_reply s (Client edit) = edit_reply (two_operation 1 s.client edit)
two_reply s (Server edit) = edit_reply (two_operation 2 s.server edit)
two_reply s Up = move_reply s.up
two_reply s Down = move_reply s.down

abbrev pub two_after : TwoState → TwoEvent → TwoState
two_after s (Client edit) = record s {
  client = edited s.client (two_operation 1 s.client edit);
  up = s.up ++ sent_by s.client (two_operation 1 s.client edit);
}
two_after s (Server edit) = record s {
  server = edited s.server (two_operation 2 s.server edit);
  down = s.down ++ sent_by s.server (two_operation 2 s.server edit);
}
two_after s Up = record s {
  server = delivered s.server s.up;
  up = left_of s.up;
  down = s.down ++ sent_back s.server s.up;
}
two_after s Down = record s {
  client = delivered s.client s.down;
  down = left_of s.down;
  up = s.up ++ sent_back s.client s.down;
}

-- # Opening

-- the characters as items that are named 0.k from this number
abbrev pub named_from : ℕ → List ℕ → List (Item ℕ)
named_from k [] = []
named_from k (c ∷ cs) = record { name = record { site = 0; number = k }; value = c } ∷ named_from (k + 1) cs

abbrev pub opened_end : Side → List ℕ → TwoEnd
opened_end side start = record { text = record { items = named_from 1 start; spare = 0 }; link = opened side; made = 0; inserted = 0 }

abbrev pub opened_two : List ℕ → TwoState
opened_two start = record { client = opened_end ClientSide start; server = opened_end ServerSide start; up = []; down = [] }

-- # What always holds

-- both ends are in step, and stay so whatever edits they may still make
abbrev pub AreInStep : TwoState → Type 0
AreInStep s =
    InStep texts (most_of_two - (s.client.made + s.server.made)) s.client.text s.server.text s.client.link s.server.link s.up s.down

-- each name of a site that a text holds is one of its first insertions
abbrev pub HoldsWithin : ℕ → ℕ → Items ℕ → Type 0
HoldsWithin site most x = (n : Name) → has_name n x.items ≡ true → n.site ≡ site → n.number ≤ most

-- an operation inserts names of this site alone
abbrev pub InsertsUnder : ℕ → SeqOp ℕ → Type 0
InsertsUnder site op = (n : Name) → InsertsName (edit_of op) n → n.site ≡ site

-- an end of this site, and what it sends
pub record IsTwoEnd (site : ℕ) (e : TwoEnd) (out : List (Message (SeqOp ℕ))) : Type 0 where
  pub few : e.made ≤ highest_limit
  pub generated_all : generated e.link ≡ e.made
  pub inserted_some : e.inserted ≤ e.made
  pub names : HoldsWithin site e.inserted e.text
  pub sent_names : AllMessages (InsertsUnder site) out

pub record IsTwo (s : TwoState) : Type 0 where
  pub in_step : AreInStep s
  pub client_end : IsTwoEnd 1 s.client s.up
  pub server_end : IsTwoEnd 2 s.server s.down

-- What contracts see of the two ends of one link.

-- an end of the program without the room that it keeps
abbrev pub plain : TextEnd → TwoEnd
plain e = record { text = bare e.text; link = e.link.link; made = e.made; inserted = e.inserted }

-- a message of the program as what travels
abbrev pub carried : Travelling → Message (SeqOp ℕ)
carried (TravellingOp msg) = sent msg
carried (TravellingAck heard) = Ack heard

-- a text has room for the operation of a message, and for that of the oldest of a stream
abbrev pub HasRoomFor : Travelling → Items ℕ → Type 0
HasRoomFor (TravellingOp msg) x = HasRoom msg.op 0 x
HasRoomFor (TravellingAck heard) x = Unit {0}

abbrev pub HasRoomForNext : List Travelling → Items ℕ → Type 0
HasRoomForNext [] x = Unit {0}
HasRoomForNext (message ∷ later) x = HasRoomFor message x

-- Two ends of the program as contracts see them.

-- both ends and the messages on their way, without the room that they keep
abbrev pub bare_two : Inside → TwoState
bare_two t = record { client = plain t.client; server = plain t.server; up = map carried t.up.items; down = map carried t.down.items }
