-- Worlds whose links carry bytes.
use Rattle.std.specs.Prelude.{◌≡◌, ℕ, Bool, not, nat_eq, List, [], ◌∷◌, ◌++◌, map, filter, find, Option, Some, ◌⊎◌, ◌+◌, ◌-◌, cond, min, length, None, slice_get, take}
use Rattle.jup_world.specs.Prelude.{BoardBatch, BoardEdits, Commands, Windows, board_batches, Down, link_of, opened_star, BoardStar, SiteState, EditFault, Nothing, Moved}
use Rattle.jup_lane.specs.Lanes.{Way, IsIdle, messages, Carries, ups, downs, bytes_of, sent, IsMovedOn, oldest_length}
use Rattle.jup_world.specs.Events.{Happened, Up as MoveUp, Down as MoveDown, Join, Leave, Edit as MakeEdit, Ping as SendPing, JoinStray, Stray, LeaveStray}
use Rattle.jup_world.specs.Boards.{BoardWorld, BoardLink, BoardAttached, BoardEvent, BoardReply}
use Rattle.jup_world.specs.Worlds.{Outcome, outcome, unchanged, only_fetched}
use Rattle.jup_world.specs.Sound.{RepliesTo}

-- A world whose links carry bytes, and the world whose links carry the messages that these bytes are.

-- an event of a world of messages, or so many bytes of a link are moved to its reader
pub data LaneEvent : Type 0 where
  Plain : BoardEvent → LaneEvent
  PushUp : ℕ → ℕ → LaneEvent
  PushDown : ℕ → ℕ → LaneEvent

-- an event with its reply
pub record Noted : Type 0 where
  pub event : LaneEvent
  pub reply : BoardReply

-- an attached site, and both ways of its link
pub record LaneSite : Type 0 where
  pub site : SiteState BoardBatch Windows
  pub up : Way
  pub down : Way

-- the board that it was opened with, the star, the attached sites, and what has happened
pub record LaneWorld : Type 0 where
  pub opening : Windows
  pub star : BoardStar
  pub sites : List LaneSite
  pub trace : List Noted

-- the messages of a site's link
abbrev pub messages_at : LaneSite → BoardAttached
messages_at a = record { site = a.site; up = messages ups a.up; down = messages downs a.down }

-- what is in a trace except the pushes
abbrev pub plain_happened : LaneEvent → BoardReply → List (Happened Commands BoardBatch BoardEdits EditFault)
plain_happened (Plain event) reply = record { event = event; reply = reply } ∷ []
plain_happened (PushUp i n) reply = []
plain_happened (PushDown i n) reply = []

abbrev pub plain_trace : List Noted → List (Happened Commands BoardBatch BoardEdits EditFault)
plain_trace [] = []
plain_trace (h ∷ hs) = plain_happened h.event h.reply ++ plain_trace hs

-- the world of messages
abbrev pub messages_of : LaneWorld → BoardWorld
messages_of w = record { opening = w.opening; star = w.star; sites = map messages_at w.sites; trace = plain_trace w.trace }

-- it is the site of a number
abbrev pub has_number : ℕ → LaneSite → Bool
has_number i a = nat_eq a.site.number i

-- the attached site of a number
abbrev pub lane_site : ℕ → List LaneSite → Option LaneSite
lane_site i sites = find (has_number i) sites

-- all sites but that of a number
abbrev pub without_lane : ℕ → List LaneSite → List LaneSite
without_lane i sites = filter (λ a. not (has_number i a)) sites

-- the bytes on each way are those of messages
abbrev pub AllCarry : List LaneSite → Type 0
AllCarry [] = Unit {0}
AllCarry (a ∷ sites) = Carries ups a.up × Carries downs a.down × AllCarry sites

-- No message is on its way. No byte is in a stream, in a part of a line that a reader holds, or in a line that was read and
-- not handed over. No outbox has a message
abbrev pub IsStill : LaneWorld → Type 0
IsStill w = (i : ℕ) (l : BoardLink) (a : LaneSite) → link_of i w.star.links ≡ Some l → lane_site i w.sites ≡ Some a
    → IsIdle a.up × IsIdle a.down × (l.outbox ≡ [])

-- a new world
abbrev pub opened_lanes : Windows → ℕ → LaneWorld
opened_lanes board limit = record { opening = board; star = opened_star board limit; sites = []; trace = [] }

-- What an event does to a world whose links carry bytes, and what a failed allocation leaves.

-- # What an event answers, and what it leaves of the messages

-- a push that moved so many bytes
abbrev pub push_reply : ℕ → BoardReply
push_reply count = cond (nat_eq count 0) Nothing (Moved count)

-- the bytes of the up stream of a site, if it is attached
abbrev pub there_up : Option LaneSite → List ℕ
there_up None = []
there_up (Some a) = a.up.stream

-- the bytes of a down stream once it is filled: if it had none, those of the oldest message of the outbox
abbrev pub filled_stream : List ℕ → List (Down BoardBatch) → List ℕ
filled_stream [] [] = []
filled_stream [] (down ∷ outbox) = bytes_of downs down
filled_stream (byte ∷ stream) outbox = byte ∷ stream

-- if it is attached
abbrev pub there_down : Option BoardLink → Option LaneSite → List ℕ
there_down None None = []
there_down None (Some a) = []
there_down (Some l) None = []
there_down (Some l) (Some a) = filled_stream a.down.stream l.outbox

-- the messages, once an empty down stream was filled
abbrev pub filled_from : BoardWorld → ℕ → BoardLink → List ℕ → List (Down BoardBatch) → BoardWorld
filled_from m i l [] [] = m
filled_from m i l [] (down ∷ outbox) = only_fetched board_batches m i 1 l
filled_from m i l (byte ∷ stream) outbox = m

abbrev pub filled_for : BoardWorld → ℕ → Option BoardLink → Option LaneSite → BoardWorld
filled_for m i None None = m
filled_for m i None (Some a) = m
filled_for m i (Some l) None = m
filled_for m i (Some l) (Some a) = filled_from m i l a.down.stream l.outbox

-- each event: a push changes no message, except that it fills an empty down stream
abbrev pub lane_outcome : LaneWorld → LaneEvent → Outcome board_batches
lane_outcome w (Plain event) = outcome board_batches (messages_of w) event
lane_outcome w (PushUp i n) = unchanged board_batches (messages_of w) (push_reply (min n (length (there_up (lane_site i w.sites)))))
lane_outcome w (PushDown i n) =
    unchanged board_batches (filled_for (messages_of w) i (link_of i w.star.links) (lane_site i w.sites))
    (push_reply (min n (length (there_down (link_of i w.star.links) (lane_site i w.sites)))))

-- the messages after it
abbrev pub messages_after : LaneWorld → LaneEvent → BoardWorld
messages_after w event =
    let o = lane_outcome w event in
    record { opening = w.opening; star = o.star; sites = o.sites; trace = plain_trace w.trace ++ plain_happened event o.reply }

-- # How many bytes the readers hold then

-- of what a site sends up
abbrev pub up_read : LaneEvent → ℕ → LaneSite → ℕ
up_read (Plain (MoveUp i)) j a = length a.up.read - cond (nat_eq i j) (oldest_length ups (messages ups a.up)) 0
up_read (PushUp i n) j a = length a.up.read + cond (nat_eq i j) (min n (length a.up.stream)) 0
up_read event j a = length a.up.read

-- of what it is sent
abbrev pub down_read : LaneEvent → ℕ → BoardLink → LaneSite → ℕ
down_read (Plain (MoveDown i)) j l a = length a.down.read - cond (nat_eq i j) (oldest_length downs (messages downs a.down ++ l.outbox)) 0
down_read (PushDown i n) j l a = length a.down.read + cond (nat_eq i j) (min n (length (filled_stream a.down.stream l.outbox))) 0
down_read event j l a = length a.down.read

-- # Steps

-- An event leads from one world to another. The messages, and how many of their bytes each reader has, determine all bytes.
pub record Steps (w : LaneWorld) (event : LaneEvent) (v : LaneWorld) : Type 0 where
  pub messages : messages_of v ≡ messages_after w event
  pub trace : v.trace ≡ w.trace ++ record { event = event; reply = (lane_outcome w event).reply } ∷ []
  pub carry : AllCarry v.sites
  pub up : (j : ℕ) (a b : LaneSite) → lane_site j w.sites ≡ Some a → lane_site j v.sites ≡ Some b → length b.up.read ≡ up_read event j a
  pub down : (j : ℕ) (l : BoardLink) (a b : LaneSite) → link_of j w.star.links ≡ Some l → lane_site j w.sites ≡ Some a → lane_site j v.sites ≡ Some b
      → length b.down.read ≡ down_read event j l a

-- events in turn
abbrev pub AllSteps : LaneWorld → List LaneEvent → LaneWorld → Type 0
AllSteps w [] v = v ≡ w
AllSteps w (e ∷ es) v = (u : LaneWorld) × Steps w e u × AllSteps u es v

-- what an event answers: a push `Nothing` if it moves no byte, else how many
abbrev pub AnswersTo : LaneWorld → LaneEvent → BoardReply → Type 0
AnswersTo w (Plain event) r = RepliesTo board_batches (messages_of w) event r
AnswersTo w (PushUp i n) r = r ≡ push_reply (min n (length (there_up (lane_site i w.sites))))
AnswersTo w (PushDown i n) r = r ≡ push_reply (min n (length (there_down (link_of i w.star.links) (lane_site i w.sites))))

-- # A failed allocation

-- a down stream that had no byte may have been given the oldest message of the outbox
abbrev pub filled_way : List ℕ → List (Down BoardBatch) → Way → Way
filled_way [] [] way = way
filled_way [] (down ∷ outbox) way = sent (bytes_of downs down) way
filled_way (byte ∷ stream) outbox way = way

-- the event may have touched this way of the link of a number
abbrev pub TouchesUp : LaneEvent → ℕ → Type 0
TouchesUp (Plain (MoveUp i)) j = i ≡ j
TouchesUp event j = ⊥

abbrev pub TouchesDown : LaneEvent → ℕ → Type 0
TouchesDown (Plain (MoveDown i)) j = i ≡ j
TouchesDown (PushDown i n) j = i ≡ j
TouchesDown event j = ⊥

-- An allocation failed, and left all as it was, trace and boards too, except the link of the event. On the way that the event moves,
-- bytes may have gone from the stream into the reader. Down, the oldest message of the outbox may have become the last of the
-- stream. So on each link the messages are still the same ones: those of the lines read, the reader's part and the stream, and then
-- the outbox
pub record Rests (w : LaneWorld) (event : LaneEvent) (v : LaneWorld) : Type 0 where
  pub opening : v.opening ≡ w.opening
  pub trace : v.trace ≡ w.trace
  pub messages : (messages_of v ≡ messages_of w)
      ⊎ ((i : ℕ) × (l : BoardLink) × (a : LaneSite) × TouchesDown event i × (link_of i w.star.links ≡ Some l) × (lane_site i w.sites ≡ Some a)
      × (messages_of v ≡ only_fetched board_batches (messages_of w) i 1 l))
  pub carry : AllCarry v.sites
  pub up : (j : ℕ) (a b : LaneSite) → lane_site j w.sites ≡ Some a → lane_site j v.sites ≡ Some b → (b.up ≡ a.up) ⊎ (TouchesUp event j × IsMovedOn a.up b.up)
  pub down : (j : ℕ) (l : BoardLink) (a b : LaneSite) → link_of j w.star.links ≡ Some l → lane_site j w.sites ≡ Some a → lane_site j v.sites ≡ Some b
      → (b.down ≡ a.down) ⊎ (TouchesDown event j × (IsMovedOn a.down b.down ⊎ IsMovedOn (filled_way a.down.stream l.outbox a.down) b.down))

-- only an event that takes from a link, or fills its down stream, may have touched it
abbrev pub IsSparedBy : LaneWorld → LaneEvent → LaneWorld → Type 0
IsSparedBy w (Plain (MoveUp i)) v = Rests w (Plain (MoveUp i)) v
IsSparedBy w (Plain (MoveDown i)) v = Rests w (Plain (MoveDown i)) v
IsSparedBy w (PushDown i n) v = Rests w (PushDown i n) v
IsSparedBy w event v = v ≡ w

-- events in turn, each of which happened or was refused because an allocation failed: all that calls of a world may lead to
abbrev pub AllTried : LaneWorld → List LaneEvent → LaneWorld → Type 0
AllTried w [] v = v ≡ w
AllTried w (e ∷ es) v = (u : LaneWorld) × (Steps w e u ⊎ IsSparedBy w e u) × AllTried u es v

-- a run that was halted after so many events, at the next
pub record IsHalted (w : LaneWorld) (events : List LaneEvent) (done : ℕ) (v : LaneWorld) : Type 0 where
  pub between : LaneWorld
  pub event : LaneEvent
  pub steps : AllSteps w (take done events) between
  pub next : slice_get events done ≡ Some event
  pub spared : IsSparedBy between event v

-- Runs of a world, and a failed allocation in one.

-- an event that delivers a message
abbrev pub IsDelivery : BoardEvent → Type 0
IsDelivery (MoveUp i) = Unit {0}
IsDelivery (MoveDown i) = Unit {0}
IsDelivery Join = ⊥
IsDelivery (Leave i) = ⊥
IsDelivery (MakeEdit i command) = ⊥
IsDelivery (SendPing i k) = ⊥
IsDelivery JoinStray = ⊥
IsDelivery (Stray i up) = ⊥
IsDelivery (LeaveStray i) = ⊥

-- each event of a list is one
abbrev pub AreDeliveries : List BoardEvent → Type 0
AreDeliveries [] = Unit {0}
AreDeliveries (event ∷ events) = IsDelivery event × AreDeliveries events

-- a world is another after some deliveries
pub record IsDelivered (w v : LaneWorld) : Type 0 where
  pub events : List BoardEvent
  pub deliveries : AreDeliveries events
  pub steps : AllSteps w (map (λ e. Plain e) events) v

-- or an allocation failed at the next of some
pub record IsDeliveredInPart (w v : LaneWorld) : Type 0 where
  pub between : LaneWorld
  pub delivered : IsDelivered w between
  pub event : BoardEvent
  pub delivery : IsDelivery event
  pub spared : IsSparedBy between (Plain event) v
