-- What an event does to a star and its sites alone.
use Rattle.std.specs.Prelude.{◌≡◌, ◌⊎◌, ◌<◌, ◌≤◌, ℕ, false, List, [], ◌∷◌, ◌++◌, take, length, Option, Some, None, is_some, Result, Ok, Err, map}
use Rattle.std.specs.Option.{option_map}
use Rattle.jup_world.specs.Prelude.{highest_limit, has_site, BoardBatch, BoardEdits, Commands, Windows, board_batches, Down, Up, StarFault, link_of, fetched, BoardStar, Answers, deliver_fault, BoardSite, EditFault, Nothing}
use Rattle.jup_star.specs.declared.calls.StarReply.TheVariants.{Taken}
use Rattle.jup_lane.specs.Lanes.{Carries, IsMovedOn, ups, downs}
use Rattle.jup_world.specs.Events.{Happened, Up as MoveUp, Down as MoveDown}
use Rattle.jup_world.specs.Worlds.{attached, at_site, outcome, place_reply, down_reply, only_fetched, AreAscending, with_edit, one_handed, with_fetched}
use Rattle.jup_world.specs.Boards.{BoardWorld, BoardAttached, BoardLink, BoardEvent, BoardReply, IsBoardWorld}
use Rattle.jup_world.specs.Lanes.{LaneEvent, Plain, PushDown, Noted, LaneSite, LaneWorld, messages_at, messages_of, lane_site, AllCarry, lane_outcome, up_read, down_read, filled_way, TouchesUp, TouchesDown}
use Rattle.jup_star.specs.declared.calls.Call.TheVariants.{Take}

-- What an event does to a star and its sites, whatever else their world keeps.

-- an event at this star and these sites answers this, and leaves those
abbrev pub Plays : BoardEvent → BoardStar → List BoardAttached → BoardReply → BoardStar → List BoardAttached → Type 0
Plays event star sites reply next_star next_sites =
    (opening : Windows) (trace : List (Happened Commands BoardBatch BoardEdits EditFault))
    → outcome board_batches (record { opening = opening; star = star; sites = sites; trace = trace }) event
    ≡ record { reply = reply; star = next_star; sites = next_sites }

-- an allocation failed, and left all as it was, except that the oldest message of a link's outbox may have moved to its empty down stream
abbrev pub Spares : ℕ → BoardLink → BoardStar → List BoardAttached → BoardStar → List BoardAttached → Type 0
Spares i l star sites next_star next_sites =
    ((next_star ≡ star) × (next_sites ≡ sites))
    ⊎ ((next_star ≡ fetched i 1 star) × (next_sites ≡ at_site i (with_fetched board_batches 1 l) sites))

-- a site that makes the edit of an operation, or was refused
abbrev pub with_answer : Result BoardBatch EditFault → BoardAttached → BoardAttached
with_answer (Ok op) a = with_edit board_batches op a
with_answer (Err fault) a = a

-- the star received the oldest message of a site's up stream, if there is one, and took it
abbrev pub Rises : ℕ → List (Up BoardBatch) → BoardStar → BoardStar → BoardReply → Type 0
Rises i [] star next reply = (reply ≡ Nothing) × (next ≡ star)
Rises i (up ∷ ups) star next reply = (place : Option ℕ) × (reply ≡ place_reply board_batches place) × Answers (Take i up) star next (Taken (Ok place))

-- or refused it
abbrev pub IsRefused : ℕ → List (Up BoardBatch) → BoardStar → BoardStar → StarFault → Type 0
IsRefused i [] star next fault = ⊥
IsRefused i (up ∷ ups) star next fault = Answers (Take i up) star next (Taken (Err fault))

-- a site whose empty down stream was given the oldest message of its outbox
abbrev pub refilled_from : List (Down BoardBatch) → List (Down BoardBatch) → List (Down BoardBatch)
refilled_from [] outbox = take 1 outbox
refilled_from (down ∷ downs) outbox = down ∷ downs

abbrev pub refilled : BoardLink → BoardAttached → BoardAttached
refilled l a = record a { down = refilled_from a.down l.outbox }

-- and the star that it was fetched from
abbrev pub fetched_for : ℕ → List (Down BoardBatch) → List (Down BoardBatch) → BoardStar → BoardStar
fetched_for i [] [] star = star
fetched_for i [] (down ∷ outbox) star = fetched i 1 star
fetched_for i (down ∷ downs) outbox star = star

abbrev pub refilled_star : BoardLink → BoardAttached → BoardStar → BoardStar
refilled_star l a star = fetched_for a.site.number a.down l.outbox star

-- a site that received the oldest message of its down stream, and what that answers
abbrev pub handed_first : List (Down BoardBatch) → BoardAttached → BoardAttached
handed_first [] a = a
handed_first (down ∷ downs) a = one_handed board_batches down downs a

abbrev pub handed : BoardAttached → BoardAttached
handed a = handed_first a.down a

abbrev pub reply_to : List (Down BoardBatch) → BoardReply
reply_to [] = Nothing
reply_to (down ∷ downs) = down_reply board_batches down

abbrev pub first_reply : BoardAttached → BoardReply
first_reply a = reply_to a.down

-- the site takes it
abbrev pub FitsFirst : List (Down BoardBatch) → BoardSite → Type 0
FitsFirst [] site = Unit {0}
FitsFirst (down ∷ downs) site = deliver_fault board_batches down site ≡ None

abbrev pub FirstFits : BoardAttached → Type 0
FirstFits a = FitsFirst a.down a.site

-- an allocation failed, and left a site and its star as they were, or with a message fetched
abbrev pub SparesAt : BoardLink → BoardAttached → BoardStar → BoardAttached → BoardStar → Type 0
SparesAt l a star b next = ((b ≡ a) × (next ≡ star)) ⊎ ((b ≡ refilled l a) × (next ≡ refilled_star l a star))

-- no message is on its way from a site or to it
abbrev pub IsQuietAt : BoardAttached → BoardStar → Type 0
IsQuietAt a star = (a.up ≡ []) × (a.down ≡ []) × (option_map (λ l. length l.outbox) (link_of a.site.number star.links) ≡ Some 0)

-- nor on its way from any of some sites or to one
abbrev pub AllQuiet : BoardStar → List BoardAttached → Type 0
AllQuiet star [] = Unit {0}
AllQuiet star (a ∷ later) = IsQuietAt a star × AllQuiet star later

-- the sites have the numbers that were given, in order; and no item of the star's board has a number that was not given
pub record AreNumbered (star : BoardStar) (sites : List BoardAttached) : Type 0 where
  pub ascending : AreAscending 0 star.given sites
  pub positive : 1 ≤ star.limit
  pub limited : star.limit ≤ highest_limit
  pub named : (i : ℕ) → star.given < i → has_site i star.board ≡ false

-- the oldest message on its way down to a site is one that it takes
abbrev pub OldestFits : BoardStar → List BoardAttached → Type 0
OldestFits star sites =
    (i : ℕ) (l : BoardLink) (a : BoardAttached) (down : Down BoardBatch) (downs : List (Down BoardBatch))
    → link_of i star.links ≡ Some l → attached i sites ≡ Some a → a.down ++ l.outbox ≡ down ∷ downs
    → deliver_fault board_batches down a.site ≡ None

-- what an event asks of a star and its sites
pub record AreReady (star : BoardStar) (sites : List BoardAttached) : Type 0 where
  pub numbered : AreNumbered star sites
  pub linked : (i : ℕ) → is_some (attached i sites) ≡ is_some (link_of i star.links)
  pub fits : OldestFits star sites

-- what holds of every world of the program
pub record IsWorld (w : BoardWorld) : Type 0 where
  pub board : IsBoardWorld w
  pub numbered : AreNumbered w.star w.sites

-- an allocation failed, and left a world as it was, except that the oldest message of an outbox may have moved to its empty down stream
abbrev pub IsSpared : BoardWorld → BoardWorld → Type 0
IsSpared w v =
    (v ≡ w)
    ⊎ ((i : ℕ) × (l : BoardLink) × (a : BoardAttached) × (link_of i w.star.links ≡ Some l) × (attached i w.sites ≡ Some a)
    × (v ≡ only_fetched board_batches w i 1 l))

-- What an event does to a star and its sites whose links carry bytes, whatever else their world keeps.

-- what holds of every world of the program: of its messages, and that its bytes are those of messages
pub record IsLaneWorld (w : LaneWorld) : Type 0 where
  pub world : IsWorld (messages_of w)
  pub carry : AllCarry w.sites

-- # One site

-- its readers have so many bytes, that of its way up and that of its way down, and its bytes are still those of messages
pub record IsRead (a : LaneSite) (n m : ℕ) (b : LaneSite) : Type 0 where
  pub up : length b.up.read ≡ n
  pub down : length b.down.read ≡ m
  pub carry_up : Carries ups a.up → Carries ups b.up
  pub carry_down : Carries downs a.down → Carries downs b.down

-- only bytes on its way up were moved
pub record IsMovedUp (a b : LaneSite) : Type 0 where
  pub site : b.site ≡ a.site
  pub up : IsMovedOn a.up b.up
  pub down : b.down ≡ a.down

-- or on its way down
pub record IsMovedDown (a b : LaneSite) : Type 0 where
  pub site : b.site ≡ a.site
  pub up : b.up ≡ a.up
  pub down : IsMovedOn a.down b.down

-- its down stream was filled, if it had no byte
pub record IsFilledDown (l : BoardLink) (a b : LaneSite) : Type 0 where
  pub site : b.site ≡ a.site
  pub up : b.up ≡ a.up
  pub down : b.down ≡ filled_way a.down.stream l.outbox a.down
  pub carry : Carries downs a.down → Carries downs b.down

-- or was not
pub record IsRefilled (l : BoardLink) (a b : LaneSite) : Type 0 where
  pub site : b.site ≡ a.site
  pub up : b.up ≡ a.up
  pub down : (b.down ≡ a.down) ⊎ (b.down ≡ filled_way a.down.stream l.outbox a.down)
  pub carry : Carries downs a.down → Carries downs b.down

-- and then only bytes on its way down were moved
pub record RestsDown (l : BoardLink) (a b : LaneSite) : Type 0 where
  pub site : b.site ≡ a.site
  pub up : b.up ≡ a.up
  pub down : IsMovedOn a.down b.down ⊎ IsMovedOn (filled_way a.down.stream l.outbox a.down) b.down
  pub carry : Carries downs a.down → Carries downs b.down

-- the messages of a site whose down stream was filled, if it had no byte
abbrev pub filled_messages : List ℕ → BoardLink → List (Down BoardBatch) → BoardAttached → BoardAttached
filled_messages [] l [] a = a
filled_messages [] l (down ∷ outbox) a = with_fetched board_batches 1 l a
filled_messages (byte ∷ stream) l outbox a = a

abbrev pub with_filled : List ℕ → BoardLink → BoardAttached → BoardAttached
with_filled stream l a = filled_messages stream l l.outbox a

-- and the star that it was fetched from
abbrev pub star_filled : ℕ → List ℕ → List (Down BoardBatch) → BoardStar → BoardStar
star_filled i [] [] star = star
star_filled i [] (down ∷ outbox) star = fetched i 1 star
star_filled i (byte ∷ stream) outbox star = star

-- an allocation failed, and left a site and its star as they were, or with its down stream filled
abbrev pub FillsAt : BoardLink → BoardAttached → List ℕ → BoardStar → BoardAttached → BoardStar → Type 0
FillsAt l a stream star b next = ((b ≡ a) × (next ≡ star)) ⊎ ((b ≡ with_filled stream l a) × (next ≡ star_filled a.site.number stream l.outbox star))

-- # All sites

-- an event at this star and these sites answers this, and leaves that star and the messages of those sites
abbrev pub LanePlays : LaneEvent → BoardStar → List LaneSite → BoardReply → BoardStar → List BoardAttached → Type 0
LanePlays event star sites reply next_star next_sites =
    (opening : Windows) (trace : List Noted)
    → lane_outcome (record { opening = opening; star = star; sites = sites; trace = trace }) event
    ≡ record { reply = reply; star = next_star; sites = next_sites }

-- how many bytes the readers then have
pub record AreRead (event : LaneEvent) (star : BoardStar) (sites next_sites : List LaneSite) : Type 0 where
  pub carry : AllCarry sites → AllCarry next_sites
  pub up : (j : ℕ) (a b : LaneSite) → lane_site j sites ≡ Some a → lane_site j next_sites ≡ Some b → length b.up.read ≡ up_read event j a
  pub down : (j : ℕ) (l : BoardLink) (a b : LaneSite) → link_of j star.links ≡ Some l → lane_site j sites ≡ Some a → lane_site j next_sites ≡ Some b
      → length b.down.read ≡ down_read event j l a

-- an allocation failed, and left all as it was, except that bytes were moved on the way of the event, and a message may have been fetched
pub record SitesRest (event : LaneEvent) (star : BoardStar) (sites : List LaneSite) (next_star : BoardStar) (next_sites : List LaneSite) : Type 0 where
  pub messages : ((next_star ≡ star) × (map messages_at next_sites ≡ map messages_at sites))
      ⊎ ((i : ℕ) × (l : BoardLink) × (a : LaneSite) × TouchesDown event i × (link_of i star.links ≡ Some l) × (lane_site i sites ≡ Some a)
      × (next_star ≡ fetched i 1 star) × (map messages_at next_sites ≡ at_site i (with_fetched board_batches 1 l) (map messages_at sites)))
  pub carry : AllCarry sites → AllCarry next_sites
  pub up : (j : ℕ) (a b : LaneSite) → lane_site j sites ≡ Some a → lane_site j next_sites ≡ Some b → (b.up ≡ a.up) ⊎ (TouchesUp event j × IsMovedOn a.up b.up)
  pub down : (j : ℕ) (l : BoardLink) (a b : LaneSite) → link_of j star.links ≡ Some l → lane_site j sites ≡ Some a → lane_site j next_sites ≡ Some b
      → (b.down ≡ a.down) ⊎ (TouchesDown event j × (IsMovedOn a.down b.down ⊎ IsMovedOn (filled_way a.down.stream l.outbox a.down) b.down))

-- or left all as it was
abbrev pub LaneSpares : LaneEvent → BoardStar → List LaneSite → BoardStar → List LaneSite → Type 0
LaneSpares (Plain (MoveUp i)) star sites next_star next_sites = SitesRest (Plain (MoveUp i)) star sites next_star next_sites
LaneSpares (Plain (MoveDown i)) star sites next_star next_sites = SitesRest (Plain (MoveDown i)) star sites next_star next_sites
LaneSpares (PushDown i n) star sites next_star next_sites = SitesRest (PushDown i n) star sites next_star next_sites
LaneSpares event star sites next_star next_sites = (next_star ≡ star) × (next_sites ≡ sites)
