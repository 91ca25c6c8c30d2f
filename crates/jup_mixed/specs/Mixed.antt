-- A star with one site and strangers.
use Rattle.std.specs.Prelude.{◌≡◌, ℕ, List, [], Option, Some, ◌+◌, cond, nat_eq, ◌∷◌, ◌++◌, None, Result, Ok, Err, length, take, drop, ◌≢◌, ◌⊎◌, ◌≤◌, false, is_some, map, option_to_list}
use Rattle.jup_mixed.specs.Prelude.{highest_limit, EditFault, Operations, Windows, board_batches, BoardBatch, BoardEdits, Commands, Up, Down, StarFault, SiteFault, Entry, LogFull, LinkState, joined, link_of, join_fault, left, fetched, up_fault, taken, place_taken, most_batches, BoardStar, opened_site, edit_answer, deliver_fault, bare_attached, HomeEdit, HomeUp, HomeDown, JoinStray, Stray, LeaveStray, option_map}
use Rattle.jup_star.specs.Stars.{StarState}
use Rattle.jup_world.specs.declared.events.Reply.{Reply}
use Rattle.jup_world.specs.declared.events.Reply.TheVariants.{Joined, NoJoin, Left, Made, Refused, Detached, Nothing, Shown}
use Rattle.jup_world.specs.Events.{Join, Edit as MakeEdit, Up as MoveUp, Down as MoveDown, JoinStray as WorldJoinStray, Stray as WorldStray, LeaveStray as WorldLeaveStray}
use Rattle.jup_world.specs.Worlds.{AttachedState, AttachedOf, ReplyOf, with_edit, one_taken, place_reply, one_handed, down_reply, IsOpening, WorldOf, EventOf, HappenedOf, Outcome, with_fetched}
use Rattle.jup_world.specs.Traces.{turns, edits, own_edits, through_others, is_stray, IsTallied}
use Rattle.jup_world.specs.Sound.{JoinReplies, edit_reply, UpReplies, DownReplies, IsAnswered, edits_in, IsSound, KnowsStrays}
use Rattle.jup_world.specs.Boards.{BoardAttached, BoardLink, BoardReply}
use Rattle.jup_mixed.specs.declared.events.MixEvent.{MixEvent}
use Rattle.jup_mixed.specs.declared.events.MixHappened.{MixHappened}
use Rattle.jup_mixed.specs.declared.mixed.Mixed.TheInside.{Inside}
use Rattle.jup_world.specs.Prelude.{InStep, bare, opened_star, StarOf, ups, downs}

-- A star with one site, number 1, and strangers' links. A stranger is no more than a link: what it sends is part of the event.

-- the board that it was opened with, the star, site 1 with its streams while it is attached, and what has happened
pub record MixState (Operation State Edit Command : Type 0) : Type 0 where
  pub opening : State
  pub star : StarState Operation State Edit
  pub site : Option (AttachedState Operation State)
  pub trace : List (MixHappened Command Operation Edit EditFault)

module _ (O : Operations) where
  abbrev pub MixOf : Type 0
  MixOf = MixState O.Op O.State O.Edit O.Command

  -- what may happen
  abbrev pub MixEventOf : Type 0
  MixEventOf = MixEvent O.Command O.Op

  -- and what did
  abbrev pub MixHappenedOf : Type 0
  MixHappenedOf = MixHappened O.Command O.Op O.Edit EditFault

  -- site 1 as it joins
  abbrev pub new_home : O.State → ℕ → AttachedOf O
  new_home board limit = record { site = opened_site 1 limit board; up = []; down = [] }

  -- a new star, which site 1 has joined
  abbrev pub opened_mix : O.State → ℕ → MixOf
  opened_mix board limit = record { opening = board; star = joined (opened_star board limit); site = Some (new_home board limit); trace = [] }

  -- no message is on its way from site 1 or to it
  abbrev pub IsHomeQuiet : MixOf → Type 0
  IsHomeQuiet m = (l : LinkState O.Op) (a : AttachedOf O) → link_of 1 m.star.links ≡ Some l → m.site ≡ Some a → (a.up ≡ []) × (a.down ≡ []) × (l.outbox ≡ [])

-- What an event does, by calls of the star and of site 1.

module _ (O : Operations) where
  -- what an event answers and leaves
  pub record MixOutcome : Type 0 where
    pub reply : ReplyOf O
    pub star : StarOf O
    pub site : Option (AttachedOf O)

  -- nothing changes
  abbrev pub still : MixOf O → ReplyOf O → MixOutcome
  still m reply = record { reply = reply; star = m.star; site = m.site }

  -- the site edits, or is refused
  abbrev pub home_edit : MixOf O → AttachedOf O → Result O.Op EditFault → MixOutcome
  home_edit m a (Err fault) = still m (Refused fault)
  home_edit m a (Ok op) = record { reply = Made (O.t.edit_of op); star = m.star; site = Some (with_edit O op a) }

  -- the star takes the oldest message from the site, or detaches it
  abbrev pub home_up : MixOf O → LinkState O.Op → AttachedOf O → Up O.Op → Option StarFault → MixOutcome
  home_up m l a up (Some fault) = record { reply = Detached fault; star = left 1 m.star; site = None }
  home_up m l a up None = record { reply = place_reply O (place_taken O m.star up); star = taken O 1 up l m.star; site = Some (one_taken O a) }

  -- if there is one
  abbrev pub first_home_up : MixOf O → LinkState O.Op → AttachedOf O → List (Up O.Op) → MixOutcome
  first_home_up m l a [] = still m Nothing
  first_home_up m l a (up ∷ ups) = home_up m l a up (up_fault O m.star l up)

  -- the site receives a message, of which `gone` were fetched first
  abbrev pub home_down : MixOf O → AttachedOf O → ℕ → Down O.Op → List (Down O.Op) → Option SiteFault → MixOutcome
  home_down m a gone down downs (Some fault) = still m Nothing
  home_down m a gone down downs None = record { reply = down_reply O down; star = fetched 1 gone m.star; site = Some (one_handed O down downs a) }

  -- the oldest
  abbrev pub first_home_down : MixOf O → AttachedOf O → List (Down O.Op) → List (Down O.Op) → MixOutcome
  first_home_down m a (down ∷ downs) outbox = home_down m a 0 down downs (deliver_fault O down a.site)
  first_home_down m a [] (down ∷ outbox) = home_down m a 1 down [] (deliver_fault O down a.site)
  first_home_down m a [] [] = still m Nothing

  -- an event of site 1, which does nothing if that is not attached
  abbrev pub at_home : MixOf O → (LinkState O.Op → AttachedOf O → MixOutcome) → Option (LinkState O.Op) → Option (AttachedOf O) → MixOutcome
  at_home m f None site = still m Nothing
  at_home m f (Some l) None = still m Nothing
  at_home m f (Some l) (Some a) = f l a

  -- a stranger joins, or is refused
  abbrev pub stray_joins : MixOf O → Option StarFault → MixOutcome
  stray_joins m (Some fault) = still m (NoJoin fault)
  stray_joins m None = record { reply = Joined (m.star.given + 1); star = joined m.star; site = m.site }

  -- the star takes a stranger's message, or detaches its link
  abbrev pub stray_sends : MixOf O → ℕ → LinkState O.Op → Up O.Op → Option StarFault → MixOutcome
  stray_sends m j l up (Some fault) = record { reply = Detached fault; star = left j m.star; site = m.site }
  stray_sends m j l up None = record { reply = place_reply O (place_taken O m.star up); star = taken O j up l m.star; site = m.site }

  -- a stranger leaves
  abbrev pub stray_leaves : MixOf O → ℕ → MixOutcome
  stray_leaves m j = record { reply = Left; star = left j m.star; site = m.site }

  -- an event of a link, which does nothing if that is absent
  abbrev pub at_link_of : MixOf O → (LinkState O.Op → MixOutcome) → Option (LinkState O.Op) → MixOutcome
  at_link_of m f None = still m Nothing
  at_link_of m f (Some l) = f l

  -- or is that of site 1
  abbrev pub at_stray : MixOf O → ℕ → (LinkState O.Op → MixOutcome) → MixOutcome
  at_stray m j f = cond (nat_eq j 1) (still m Nothing) (at_link_of m f (link_of j m.star.links))

  -- each event
  abbrev pub mix_outcome : MixOf O → MixEventOf O → MixOutcome
  mix_outcome m (HomeEdit command) = at_home m (λ l a. home_edit m a (edit_answer O command a.site)) (link_of 1 m.star.links) m.site
  mix_outcome m HomeUp = at_home m (λ l a. first_home_up m l a a.up) (link_of 1 m.star.links) m.site
  mix_outcome m HomeDown = at_home m (λ l a. first_home_down m a a.down l.outbox) (link_of 1 m.star.links) m.site
  mix_outcome m JoinStray = stray_joins m (join_fault m.star)
  mix_outcome m (Stray j up) = at_stray m j (λ l. stray_sends m j l up (up_fault O m.star l up))
  mix_outcome m (LeaveStray j) = at_stray m j (λ l. stray_leaves m j)

  -- the state after an event, with the event and its reply at the end of the trace
  abbrev pub with_mix : MixOf O → MixEventOf O → MixOutcome → MixOf O
  with_mix m event o = record { opening = m.opening; star = o.star; site = o.site; trace = m.trace ++ record { event = event; reply = o.reply } ∷ [] }

  abbrev pub mix_happens : MixOf O → MixEventOf O → MixOf O
  mix_happens m event = with_mix m event (mix_outcome m event)

  -- and after a list of events
  abbrev pub mix_run : MixOf O → List (MixEventOf O) → MixOf O
  mix_run m [] = m
  mix_run m (e ∷ es) = mix_run (mix_happens m e) es

-- What is read off a trace of site 1 and strangers. The order is the star's own, since what strangers meant is nowhere else.

module _ {Command Operation Edit Fault : Type 0} where
  -- the edit that site 1 made at an event, if it did
  abbrev pub home_made : MixEvent Command Operation → Reply Edit Fault → List Edit
  home_made (HomeEdit command) (Made e) = e ∷ []
  home_made event reply = []

  -- the edits that it made
  abbrev pub mix_made : List (MixHappened Command Operation Edit Fault) → List Edit
  mix_made [] = []
  mix_made (h ∷ hs) = home_made h.event h.reply ++ mix_made hs

  -- how many edits of others it received at an event
  abbrev pub home_shown : MixEvent Command Operation → Reply Edit Fault → ℕ
  home_shown HomeDown Shown = 1
  home_shown event reply = 0

  -- over a trace
  abbrev pub mix_shown : List (MixHappened Command Operation Edit Fault) → ℕ
  mix_shown [] = 0
  mix_shown (h ∷ hs) = home_shown h.event h.reply + mix_shown hs

  -- how many entries of the order have reached it: those up to the last that was delivered to it. It joined before any
  abbrev pub mix_told : List (Entry Edit) → List (MixHappened Command Operation Edit Fault) → ℕ
  mix_told order trace = through_others (mix_shown trace) (turns 1 order)

  -- what it should show: these entries, and then its own edits that are not among them
  abbrev pub mix_view : List (Entry Edit) → List (MixHappened Command Operation Edit Fault) → List Edit
  mix_view order trace =
      edits (take (mix_told order trace) (turns 1 order))
      ++ drop (length (own_edits (take (mix_told order trace) (turns 1 order)))) (mix_made trace)

-- What every star with one site and strangers keeps.

module _ (O : Operations) where
  -- at every moment
  pub record MixPromises (m : MixOf O) : Type 0 where
    -- the star's content is the meaning of its order, and the site's is the meaning of what has reached it and of what it made
    pub star_content : O.t.content m.star.board ≡ O.t.meaning (O.t.content m.opening) (edits_in O m.star.order)
    pub site_content : (a : AttachedOf O) → m.site ≡ Some a → O.t.content a.site.board ≡ O.t.meaning (O.t.content m.opening) (mix_view m.star.order m.trace)
    -- the two ends of the site's link are in step
    pub in_step : (l : LinkState O.Op) (a : AttachedOf O) → link_of 1 m.star.links ≡ Some l → m.site ≡ Some a
        → InStep O.t 0 a.site.board m.star.board a.site.end l.end (ups a.up) (downs (a.down ++ l.outbox))
    -- if no message is on its way from the site or to it, its board is the star's, and the order has each of its edits once
    pub equal : IsHomeQuiet O m → (a : AttachedOf O) → m.site ≡ Some a → a.site.board ≡ m.star.board
    pub whole : IsHomeQuiet O m → (a : AttachedOf O) → m.site ≡ Some a → own_edits (turns 1 m.star.order) ≡ mix_made m.trace
    -- the site is attached if it has a link, and has not stopped
    pub linked : is_some m.site ≡ is_some (link_of 1 m.star.links)
    pub running : (a : AttachedOf O) → m.site ≡ Some a → a.site.stopped ≡ false

  -- a stranger's message. Site 1 keeps its board and its streams
  pub record StrayReplies (m : MixOf O) (j : ℕ) (up : Up O.Op) (o : MixOutcome O) : Type 0 where
    pub site : o.site ≡ m.site
    pub absent : link_of j m.star.links ≡ None → o ≡ still O m Nothing
    pub own : j ≡ 1 → o ≡ still O m Nothing
    pub present : j ≢ 1 → (l : LinkState O.Op) → link_of j m.star.links ≡ Some l → IsAnswered O m.star j l up o.reply o.star

  -- a stranger leaves: its link goes, and nothing else
  pub record LeaveReplies (m : MixOf O) (j : ℕ) (o : MixOutcome O) : Type 0 where
    pub absent : link_of j m.star.links ≡ None → o ≡ still O m Nothing
    pub own : j ≡ 1 → o ≡ still O m Nothing
    pub present : j ≢ 1 → (l : LinkState O.Op) → link_of j m.star.links ≡ Some l → o ≡ record { reply = Left; star = left j m.star; site = m.site }

  -- an event of site 1: nothing if it is not attached
  pub record HomeReplies (m : MixOf O) (o : MixOutcome O) (P : LinkState O.Op → AttachedOf O → Type 0) : Type 0 where
    pub absent : m.site ≡ None → o.reply ≡ Nothing
    pub present : (l : LinkState O.Op) (a : AttachedOf O) → link_of 1 m.star.links ≡ Some l → m.site ≡ Some a → P l a

  -- each event
  abbrev pub MixReplies : MixOf O → MixEventOf O → MixOutcome O → Type 0
  MixReplies m (HomeEdit command) o = HomeReplies m o (λ l a. o.reply ≡ edit_reply O (edit_answer O command a.site))
  MixReplies m HomeUp o = HomeReplies m o (λ l a. UpReplies O m.star a.up o.reply)
  MixReplies m HomeDown o = HomeReplies m o (λ l a. DownReplies O (a.down ++ l.outbox) o.reply)
  MixReplies m JoinStray o = JoinReplies O m.star o.reply
  MixReplies m (Stray j up) o = StrayReplies m j up o
  MixReplies m (LeaveStray j) o = LeaveReplies m j o

  -- the site is detached by a full order alone
  abbrev pub OnlyFull : MixOf O → Type 0
  OnlyFull m = (fault : StarFault) → (mix_outcome O m HomeUp).reply ≡ Detached fault → (fault ≡ LogFull) × (m.star.limit ≤ length m.star.order)

  -- from one moment to a later one the star keeps the order of its items, and so does the site while it is attached
  pub record MixOrderIsKept (m k : MixOf O) : Type 0 where
    pub star : O.t.keeps_order m.star.board k.star.board
    pub site : (a b : AttachedOf O) → m.site ≡ Some a → k.site ≡ Some b → O.t.keeps_order a.site.board b.site.board

  -- a copy of the board: the star's, or the site's while it is attached
  abbrev pub IsMixCopy : MixOf O → O.State → Type 0
  IsMixCopy m x = (x ≡ m.star.board) ⊎ ((a : AttachedOf O) × (m.site ≡ Some a) × (x ≡ a.site.board))

  -- any copy at one moment, and any at the same or a later one: the items that both show are in the same order in both
  abbrev pub MixOrdersAgree : MixOf O → MixOf O → Type 0
  MixOrdersAgree m k = (x y : O.State) → IsMixCopy m x → IsMixCopy k y → O.t.keeps_order x y

-- a star of boards with one site and strangers
abbrev pub BoardMix : Type 0
BoardMix = MixOf board_batches

-- what may happen
abbrev pub BoardMixEvent : Type 0
BoardMixEvent = MixEventOf board_batches

-- one that some events made of one that was opened
pub record IsMixed (m : BoardMix) : Type 0 where
  pub board : Windows
  pub limit : ℕ
  pub events : List BoardMixEvent
  pub opening : IsOpening board
  pub limited : limit ≤ highest_limit
  pub is : m ≡ mix_run board_batches (opened_mix board_batches board limit) events

-- A star with one site and strangers is a world: its site joined first, and then no other.

module _ (O : Operations) where
  abbrev pub world_event : MixEventOf O → EventOf O
  world_event (HomeEdit command) = MakeEdit 1 command
  world_event HomeUp = MoveUp 1
  world_event HomeDown = MoveDown 1
  world_event JoinStray = WorldJoinStray
  world_event (Stray j up) = WorldStray j up
  world_event (LeaveStray j) = WorldLeaveStray j

  abbrev pub world_happened : MixHappenedOf O → HappenedOf O
  world_happened h = record { event = world_event h.event; reply = h.reply }

  abbrev pub world_of : MixOf O → WorldOf O
  world_of m = record { opening = m.opening; star = m.star; sites = option_to_list m.site; trace = record { event = Join; reply = Joined 1 } ∷ map world_happened m.trace }

  abbrev pub world_outcome : MixOutcome O → Outcome O
  world_outcome o = record { reply = o.reply; star = o.star; sites = option_to_list o.site }

  -- that world is one of those that events make, its site has number 1, and no stranger has
  pub record IsHomeWorld (most : ℕ) (m : MixOf O) : Type 0 where
    pub sound : IsSound O most (world_of m)
    pub tallied : IsTallied O (world_of m)
    pub strays : KnowsStrays O (world_of m)
    pub given : 1 ≤ m.star.given
    pub number : (a : AttachedOf O) → m.site ≡ Some a → a.site.number ≡ 1
    pub home : is_stray 1 (world_of m).trace ≡ false

-- A star with one site and strangers, as the program has it.

-- the most edits that an event may make
abbrev pub most_edits : BoardMixEvent → ℕ
most_edits (HomeEdit commands) = length commands
most_edits HomeUp = 0
most_edits HomeDown = 0
most_edits JoinStray = 0
most_edits (Stray j up) = 0
most_edits (LeaveStray j) = 0

-- an event at this star and this site answers this, and leaves those
abbrev pub MixPlays : BoardMixEvent → BoardStar → Option BoardAttached → BoardReply → BoardStar → Option BoardAttached → Type 0
MixPlays event star site reply next_star next_site =
    (opening : Windows) (trace : List (MixHappened Commands BoardBatch BoardEdits EditFault))
    → mix_outcome board_batches (record { opening = opening; star = star; site = site; trace = trace }) event
    ≡ record { reply = reply; star = next_star; site = next_site }

-- an allocation failed, and left all as it was, except that at a delivery to the site the oldest message of its outbox may have moved to its down stream
abbrev pub MixSpares : BoardMixEvent → BoardStar → Option BoardAttached → BoardStar → Option BoardAttached → Type 0
MixSpares HomeDown star site next_star next_site =
    ((next_star ≡ star) × (next_site ≡ site))
    ⊎ ((l : BoardLink) × (a : BoardAttached) × (link_of 1 star.links ≡ Some l) × (site ≡ Some a) × (a.down ≡ [])
    × (next_star ≡ fetched 1 1 star) × (next_site ≡ Some (with_fetched board_batches 1 l a)))
MixSpares event star site next_star next_site = (next_star ≡ star) × (next_site ≡ site)

-- so of a whole
abbrev pub IsMixSpared : BoardMix → BoardMixEvent → BoardMix → Type 0
IsMixSpared m HomeDown k =
    (k ≡ m)
    ⊎ ((l : BoardLink) × (a : BoardAttached) × (link_of 1 m.star.links ≡ Some l) × (m.site ≡ Some a) × (a.down ≡ [])
    × (k ≡ record m { star = fetched 1 1 m.star; site = Some (with_fetched board_batches 1 l a) }))
IsMixSpared m event k = k ≡ m

-- what an event asks of the site: it has the number 1, a link, and takes the oldest message on its way down
abbrev pub IsReady : BoardStar → Option BoardAttached → Type 0
IsReady star site =
    (a : BoardAttached) → site ≡ Some a
    → (a.site.number ≡ 1) × ((l : BoardLink) × (link_of 1 star.links ≡ Some l)
    × ((down : Down BoardBatch) (downs : List (Down BoardBatch)) → a.down ++ l.outbox ≡ down ∷ downs → deliver_fault board_batches down a.site ≡ None))

-- what holds of every one of the program
abbrev pub IsMix : BoardMix → Type 0
IsMix m = IsHomeWorld board_batches most_batches m

-- the site's board is the star's, and the order has each of its edits once, in its order
abbrev pub HomeAgrees : BoardMix → Type 0
HomeAgrees m = (a : BoardAttached) → m.site ≡ Some a → (a.site.board ≡ m.star.board) × (own_edits (turns 1 m.star.order) ≡ mix_made m.trace)

-- A star with one site and strangers as contracts see it.

-- all of it without the room that it keeps
abbrev pub bare_mix : Inside → BoardMix
bare_mix m = record { opening = bare m.opening; star = m.star; site = option_map bare_attached m.site; trace = m.trace.items }
