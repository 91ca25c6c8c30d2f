-- Worlds whose links carry messages.
use Rattle.std.specs.Prelude.{◌≡◌, ℕ, Bool, not, List, [], map, filter, find, nat_eq, Option, Some, if◌then◌else◌, ◌+◌, ◌∷◌, ◌++◌, None, Result, Ok, Err, ◌<◌, ◌≤◌, zero, suc, true, false}
use Rattle.jup_world.specs.Prelude.{Operations, Up, Down, DownOp, DownAck, DownPong, StarFault, SiteFault, LinkState, opened_star, link_of, StarOf, join_fault, joined, left, fetched, up_fault, taken, place_taken, opened_site, edit_answer, deliver_fault, EditFault, Joined, NoJoin, Left, Made, Refused, Taken, Heard, Detached, Shown, Asked, Nothing, Reply}
use Rattle.jup_star.specs.Stars.{StarState}
use Rattle.jup_world.specs.Events.{Event, Happened, Join, Leave, Edit as MakeEdit, Up as MoveUp, Down as MoveDown, Ping as SendPing, JoinStray, Stray, LeaveStray}
pub use Rattle.jup_site.specs.Sites.{AttachedState, AttachedOf, with_edit, one_taken, one_handed, pinged, with_fetched, IsOpening}

-- A world: a star, the sites that are attached to it, and the messages on their way between them.

-- the board that it was opened with, the star, the attached sites, and what has happened
pub record WorldState (Operation State Edit Command : Type 0) : Type 0 where
  pub opening : State
  pub star : StarState Operation State Edit
  pub sites : List (AttachedState Operation State)
  pub trace : List (Happened Command Operation Edit EditFault)

module _ {Operation State : Type 0} where
  -- it is the site of a number
  abbrev pub is_number : ℕ → AttachedState Operation State → Bool
  is_number i a = nat_eq a.site.number i

  -- the attached site of a number
  abbrev pub attached : ℕ → List (AttachedState Operation State) → Option (AttachedState Operation State)
  attached i sites = find (is_number i) sites

  -- the site of a number is changed
  abbrev pub at_site : ℕ → (AttachedState Operation State → AttachedState Operation State) → List (AttachedState Operation State) → List (AttachedState Operation State)
  at_site i change sites = map (λ a. if is_number i a then change a else a) sites

  -- all sites but that of a number
  abbrev pub without_site : ℕ → List (AttachedState Operation State) → List (AttachedState Operation State)
  without_site i sites = filter (λ a. not (is_number i a)) sites

module _ (O : Operations) where
  -- a world of a kind of operations
  abbrev pub WorldOf : Type 0
  WorldOf = WorldState O.Op O.State O.Edit O.Command

  -- what may happen in it
  abbrev pub EventOf : Type 0
  EventOf = Event O.Command O.Op

  -- and what that answers
  abbrev pub ReplyOf : Type 0
  ReplyOf = Reply O.Edit EditFault

  -- an event with its reply
  abbrev pub HappenedOf : Type 0
  HappenedOf = Happened O.Command O.Op O.Edit EditFault

  -- a new world
  abbrev pub opened_world : O.State → ℕ → WorldOf
  opened_world board limit = record { opening = board; star = opened_star board limit; sites = []; trace = [] }

  -- no message is on its way: neither in a stream nor in an outbox
  abbrev pub IsQuiet : WorldOf → Type 0
  IsQuiet w = (i : ℕ) (l : LinkState O.Op) (a : AttachedOf O) → link_of i w.star.links ≡ Some l → attached i w.sites ≡ Some a
      → (a.up ≡ []) × (a.down ≡ []) × (l.outbox ≡ [])

-- What an event does to a world, by calls of the star and of a site.

module _ (O : Operations) where
  -- what an event answers and leaves
  pub record Outcome : Type 0 where
    pub reply : ReplyOf O
    pub star : StarOf O
    pub sites : List (AttachedOf O)

  -- nothing changes
  abbrev pub unchanged : WorldOf O → ReplyOf O → Outcome
  unchanged w reply = record { reply = reply; star = w.star; sites = w.sites }

  -- a site joins, and opens with the star's board
  abbrev pub new_site : WorldOf O → ℕ → AttachedOf O
  new_site w i = record { site = opened_site i w.star.limit w.star.board; up = []; down = [] }

  -- or is refused
  abbrev pub join_outcome : WorldOf O → Option StarFault → Outcome
  join_outcome w (Some fault) = unchanged w (NoJoin fault)
  join_outcome w None = record { reply = Joined (w.star.given + 1); star = joined w.star; sites = w.sites ++ new_site w (w.star.given + 1) ∷ [] }

  -- a site leaves: it is dropped with its streams
  abbrev pub leave_outcome : WorldOf O → ℕ → Outcome
  leave_outcome w i = record { reply = Left; star = left i w.star; sites = without_site i w.sites }

  -- or is refused
  abbrev pub edit_outcome : WorldOf O → ℕ → Result O.Op EditFault → Outcome
  edit_outcome w i (Err fault) = unchanged w (Refused fault)
  edit_outcome w i (Ok op) = record { reply = Made (O.t.edit_of op); star = w.star; sites = at_site i (with_edit O op) w.sites }

  -- what it answers
  abbrev pub place_reply : Option ℕ → ReplyOf O
  place_reply None = Heard
  place_reply (Some place) = Taken place

  -- the message is taken, or refused
  abbrev pub up_outcome : WorldOf O → ℕ → LinkState O.Op → Up O.Op → Option StarFault → Outcome
  up_outcome w i l up (Some fault) = record { reply = Detached fault; star = left i w.star; sites = without_site i w.sites }
  up_outcome w i l up None =
      record { reply = place_reply (place_taken O w.star up); star = taken O i up l w.star; sites = at_site i (one_taken O) w.sites }

  -- if there is one
  abbrev pub first_up : WorldOf O → ℕ → LinkState O.Op → List (Up O.Op) → Outcome
  first_up w i l [] = unchanged w Nothing
  first_up w i l (up ∷ ups) = up_outcome w i l up (up_fault O w.star l up)

  -- a site receives the oldest message on its way down
  abbrev pub down_reply : Down O.Op → ReplyOf O
  down_reply (DownOp m) = Shown
  down_reply (DownAck n) = Heard
  down_reply (DownPong k) = Heard

  -- `gone` messages were fetched first. No site refuses what it receives here
  abbrev pub down_outcome : WorldOf O → ℕ → ℕ → Down O.Op → List (Down O.Op) → Option SiteFault → Outcome
  down_outcome w i gone down downs (Some fault) = unchanged w Nothing
  down_outcome w i gone down downs None =
      record { reply = down_reply down; star = fetched i gone w.star; sites = at_site i (one_handed O down downs) w.sites }

  -- the oldest is that of the stream, and if that is empty that of the outbox
  abbrev pub first_down : WorldOf O → ℕ → AttachedOf O → List (Down O.Op) → List (Down O.Op) → Outcome
  first_down w i a (down ∷ downs) outbox = down_outcome w i 0 down downs (deliver_fault O down a.site)
  first_down w i a [] (down ∷ outbox) = down_outcome w i 1 down [] (deliver_fault O down a.site)
  first_down w i a [] [] = unchanged w Nothing

  -- it is answered later
  abbrev pub ping_outcome : WorldOf O → ℕ → ℕ → Outcome
  ping_outcome w i k = record { reply = Asked; star = w.star; sites = at_site i (pinged O k) w.sites }

  -- a stranger joins, or is refused: it has a link and no site
  abbrev pub stray_joins : WorldOf O → Option StarFault → Outcome
  stray_joins w (Some fault) = unchanged w (NoJoin fault)
  stray_joins w None = record { reply = Joined (w.star.given + 1); star = joined w.star; sites = w.sites }

  -- the star takes a stranger's message, or detaches its link
  abbrev pub stray_sends : WorldOf O → ℕ → LinkState O.Op → Up O.Op → Option StarFault → Outcome
  stray_sends w i l up (Some fault) = record { reply = Detached fault; star = left i w.star; sites = w.sites }
  stray_sends w i l up None = record { reply = place_reply (place_taken O w.star up); star = taken O i up l w.star; sites = w.sites }

  -- a stranger leaves
  abbrev pub stray_leaves : WorldOf O → ℕ → Outcome
  stray_leaves w i = record { reply = Left; star = left i w.star; sites = w.sites }

  -- an event of a stranger, which does nothing if there is no such link, or a site has it
  abbrev pub at_stray : WorldOf O → (LinkState O.Op → Outcome) → Option (AttachedOf O) → Option (LinkState O.Op) → Outcome
  at_stray w f (Some a) ol = unchanged w Nothing
  at_stray w f None None = unchanged w Nothing
  at_stray w f None (Some l) = f l

  -- an event at a site, which does nothing if the site is not attached
  abbrev pub at_attached : WorldOf O → LinkState O.Op → (LinkState O.Op → AttachedOf O → Outcome) → Option (AttachedOf O) → Outcome
  at_attached w l f None = unchanged w Nothing
  at_attached w l f (Some a) = f l a

  -- the site is attached if it has a link
  abbrev pub at_linked : WorldOf O → ℕ → (LinkState O.Op → AttachedOf O → Outcome) → Option (LinkState O.Op) → Outcome
  at_linked w i f None = unchanged w Nothing
  at_linked w i f (Some l) = at_attached w l f (attached i w.sites)

  -- so under a number
  abbrev pub at_number : WorldOf O → ℕ → (LinkState O.Op → AttachedOf O → Outcome) → Outcome
  at_number w i f = at_linked w i f (link_of i w.star.links)

  -- each event
  abbrev pub outcome : WorldOf O → EventOf O → Outcome
  outcome w Join = join_outcome w (join_fault w.star)
  outcome w (Leave i) = at_number w i (λ l a. leave_outcome w i)
  outcome w (MakeEdit i command) = at_number w i (λ l a. edit_outcome w i (edit_answer O command a.site))
  outcome w (MoveUp i) = at_number w i (λ l a. first_up w i l a.up)
  outcome w (MoveDown i) = at_number w i (λ l a. first_down w i a a.down l.outbox)
  outcome w (SendPing i k) = at_number w i (λ l a. ping_outcome w i k)
  outcome w JoinStray = stray_joins w (join_fault w.star)
  outcome w (Stray i up) = at_stray w (λ l. stray_sends w i l up (up_fault O w.star l up)) (attached i w.sites) (link_of i w.star.links)
  outcome w (LeaveStray i) = at_stray w (λ l. stray_leaves w i) (attached i w.sites) (link_of i w.star.links)

  -- a world after an event, with the event and its reply at the end of the trace
  abbrev pub with_outcome : WorldOf O → EventOf O → Outcome → WorldOf O
  with_outcome w event o = record w { star = o.star; sites = o.sites; trace = w.trace ++ record { event = event; reply = o.reply } ∷ [] }

  -- its reply is that of its outcome
  abbrev pub happens : WorldOf O → EventOf O → WorldOf O
  happens w event = with_outcome w event (outcome w event)

  -- and after a list of events
  abbrev pub run : WorldOf O → List (EventOf O) → WorldOf O
  run w [] = w
  run w (e ∷ es) = run (happens w e) es

  -- a failed allocation leaves a world as it was, except that messages may have moved from a site's outbox to its down stream
  abbrev pub only_fetched : WorldOf O → ℕ → ℕ → LinkState O.Op → WorldOf O
  only_fetched w i n l = record w { star = fetched i n w.star; sites = at_site i (with_fetched O n l) w.sites }

-- The numbers of attached sites.

module _ {Operation State : Type 0} where
  -- the numbers ascend, each above `least`, and none is above `most`
  abbrev pub AreAscending : ℕ → ℕ → List (AttachedState Operation State) → Type 0
  AreAscending least most [] = least ≤ most
  AreAscending least most (a ∷ later) = (least < a.site.number) × AreAscending a.site.number most later

  -- the first site of a number is at a place
  abbrev pub IsSiteAt : ℕ → List (AttachedState Operation State) → ℕ → Type 0
  IsSiteAt i [] n = ⊥
  IsSiteAt i (a ∷ later) zero = is_number i a ≡ true
  IsSiteAt i (a ∷ later) (suc n) = (is_number i a ≡ false) × IsSiteAt i later n
