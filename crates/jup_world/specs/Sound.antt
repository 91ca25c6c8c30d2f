-- What every world keeps, and what each event answers.
use Rattle.std.specs.Prelude.{◌≡◌, List, [], ◌∷◌, ◌++◌, ℕ, ◌+◌, ◌≤◌, ◌<◌, ◌⊎◌, false, length, IsTrue, Option, Some, None, Bool, true, is_some, Result, Ok, Err}
use Rattle.jup_world.specs.Prelude.{last_site, most_attached, Msg, InStep, Operations, StarFault, LogFull, Full, SitesSpent, Up, UpOp, UpAck, UpPing, Down, DownOp, DownAck, DownPong, LinkState, StarOf, link_of, operation_at, left, up_fault, entry, ups, downs, edit_answer, EditFault, Detached, Joined, NoJoin, Left, Made, Refused, Taken, Heard, Shown, Asked, Nothing}
use Rattle.jup_world.specs.Traces.{own_edits, turns, order_of, made, joined_at, shown_count, view, is_stray}
use Rattle.jup_world.specs.Worlds.{WorldOf, attached, EventOf, outcome, ReplyOf, Outcome, unchanged, AttachedOf}
use Rattle.jup_site.specs.Moments.{Moment, IsCalled, IsBeside}
use Rattle.jup_world.specs.Events.{Up as MoveUp, JoinStray, Stray, LeaveStray, Join, Leave, Edit as MakeEdit, Down as MoveDown, Ping as SendPing}
pub use Rattle.jup_site.specs.Sound.{server_past_all, clients_past, client_past_all, servers_past, RowStands, Shows, edits_sent, named_by, IsKnown, own_counts, ChangesKnown, ChangesHeld, HoldsKnown, Inherits, RawNamed, OrderNamed, Paired, told_of, Standing, named_in, edits_in, IsMoved, IsSoundLink, SoundLinkAt, IsSoundStar}
unfoldable pub use Rattle.jup_site.specs.Sound.{SameMeaning, StandsFor}

-- What holds of every world.

module _ (O : Operations) where
  -- the moment of a site, with its link
  abbrev pub moment_of : WorldOf O → ℕ → LinkState O.Op → AttachedOf O → Moment O
  moment_of w i l a = record { star = w.star; link = l; mine = made i w.trace; shown = shown_count i w.trace; at = a }

  -- it is beside the star
  abbrev pub StandsBeside : ℕ → WorldOf O → ℕ → LinkState O.Op → AttachedOf O → Type 0
  StandsBeside most w i l a = IsBeside O most (O.t.content w.opening) (joined_at O i w.trace) i (moment_of w i l a)

  -- an attached site has its link, and is beside the star
  pub record IsAttached (most : ℕ) (w : WorldOf O) (i : ℕ) (a : AttachedOf O) : Type 0 where
    pub link : LinkState O.Op
    pub linked : link_of i w.star.links ≡ Some link
    pub beside : StandsBeside most w i link a

  -- All that holds of a world at every moment; `most` is how small its opening board is.
  pub record IsSound (most : ℕ) (w : WorldOf O) : Type 0 where
    pub order_is : order_of O w.trace ≡ w.star.order
    pub keeps : w.star.keeps ≡ true
    pub star : IsCalled O most (O.t.content w.opening) w.star
    pub sites : (i : ℕ) (a : AttachedOf O) → attached i w.sites ≡ Some a → IsAttached most w i a
    -- numbers that were not given yet
    pub no_edit : (i : ℕ) → w.star.given < i → made i w.trace ≡ []
    pub no_shown : (i : ℕ) → w.star.given < i → shown_count i w.trace ≡ 0

-- What holds of each site of this product, however many strangers there are beside it and whatever they send. A stranger has no
-- state: what it sends is part of the event, and its link has no site. So one theorem serves runs with strangers and without.

module _ (O : Operations) where
  -- no message is on its way from a site or to it
  abbrev pub IsIdle : LinkState O.Op → AttachedOf O → Type 0
  IsIdle l a = (a.up ≡ []) × (a.down ≡ []) × (l.outbox ≡ [])

  -- a site and its link: the site shows the meaning of what has reached it and of what it made, and the two ends are in step.
  -- If no message is on its way between them, its board is the star's, and the order has each of its edits once, in its order
  pub record SiteHolds (w : WorldOf O) (i : ℕ) (l : LinkState O.Op) (a : AttachedOf O) : Type 0 where
    pub content : O.t.content a.site.board ≡ O.t.meaning (O.t.content w.opening) (view O i w.trace)
    pub in_step : InStep O.t 0 a.site.board w.star.board a.site.end l.end (ups a.up) (downs (a.down ++ l.outbox))
    pub running : a.site.stopped ≡ false
    pub equal : IsIdle l a → a.site.board ≡ w.star.board
    pub whole : IsIdle l a → own_edits (turns i (order_of O w.trace)) ≡ made i w.trace

  -- so of each
  abbrev pub SitesHold : WorldOf O → Type 0
  SitesHold w = (i : ℕ) (l : LinkState O.Op) (a : AttachedOf O) → link_of i w.star.links ≡ Some l → attached i w.sites ≡ Some a → SiteHolds w i l a

  -- a site is detached by a full order alone
  abbrev pub OnlyFull : WorldOf O → Type 0
  OnlyFull w = (i : ℕ) (a : AttachedOf O) (fault : StarFault) → attached i w.sites ≡ Some a → (outcome O w (MoveUp i)).reply ≡ Detached fault → (fault ≡ LogFull) × (w.star.limit ≤ length w.star.order)

  -- what a number has: a link without a site is one of a stranger
  abbrev pub LinkedAt : Bool → Option (LinkState O.Op) → Option (AttachedOf O) → Type 0
  LinkedAt stray None None = Unit {0}
  LinkedAt stray None (Some a) = ⊥
  LinkedAt stray (Some l) None = stray ≡ true
  LinkedAt stray (Some l) (Some a) = stray ≡ false

  -- the trace says which links are strangers'
  pub record KnowsStrays (w : WorldOf O) : Type 0 where
    pub links : (i : ℕ) → LinkedAt (is_stray i w.trace) (link_of i w.star.links) (attached i w.sites)
    pub new : (i : ℕ) → w.star.given < i → is_stray i w.trace ≡ false

  -- an event that is none of a stranger
  abbrev pub IsPlain : EventOf O → Type 0
  IsPlain JoinStray = ⊥
  IsPlain (Stray i up) = ⊥
  IsPlain (LeaveStray i) = ⊥
  IsPlain e = Unit {0}

  -- so each of a list
  abbrev pub ArePlain : List (EventOf O) → Type 0
  ArePlain [] = Unit {0}
  ArePlain (e ∷ es) = IsPlain e × ArePlain es

  -- the attached sites are those that have links
  abbrev pub AllLinked : WorldOf O → Type 0
  AllLinked w = (i : ℕ) → is_some (attached i w.sites) ≡ is_some (link_of i w.star.links)

-- What each event of a world answers.

module _ (O : Operations) where
  -- a join answers the number after those given, unless there are 64 links, or else 65,535 numbers were given
  pub record JoinReplies (s : StarOf O) (r : ReplyOf O) : Type 0 where
    pub full : most_attached ≤ length s.links → r ≡ NoJoin Full
    pub spent : length s.links < most_attached → last_site ≤ s.given → r ≡ NoJoin SitesSpent
    pub joined : length s.links < most_attached → s.given < last_site → r ≡ Joined (s.given + 1)

  -- an edit: that of its operation, or its refusal
  abbrev pub edit_reply : Result O.Op EditFault → ReplyOf O
  edit_reply (Ok op) = Made (O.t.edit_of op)
  edit_reply (Err fault) = Refused fault

  -- the oldest message up: an edit gets its place in the order, and only a full order refuses it
  abbrev pub UpReplies : StarOf O → List (Up O.Op) → ReplyOf O → Type 0
  UpReplies s [] r = r ≡ Nothing
  UpReplies s (UpOp m ∷ us) r = (length s.order < s.limit → r ≡ Taken (length s.order)) × (s.limit ≤ length s.order → r ≡ Detached LogFull)
  UpReplies s (UpAck n ∷ us) r = r ≡ Heard
  UpReplies s (UpPing k ∷ us) r = r ≡ Heard

  -- the oldest message down
  abbrev pub DownReplies : List (Down O.Op) → ReplyOf O → Type 0
  DownReplies [] r = r ≡ Nothing
  DownReplies (DownOp m ∷ ds) r = r ≡ Shown
  DownReplies (DownAck n ∷ ds) r = r ≡ Heard
  DownReplies (DownPong k ∷ ds) r = r ≡ Heard

  -- an event at a site: nothing if it is not attached
  pub record SiteReplies (w : WorldOf O) (i : ℕ) (r : ReplyOf O) (P : LinkState O.Op → AttachedOf O → Type 0) : Type 0 where
    pub absent : attached i w.sites ≡ None → r ≡ Nothing
    pub present : (l : LinkState O.Op) (a : AttachedOf O) → link_of i w.star.links ≡ Some l → attached i w.sites ≡ Some a → P l a

  -- A stranger's edit that the star took is one entry of the order, valid there, and bears its link's next names
  pub record IsEntry (s : StarOf O) (i : ℕ) (l : LinkState O.Op) (m : Msg O.Op) (r : ReplyOf O) (t : StarOf O) : Type 0 where
    pub reply : r ≡ Taken (length s.order)
    pub order : t.order ≡ s.order ++ entry O i m ∷ []
    pub board : t.board ≡ O.t.after (operation_at O l.end m) s.board
    pub valid : O.t.is_valid (operation_at O l.end m) s.board
    pub next : IsTrue (O.bears_next i (named_in O s.order i) (O.t.edit_of m.op))

  -- a message that is refused, by the first fault that holds, detaches its link, and changes nothing else
  pub record IsRejected (s : StarOf O) (i : ℕ) (l : LinkState O.Op) (up : Up O.Op) (r : ReplyOf O) (t : StarOf O) : Type 0 where
    pub fault : StarFault
    pub cause : up_fault O s l up ≡ Some fault
    pub reply : r ≡ Detached fault
    pub star : t ≡ left i s

  -- an acknowledgement or a ping leaves board and order
  pub record IsHeard (s : StarOf O) (r : ReplyOf O) (t : StarOf O) : Type 0 where
    pub reply : r ≡ Heard
    pub order : t.order ≡ s.order
    pub board : t.board ≡ s.board

  -- what becomes of a message that is not refused
  abbrev pub IsAccepted : StarOf O → ℕ → LinkState O.Op → Up O.Op → ReplyOf O → StarOf O → Type 0
  IsAccepted s i l (UpOp m) r t = IsEntry s i l m r t
  IsAccepted s i l (UpAck n) r t = IsHeard s r t
  IsAccepted s i l (UpPing k) r t = IsHeard s r t

  -- what a star answers to a stranger's message, and becomes
  abbrev pub IsAnswered : StarOf O → ℕ → LinkState O.Op → Up O.Op → ReplyOf O → StarOf O → Type 0
  IsAnswered s i l up r t = IsRejected s i l up r t ⊎ IsAccepted s i l up r t

  -- an event of a stranger: nothing if there is no such link, or a site has it. All sites keep their boards and streams
  pub record StrayReplies (w : WorldOf O) (i : ℕ) (o : Outcome O) (P : LinkState O.Op → Type 0) : Type 0 where
    pub sites : o.sites ≡ w.sites
    pub absent : link_of i w.star.links ≡ None → o ≡ unchanged O w Nothing
    pub own : (a : AttachedOf O) → attached i w.sites ≡ Some a → o ≡ unchanged O w Nothing
    pub present : (l : LinkState O.Op) → link_of i w.star.links ≡ Some l → attached i w.sites ≡ None → P l

  -- each event of a stranger
  abbrev pub StrayRepliesTo : WorldOf O → EventOf O → Outcome O → Type 0
  StrayRepliesTo w JoinStray o = JoinReplies w.star o.reply × (o.sites ≡ w.sites)
  StrayRepliesTo w (Stray i up) o = StrayReplies w i o (λ l. IsAnswered w.star i l up o.reply o.star)
  StrayRepliesTo w (LeaveStray i) o = StrayReplies w i o (λ l. o ≡ record { reply = Left; star = left i w.star; sites = w.sites })
  StrayRepliesTo w e o = Unit {0}

  -- each event
  abbrev pub RepliesTo : WorldOf O → EventOf O → ReplyOf O → Type 0
  RepliesTo w Join r = JoinReplies w.star r
  RepliesTo w (Leave i) r = SiteReplies w i r (λ l a. r ≡ Left)
  RepliesTo w (MakeEdit i command) r = SiteReplies w i r (λ l a. r ≡ edit_reply (edit_answer O command a.site))
  RepliesTo w (MoveUp i) r = SiteReplies w i r (λ l a. UpReplies w.star a.up r)
  RepliesTo w (MoveDown i) r = SiteReplies w i r (λ l a. DownReplies (a.down ++ l.outbox) r)
  RepliesTo w (SendPing i k) r = SiteReplies w i r (λ l a. r ≡ Asked)
  RepliesTo w e r = Unit {0}
