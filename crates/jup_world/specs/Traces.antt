-- What is read off a trace, and what it says of sites.
use Rattle.std.specs.Prelude.{ℕ, cond, List, [], ◌∷◌, nat_eq, ◌+◌, Bool, true, false, ◌||◌, ◌++◌, length, take, drop, ◌≡◌, ◌⊎◌, Some, ◌<◌, ◌≤◌, ◌&&◌, not, is_some}
use Rattle.jup_world.specs.Prelude.{answer_after, most_unacknowledged, Operations, Entry, Up, UpOp, UpAck, UpPing, entry, link_of, EditFault, AllByRecursion, Joined, Made, Taken, Shown, Reply}
use Rattle.jup_world.specs.Events.{Event, Join, Edit as MakeEdit, Up as MoveUp, Down as MoveDown, JoinStray, Stray, Happened}
use Rattle.jup_world.specs.Worlds.{EventOf, ReplyOf, HappenedOf, WorldOf, attached, IsQuiet, AttachedOf}
pub use Rattle.jup_site.specs.Turns.{Turn, Own, Other, turn, turns, edits, own_edits, others, through_others, IsIn, told_count, Counts}

-- What is read off a trace alone: the star's order, what each site made, what has reached it, and what it should show.

-- the first of a site's edits, as an entry
abbrev pub first_of_site : {Edit : Type 0} → ℕ → List Edit → List (Entry Edit)
first_of_site i [] = []
first_of_site i (e ∷ es) = record { site = i; edit = e } ∷ []

module _ {Command Operation Edit Fault : Type 0} where
  -- what is read off a trace from its first event to its last, each with those before it
  abbrev pub over_trace : {A : Type 0} → (List (Happened Command Operation Edit Fault) → A → Happened Command Operation Edit Fault → A) → A → List (Happened Command Operation Edit Fault) → List (Happened Command Operation Edit Fault) → A
  over_trace next a past [] = a
  over_trace next a past (h ∷ hs) = over_trace next (next past a h) (past ++ h ∷ []) hs

  -- the edit that a site made at an event, if it did
  abbrev pub edit_made : ℕ → Event Command Operation → Reply Edit Fault → List Edit
  edit_made i (MakeEdit j command) (Made e) = cond (nat_eq j i) (e ∷ []) []
  edit_made i event reply = []

  -- the edits that a site made
  abbrev pub made : ℕ → List (Happened Command Operation Edit Fault) → List Edit
  made i [] = []
  made i (h ∷ hs) = edit_made i h.event h.reply ++ made i hs

  -- the length of the order when a site joined
  abbrev pub join_seen : ℕ → ℕ → ℕ → Event Command Operation → Reply Edit Fault → ℕ
  join_seen i now at Join (Joined j) = cond (nat_eq j i) now at
  join_seen i now at event reply = at

  -- how many edits of other sites a site received
  abbrev pub was_shown : ℕ → Event Command Operation → Reply Edit Fault → ℕ
  was_shown i (MoveDown j) Shown = cond (nat_eq j i) 1 0
  was_shown i event reply = 0

  -- over a trace
  abbrev pub shown_count : ℕ → List (Happened Command Operation Edit Fault) → ℕ
  shown_count i [] = 0
  shown_count i (h ∷ hs) = was_shown i h.event h.reply + shown_count i hs

  -- a stranger was given this number at an event
  abbrev pub stray_seen : ℕ → Event Command Operation → Reply Edit Fault → Bool
  stray_seen i JoinStray (Joined j) = nat_eq j i
  stray_seen i event reply = false

  -- over a trace
  abbrev pub is_stray : ℕ → List (Happened Command Operation Edit Fault) → Bool
  is_stray i [] = false
  is_stray i (h ∷ hs) = stray_seen i h.event h.reply || is_stray i hs

module _ (O : Operations) where
  -- the entry of a stranger's message, which says itself what it means
  abbrev pub stray_entry : ℕ → Up O.Op → List (Entry O.Edit)
  stray_entry i (UpOp m) = entry O i m ∷ []
  stray_entry i (UpAck n) = []
  stray_entry i (UpPing k) = []

  -- the entry that an event adds to an order: the site's first edit that is not in it, or that of a stranger's message
  abbrev pub entry_taken : List (HappenedOf O) → List (Entry O.Edit) → EventOf O → ReplyOf O → List (Entry O.Edit)
  entry_taken past order (MoveUp i) (Taken place) = first_of_site i (drop (length (own_edits (turns i order))) (made i past))
  entry_taken past order (Stray i up) (Taken place) = stray_entry i up
  entry_taken past order event reply = []

  -- the star's order
  abbrev pub order_of : List (HappenedOf O) → List (Entry O.Edit)
  order_of trace = over_trace (λ past order h. order ++ entry_taken past order h.event h.reply) [] [] trace

  -- over a trace
  abbrev pub joined_at : ℕ → List (HappenedOf O) → ℕ
  joined_at i trace = over_trace (λ past at h. join_seen i (length (order_of past)) at h.event h.reply) 0 [] trace

  -- how many entries have reached a site: those up to the last that was delivered to it, or those before it joined. The n-th that
  -- is delivered to it is the n-th entry of another site after its join
  abbrev pub told : ℕ → List (HappenedOf O) → ℕ
  told i trace = joined_at i trace + through_others (shown_count i trace) (drop (joined_at i trace) (turns i (order_of trace)))

  -- what a site should show: the entries that have reached it, and its own edits that are not among them
  abbrev pub told_entries : ℕ → List (HappenedOf O) → List O.Edit
  told_entries i trace = edits (take (told i trace) (turns i (order_of trace)))

  -- the own edits among them
  abbrev pub own_told : ℕ → List (HappenedOf O) → List O.Edit
  own_told i trace = own_edits (take (told i trace) (turns i (order_of trace)))

  -- the view of a site
  abbrev pub view : ℕ → List (HappenedOf O) → List O.Edit
  view i trace = told_entries i trace ++ drop (length (own_told i trace)) (made i trace)

-- What a trace says of the numbers that the star gave, and of the edits that each site made.

-- how many numbers a reply gives
abbrev pub gives : {Edit Fault : Type 0} → Reply Edit Fault → ℕ
gives (Joined i) = 1
gives reply = 0

-- over a trace
abbrev pub numbers_given : {Command Operation Edit Fault : Type 0} → List (Happened Command Operation Edit Fault) → ℕ
numbers_given [] = 0
numbers_given (h ∷ hs) = gives h.reply + numbers_given hs

module _ (O : Operations) where
  -- a site counts as many edits as the trace says that it made
  abbrev pub CountsItsEdits : List (Happened O.Command O.Op O.Edit EditFault) → AttachedOf O → Type 0
  CountsItsEdits trace a = a.site.made ≡ length (made a.site.number trace)

  -- the star has given the numbers that the trace records, and each of its sites made the edits
  pub record IsTallied (w : WorldOf O) : Type 0 where
    pub given : w.star.given ≡ numbers_given w.trace
    pub made : AllByRecursion (CountsItsEdits w.trace) w.sites

  -- the same of each attached site
  pub record Tallies (w : WorldOf O) : Type 0 where
    pub given : w.star.given ≡ numbers_given w.trace
    pub made : (i : ℕ) (a : AttachedOf O) → attached i w.sites ≡ Some a → a.site.made ≡ length (made i w.trace)

-- How many of a site's edits are not known to be received, which is its backlog.

module _ (O : Operations) where
  -- a site's backlog is the edits that it made less those of which it knows that the star received them. If no message is on its
  -- way, the backlog is below `answer_after`.
  pub record BacklogIsShort (w : WorldOf O) : Type 0 where
    pub backlog : (i : ℕ) (a : AttachedOf O) → attached i w.sites ≡ Some a → a.site.made ≡ a.site.end.acknowledged + length a.site.end.outgoing
    pub bounded : (i : ℕ) (a : AttachedOf O) → attached i w.sites ≡ Some a → length a.site.end.outgoing ≤ most_unacknowledged
    pub quiet : IsQuiet O w → (i : ℕ) (a : AttachedOf O) → attached i w.sites ≡ Some a → length a.site.end.outgoing < answer_after

-- What every world keeps, whatever happens in it.

module _ (O : Operations) where
  -- the attached sites are those that have links and are no strangers
  abbrev pub AreLinked : WorldOf O → Type 0
  AreLinked w = (i : ℕ) → is_some (attached i w.sites) ≡ (is_some (link_of i w.star.links) && not (is_stray i w.trace))

  -- at every moment
  pub record Promises (w : WorldOf O) : Type 0 where
    -- the star's order is the one that the trace gives
    pub order : w.star.order ≡ order_of O w.trace
    -- the star's content is the meaning of that order, and a site's is the meaning of what has reached it and of what it made
    pub keeps : w.star.keeps ≡ true
    pub star_content : O.t.content w.star.board ≡ O.t.meaning (O.t.content w.opening) (edits (turns 0 (order_of O w.trace)))
    pub site_content : (i : ℕ) (a : AttachedOf O) → attached i w.sites ≡ Some a → O.t.content a.site.board ≡ O.t.meaning (O.t.content w.opening) (view O i w.trace)
    -- if no message is on its way, all boards are equal, and the order has every edit of each attached site once, in its order
    pub equal : IsQuiet O w → (i : ℕ) (a : AttachedOf O) → attached i w.sites ≡ Some a → a.site.board ≡ w.star.board
    pub whole : IsQuiet O w → (i : ℕ) (a : AttachedOf O) → attached i w.sites ≡ Some a → own_edits (turns i (order_of O w.trace)) ≡ made i w.trace
    -- the attached sites are those that have links and are no strangers, and none has stopped
    pub linked : AreLinked w
    pub running : (i : ℕ) (a : AttachedOf O) → attached i w.sites ≡ Some a → a.site.stopped ≡ false

  -- from one moment to a later one: the star keeps the order of its items, and so does each site that is attached at both
  pub record OrderIsKept (w v : WorldOf O) : Type 0 where
    pub star : O.t.keeps_order w.star.board v.star.board
    pub sites : (i : ℕ) (a b : AttachedOf O) → attached i w.sites ≡ Some a → attached i v.sites ≡ Some b → O.t.keeps_order a.site.board b.site.board

  -- a copy of the board: the star's, or that of a site that is attached
  abbrev pub IsCopy : WorldOf O → O.State → Type 0
  IsCopy w x = (x ≡ w.star.board) ⊎ ((i : ℕ) × (a : AttachedOf O) × (attached i w.sites ≡ Some a) × (x ≡ a.site.board))

  -- any copy at one moment, and any at the same or a later one: the items that both show are in the same order in both
  abbrev pub OrdersAgree : WorldOf O → WorldOf O → Type 0
  OrdersAgree w v = (x y : O.State) → IsCopy w x → IsCopy v y → O.t.keeps_order x y
