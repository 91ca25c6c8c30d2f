-- The course of a star that anyone calls, and of the sites that join it: what the laws of this crate speak of.
use Rattle.std.specs.Prelude.{◌≡◌, ◌⊎◌, ℕ, suc, ◌+◌, ◌≤◌, ◌<◌, Bool, false, List, [], ◌∷◌, length, nat_eq, Some, None}
use Rattle.jup_site.specs.Prelude.{Operations, BoardBatch, Windows, board_batches, content, meaning, highest_limit, answer_after, most_unacknowledged, LogFull, Up, UpOp, UpAck, UpPing, Down, LinkState, StarOf, BoardStar, new_star, link_of, joined, left, fetched, taken, up_fault, deliver_fault}
use Rattle.jup_site.specs.Sites.{IsOpening}
use Rattle.jup_site.specs.Turns.{turns, own_edits}
use Rattle.jup_site.specs.Sound.{edits_in}
use Rattle.jup_site.specs.Moments.{Moment, Moves, next_number, newcomer, view}

-- # A star and its sites over time

module _ (O : Operations) where
  -- What becomes of a star: nothing, or a site joins or leaves, messages are fetched for one, or a message of one is taken
  pub data Becomes : StarOf O → StarOf O → Type 0 where
    Rests : {s : StarOf O} → Becomes s s
    Admits : {s : StarOf O} → Becomes s (joined s)
    Drops : {s : StarOf O} (j : ℕ) → Becomes s (left j s)
    Gives : {s : StarOf O} (j n : ℕ) → Becomes s (fetched j n s)
    Accepts : {s : StarOf O} (j : ℕ) (l : LinkState O.Op) → link_of j s.links ≡ Some l → (up : Up O.Op) → up_fault O s l up ≡ None → Becomes s (taken O j up l s)

  -- a star at each time, from the one that was opened: whether it keeps its order or only counts it
  pub record Course : Type 0 where
    pub board : O.State
    pub limit : ℕ
    pub keeps : Bool
    pub star : ℕ → StarOf O
    pub opened : star 0 ≡ new_star keeps board limit
    pub becomes : (t : ℕ) → Becomes (star t) (star (suc t))

  -- A site of it: the time at which it joins, and its moment at each time since. It begins with the answer to its join. While the star becomes what it next is, the site goes by one move, or stays
  pub record Member (c : Course) : Type 0 where
    pub joins : ℕ
    pub moment : ℕ → Moment O
    pub starts : moment 0 ≡ newcomer O (c.star joins)
    pub at_star : (n : ℕ) → (moment n).star ≡ c.star (suc (joins + n))
    pub goes : (n : ℕ) → Moves O (next_number O (c.star joins)) (moment n) (moment (suc n)) ⊎ (moment (suc n) ≡ moment n)

  module _ {c : Course} (s : Member c) where
    -- its number, and how many entries the order had as it joined
    abbrev pub number : ℕ
    number = next_number O (c.star s.joins)

    abbrev pub since : ℕ
    since = length (c.star s.joins).order

-- # What holds of boards

abbrev pub BoardCourse : Type 0
BoardCourse = Course board_batches

abbrev pub BoardMember : BoardCourse → Type 0
BoardMember c = Member board_batches c

abbrev pub BoardMoment : Type 0
BoardMoment = Moment board_batches

-- the star was opened with a board that it may be opened with
pub record IsOpened (c : BoardCourse) : Type 0 where
  pub opens : IsOpening c.board
  pub limited : c.limit ≤ highest_limit

-- the star shows what its order makes of the opening board
abbrev pub StarShows : Windows → BoardStar → Type 0
StarShows board s = content s.board ≡ meaning (content board) (edits_in board_batches s.order)

-- only a full order refuses this message by this link
abbrev pub IsTakenUnlessFull : BoardStar → LinkState BoardBatch → Up BoardBatch → Type 0
IsTakenUnlessFull s l (UpOp m) =
    (length s.order < s.limit → up_fault board_batches s l (UpOp m) ≡ None) × (s.limit ≤ length s.order → up_fault board_batches s l (UpOp m) ≡ Some LogFull)
IsTakenUnlessFull s l (UpAck n) = up_fault board_batches s l (UpAck n) ≡ None
IsTakenUnlessFull s l (UpPing k) = up_fault board_batches s l (UpPing k) ≡ None

-- nothing is on its way from the site or to it
pub record IsQuiet (m : BoardMoment) : Type 0 where
  pub up : m.at.up ≡ []
  pub down : m.at.down ≡ []
  pub outbox : m.link.outbox ≡ []

-- A site at one moment, which joined under this number when the order had so many entries. Once its link is gone, all this speaks of the link as it would be if nobody had read it since
pub record SiteHolds (board : Windows) (since i : ℕ) (m : BoardMoment) : Type 0 where
  -- it has not stopped, and accepts the oldest message to it
  pub running : m.at.site.stopped ≡ false
  pub accepts : (d : Down BoardBatch) (falling : List (Down BoardBatch)) → m.at.down ≡ d ∷ falling → deliver_fault board_batches d m.at.site ≡ None
  -- only a full order refuses its oldest message
  pub taken : (u : Up BoardBatch) (rising : List (Up BoardBatch)) → m.at.up ≡ u ∷ rising → IsTakenUnlessFull m.star m.link u
  -- it shows what its view of the order makes of the opening board
  pub content : content m.at.site.board ≡ meaning (content board) (view board_batches since i m)
  -- it and the star show in one order the items that both show
  pub one_order : board_batches.t.keeps_order m.at.site.board m.star.board
  -- once nothing is on its way its board is the star's, and the order has each edit that it made, once, in order
  pub equal : IsQuiet m → m.at.site.board ≡ m.star.board
  pub whole : IsQuiet m → own_edits (turns i m.star.order) ≡ m.mine
  -- the edits of which it does not know that the star received them are bounded, and below `answer_after` once nothing is on its way
  pub bounded : length m.at.site.end.outgoing ≤ most_unacknowledged
  pub backlog : IsQuiet m → length m.at.site.end.outgoing < answer_after
  -- if the star has a link under its number, it is the link of the moment
  pub link : (l : LinkState BoardBatch) → link_of i m.star.links ≡ Some l → l ≡ m.link

-- the star has the link
abbrev pub HasLink : ℕ → BoardMoment → Type 0
HasLink i m = link_of i m.star.links ≡ Some m.link

-- from one moment to the next the link is there, or the star drops it as the site leaves or is refused
abbrev pub Remains : ℕ → BoardMoment → BoardMoment → Type 0
Remains i m n = HasLink i n ⊎ (n.star ≡ left i m.star)

-- from one moment to a later one the star keeps the order of its items, and so does the site. A link that is gone stays gone
pub record KeepsOrder (i : ℕ) (m n : BoardMoment) : Type 0 where
  pub star : board_batches.t.keeps_order m.star.board n.star.board
  pub site : board_batches.t.keeps_order m.at.site.board n.at.site.board
  pub gone : link_of i m.star.links ≡ None → link_of i n.star.links ≡ None

-- two sites at one time
pub record AreAtOnce {c : BoardCourse} (one other : BoardMember c) (n k : ℕ) : Type 0 where
  pub time : one.joins + n ≡ other.joins + k
  pub apart : nat_eq (number board_batches one) (number board_batches other) ≡ false

-- they show in one order the items that both show
abbrev pub ShowOneOrder : BoardMoment → BoardMoment → Type 0
ShowOneOrder m n = board_batches.t.keeps_order m.at.site.board n.at.site.board
