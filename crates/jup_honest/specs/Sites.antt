-- A site of a hub: its steps, its runs, and what it relies on.
use Rattle.std.specs.Prelude.{◌≡◌, ℕ, Bool, ◌≤◌, cond, nat_eq, List, [], ◌∷◌, ◌++◌, length, option_to_list, Option, Result, Ok, Err, ◌⊎◌, suc, ◌+◌, ◌<◌, false, take, drop, Some, None}
use Rattle.jup_honest.specs.Prelude.{BoardBatch, Commands, Windows, BoardEdits, content, meaning, board_batches, Up, UpPing, UpOp, UpAck, Down, Joined, Call, Join, Take, Fetch, Leave, StarReply, Fetched, JoinedReply, Taken, DownOp, DownAck, DownPong, LogFull, ups, IsOpening, HubEvent, entry, star_through, IsLegal}
use Rattle.jup_star.specs.declared.site.Made.{Made}
use Rattle.jup_star.specs.Sites.{edit_reply, site_edited, deliver_reply, site_delivered}
use Rattle.jup_star.specs.Stars.{star_after, BoardLink, reply_of}
use Rattle.jup_site.specs.Turns.{Turn, turns, edits, own_edits}
use Rattle.jup_site.specs.Sound.{edits_sent, edits_in, told_of}
use Rattle.jup_site.specs.Prelude.{highest_limit, answer_after, most_unacknowledged, SiteFault, opened_site, BoardSite, sent_back, BoardStar, new_star, link_of, EditFault}

-- A site and the hub that it joined: what may happen at either, what passed between them, and when the link is reliable.

-- A step: the site makes one edit of commands, or refuses them; it receives a message; it sends a ping; or anyone calls the hub.
-- A call of the site that is refused because an allocation failed changes nothing, and is no step
pub data Step : Type 0 where
  Edit : Commands → Step
  Deliver : Down BoardBatch → Step
  Ping : ℕ → Step
  Called : HubEvent → Step

-- the calls among the steps: a history
abbrev pub history : List Step → List HubEvent
history [] = []
history (Edit commands ∷ steps) = history steps
history (Deliver down ∷ steps) = history steps
history (Ping k ∷ steps) = history steps
history (Called e ∷ steps) = e ∷ history steps

-- Both ends and what passed between them. It has the number of the site, and how many entries the order had as it joined; then the hub's
-- star, and the site. It has the messages that the site sent, and those that the star took or refused; then those fetched for the site,
-- and those delivered to it
pub record Connection : Type 0 where
  pub number : ℕ
  pub since : ℕ
  pub star : BoardStar
  pub site : BoardSite
  pub sent : List (Up BoardBatch)
  pub taken : List (Up BoardBatch)
  pub fetched : List (Down BoardBatch)
  pub handed : List (Down BoardBatch)

-- what a site sends as it edits: the message of its edit, if it is not refused
abbrev pub sent_as_made : Result Made EditFault → List (Up BoardBatch)
sent_as_made (Ok made) = made.up ∷ []
sent_as_made (Err fault) = []

-- and as it receives a message: what it owes
abbrev pub sent_as_handed : Result (Option (Up BoardBatch)) SiteFault → List (Up BoardBatch)
sent_as_handed (Ok owed) = option_to_list owed
sent_as_handed (Err fault) = []

-- a call to take brings a message of its site to the star, which takes or refuses it
abbrev pub taken_with : ℕ → Call → List (Up BoardBatch) → List (Up BoardBatch)
taken_with i Join ups = ups
taken_with i (Take j up) ups = cond (nat_eq j i) (ups ++ up ∷ []) ups
taken_with i (Fetch j max) ups = ups
taken_with i (Leave j) ups = ups

-- the messages of a fetch: none if it is refused
abbrev pub fetched_in : StarReply → List (Down BoardBatch)
fetched_in (Fetched (Ok downs)) = downs
fetched_in reply = []

-- those are on their way to its site
abbrev pub fetched_with : ℕ → Call → StarReply → List (Down BoardBatch) → List (Down BoardBatch)
fetched_with i Join reply downs = downs
fetched_with i (Take j up) reply downs = downs
fetched_with i (Fetch j max) reply downs = cond (nat_eq j i) (downs ++ fetched_in reply) downs
fetched_with i (Leave j) reply downs = downs

-- the messages of a site that a history brings to the star, and those that it fetches for the site, in order
abbrev pub takes_of : ℕ → List HubEvent → List (Up BoardBatch)
takes_of i [] = []
takes_of i (e ∷ es) = taken_with i e.call [] ++ takes_of i es

abbrev pub fetches_of : ℕ → List HubEvent → List (Down BoardBatch)
fetches_of i [] = []
fetches_of i (e ∷ es) = fetched_with i e.call e.reply [] ++ fetches_of i es

-- both ends after a step
abbrev pub after : Step → Connection → Connection
after (Edit commands) c = record c { site = site_edited commands c.site; sent = c.sent ++ sent_as_made (edit_reply commands c.site) }
after (Deliver down) c =
    record c { site = site_delivered down c.site; sent = c.sent ++ sent_as_handed (deliver_reply down c.site); handed = c.handed ++ down ∷ [] }
after (Ping k) c = record c { sent = c.sent ++ UpPing k ∷ [] }
after (Called e) c =
    record c { star = star_after e.call c.star; taken = taken_with c.number e.call c.taken; fetched = fetched_with c.number e.call e.reply c.fetched }

-- and after several
abbrev pub through : List Step → Connection → Connection
through [] c = c
through (step ∷ steps) c = through steps (after step c)

-- the site opens with the answer to its join, which the star gave as it was then; nothing was sent yet
abbrev pub new_connection : BoardStar → Joined → Connection
new_connection star answer = record {
  number = answer.site;
  since = length star.order;
  star = star_after Join star;
  site = opened_site answer.site answer.limit answer.board;
  sent = [];
  taken = [];
  fetched = [];
  handed = [];
}

-- a list begins with another
abbrev pub Begins : {A : Type 0} → List A → List A → Type 0
Begins all first = (rest : List _) × (all ≡ first ++ rest)

-- The link loses nothing, adds nothing and keeps order. What has come to the star is the beginning of what the site sent. What was
-- delivered to the site is the beginning of what was fetched for it. A site on such a link is honest
pub record IsReliable (c : Connection) : Type 0 where
  pub up : Begins c.sent c.taken
  pub down : Begins c.fetched c.handed

-- at each moment
abbrev pub IsReliableThrough : List Step → Connection → Type 0
IsReliableThrough [] c = IsReliable c
IsReliableThrough (step ∷ steps) c = IsReliable c × IsReliableThrough steps (after step c)

-- Nothing comes before it was sent: the star was brought no more messages than the site had sent, and the site received no more than
-- were fetched for it. Only numbers are compared, so this says when messages came, and not which
pub record IsCausal (c : Connection) : Type 0 where
  pub up : length c.taken ≤ length c.sent
  pub down : length c.handed ≤ length c.fetched

-- at each moment
abbrev pub IsCausalThrough : List Step → Connection → Type 0
IsCausalThrough [] c = IsCausal c
IsCausalThrough (step ∷ steps) c = IsCausal c × IsCausalThrough steps (after step c)

-- The run of a site at a hub: a history of the hub in which the site joined, and what the site did meanwhile.

-- what the hub's star was opened with, whether it keeps its order, and the calls before the site joined. Then the number under which
-- it was joined, the answer with which the site was opened, and all steps since
pub record SiteRun : Type 0 where
  pub board : Windows
  pub limit : ℕ
  pub keeps : Bool
  pub before : List HubEvent
  pub by : List ℕ
  pub answer : Joined
  pub steps : List Step

-- the star as it was opened
abbrev pub opening : SiteRun → BoardStar
opening run = new_star run.keeps run.board run.limit

-- the whole history
abbrev pub calls : SiteRun → List HubEvent
calls run = run.before ++ entry run.by Join (JoinedReply (Ok run.answer)) ∷ history run.steps

-- both ends at the join, and now
abbrev pub start : SiteRun → Connection
start run = new_connection (star_through (opening run) run.before) run.answer

abbrev pub now : SiteRun → Connection
now run = through run.steps (start run)

-- The history is legal, no matter who made its calls, and begins with a star opened on a board that it may be opened with. The
-- link of the site loses nothing and keeps the order
pub record IsHonest (run : SiteRun) : Type 0 where
  pub opens : IsOpening run.board
  pub limited : run.limit ≤ highest_limit
  pub legal : IsLegal (opening run) (calls run)
  pub reliable : IsReliableThrough run.steps (start run)

-- the run with further steps
abbrev pub longer : SiteRun → List Step → SiteRun
longer run steps = record run { steps = run.steps ++ steps }

-- star and messages are those of the history: its star, the messages of its takes, and those that its fetches answered
pub record IsOfHistory (run : SiteRun) : Type 0 where
  pub star : (now run).star ≡ star_through (opening run) (calls run)
  pub taken : (now run).taken ≡ takes_of run.answer.site (history run.steps)
  pub fetched : (now run).fetched ≡ fetches_of run.answer.site (history run.steps)

-- What an honest site of a running hub relies on, whatever all others send.

-- how many edits of others are among messages down
abbrev pub edits_among : List (Down BoardBatch) → ℕ
edits_among [] = 0
edits_among (DownOp m ∷ ds) = suc (edits_among ds)
edits_among (DownAck n ∷ ds) = edits_among ds
edits_among (DownPong k ∷ ds) = edits_among ds

-- the edits that the site made, as its messages bear them
abbrev pub made : Connection → List BoardEdits
made c = edits_sent board_batches (ups c.sent)

-- the star's order as the site sees it
abbrev pub order_of : Connection → List (Turn BoardEdits)
order_of c = turns c.number c.star.order

-- the entries that have reached it: up to the last of others that was delivered to it, or those before it joined
abbrev pub told : Connection → List (Turn BoardEdits)
told c = take (told_of board_batches c.since (edits_among c.handed) (order_of c)) (order_of c)

-- what it should show: these, and then its own edits that are not among them
abbrev pub view : Connection → List BoardEdits
view c = edits (told c) ++ drop (length (own_edits (told c))) (made c)

-- nothing is on its way: the star was brought all that the site sent, and all that the star sent it was fetched and delivered to it
pub record IsDrained (c : Connection) (l : BoardLink) : Type 0 where
  pub up : c.taken ≡ c.sent
  pub down : c.handed ≡ c.fetched
  pub outbox : l.outbox ≡ []

-- a message is taken, and an edit gets the next place in the order; only a full order refuses it
abbrev pub IsTakenUnlessFull : BoardStar → Up BoardBatch → StarReply → Type 0
IsTakenUnlessFull s (UpOp m) r =
    (length s.order < s.limit → r ≡ Taken (Ok (Some (length s.order)))) × (s.limit ≤ length s.order → r ≡ Taken (Err LogFull))
IsTakenUnlessFull s (UpAck n) r = r ≡ Taken (Ok None)
IsTakenUnlessFull s (UpPing k) r = r ≡ Taken (Ok None)

-- a message that is delivered to it is accepted, and answered with what the site owes for it
abbrev pub IsAccepted : Connection → Down BoardBatch → Type 0
IsAccepted c down = deliver_reply down c.site ≡ Ok (sent_back board_batches down c.site)

-- Whether the site has its link or not:
pub record SitePromises (board : Windows) (c : Connection) : Type 0 where
  -- it has not stopped
  pub running : c.site.stopped ≡ false
  -- it accepts the next message to it
  pub accepts : (down : Down BoardBatch) (rest : List (Down BoardBatch)) → c.fetched ≡ c.handed ++ down ∷ rest → IsAccepted c down
  -- its content is what its view of the star's order makes of the opening board
  pub content : content c.site.board ≡ meaning (content board) (view c)

-- While it has its link:
pub record LinkPromises (c : Connection) (l : BoardLink) : Type 0 where
  -- the star takes its next message, and only a full order refuses it
  pub taken : (up : Up BoardBatch) (rest : List (Up BoardBatch)) → c.sent ≡ c.taken ++ up ∷ rest
      → IsTakenUnlessFull c.star up (reply_of (Take c.number up) c.star)
  -- at this moment the site and the star show in one order the items that both show
  pub one_order : board_batches.t.keeps_order c.site.board c.star.board
  -- once nothing is on its way its board is the star's, and the order has each edit that it made, once, in order
  pub equal : IsDrained c l → c.site.board ≡ c.star.board
  pub whole : IsDrained c l → own_edits (order_of c) ≡ made c

-- A site that has its link: its backlog is the edits that it made, less those that it knows the star received. It is bounded, and
-- below `answer_after` once nothing is on its way
pub record IsBacklogShort (c : Connection) (l : BoardLink) : Type 0 where
  pub backlog : c.site.made ≡ c.site.end.acknowledged + length c.site.end.outgoing
  pub bounded : length c.site.end.outgoing ≤ most_unacknowledged
  pub drained : IsDrained c l → length c.site.end.outgoing < answer_after

-- the star shows what its order makes of the opening board
abbrev pub StarShows : Windows → Connection → Type 0
StarShows board c = content c.star.board ≡ meaning (content board) (edits_in board_batches c.star.order)

-- the site has its link
abbrev pub IsAttached : Connection → BoardLink → Type 0
IsAttached c l = link_of c.number c.star.links ≡ Some l

-- from one moment to a later one the star keeps the order of its items, and so does the site
pub record KeepsOrder (earlier later : Connection) : Type 0 where
  pub star : board_batches.t.keeps_order earlier.star.board later.star.board
  pub site : board_batches.t.keeps_order earlier.site.board later.site.board

-- the calls that take its link away: one to leave for it, and one to take its edit that a full order refuses
abbrev pub IsDetachedBy : Connection → Call → StarReply → Type 0
IsDetachedBy c Join r = ⊥
IsDetachedBy c (Take j up) r = (j ≡ c.number) × (r ≡ Taken (Err LogFull))
IsDetachedBy c (Fetch j max) r = ⊥
IsDetachedBy c (Leave j) r = j ≡ c.number

-- a call is one of these, or the site has a link after it
abbrev pub Remains : Connection → HubEvent → Type 0
Remains c e = IsDetachedBy c e.call e.reply ⊎ ((k : BoardLink) × IsAttached (after (Called e) c) k)

-- while it has its link, a call to take its message is answered so
abbrev pub IsAnsweredWell : Connection → Call → StarReply → Type 0
IsAnsweredWell c Join r = Unit {0}
IsAnsweredWell c (Take j up) r = j ≡ c.number → IsTakenUnlessFull c.star up r
IsAnsweredWell c (Fetch j max) r = Unit {0}
IsAnsweredWell c (Leave j) r = Unit {0}

-- what comes of a step: each message that it receives is accepted, and as long as it has its link only a full order refuses what it
-- sends
abbrev pub GoesWell : Step → Connection → Type 0
GoesWell (Edit commands) c = Unit {0}
GoesWell (Deliver down) c = IsAccepted c down
GoesWell (Ping k) c = Unit {0}
GoesWell (Called e) c = (l : BoardLink) → IsAttached c l → IsAnsweredWell c e.call e.reply

-- of each of some steps
abbrev pub AllGoesWell : List Step → Connection → Type 0
AllGoesWell [] c = Unit {0}
AllGoesWell (step ∷ steps) c = GoesWell step c × AllGoesWell steps (after step c)

-- two sites at one hub that have their links and are drained
pub record AreDrained (run other : SiteRun) : Type 0 where
  pub board : run.board ≡ other.board
  pub limit : run.limit ≡ other.limit
  pub keeps : run.keeps ≡ other.keeps
  pub calls : calls run ≡ calls other
  pub one : BoardLink
  pub one_attached : IsAttached (now run) one
  pub one_drained : IsDrained (now run) one
  pub two : BoardLink
  pub two_attached : IsAttached (now other) two
  pub two_drained : IsDrained (now other) two

-- two sites of one hub, at moments at which the same calls were made: whether they have their links or not, and whatever is on its way
pub record AreOfOneHub (run other : SiteRun) : Type 0 where
  pub board : run.board ≡ other.board
  pub limit : run.limit ≡ other.limit
  pub keeps : run.keeps ≡ other.keeps
  pub calls : calls run ≡ calls other
  pub apart : nat_eq run.answer.site other.answer.site ≡ false

-- they show in one order the items that both show
abbrev pub ShowOneOrder : SiteRun → SiteRun → Type 0
ShowOneOrder run other = board_batches.t.keeps_order (now run).site.board (now other).site.board
