-- Runs in threads, and the run of the core that each is.
use Rattle.std.specs.Prelude.{◌≡◌, ℕ, zero, suc, ◌<◌, ◌≤◌, cond, eqb, List, [], ◌∷◌, ◌++◌, drop, Option, None, Result, Ok, Err, map, ◌+◌, length, get_or, Some, slice_index_or, IfOk, true}
use Rattle.jup_app.specs.Prelude.{Command, EditFault, BoardBatch, BoardEdits, Commands, board_batches, Windows, content, meaning, Call, Join, Take, Fetch, Leave, StarReply, Fetched, JoinedReply, Joined, OrderEntry, edit_answer, deliver_fault, BoardSite, opened_site, Happened, BoardAttached, BoardEvent, BoardReply, BoardWorld, with_edit, one_taken, one_handed, opened_world, attached, run, turns, edits, own_edits, HubEvent, View, Hub, Tally, view_of, IsPassOf, most_fetched, SiteEnd, Player, Halt, Job, AllByRecursion, Bor, entry, BeginsWith, longest, Called, Meets, calls_by, tallies, IsLegal, star_through}
use Rattle.jup_batch.specs.Boards.{edit_of}
use Rattle.jup_star.specs.declared.calls.StarReply.TheVariants as reply
use Rattle.jup_star.specs.Stars.{BoardLink}
use Rattle.jup_world.specs.declared.events.Reply.TheVariants.{Made as WasMade, Refused as WasRefused}
use Rattle.jup_world.specs.Events as event
use Rattle.jup_world.specs.Prelude.{Up, Down, opened_star, link_of, BoardStar}

-- The run of the core that a history and one log for each site make.

-- what a site sends up, and what it receives
abbrev pub BoardUp : Type 0
BoardUp = Up BoardBatch

-- and receives
abbrev pub BoardDown : Type 0
BoardDown = Down BoardBatch

-- commands, each of them an edit of its own
abbrev pub singles : List Command → List Commands
singles cs = map (λ c. c ∷ []) cs

-- the answer to an edit's commands: the edit that was made, or the refusal
abbrev pub EditAnswer : Type 0
EditAnswer = Result BoardEdits EditFault

-- a call with its reply
pub record Made : Type 0 where
  pub call : Call
  pub reply : StarReply

-- that of an entry
abbrev pub made : HubEvent → Made
made e = record { call = e.call; reply = e.reply }

-- a step of one site: an edit with its answer, a message that the hub took with its place in the order, or messages
-- and how many were asked for
pub data Step : Type 0 where
  Edited : Commands → EditAnswer → Step
  Took : BoardUp → Option ℕ → Step
  Got : ℕ → List BoardDown → Step

-- the hub calls of a site's log
abbrev pub calls_of : ℕ → List Step → List Made
calls_of i [] = []
calls_of i (Edited c r ∷ log) = calls_of i log
calls_of i (Took u p ∷ log) = record { call = Take i u; reply = reply.Taken (Ok p) } ∷ calls_of i log
calls_of i (Got m ds ∷ log) = record { call = Fetch i m; reply = reply.Fetched (Ok ds) } ∷ calls_of i log

-- the edits of a site's log: the commands, and what they were answered
abbrev pub edits_of : List Step → List (Commands × EditAnswer)
edits_of [] = []
edits_of (Edited c r ∷ log) = (c, r) ∷ edits_of log
edits_of (Took u p ∷ log) = edits_of log
edits_of (Got m ds ∷ log) = edits_of log

-- a site with what it sent, by what a command came to
abbrev pub edit_by : Result BoardBatch EditFault → BoardAttached → BoardAttached
edit_by (Ok op) a = with_edit board_batches op a
edit_by (Err fault) a = a

-- what the command is answered
abbrev pub answer_by : Result BoardBatch EditFault → EditAnswer
answer_by (Ok op) = Ok (edit_of op)
answer_by (Err fault) = Err fault

-- a site after a command
abbrev pub edited : Commands → BoardAttached → BoardAttached
edited c a = edit_by (edit_answer board_batches c a.site) a

-- its answer
abbrev pub answer_to : Commands → BoardAttached → EditAnswer
answer_to c a = answer_by (edit_answer board_batches c a.site)

-- a site after a message
abbrev pub delivered : BoardDown → BoardAttached → BoardAttached
delivered d a = one_handed board_batches d a.down a

-- and after some
abbrev pub all_delivered : List BoardDown → BoardAttached → BoardAttached
all_delivered [] a = a
all_delivered (d ∷ ds) a = all_delivered ds (delivered d a)

-- the site refuses none of them
abbrev pub IsAccepted : BoardDown → BoardAttached → Type 0
IsAccepted d a = deliver_fault board_batches d a.site ≡ None

-- in turn
abbrev pub AcceptsAll : List BoardDown → BoardAttached → Type 0
AcceptsAll [] a = Unit {0}
AcceptsAll (d ∷ ds) a = IsAccepted d a × AcceptsAll ds (delivered d a)

-- the log brings one state of a site to another. Each edit has the site's answer. What is taken is the oldest message on its
-- way up, and what is fetched is delivered in turn
abbrev pub IsPlayed : BoardAttached → List Step → BoardAttached → Type 0
IsPlayed a [] b = a ≡ b
IsPlayed a (Edited c r ∷ log) b = (r ≡ answer_to c a) × IsPlayed (edited c a) log b
IsPlayed a (Took u p ∷ log) b = (a.up ≡ u ∷ drop 1 a.up) × IsPlayed (one_taken board_batches a) log b
IsPlayed a (Got n ds ∷ log) b = (0 < n) × AcceptsAll ds a × IsPlayed (all_delivered ds a) log b

-- the site of a call; 0 for a join
abbrev pub site_of : Call → ℕ
site_of Join = 0
site_of (Take i u) = i
site_of (Fetch i m) = i
site_of (Leave i) = i

-- the calls of one site
abbrev pub made_at : ℕ → List HubEvent → List Made
made_at i [] = []
made_at i (e ∷ h) = cond (eqb (site_of e.call) i) (made e ∷ made_at i h) (made_at i h)

-- as many deliveries as messages
abbrev pub deliveries : ℕ → List BoardDown → List BoardEvent
deliveries i [] = []
deliveries i (d ∷ ds) = event.Down i ∷ deliveries i ds

-- the events of a log through its first hub call: the edits before it, then one message up, or the messages down
abbrev pub through_call : ℕ → List Step → List BoardEvent
through_call i [] = []
through_call i (Edited c r ∷ log) = event.Edit i c ∷ through_call i log
through_call i (Took u p ∷ log) = event.Up i ∷ []
through_call i (Got m ds ∷ log) = deliveries i ds

-- what is left of the log after that call
abbrev pub past_call : List Step → List Step
past_call [] = []
past_call (Edited c r ∷ log) = past_call log
past_call (Took u p ∷ log) = log
past_call (Got m ds ∷ log) = log

-- the logs with another at one number
abbrev pub with_log : {A : Type 0} → ℕ → A → (ℕ → A) → ℕ → A
with_log i x logs j = cond (eqb j i) x (logs j)

-- the edits that are left over, of the first n sites
abbrev pub left_over : ℕ → (ℕ → List Step) → List BoardEvent
left_over zero logs = []
left_over (suc n) logs = left_over n logs ++ through_call (suc n) (logs (suc n))

-- the events of a history of n sites that have joined, with one log for each
abbrev pub assembled : ℕ → (ℕ → List Step) → List HubEvent → List BoardEvent
assembled n logs [] = left_over n logs
assembled n logs (e ∷ h) =
    through_call (site_of e.call) (logs (site_of e.call))
    ++ assembled n (with_log (site_of e.call) (past_call (logs (site_of e.call))) logs) h

-- n sites join
abbrev pub joins : ℕ → List BoardEvent
joins zero = []
joins (suc n) = event.Join ∷ joins n

-- the sites 1 to n
abbrev pub IsSite : ℕ → ℕ → Type 0
IsSite n i = (0 < i) × (i ≤ n)

-- what a site asked and was answered at an event, if it edited there
abbrev pub edit_at : ℕ → BoardEvent → BoardReply → List (Commands × EditAnswer)
edit_at i (event.Edit j c) (WasMade e) = cond (eqb j i) ((c, Ok e) ∷ []) []
edit_at i (event.Edit j c) (WasRefused fault) = cond (eqb j i) ((c, Err fault) ∷ []) []
edit_at i _ _ = []

-- and in a whole trace
abbrev pub edits_at : ℕ → List (Happened Commands BoardBatch BoardEdits EditFault) → List (Commands × EditAnswer)
edits_at i [] = []
edits_at i (h ∷ hs) = edit_at i h.event h.reply ++ edits_at i hs

-- What a pass has done for one site.

-- the calls of entries
abbrev pub makes : List HubEvent → List Made
makes [] = []
makes (e ∷ h) = made e ∷ makes h

-- of calls, those of one site
abbrev pub calls_at : ℕ → List Made → List Made
calls_at i [] = []
calls_at i (m ∷ ms) = cond (eqb (site_of m.call) i) (m ∷ calls_at i ms) (calls_at i ms)

-- a site with what it has still to send up, and nothing on its way down
abbrev pub link_with : BoardSite → List BoardUp → BoardAttached
link_with s up = record { site = s; up = up; down = [] }

-- the first history that the pass has seen begins with this one
pub record HasSeen (h : List HubEvent) (v : View) : Type 0 where
  pub latest : List HubEvent
  pub others : List (List HubEvent)
  pub seen : v.seen ≡ latest ∷ others
  pub begins : BeginsWith latest h

-- the pass has made the calls of these steps, which bring one state of site i to another
pub record Plays (i : ℕ) (v w : View) (l m : BoardAttached) (steps : List Step) : Type 0 where
  pub calls : List HubEvent
  pub made : w.made ≡ v.made ++ calls
  pub are : makes calls ≡ calls_of i steps
  pub number : w.number ≡ v.number
  pub kept : w.kept ≡ v.kept
  pub opening : w.opening ≡ v.opening
  pub later : (h : List HubEvent) → HasSeen h v → HasSeen h w
  pub played : IsPlayed l steps m

-- a pass has taken and fetched for site i, with this count of its calls
pub record Handles (i : ℕ) (v w : View) (before after : ℕ) (l m : BoardAttached) : Type 0 where
  pub steps : List Step
  pub plays : Plays i v w l m steps
  pub no_edits : edits_of steps ≡ []
  pub count : after ≡ before + length plays.calls

-- the messages from place k on bring the site to where all of them bring it
pub record IsDelivering (ds : List BoardDown) (k : ℕ) (start now : BoardAttached) : Type 0 where
  pub left : all_delivered (drop k ds) now ≡ all_delivered ds start
  pub accepts : AcceptsAll (drop k ds) now → AcceptsAll ds start

-- the next call of the pass was a fetch for site i
pub record Fetches (i : ℕ) (v w : View) : Type 0 where
  pub reply : StarReply
  pub later : List HubEvent
  pub made : w.made ≡ v.made ++ entry v.number (Fetch i most_fetched) reply ∷ later

-- The pass met a history. If that was longer than all that it had seen, its next call was such a fetch
pub record CatchesUp (i : ℕ) (v w : View) : Type 0 where
  pub history : List HubEvent
  pub met : Meets v history
  pub fetched : longest v.seen < length history → Fetches i v w

-- a fetch that gave nothing
abbrev pub FoundNothing : ℕ → View → View → Type 0
FoundNothing i v w = Called (Fetch i most_fetched) (Fetched (Ok [])) v w

-- a pass has edited, taken and fetched for site i, with this count of its calls
pub record Works (i : ℕ) (v w : View) (before after : ℕ) (s t : BoardSite) (edits : List (Commands × EditAnswer)) : Type 0 where
  pub steps : List Step
  pub plays : Plays i v w (link_with s []) (link_with t []) steps
  pub edits_are : edits_of steps ≡ edits
  pub count : after ≡ before + length plays.calls

-- the commands of one edit, and what they were answered
pub record Answered (i : ℕ) (v w : View) (before after : ℕ) (s t : BoardSite) (commands : Commands) (old new : List (EditAnswer)) : Type 0 where
  pub reply : EditAnswer
  pub replies : new ≡ old ++ reply ∷ []
  pub works : Works i v w before after s t ((commands, reply) ∷ [])

-- some commands, and what they were answered
pub record Played (i : ℕ) (v w : View) (before after : ℕ) (s t : BoardSite) (script : List Command) (replies : List (EditAnswer)) : Type 0 where
  pub edits : List (Commands × EditAnswer)
  pub commands : map (λ e. e.0) edits ≡ singles script
  pub answers : map (λ e. e.1) edits ≡ replies
  pub works : Works i v w before after s t edits

-- What a pass has done that drains all sites.

-- the numbers of the sites are 1, 2, ..
abbrev pub AreNumbered : List SiteEnd → Type 0
AreNumbered ends = (k : ℕ) (d : SiteEnd) → k < length ends → (get_or ends k d).site.number ≡ suc k

-- a pass has received for the sites, with one log for each
pub record Drained (v w : View) (before after : ℕ) (old new : List SiteEnd) : Type 0 where
  pub logs : ℕ → List Step
  pub calls : List HubEvent
  pub made : w.made ≡ v.made ++ calls
  pub own : AreNumbered old → (i : ℕ) → calls_at i (makes calls) ≡ calls_of i (logs i)
  pub sites : AreNumbered old → AllByRecursion (λ (e : HubEvent). IsSite (length old) (site_of e.call)) calls
  pub no_edits : (i : ℕ) → edits_of (logs i) ≡ []
  pub number : w.number ≡ v.number
  pub kept : w.kept ≡ v.kept
  pub opening : w.opening ≡ v.opening
  pub later : (h : List HubEvent) → HasSeen h v → HasSeen h w
  pub count : after ≡ before + length calls
  pub long : length new ≡ length old
  pub played : (k : ℕ) (d : SiteEnd) → k < length old → IsPlayed (link_with (get_or old k d).site []) (logs (suc k)) (link_with (get_or new k d).site [])
  pub numbers : (k : ℕ) (d : SiteEnd) → k < length old → (get_or new k d).site.number ≡ (get_or old k d).site.number
  pub replies : (k : ℕ) (d : SiteEnd) → k < length old → (get_or new k d).replies ≡ (get_or old k d).replies

-- fetches that gave nothing, of the first n sites in turn
abbrev pub empty_fetches : ℕ → List Made
empty_fetches zero = []
empty_fetches (suc n) = empty_fetches n ++ record { call = Fetch (suc n) most_fetched; reply = Fetched (Ok []) } ∷ []

-- the last calls of a pass are such fetches
pub record EndsQuiet (ends : List SiteEnd) (n : ℕ) (v w : View) : Type 0 where
  pub empties : List HubEvent
  pub made : w.made ≡ v.made ++ empties
  pub are : AreNumbered ends → makes empties ≡ empty_fetches n

-- all sites are drained: a last fetch for each gave nothing
pub record IsDrained (v w : View) (before after : ℕ) (old new : List SiteEnd) : Type 0 where
  pub drained : Drained v w before after old new
  pub earlier : List HubEvent
  pub empties : List HubEvent
  pub calls : drained.calls ≡ earlier ++ empties
  pub are : AreNumbered old → makes empties ≡ empty_fetches (length old)

-- What the first pass of a run knows before and after the sites' threads.

-- what a new site got as it joined
abbrev pub told_to : BoardSite → Joined
told_to s = record { site = s.number; limit = s.limit; board = s.board }

-- a site is as it was opened
abbrev pub IsFresh : BoardSite → Type 0
IsFresh s = s ≡ opened_site s.number s.limit s.board

-- the join of a site
abbrev pub joined_call : BoardSite → Made
joined_call s = record { call = Join; reply = JoinedReply (Ok (told_to s)) }

-- the pass has seen this one history
pub record HasMet (v : View) (history : List HubEvent) : Type 0 where
  pub seen : v.seen ≡ history ∷ []
  pub meets : Meets v history

-- the pass has joined these sites, and made no other call
pub record HasJoinedAll (v : View) (calls : ℕ) (sites : List BoardSite) : Type 0 where
  pub history : List HubEvent
  pub met : HasMet v history
  pub made : makes v.made ≡ map joined_call sites
  pub fresh : AllByRecursion IsFresh sites
  pub kept : v.kept ≡ []
  pub count : calls ≡ length v.made

-- what is left of a view if another was split from it
pub record IsSame (v w : View) : Type 0 where
  pub number : w.number ≡ v.number
  pub seen : w.seen ≡ v.seen
  pub made : w.made ≡ v.made
  pub kept : w.kept ≡ v.kept
  pub opening : w.opening ≡ v.opening

-- a player with a pass that has made nothing, and has no call in this history
pub record IsSeated (hub : Hub) (history : List HubEvent) (site : BoardSite) (p : Player) : Type 0 where
  pub pass : IsPassOf hub p.caller.pass
  pub number_is : p.number ≡ site.number
  pub site_is : p.site ≡ site
  pub fresh : p.replies.items ≡ []
  pub count : p.caller.calls ≡ 0
  pub made : (view_of p.caller.pass).made ≡ []
  pub kept : (view_of p.caller.pass).kept ≡ []
  pub not_yet : calls_by (view_of p.caller.pass).number history ≡ []

-- what is left of a player
abbrev pub end_of : Player → SiteEnd
end_of p = record { site = p.site; replies = p.replies }

-- why the first that was stopped was stopped
abbrev pub first_stop : List (Result Player Halt) → Option Halt
first_stop [] = None
first_stop (Ok player ∷ results) = first_stop results
first_stop (Err stop ∷ results) = Some stop

-- the tallies of players
abbrev pub all_tallies : List Player → List Tally
all_tallies [] = []
all_tallies (p ∷ ps) = tallies (view_of p.caller.pass) ++ all_tallies ps

-- and how many calls they made
abbrev pub all_calls : List Player → ℕ
all_calls [] = 0
all_calls (p ∷ ps) = p.caller.calls + all_calls ps

-- the passes of these players were taken in
pub record HasTaken (v w : View) (before after : ℕ) (results : List (Result Player Halt)) (ends : List SiteEnd) : Type 0 where
  pub players : List Player
  pub all_ok : results ≡ map (λ p. Ok p) players
  pub ends_are : ends ≡ map end_of players
  pub kept : w.kept ≡ v.kept ++ all_tallies players
  pub others : List (List HubEvent)
  pub seen : w.seen ≡ v.seen ++ others
  pub made : w.made ≡ v.made
  pub number : w.number ≡ v.number
  pub opening : w.opening ≡ v.opening
  pub count : after ≡ before + all_calls players

-- Each site with its player and its script.

-- a seated player with its script
pub record IsJob (hub : Hub) (history : List HubEvent) (site : BoardSite) (script : List Command) (job : Job) : Type 0 where
  pub seated : IsSeated hub history site job.player
  pub script_is : job.script.now ≡ script

-- the default, for a list of sites that has none
abbrev pub no_site : BoardSite
no_site = opened_site 0 0 []

-- the jobs are those of these sites and scripts, in order
abbrev pub AreJobs : Hub → List HubEvent → List BoardSite → List (Bor (List Command)) → List Job → Type 0
AreJobs hub history sites scripts jobs =
    (k : ℕ) (d : Job) (s : Bor (List Command)) → k < length jobs → IsJob hub history (get_or sites k no_site) (get_or scripts k s).now (get_or jobs k d)

-- What a site's thread is given, and what it gives back.

-- a player of this hub, with no reply yet
pub record IsReady (hub : Hub) (job : Job) : Type 0 where
  pub pass : IsPassOf hub job.player.caller.pass
  pub fresh : job.player.replies.items ≡ []

-- the player has played the script of the job
pub record Ran (hub : Hub) (job : Job) (p : Player) : Type 0 where
  pub pass : IsPassOf hub p.caller.pass
  pub number : p.number ≡ job.player.number
  pub played : Played job.player.number (view_of job.player.caller.pass) (view_of p.caller.pass) job.player.caller.calls p.caller.calls job.player.site p.site job.script.now p.replies.items

-- each player that comes back has played the script of its job
abbrev pub AllRan : Hub → List Job → List (Result Player Halt) → Type 0
AllRan hub jobs results = (k : ℕ) (job : Job) (r : Result Player Halt) → k < length jobs → job ≡ slice_index_or jobs k job → r ≡ slice_index_or results k r → IfOk r (λ p. Ran hub job p)

-- The outcome of a whole run.

-- the world that n sites, a history after their joins and one log for each site make
abbrev pub assembled_world : Windows → ℕ → ℕ → (ℕ → List Step) → List HubEvent → BoardWorld
assembled_world board limit n logs later = run board_batches (opened_world board_batches board limit) (joins n ++ assembled n logs later)

-- There is a legal history, and one log for each script. The run of the core that they make has these replies, this star
-- and these sites, and no message on its way
pub record IsRunOf (board : Windows) (limit n : ℕ) (scripts : List (List Command)) (star : BoardStar) (ends : List SiteEnd) : Type 0 where
  -- the joins, the calls after them, and the log of each site
  pub joined : List HubEvent
  pub later : List HubEvent
  pub logs : ℕ → List Step
  -- the history is legal, from a new star to the one that is given
  pub legal : IsLegal (opened_star board limit) (joined ++ later)
  pub after : star_through (opened_star board limit) (joined ++ later) ≡ star
  -- each site joins once, and then come calls of the sites alone: those of their logs
  pub all_join : AllByRecursion (λ (e : HubEvent). e.call ≡ Join) joined
  pub as_many : length joined ≡ n
  pub sited : AllByRecursion (λ (e : HubEvent). IsSite n (site_of e.call)) later
  pub own : (i : ℕ) → IsSite n i → calls_of i (logs i) ≡ made_at i later
  -- the assembled run ends with this star and these sites, and nothing in their streams
  pub star_is : (assembled_world board limit n logs later).star ≡ star
  pub count : length ends ≡ n
  pub sites : (k : ℕ) (d : SiteEnd) → k < n → attached (suc k) (assembled_world board limit n logs later).sites ≡ Some (link_with (get_or ends k d).site [])
  -- the edits of each site are the commands of its script in order, each an edit, with the replies that are given
  pub edits : (k : ℕ) → k < n → edits_at (suc k) (assembled_world board limit n logs later).trace ≡ edits_of (logs (suc k))
  pub commands : (k : ℕ) → k < n → map (λ e. e.0) (edits_of (logs (suc k))) ≡ singles (get_or scripts k [])
  pub replies : (k : ℕ) (d : SiteEnd) → k < n → map (λ e. e.1) (edits_of (logs (suc k))) ≡ (get_or ends k d).replies.items
  -- and nothing waits for any of them
  pub quiet : (k : ℕ) (l : BoardLink) → k < n → link_of (suc k) star.links ≡ Some l → l.outbox ≡ []

-- one site for each script
abbrev pub IsRun : Windows → ℕ → List (List Command) → BoardStar → List SiteEnd → Type 0
IsRun board limit scripts star ends = IsRunOf board limit (length scripts) scripts star ends

-- the edits that were made
abbrev pub accepted : List (EditAnswer) → List BoardEdits
accepted [] = []
accepted (Ok e ∷ rs) = e ∷ accepted rs
accepted (Err f ∷ rs) = accepted rs

-- At the end of a run on a board:
pub record AllAgree (board : Windows) (star : BoardStar) (ends : List SiteEnd) : Type 0 where
  -- the star keeps its order
  pub keeps : star.keeps ≡ true
  -- all sites show the star's board
  pub equal : (k : ℕ) (d : SiteEnd) → k < length ends → (get_or ends k d).site.board ≡ star.board
  -- it shows what the edits of the order make of the board, each item that was inserted and not deleted, each last setting
  pub content : content star.board ≡ meaning (content board) (edits (turns 0 star.order))
  -- the order has each site's accepted edits once, in the order of its script
  pub own : (k : ℕ) (d : SiteEnd) → k < length ends → own_edits (turns (suc k) star.order) ≡ accepted (get_or ends k d).replies.items
  -- and nothing else
  pub no_other : AllByRecursion (λ (e : OrderEntry BoardEdits). IsSite (length ends) e.site) star.order
