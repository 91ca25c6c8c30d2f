-- What a session hears, writes and asks of its hub.
use Rattle.std.specs.Prelude.{◌≡◌, ◌<◌, ◌≤◌, ◌+◌, max, min, ℕ, ◌⊎◌, List, [], ◌∷◌, ◌++◌, length, Ok, Err, Option, Some, None, Result, ◌≢◌, IsSomeAnd, Bool, IsTrue}
use Rattle.jup_session.specs.Prelude.{BoardBatch, NoLink, Call, Join, Take, Fetch, Leave, StarReply, JoinedReply, Fetched, Taken, Left, Joined, Down, Up, BoardStar, Line, board_lines, HubEvent, Tally, View, HubFault, Made, Ending, SessionFault, Hub, Stream, StreamFault, NoMemory, ReadsSpent, WriteFailed, Incoming, Said, SaysUp, SaysBye, Stop, ending_of, last_line, down_lines, outcome, HasHeard, Leads, Keeper, Put, PutsLines, Sourced, HandsOn, Stops, Untaken, AllByRecursion, flat_map, most_fetched, FarBehind}
use Rattle.jup_wire.specs.declared.line.Line.TheVariants as line
use Rattle.jup_faults.specs.Faults.{fault_number}
use Rattle.jup_faults.specs.declared.table.Fault.TheVariants.{EarlyEnd}
use Rattle.jup_hub.specs.Histories.{IsLegal, calls_by, tally, Called}
use Rattle.jup_rules.specs.declared.session.Awaits.TheVariants.{Gate, Pongs}
use Rattle.jup_rules.specs.declared.ends.Ending.TheVariants.{Gone, Fault as EndsByFault}
use Rattle.jup_rules.specs.declared.session.Next.TheVariants.{Take as NextTake, End as NextEnd}
use Rattle.jup_rules.specs.Ends.{ended_untaken}
use Rattle.jup_rules.specs.declared.ends.Untaken.TheVariants as untaken
use Rattle.jup_limits.specs.Limits.{most_behind}
use Rattle.jup_hub.specs.declared.fault.HubFault.TheVariants.{Star}
use Rattle.jup_rules.specs.Prelude.{UpAck as Ack, DownOp, DownAck, DownPong}
use Rattle.jup_stream.specs.declared.faults.Stop.TheVariants.{End, Fault}

-- What a session calls of its hub.

-- a call for this site
abbrev pub IsCallFor : ℕ → Call → Type 0
IsCallFor site Join = ⊥
IsCallFor site (Take i up) = i ≡ site
IsCallFor site (Fetch i max) = i ≡ site
IsCallFor site (Leave i) = i ≡ site

-- each of these is one
abbrev pub AreCallsFor : ℕ → List HubEvent → Type 0
AreCallsFor site calls = AllByRecursion (λ e. IsCallFor site e.call) calls

-- under each number are such calls alone
abbrev pub AreTalliesFor : ℕ → List Tally → Type 0
AreTalliesFor site others = AllByRecursion (λ t. AreCallsFor site t.calls) others

-- a departure, or an answer that the site has no link
abbrev pub TellsGone : Call → StarReply → Type 0
TellsGone (Leave i) reply = Unit {0}
TellsGone (Fetch i max) (Fetched (Err NoLink)) = Unit {0}
TellsGone call reply = ⊥

-- one of these calls is that
abbrev pub HasLeft : List HubEvent → Type 0
HasLeft [] = ⊥
HasLeft (e ∷ es) = TellsGone e.call e.reply ⊎ HasLeft es

-- some legal history in which just these calls are under a number is as long as a count can be. One that long is always conceivable, since others may
-- call as often as they like. So the clause that a site has left, which allows for one, is no promise, and tests show it
abbrev pub IsFull : BoardStar → Tally → Type 0
IsFull opening t = (log : List HubEvent) × IsLegal opening log × (calls_by t.number log ≡ t.calls) × (length log ≡ 18446744073709551615)

-- the calls under one of these numbers say that the site has left, or there is such a history
abbrev pub SomeLeft : BoardStar → List Tally → Type 0
SomeLeft opening [] = ⊥
SomeLeft opening (t ∷ ts) = HasLeft t.calls ⊎ IsFull opening t ⊎ SomeLeft opening ts

-- what follows a join, where w is the pass at the end. If the join was refused, nothing follows; otherwise calls for the site that joined alone. That it has left is
-- claimed only up to `IsFull`
abbrev pub FollowsJoin : View → Call → StarReply → List HubEvent → List Tally → Type 0
FollowsJoin w Join (JoinedReply (Ok joined)) later others =
    AreCallsFor joined.site later × AreTalliesFor joined.site others
    × (HasLeft later ⊎ IsFull w.opening (tally w.number w.made) ⊎ SomeLeft w.opening others)
FollowsJoin w Join (JoinedReply (Err fault)) later others = (later ≡ []) × (others ≡ [])
FollowsJoin w call reply later others = ⊥

-- the first call of a session is a join
abbrev pub IsOneSite : View → List HubEvent → List Tally → Type 0
IsOneSite w [] others = others ≡ []
IsOneSite w (first ∷ later) others = FollowsJoin w first.call first.reply later others

-- A session from the pass v to the pass w. It adds calls under the pass's own number, and under those that it took in: at most one join, and then
-- calls for the site that joined alone. That this site has left is claimed only up to a history as long as a count can be (`IsFull`)
pub record IsSession (v w : View) : Type 0 where
  pub calls : List HubEvent
  pub others : List Tally
  pub number : w.number ≡ v.number
  pub made : w.made ≡ v.made ++ calls
  pub kept : w.kept ≡ v.kept ++ others
  pub one_site : IsOneSite w calls others

-- the pass made calls of one kind alone, and took in no other
pub record Makes (IsOne : Call → Type 0) (v w : View) : Type 0 where
  pub calls : List HubEvent
  pub number : w.number ≡ v.number
  pub made : w.made ≡ v.made ++ calls
  pub kept : w.kept ≡ v.kept
  pub alone : AllByRecursion (λ e. IsOne e.call) calls

-- calls for a site
abbrev pub Serves : ℕ → View → View → Type 0
Serves site v w = Makes (IsCallFor site) v w

-- calls for a site, until it had left, up to `IsFull`
pub record Leaves (site : ℕ) (v w : View) : Type 0 where
  pub calls : List HubEvent
  pub number : w.number ≡ v.number
  pub made : w.made ≡ v.made ++ calls
  pub kept : w.kept ≡ v.kept
  pub alone : AreCallsFor site calls
  pub left : HasLeft calls ⊎ IsFull w.opening (tally w.number w.made)

-- the pass has made no call yet, and took in no other
abbrev pub HasMadeNone : View → Type 0
HasMadeNone v = (v.made ≡ []) × (v.kept ≡ [])

-- all that the pass has made are calls for a site, until that had left, up to `IsFull`
pub record HasServed (site : ℕ) (v : View) : Type 0 where
  pub alone : AreCallsFor site v.made
  pub kept : v.kept ≡ []
  pub left : HasLeft v.made ⊎ IsFull v.opening (tally v.number v.made)

-- the join of a site
abbrev pub IsJoinOf : ℕ → Call → StarReply → Type 0
IsJoinOf site Join (JoinedReply (Ok joined)) = joined.site ≡ site
IsJoinOf site call reply = ⊥

-- the pass has joined a site
pub record Joins (site : ℕ) (v w : View) : Type 0 where
  pub join : HubEvent
  pub number : w.number ≡ v.number
  pub made : w.made ≡ v.made ++ join ∷ []
  pub kept : w.kept ≡ v.kept
  pub is_join : IsJoinOf site join.call join.reply

-- the pass served a site, and took in another that did so until the site had left, up to `IsFull`
pub record BothServe (site : ℕ) (v w : View) : Type 0 where
  pub calls : List HubEvent
  pub other : Tally
  pub number : w.number ≡ v.number
  pub made : w.made ≡ v.made ++ calls
  pub kept : w.kept ≡ v.kept ++ other ∷ []
  pub alone : AreCallsFor site calls
  pub other_alone : AreCallsFor site other.calls
  pub left : HasLeft other.calls ⊎ IsFull w.opening other

-- How a site leaves its hub.

-- the messages that a reply brings
abbrev pub brought : StarReply → List (Down BoardBatch)
brought (Fetched (Ok downs)) = downs
brought reply = []

-- how many messages a site has received once it received these, by the numbers of the edits among them
abbrev pub received_with : List (Down BoardBatch) → ℕ
received_with [] = 0
received_with (DownOp msg ∷ downs) = max (msg.mine + 1) (received_with downs)
received_with (DownAck count ∷ downs) = received_with downs
received_with (DownPong number ∷ downs) = received_with downs

-- a fetch for the site, or an acknowledgement in its place of messages that were fetched
abbrev pub GivesBackBy : ℕ → ℕ → Call → Type 0
GivesBackBy site received (Fetch i max) = (i ≡ site) × (max ≡ most_fetched)
GivesBackBy site received (Take i (Ack count)) = (i ≡ site) × (count ≤ received)
GivesBackBy site received call = ⊥

-- Messages that wait for the site are fetched, of which nothing is written. No message is acknowledged in its place that was not fetched here before
abbrev pub GivesBack : ℕ → ℕ → List HubEvent → Type 0
GivesBack site received [] = Unit {0}
GivesBack site received (e ∷ es) = GivesBackBy site received e.call × GivesBack site (max received (received_with (brought e.reply))) es

-- the pass made such calls, and no other
pub record Returns (site received : ℕ) (v w : View) : Type 0 where
  pub calls : List HubEvent
  pub number : w.number ≡ v.number
  pub made : w.made ≡ v.made ++ calls
  pub kept : w.kept ≡ v.kept
  pub gives : GivesBack site received calls

-- the site leaves
abbrev pub IsLeaveOf : ℕ → Call → Type 0
IsLeaveOf site (Leave i) = i ≡ site
IsLeaveOf site call = ⊥

-- the count of these messages as an acknowledgement says it
abbrev pub said_received : List (Down BoardBatch) → ℕ
said_received downs = min (received_with downs) 4294967295

-- so many messages are acknowledged in the place of the site: the hub is called once for that, and not where there are none
pub data Acknowledges (site count : ℕ) (v w : View) : Type 0 where
  NoneReceived : count ≡ 0 → w ≡ v → Acknowledges site count v w
  Says : (answer : Result (Option ℕ) HubFault) → Made (λ r. Taken r) (Take site (Ack count)) v w answer → Acknowledges site count v w

-- one turn of giving back: these messages are fetched, and then they are acknowledged up to the last edit among them
pub record GivesSome (site : ℕ) (v w : View) (downs : List (Down BoardBatch)) : Type 0 where
  pub between : View
  pub fetched : Made (λ r. Fetched r) (Fetch site most_fetched) v between (Ok downs)
  pub acknowledged : Acknowledges site (said_received downs) between w

-- turn after turn, each of which brought as many messages as one asks for
pub data GivesFull (site : ℕ) (v : View) : View → Type 0 where
  NoTurn : GivesFull site v v
  OneMore : (u w : View) (downs : List (Down BoardBatch)) → GivesFull site v u → most_fetched ≤ length downs → GivesSome site u w downs → GivesFull site v w

-- the last turn, after which nothing waits, or whose fetch is refused
pub data GivesLast (site : ℕ) (v w : View) : Type 0 where
  Few : (downs : List (Down BoardBatch)) → length downs < most_fetched → GivesSome site v w downs → GivesLast site v w
  NotFetched : (fault : HubFault) → Made (λ r. Fetched r) (Fetch site most_fetched) v w (Err fault) → GivesLast site v w

-- all that waits for the site is given back, unless a fetch is refused
pub record GivesAll (site : ℕ) (v w : View) : Type 0 where
  pub before : View
  pub full : GivesFull site v before
  pub last : GivesLast site before w

-- all that waits for the site is given back, and then the hub is called once to have the site leave
pub record GivesAllAndLeaves (site : ℕ) (v w : View) : Type 0 where
  pub between : View
  pub gives : GivesAll site v between
  pub answer : Result (Unit {0}) HubFault
  pub left : Made (λ r. Left r) (Leave site) between w answer

-- what waits for the site is given back, all of it, and then the site leaves; or nothing is done, since it had left
pub record Departs (site : ℕ) (v w : View) : Type 0 where
  pub between : View
  pub back : Returns site 0 v between
  pub leaves : Makes (IsLeaveOf site) between w
  pub all : (w ≡ v) ⊎ GivesAllAndLeaves site v w

-- What the server writes to a site that has joined.

-- its number and the limit of the order, its board, and that this is all
abbrev pub welcome_lines : Joined → List Line
welcome_lines joined = line.Welcome joined.site joined.limit ∷ (board_lines joined.board ++ line.Ready ∷ [])

-- The calls that the writing half of a session makes of its hub, and what it writes for them.

-- the lines of the messages that calls brought, one message after the other, in the order of the calls
abbrev pub lines_brought : List HubEvent → List Line
lines_brought calls = flat_map (λ e. flat_map down_lines (brought e.reply)) calls

-- a fetch for this site, of as many messages as one asks for
abbrev pub IsFetchFor : ℕ → Call → Type 0
IsFetchFor site (Fetch i max) = (i ≡ site) × (max ≡ most_fetched)
IsFetchFor site call = ⊥

abbrev pub AreFetchesFor : ℕ → List HubEvent → Type 0
AreFetchesFor site calls = AllByRecursion (λ e. IsFetchFor site e.call) calls

-- a fetch leaves nothing that waits: it brings fewer messages than it asks for, or finds that the site has no link
abbrev pub LeavesNothing : StarReply → Type 0
LeavesNothing (Fetched (Ok downs)) = length downs < most_fetched
LeavesNothing (Fetched (Err NoLink)) = Unit {0}
LeavesNothing reply = ⊥

-- of these fetches the last one leaves nothing
abbrev pub LastLeavesNothing : List HubEvent → Type 0
LastLeavesNothing [] = ⊥
LastLeavesNothing (e ∷ []) = LeavesNothing e.reply
LastLeavesNothing (e ∷ f ∷ es) = LastLeavesNothing (f ∷ es)

-- Why the writing half stops fetching, where a write has failed or not. The hub refuses a fetch for another reason than that the site has no link. Or there is
-- no memory to note what a fetch brought. Or a write failed, or the site is too far behind
abbrev pub StopsFetching : Bool → SessionFault → Type 0
StopsFetching failed (Hub fault) = fault ≢ Star NoLink
StopsFetching failed (Stream NoMemory) = Unit {0}
StopsFetching failed (Stream WriteFailed) = IsTrue failed
StopsFetching failed (FarBehind far) = most_behind < far.operations
StopsFetching failed fault = ⊥

-- all that waits for the site is fetched, unless the half stops for this fault
abbrev pub FetchesAll : Bool → List HubEvent → Option SessionFault → Type 0
FetchesAll failed fetches None = LastLeavesNothing fetches
FetchesAll failed fetches (Some fault) = StopsFetching failed fault

-- The pass made fetches for the site and no other call. The session put the lines of the messages that these brought, in order, and nothing else
pub record Forwards (site : ℕ) (v : View) (a : Put) (w : View) (b : Put) : Type 0 where
  pub calls : List HubEvent
  pub number : w.number ≡ v.number
  pub made : w.made ≡ v.made ++ calls
  pub kept : w.kept ≡ v.kept
  pub alone : AreFetchesFor site calls
  pub put : PutsLines a (lines_brought calls) b

-- these fetches bring all that waits, unless a fault stops them
pub record ForwardsAll (site : ℕ) (v : View) (a : Put) (w : View) (b : Put) (unsent : Option SessionFault) : Type 0 where
  pub forwards : Forwards site v a w b
  pub all : FetchesAll b.failed forwards.calls unsent

-- one fetch brought these messages, or none if it was refused or not made
pub record Brings (site : ℕ) (v w : View) (downs : List (Down BoardBatch)) : Type 0 where
  pub calls : List HubEvent
  pub number : w.number ≡ v.number
  pub made : w.made ≡ v.made ++ calls
  pub kept : w.kept ≡ v.kept
  pub alone : AreFetchesFor site calls
  pub lines : lines_brought calls ≡ flat_map down_lines downs

-- the hub answered the fetch; if that brought few messages, it leaves nothing
pub record Answers (site : ℕ) (v w : View) (downs : List (Down BoardBatch)) : Type 0 where
  pub brings : Brings site v w downs
  pub few : length downs < most_fetched → LastLeavesNothing brings.calls

-- the ending that the writing half reports to the site itself is that of such a fault
abbrev pub TellsFault : Option Ending → Option SessionFault → Type 0
TellsFault None unsent = Unit {0}
TellsFault (Some ending) unsent = IsSomeAnd unsent (λ fault. ending ≡ ending_of fault)

-- the last line, if the writing half writes it
abbrev pub told_line : Option Ending → List Line
told_line None = []
told_line (Some ending) = last_line ending ∷ []

-- the last line, if the writing half has not written it
abbrev pub untold_line : Option Ending → Ending → List Line
untold_line None ending = last_line ending ∷ []
untold_line (Some told) ending = []

-- the writing half: it forwarded all, unless it stopped for a fault, departed, and reported such a fault of its own
pub record Wrote (site : ℕ) (v : View) (a : Put) (w : View) (b : Put) (told : Option Ending) (unsent : Option SessionFault) : Type 0 where
  pub between : View
  pub middle : Put
  pub forwards : ForwardsAll site v a between middle unsent
  pub departs : Departs site between w
  pub fault : TellsFault told unsent
  pub put : PutsLines middle (told_line told) b

-- What comes of a message of a site.

-- the hub was called once, to take this for the site, and that is its answer; or it was not called
abbrev pub HasAnswered : ℕ → Up BoardBatch → View → View → Option (Result (Option ℕ) HubFault) → Type 0
HasAnswered site up v w (Some answer) = Made (λ r. Taken r) (Take site up) v w answer
HasAnswered site up v w None = w ≡ v

-- Why the hub was not called for a message. The site was too far behind, or the gate stayed shut for this edit. Or the message is a ping, and the session ended
-- before few enough pongs were owed
abbrev pub IsWithheld : Incoming → Untaken → Type 0
IsWithheld incoming (untaken.FarBehind far) = most_behind < far.operations
IsWithheld incoming (untaken.GateShut nth) = incoming.awaits ≡ Gate nth
IsWithheld incoming untaken.Over = incoming.awaits ≡ Pongs

-- if a message was withheld by the gate, that was shut for the edit of this site
abbrev pub IsShutFor : (ℕ → ℕ → Type 0) → ℕ → Option Untaken → Type 0
IsShutFor shut site (Some (untaken.GateShut nth)) = shut site nth
IsShutFor shut site other = Unit {0}

-- the hub was called to take a message, and took it
abbrev pub HasTaken : ℕ → Incoming → View → View → Type 0
HasTaken site incoming v w = (place : Option ℕ) × Called (Take site incoming.up) (Taken (Ok place)) v w

-- how a session ends at a message that was not taken
pub data EndsAt (site : ℕ) (incoming : Incoming) (v w : View) (ending : Ending) (withheld : Option Untaken) : Type 0 where
  Refused : (answer : Result (Option ℕ) HubFault) → Made (λ r. Taken r) (Take site incoming.up) v w answer → outcome incoming.up answer ≡ Err ending → withheld ≡ None
      → EndsAt site incoming v w ending withheld
  Withheld : (why : Untaken) → IsWithheld incoming why → w ≡ v → ending ≡ ended_untaken why → withheld ≡ Some why → EndsAt site incoming v w ending withheld

-- What the reading half of a session hears, and the calls that it makes of its hub for that.

-- the star took it
abbrev pub IsTaken : StarReply → Type 0
IsTaken (Taken (Ok place)) = Unit {0}
IsTaken reply = ⊥

-- the calls are takes of just these messages for the site, in order, and the star took each
abbrev pub AreTakesOf : ℕ → List Said → List HubEvent → Type 0
AreTakesOf site [] [] = Unit {0}
AreTakesOf site [] (e ∷ es) = ⊥
AreTakesOf site (SaysUp up ∷ saids) [] = ⊥
AreTakesOf site (SaysUp up ∷ saids) (e ∷ es) = (e.call ≡ Take site up) × IsTaken e.reply × AreTakesOf site saids es
AreTakesOf site (SaysBye ∷ saids) calls = ⊥

-- These lines were handed on. By them the site said all these messages, and the star took each of them, in order. The pass made no other call
pub record Hears (site : ℕ) (a : Sourced) (v : View) (b : Sourced) (w : View) (keeper : Keeper) : Type 0 where
  pub lines : List Line
  pub saids : List Said
  pub calls : List HubEvent
  pub handed : HandsOn a lines b
  pub heard : HasHeard lines saids keeper
  pub number : w.number ≡ v.number
  pub made : w.made ≡ v.made ++ calls
  pub kept : w.kept ≡ v.kept
  pub takes : AreTakesOf site saids calls

-- how a session ends if no further line comes: the site is gone if its bytes end between messages, and within one they end early
pub record EndsBehind (keeper : Keeper) (stop : Stop) (ending : Ending) : Type 0 where
  pub early : stop ≡ End → IsSomeAnd keeper.0 (λ part. part ≢ []) → ending ≡ EndsByFault (fault_number EarlyEnd)
  pub gone : stop ≡ End → keeper.0 ≡ Some [] → ending ≡ Gone
  pub fault : (fault : StreamFault) → stop ≡ Fault fault → ending ≡ ending_of (Stream fault)

-- lines that one session hears
abbrev pub most_lines : ℕ
most_lines = 18446744073709551615

-- Why a session ends after so many lines. No further line comes, or the next line ends it, which is a bye or is refused. Or the message that this line
-- completes was not taken, by the star's answer or since it was withheld. Or there were as many lines as a session hears
pub data Over (site count : ℕ) (b c : Sourced) (w x : View) (keeper : Keeper) (ending : Ending) (withheld : Option Untaken) : Type 0 where
  Stopped : (stop : Stop) → Stops b stop c → x ≡ w → EndsBehind keeper stop ending → withheld ≡ None → Over site count b c w x keeper ending withheld
  ByLine : (line : Line) (later : Keeper) → HandsOn b (line ∷ []) c → x ≡ w
      → ((lines : List Line) (saids : List Said) → HasHeard lines saids keeper → Leads lines saids keeper line (NextEnd ending) later) → withheld ≡ None
      → Over site count b c w x keeper ending withheld
  AtMessage : (line : Line) (later : Keeper) (incoming : Incoming) → HandsOn b (line ∷ []) c
      → ((lines : List Line) (saids : List Said) → HasHeard lines saids keeper → Leads lines saids keeper line (NextTake incoming) later)
      → EndsAt site incoming w x ending withheld → Over site count b c w x keeper ending withheld
  Spent : c ≡ b → x ≡ w → count ≡ most_lines → ending ≡ ending_of (Stream ReadsSpent) → withheld ≡ None → Over site count b c w x keeper ending withheld

-- all that the session heard and took, and why that ended
pub record HearsAll (site : ℕ) (a : Sourced) (v : View) (c : Sourced) (x : View) (ending : Ending) (withheld : Option Untaken) : Type 0 where
  pub before : Sourced
  pub pass : View
  pub keeper : Keeper
  pub hears : Hears site a v before pass keeper
  pub over : Over site (length hears.lines) before c pass x keeper ending withheld

-- the session could not start a thread, so it read nothing and took nothing
pub record HearsNothing (a : Sourced) (v : View) (c : Sourced) (x : View) (ending : Ending) (withheld : Option Untaken) : Type 0 where
  pub source : c ≡ a
  pub pass : x ≡ v
  pub memory : ending ≡ ending_of (Stream NoMemory)
  pub taken : withheld ≡ None

abbrev pub Heard : ℕ → Sourced → View → Sourced → View → Ending → Option Untaken → Type 0
Heard site a v c x ending withheld = HearsAll site a v c x ending withheld ⊎ HearsNothing a v c x ending withheld
