-- The star, and what each call makes of it.
use Rattle.std.specs.Prelude.{ℕ, ◌+◌, Bool, List, [], ◌∷◌, ◌++◌, drop, nat_eq, if◌then◌else◌, ◌≡◌, ◌*◌, ◌≤◌, false, not, length, map, filter, find, nat_lt, Option, Some, None, ◌-◌, ◌&&◌, nat_le, true, take, is_none, Result, Ok, Err, MatchBool, zero, suc, ◌≢◌, ◌⊎◌, ◌<◌}
use Rattle.std.specs.Option.{IsSomeAnd}
use Rattle.jup_star.specs.Prelude.{last_site, most_attached, most_operations, highest_limit, most_ordered, most_unacknowledged, Server, Msg, owes, EndLink, opened, after_send, after_count, answered, next_message, generated, accepts_count, IsNumber, IsCount, operation_count, AllMessages, InStep, Widget, Text, Labels, Operations, only_site, BoardBatch, BoardEdits, board_batches, Shape, shape, bare, Down, DownOp, DownAck, DownPong as Pong, Entry, Up, Op as UpOp, UpAck, UpPing as Ping, StarFault, Full, SitesSpent, NoLink, BadCount, BadAck, NotAnEdit, BadName, LogFull, BadOp, NoMemory, OpenFault, BadLimit, BadSite, Take, Fetch, Leave}
use Rattle.jup_limits.specs.Limits.{longest_sequence}
use Rattle.jup_link.specs.Links.{received_operation, after_receive}
use Rattle.jup_batch.specs.Boards as board
use Rattle.jup_star.specs.declared.star.Joined.{Joined}
use Rattle.jup_star.specs.declared.calls.Call.{Call}
use Rattle.jup_star.specs.declared.calls.Call.TheVariants.{Join}
use Rattle.jup_star.specs.declared.calls.StarReply.{StarReply}
use Rattle.jup_star.specs.declared.calls.StarReply.TheVariants.{Joined as JoinedReply, Taken as TakenReply, Fetched as FetchedReply, Left as LeftReply}
use Rattle.jup_star.specs.declared.link.Link.{Link}
use Rattle.jup_star.specs.declared.star.Star.TheInside.{Inside}
use Rattle.jup_star.specs.Faults.{Test, test, first_fault, count_tests}
use Rattle.jup_star.specs.Messages.{ups, downs}

-- The star's end of a link to a site, and what its calls do to it.

-- its site, its counts and queue, what is to be fetched, and how many insertions were taken from the site
pub record LinkState (Operation : Type 0) : Type 0 where
  pub site : ℕ
  pub end : EndLink Operation
  pub outbox : List (Down Operation)
  pub named : ℕ

-- it is the link of a site
abbrev pub is_of : {Operation : Type 0} → ℕ → LinkState Operation → Bool
is_of i l = nat_eq l.site i

-- a new link
abbrev pub opened_link : {Operation : Type 0} → ℕ → LinkState Operation
opened_link i = record { site = i; end = opened Server; outbox = []; named = 0 }

-- the acknowledgement that an end owes, if it does
abbrev pub owed_down : {Operation : Type 0} → EndLink Operation → List (Down Operation)
owed_down e = if owes e.unanswered then DownAck e.received ∷ [] else []

-- its site acknowledged n operations
abbrev pub link_acked : {Operation : Type 0} → ℕ → LinkState Operation → LinkState Operation
link_acked n l = record l { end = after_count l.end n }

-- a ping was answered
abbrev pub link_ponged : {Operation : Type 0} → ℕ → LinkState Operation → LinkState Operation
link_ponged k l = record l { outbox = l.outbox ++ Pong k ∷ [] }

-- the n oldest messages were fetched
abbrev pub link_fetched : {Operation : Type 0} → ℕ → LinkState Operation → LinkState Operation
link_fetched n l = record l { outbox = drop n l.outbox }

-- an operation was sent to its site
abbrev pub link_sent : {Operation : Type 0} → Operation → LinkState Operation → LinkState Operation
link_sent op l = record l { end = after_send l.end op; outbox = l.outbox ++ DownOp (next_message l.end op) ∷ [] }

module _ (O : Operations) where
  -- the operation of a message as an end is to apply it, and the end afterwards
  abbrev pub operation_at : EndLink O.Op → Msg O.Op → O.Op
  operation_at e m = received_operation O.t e m.heard m.op

  abbrev pub end_after : EndLink O.Op → Msg O.Op → EndLink O.Op
  end_after e m = after_receive O.t e m.heard m.op

  -- an edit of its site was taken, and what is then owed was acknowledged
  abbrev pub link_heard : Msg O.Op → LinkState O.Op → LinkState O.Op
  link_heard m l = record {
    site = l.site;
    end = answered (end_after l.end m);
    outbox = l.outbox ++ owed_down (end_after l.end m);
    named = l.named + O.insertions (O.t.edit_of m.op);
  }

-- The star, and what each call answers and leaves. The definitions are for any operations: the star's are those on boards.

-- how many edits it takes over its lifetime, its board, how many site numbers it gave, its links, and the edits that it took in order.
-- Then whether it keeps these, or only counts them
pub record StarState (Operation State Edit : Type 0) : Type 0 where
  pub limit : ℕ
  pub board : State
  pub given : ℕ
  pub links : List (LinkState Operation)
  pub order : List (Entry Edit)
  pub keeps : Bool

-- the link of a site
abbrev pub link_of : {Operation : Type 0} → ℕ → List (LinkState Operation) → Option (LinkState Operation)
link_of i links = find (is_of i) links

-- all links but that of a site
abbrev pub without : {Operation : Type 0} → ℕ → List (LinkState Operation) → List (LinkState Operation)
without i links = filter (λ l. not (is_of i l)) links

-- the link of a site is changed
abbrev pub at_link : {Operation : Type 0} → ℕ → (LinkState Operation → LinkState Operation) → List (LinkState Operation) → List (LinkState Operation)
at_link i change links = map (λ l. if is_of i l then change l else l) links

module _ {Operation State Edit : Type 0} where
  -- the star with other links
  abbrev pub with_links : StarState Operation State Edit → List (LinkState Operation) → StarState Operation State Edit
  with_links s links = record s { links = links }

  -- a new star
  abbrev pub new_star : Bool → State → ℕ → StarState Operation State Edit
  new_star keeps board limit = record { limit = limit; board = board; given = 0; links = []; order = []; keeps = keeps }

  -- one that keeps its order, and one that only counts it
  abbrev pub opened_star : State → ℕ → StarState Operation State Edit
  opened_star board limit = new_star true board limit

  abbrev pub opened_counting : State → ℕ → StarState Operation State Edit
  opened_counting board limit = new_star false board limit

  -- the entries that it keeps of its order
  abbrev pub kept_order : StarState Operation State Edit → List (Entry Edit)
  kept_order s = if s.keeps then s.order else []

  -- why a join is refused, and the star after one that is not
  abbrev pub join_fault : StarState Operation State Edit → Option StarFault
  join_fault s = first_fault (test (nat_lt (length s.links) most_attached) Full ∷ test (nat_lt s.given last_site) SitesSpent ∷ [])

  abbrev pub joined : StarState Operation State Edit → StarState Operation State Edit
  joined s = record s { given = s.given + 1; links = s.links ++ opened_link (s.given + 1) ∷ [] }

  -- a link was detached: it is dropped with its outbox
  abbrev pub left : ℕ → StarState Operation State Edit → StarState Operation State Edit
  left i s = with_links s (without i s.links)

  -- messages were fetched
  abbrev pub fetched : ℕ → ℕ → StarState Operation State Edit → StarState Operation State Edit
  fetched i n s = with_links s (at_link i (link_fetched n) s.links)

-- the tests of an acknowledgement, and of the room for one more edit in the order
abbrev pub ack_tests : {Operation : Type 0} → EndLink Operation → ℕ → List (Test StarFault)
ack_tests e n = test (accepts_count e n) BadAck ∷ []

abbrev pub log_tests : ℕ → ℕ → List (Test StarFault)
log_tests limit count = test (nat_lt count limit) LogFull ∷ []

module _ (O : Operations) where
  -- a star of a kind of operations
  abbrev pub StarOf : Type 0
  StarOf = StarState O.Op O.State O.Edit

  -- the tests of an edit before any memory is asked for, in order: it is something, and it bears the next name of its site.
  -- They come after the tests of its counts, and before that of the room in the order
  abbrev pub edit_tests : LinkState O.Op → O.Edit → List (Test StarFault)
  edit_tests l e = test (not (O.is_nothing e)) NotAnEdit ∷ test (O.bears_next l.site l.named e) BadName ∷ []

  abbrev pub early_tests : ℕ → ℕ → LinkState O.Op → Msg O.Op → List (Test StarFault)
  early_tests limit count l m = count_tests BadCount BadAck l.end m ++ edit_tests l (O.t.edit_of m.op) ++ log_tests limit count

  abbrev pub early_fault : ℕ → ℕ → LinkState O.Op → Msg O.Op → Option StarFault
  early_fault limit count l m = first_fault (early_tests limit count l m)

  -- and once there is memory: the operation, moved past what its site had not received, fits the board
  abbrev pub fits_board : O.State → LinkState O.Op → Msg O.Op → Bool
  fits_board board l m = O.accepts (operation_at O l.end m) board

  -- why a message is refused, memory aside
  abbrev pub up_fault : StarOf → LinkState O.Op → Up O.Op → Option StarFault
  up_fault s l (UpOp m) = first_fault (early_tests s.limit (length s.order) l m ++ test (fits_board s.board l m) BadOp ∷ [])
  up_fault s l (UpAck n) = first_fault (ack_tests l.end n)
  up_fault s l (Ping k) = None

  abbrev pub take_fault : StarOf → Up O.Op → Option (LinkState O.Op) → Option StarFault
  take_fault s up None = Some NoLink
  take_fault s up (Some l) = up_fault s l up

  -- every link once an edit of a site was taken: that site's has heard it, and to all others it was sent
  abbrev pub links_after : ℕ → Msg O.Op → O.Op → List (LinkState O.Op) → List (LinkState O.Op)
  links_after i m op links = map (λ l. if is_of i l then link_heard O m l else link_sent op l) links

  -- the entry of an edit
  abbrev pub entry : ℕ → Msg O.Op → Entry O.Edit
  entry i m = record { site = i; edit = O.t.edit_of m.op }

  -- the star once it took a message of a site: an edit applies to its board, goes to the end of its order and to all other sites
  abbrev pub taken_edit : ℕ → Msg O.Op → O.Op → StarOf → StarOf
  taken_edit i m op s = record s { board = O.t.after op s.board; links = links_after i m op s.links; order = s.order ++ entry i m ∷ [] }

  abbrev pub taken : ℕ → Up O.Op → LinkState O.Op → StarOf → StarOf
  taken i (UpOp m) l s = taken_edit i m (operation_at O l.end m) s
  taken i (UpAck n) l s = with_links s (at_link i (link_acked n) s.links)
  taken i (Ping k) l s = with_links s (at_link i (link_ponged k) s.links)

  -- what a take answers: the place of an edit in the order
  abbrev pub place_taken : StarOf → Up O.Op → Option ℕ
  place_taken s (UpOp m) = Some (length s.order)
  place_taken s (UpAck n) = None
  place_taken s (Ping k) = None

-- What holds of the links of every star: their sites were given and differ, to none more was sent than the order has entries, and
-- none has named more

abbrev pub IsNew : {Operation : Type 0} → ℕ → List (LinkState Operation) → Type 0
IsNew i [] = Unit {0}
IsNew i (l ∷ ls) = (is_of i l ≡ false) × IsNew i ls

abbrev pub AreApart : {Operation : Type 0} → List (LinkState Operation) → Type 0
AreApart [] = Unit {0}
AreApart (l ∷ ls) = IsNew l.site ls × AreApart ls

pub record IsBounded {Operation : Type 0} (most count : ℕ) (l : LinkState Operation) : Type 0 where
  pub given : l.site ≤ most
  pub sent : generated l.end ≤ count
  pub insertions : l.named ≤ most_operations * count

abbrev pub AreBounded : {Operation : Type 0} → ℕ → ℕ → List (LinkState Operation) → Type 0
AreBounded most count [] = Unit {0}
AreBounded most count (l ∷ ls) = IsBounded most count l × AreBounded most count ls

-- how many batches of 32 items a sequence of at most 65,536 may take: 32 times this and 31 more are 2,147,418,111
abbrev pub most_batches : ℕ
most_batches = 67106815

-- A call on a star: memory aside, it has one reply and one next star.

-- a star of boards, and one of its links
abbrev pub BoardStar : Type 0
BoardStar = StarState BoardBatch board.Windows BoardEdits

abbrev pub BoardLink : Type 0
BoardLink = LinkState BoardBatch

-- what holds of every star. It has no more entries than it may, and no more sites than there may be. Its links are as described,
-- and no sequence has grown by more than an item for each entry
pub record IsStar (s : BoardStar) : Type 0 where
  pub limited : s.limit ≤ highest_limit
  pub counted : length s.order ≤ s.limit
  pub given : s.given ≤ last_site
  pub few : length s.links ≤ most_attached
  pub bounded : AreBounded s.given (length s.order) s.links
  pub apart : AreApart s.links
  pub short : board.IsSmall (most_batches - length s.order) s.board

-- what a site gets as it joins, without the room of its board
abbrev pub joining : BoardStar → Joined
joining s = record { site = s.given + 1; limit = s.limit; board = s.board }

abbrev pub bare_joined : Result Joined StarFault → Result Joined StarFault
bare_joined (Ok j) = Ok (record j { board = board.bare j.board })
bare_joined (Err e) = Err e

abbrev pub join_result : BoardStar → Option StarFault → Result Joined StarFault
join_result s None = Ok (joining s)
join_result s (Some e) = Err e

abbrev pub after_join : BoardStar → Option StarFault → BoardStar
after_join s None = joined s
after_join s (Some e) = s

abbrev pub take_result : BoardStar → Up BoardBatch → Option StarFault → Result (Option ℕ) StarFault
take_result s up None = Ok (place_taken board_batches s up)
take_result s up (Some e) = Err e

-- a take that is refused leaves the star without that link
abbrev pub after_take : ℕ → Up BoardBatch → BoardStar → Option BoardLink → Option StarFault → BoardStar
after_take i up s None fault = s
after_take i up s (Some l) None = taken board_batches i up l s
after_take i up s (Some l) (Some e) = left i s

abbrev pub fetch_result : ℕ → Option BoardLink → Result (List (Down BoardBatch)) StarFault
fetch_result max None = Err NoLink
fetch_result max (Some l) = Ok (take max l.outbox)

abbrev pub after_fetch : ℕ → ℕ → BoardStar → Option BoardLink → BoardStar
after_fetch i max s None = s
after_fetch i max s (Some l) = fetched i max s

abbrev pub leave_result : Option BoardLink → Result (Unit {0}) StarFault
leave_result None = Err NoLink
leave_result (Some l) = Ok tt

abbrev pub after_leave : ℕ → BoardStar → Option BoardLink → BoardStar
after_leave i s None = s
after_leave i s (Some l) = left i s

-- what a star answers to a call
unfoldable pub reply_of : Call → BoardStar → StarReply
reply_of Join s = JoinedReply (join_result s (join_fault s))
reply_of (Take i up) s = TakenReply (take_result s up (take_fault board_batches s up (link_of i s.links)))
reply_of (Fetch i max) s = FetchedReply (fetch_result max (link_of i s.links))
reply_of (Leave i) s = LeftReply (leave_result (link_of i s.links))

-- and the star that it leaves
unfoldable pub star_after : Call → BoardStar → BoardStar
star_after Join s = after_join s (join_fault s)
star_after (Take i up) s = after_take i up s (link_of i s.links) (take_fault board_batches s up (link_of i s.links))
star_after (Fetch i max) s = after_fetch i max s (link_of i s.links)
star_after (Leave i) s = after_leave i s (link_of i s.links)

-- whether a take comes to ask for memory: an acknowledgement never does
abbrev pub take_asks : BoardStar → Up BoardBatch → Option BoardLink → Bool
take_asks s up None = false
take_asks s (UpOp m) (Some l) = is_none (early_fault board_batches s.limit (length s.order) l m)
take_asks s (UpAck n) (Some l) = false
take_asks s (Ping k) (Some l) = true

-- whether a fetch does: only if it takes a message out
abbrev pub fetch_asks : ℕ → Option BoardLink → Bool
fetch_asks max None = false
fetch_asks max (Some l) = nat_le 1 max && nat_le 1 (length l.outbox)

-- whether a call comes to ask for memory: no refusal that is tested before that holds
unfoldable pub asks_memory : Call → BoardStar → Bool
asks_memory Join s = is_none (join_fault s)
asks_memory (Take i up) s = take_asks s up (link_of i s.links)
asks_memory (Fetch i max) s = fetch_asks max (link_of i s.links)
asks_memory (Leave i) s = false

abbrev pub is_no_memory : StarFault → Bool
is_no_memory NoMemory = true
is_no_memory BadCount = false
is_no_memory BadAck = false
is_no_memory BadName = false
is_no_memory BadOp = false
is_no_memory NotAnEdit = false
is_no_memory Full = false
is_no_memory SitesSpent = false
is_no_memory LogFull = false
is_no_memory NoLink = false

abbrev pub lacks_memory : {A : Type 0} → Result A StarFault → Bool
lacks_memory (Ok x) = false
lacks_memory (Err e) = is_no_memory e

abbrev pub is_refused : StarReply → Bool
is_refused (JoinedReply r) = lacks_memory r
is_refused (TakenReply r) = lacks_memory r
is_refused (FetchedReply r) = lacks_memory r
is_refused (LeftReply r) = lacks_memory r

-- what a call on the star does. If an allocation fails, it does nothing, and it had come to ask for memory. Otherwise the
-- reply and the next star are those of the call
abbrev pub Answers : Call → BoardStar → BoardStar → StarReply → Type 0
Answers call s t r = MatchBool (is_refused r) ((t ≡ s) × (asks_memory call s ≡ true)) ((r ≡ reply_of call s) × (t ≡ star_after call s))

-- why a star is not opened
abbrev pub star_open_fault : board.Windows → ℕ → Option OpenFault
star_open_fault b limit = first_fault (test (nat_le 1 limit && nat_le limit highest_limit) BadLimit ∷ test (only_site 0 b) BadSite ∷ [])

-- The boards that a star may be opened with.

-- a text or a list has at most 65,536 items
abbrev pub IsShort : Widget → Type 0
IsShort (Text x) = length x.items ≤ longest_sequence
IsShort (Labels x) = length x.items ≤ longest_sequence
IsShort other = Unit {0}

-- Where the link of a site is, and what it can hear.

-- the first link of a site is at a place
abbrev pub IsPlace : {Operation : Type 0} → ℕ → List (LinkState Operation) → ℕ → Type 0
IsPlace i [] n = ⊥
IsPlace i (l ∷ ls) zero = is_of i l ≡ true
IsPlace i (l ∷ ls) (suc n) = (is_of i l ≡ false) × IsPlace i ls n

-- a link can hear a message
pub record CanHear {Operation : Type 0} (m : Msg Operation) (l : LinkState Operation) : Type 0 where
  pub number : IsNumber l.end m.mine
  pub count : IsCount l.end m.heard
  pub named : l.named ≤ most_ordered

-- the link of a site can
abbrev pub IsHeardBy : {Operation : Type 0} → ℕ → Msg Operation → List (LinkState Operation) → Type 0
IsHeardBy i m links = (l : LinkState _) → link_of i links ≡ Some l → CanHear m l

-- The links of all other sites, whatever a site sends. Nobody knows who is at the far end of such a link, so the definitions hold
-- for every far end that is possible.

module _ (O : Operations) where
  -- a far end of a link: its board and its end, the messages on their way up, and those that were fetched and are on their way down
  pub record FarEnd : Type 0 where
    pub board : O.State
    pub end : EndLink O.Op
    pub up : List (Up O.Op)
    pub down : List (Down O.Op)

  -- every item that an operation inserts has a name of the site
  abbrev pub InsertsUnder : ℕ → O.Op → Type 0
  InsertsUnder site o = (n : O.t.Name) → O.t.inserts (O.t.edit_of o) n → O.site_of n ≡ site

  -- at most 1,024 edits are on their way up, and every item that they insert has a name of the site
  pub record SendsAsSite (site : ℕ) (far : FarEnd) : Type 0 where
    pub few : operation_count (ups far.up) ≤ most_unacknowledged
    pub own : AllMessages (InsertsUnder site) (ups far.up)

  -- a far end is in step with a link of a star that has this board; what is in the outbox comes after what was fetched
  abbrev pub IsInStepWith : FarEnd → LinkState O.Op → O.State → Type 0
  IsInStepWith far l board = InStep O.t 0 far.board board far.end l.end (ups far.up) (downs (far.down ++ l.outbox))

  -- what was in step with the link of a site is so afterwards, and the link is still there
  abbrev pub StaysInStep : FarEnd → StarOf O → StarOf O → ℕ → Type 0
  StaysInStep far before after site = (l : LinkState O.Op) → link_of site before.links ≡ Some l → IsInStepWith far l before.board
      → IsSomeAnd (link_of site after.links) (λ k. IsInStepWith far k after.board)

-- in a star of boards, the link of every site but one stays in step with its far end, no matter who is there
unfoldable pub OthersStayInStep : BoardStar → BoardStar → ℕ → Type 0
OthersStayInStep before after site = (other : ℕ) (far : FarEnd board_batches) → other ≢ site → SendsAsSite board_batches other far
    → StaysInStep board_batches far before after other

-- The room of links.

-- a link without its room
abbrev pub bare_link : Link → LinkState BoardBatch
bare_link l = record { site = l.site; end = l.end.link; outbox = l.outbox.messages; named = l.named }

-- a link has room for one message and one operation, and copies of this shape, if a batch of it is not of one operation, which is copied without memory
pub record HasRoom (u : Shape) (l : Link) : Type 0 where
  pub queue : 1 ≤ l.end.spare
  pub outbox : 1 ≤ l.outbox.spare
  pub copies : (length u ≡ 1) ⊎ IsSomeAnd l.copies (λ c. (u ≡ shape c.kept) × (u ≡ shape c.sent))

abbrev pub AllHaveRoom : Shape → List Link → Type 0
AllHaveRoom u [] = Unit {0}
AllHaveRoom u (l ∷ ls) = HasRoom u l × AllHaveRoom u ls

-- every link but that of a site has room
abbrev pub OthersHaveRoom : Shape → ℕ → List Link → Type 0
OthersHaveRoom u i [] = Unit {0}
OthersHaveRoom u i (l ∷ ls) = (is_of i (bare_link l) ≡ false → HasRoom u l) × OthersHaveRoom u i ls

-- no link has sent as many operations as can be counted
abbrev pub AllCount : List (LinkState BoardBatch) → Type 0
AllCount [] = Unit {0}
AllCount (l ∷ ls) = (generated l.end < 4294967295) × AllCount ls

-- The star of the program as contracts see it.

-- a star without the room that it and its links keep
abbrev pub bare_star : Inside → BoardStar
bare_star s = record { limit = s.limit; board = bare s.board; given = s.given; links = map bare_link s.links.items; order = s.order.state.entries; keeps = s.order.state.keeps }
