-- What holds of a star, of a site and of the link between them at every moment.
use Rattle.std.specs.Prelude.{◌≡◌, List, [], ◌∷◌, ◌++◌, ℕ, ◌+◌, ◌≤◌, ◌<◌, ◌⊎◌, false, cond, length, take, drop, nat_eq, IsTrue, Option, Some, None}
use Rattle.jup_site.specs.Prelude.{most_unacknowledged, most_beyond, Client, Server, row_operation, row_entries, Message, Operation, Ack, generated, InStepAt, Operations, Entry, LinkState, StarOf, link_of, ups, downs, AllByRecursion}
use Rattle.jup_site.specs.Turns.{Turn, Own, Other, own_edits, turns, edits, others, through_others}
use Rattle.jup_site.specs.Sites.{AttachedOf}

-- What lists of edits mean, wherever they are, and what that says of the operations on their way over a link.

module _ (O : Operations) where
  -- two lists of edits have the same meaning, whatever comes before and after them
  unfoldable pub SameMeaning : List O.Edit → List O.Edit → Type 0
  SameMeaning one two = (x : O.t.Content) (before later : List O.Edit) → O.t.meaning x (before ++ (one ++ later)) ≡ O.t.meaning x (before ++ (two ++ later))

  -- after these edits, whatever else comes between, the first edit means what the second does
  unfoldable pub StandsFor : O.Edit → O.Edit → List O.Edit → Type 0
  StandsFor made meant after = (between : List O.Edit) → SameMeaning ((after ++ between) ++ made ∷ []) ((after ++ between) ++ meant ∷ [])

  -- a star's operation past a site's list, and that list past it
  abbrev pub server_past_all : O.Op → List O.Op → O.Op
  server_past_all s cs = row_operation O.t.server_past s cs

  abbrev pub clients_past : List O.Op → O.Op → List O.Op
  clients_past cs s = row_entries O.t.server_past O.t.client_past s cs

  -- a site's operation past a star's list, and that list past it
  abbrev pub client_past_all : O.Op → List O.Op → O.Op
  client_past_all c ss = row_operation O.t.client_past c ss

  abbrev pub servers_past : List O.Op → O.Op → List O.Op
  servers_past ss c = row_entries O.t.client_past O.t.server_past c ss

  -- each operation that the star has still to take represents the edit that its site made, after those before it
  abbrev pub RowStands : List O.Edit → List O.Op → List O.Edit → Type 0
  RowStands after [] [] = Unit {0}
  RowStands after [] (e ∷ es) = ⊥
  RowStands after (c ∷ cs) [] = ⊥
  RowStands after (c ∷ cs) (e ∷ es) = StandsFor (O.t.edit_of c) e after × RowStands (after ++ e ∷ []) cs es

  -- each operation that a site has still to receive means its entry of the order, before the site's own entries that follow it
  abbrev pub Shows : List O.Edit → List (Turn O.Edit) → List O.Op → Type 0
  Shows told [] bs = bs ≡ []
  Shows told (Own e ∷ ts) bs = Shows (told ++ e ∷ []) ts bs
  Shows told (Other j e ∷ ts) [] = ⊥
  Shows told (Other j e ∷ ts) (b ∷ bs) =
      SameMeaning ((told ++ own_edits ts) ++ O.t.edit_of b ∷ []) ((told ++ e ∷ []) ++ own_edits ts)
      × Shows (told ++ e ∷ []) ts bs

-- What holds of every star, no matter who sends to it. The two ends of each link are in step, and the operations on their way mean what their sites made.

module _ (O : Operations) where
  -- the edits of the operations in a stream, as they were sent
  abbrev pub edits_sent : List (Message O.Op) → List O.Edit
  edits_sent [] = []
  edits_sent (Operation mine heard o ∷ ms) = O.t.edit_of o ∷ edits_sent ms
  edits_sent (Ack n ∷ ms) = edits_sent ms

  -- how many insertions of a site are among the entries, as site i sees them
  abbrev pub named_by : ℕ → ℕ → List (Turn O.Edit) → ℕ
  named_by i j [] = 0
  named_by i j (Own e ∷ ts) = cond (nat_eq i j) (O.insertions e) 0 + named_by i j ts
  named_by i j (Other k e ∷ ts) = cond (nat_eq k j) (O.insertions e) 0 + named_by i j ts

  -- a name of the layout, or among the first so many insertions of its site
  abbrev pub IsKnown : (ℕ → ℕ) → O.t.Name → Type 0
  IsKnown counts n = (O.site_of n ≡ 0) ⊎ (O.number_of n ≤ counts (O.site_of n))

  -- the counts that site i knows: its own insertions, and those of the entries that have reached it
  abbrev pub own_counts : ℕ → ℕ → (ℕ → ℕ) → ℕ → ℕ
  own_counts i own counts j = cond (nat_eq j i) own (counts j)

  -- what an edit changes is known
  abbrev pub ChangesKnown : (ℕ → ℕ) → O.Edit → Type 0
  ChangesKnown counts e = (n : O.t.Name) → O.t.changes e n → IsKnown counts n

  -- what an edit changes is known before it, or is inserted by it
  abbrev pub ChangesHeld : (ℕ → ℕ) → O.Edit → Type 0
  ChangesHeld counts e = (n : O.t.Name) → O.t.changes e n → IsKnown counts n ⊎ O.t.inserts e n

  -- what a board holds is known
  abbrev pub HoldsKnown : (ℕ → ℕ) → O.State → Type 0
  HoldsKnown counts x = (n : O.t.Name) → O.t.holds x n → IsKnown counts n

  -- each operation inserts nothing that its edit does not
  abbrev pub Inherits : List O.Op → List O.Edit → Type 0
  Inherits [] [] = Unit {0}
  Inherits [] (e ∷ es) = ⊥
  Inherits (c ∷ cs) [] = ⊥
  Inherits (c ∷ cs) (e ∷ es) = ((n : O.t.Name) → O.t.inserts (O.t.edit_of c) n → O.t.inserts e n) × Inherits cs es

  -- the edits that a site made and the star has not taken. Each bears the site's next names, is no no-op, and changes only
  -- what the site knew or what it inserts
  abbrev pub RawNamed : (ℕ → ℕ) → ℕ → ℕ → List O.Edit → ℕ → Type 0
  RawNamed counts i k [] last = k ≡ last
  RawNamed counts i k (e ∷ es) last =
      IsTrue (O.bears_next i k e) × (O.is_nothing e ≡ false) × ChangesHeld (own_counts i k counts) e × RawNamed counts i (k + O.insertions e) es last

  -- the entries of other sites: each bears its site's next names, and changes only what was known before it or what it inserts
  abbrev pub OrderNamed : ℕ → List (Turn O.Edit) → List (Turn O.Edit) → Type 0
  OrderNamed i past [] = Unit {0}
  OrderNamed i past (Own e ∷ ts) = OrderNamed i (past ++ Own e ∷ []) ts
  OrderNamed i past (Other j e ∷ ts) =
      ((1 ≤ j) × (nat_eq j i ≡ false) × IsTrue (O.bears_next j (named_by i j past) e) × ChangesHeld (λ k. named_by i k past) e)
      × OrderNamed i (past ++ Other j e ∷ []) ts

  -- Site i and its link, with the star's order as `past`, which has reached the site, and `rest`. The record has all that
  -- holds of the two ends, of the meaning of the operations, and of names.
  pub record Paired (most i : ℕ) (first : O.t.Content) (past rest : List (Turn O.Edit)) (held : O.State) (mine : List O.Edit) (l : LinkState O.Op) (a : AttachedOf O) : Type 0 where
    -- the link
    pub from : O.State
    pub site_ahead : List O.Op
    pub star_ahead : List O.Op
    pub site_side : a.site.end.side ≡ Client
    pub link_side : l.end.side ≡ Server
    pub in_step : InStepAt O.t 0 from site_ahead star_ahead a.site.board held a.site.end l.end (ups a.up) (downs (a.down ++ l.outbox))
    pub room : ℕ
    pub small : O.t.is_small room from
    pub enough : room + length (past ++ rest) ≡ most + length star_ahead
    -- the meaning
    pub raw : List O.Edit
    pub raw_sent : edits_sent (ups a.up) ≡ raw
    pub row : RowStands O (edits past ++ own_edits rest) site_ahead raw
    pub column : Shows O (edits past) rest star_ahead
    pub all_made : mine ≡ own_edits (past ++ rest) ++ raw
    pub shows : O.t.content a.site.board ≡ O.t.meaning first ((edits past ++ own_edits rest) ++ raw)
    -- names
    pub up_inherits : Inherits site_ahead raw
    pub down_inherits : Inherits star_ahead (others rest)
    pub raw_named : RawNamed (λ j. named_by i j past) i (named_by i i (past ++ rest)) raw a.site.named
    pub rest_named : OrderNamed i past rest
    pub board_known : HoldsKnown (own_counts i a.site.named (λ j. named_by i j past)) a.site.board
    pub from_known : HoldsKnown (own_counts i (named_by i i (past ++ rest)) (λ j. named_by i j past)) from
    pub view_known : AllByRecursion (ChangesKnown (own_counts i a.site.named (λ j. named_by i j past))) ((edits past ++ own_edits rest) ++ raw)
    pub falling_foreign : AllByRecursion (λ e. O.bears_site i e ≡ false) (edits_sent (downs (a.down ++ l.outbox)))
    -- the site and the link
    pub positive : 1 ≤ i
    pub site_number : a.site.number ≡ i
    pub link_number : l.site ≡ i
    pub link_named : l.named ≡ named_by i i (past ++ rest)
    pub goes_on : a.site.stopped ≡ false
    pub backlog : length a.site.end.outgoing ≤ most_unacknowledged
    pub few_heard : l.end.received ≤ length (past ++ rest)
    pub few_sent : generated l.end ≤ length (past ++ rest)

  -- the length of the part of the order that has reached a site, from the length at its join and the number of operations shown
  abbrev pub told_of : ℕ → ℕ → List (Turn O.Edit) → ℕ
  told_of joined shown ts = joined + through_others shown (drop joined ts)

  -- a site with its link: its pair, for the entries that have reached it
  pub record Standing (most : ℕ) (first : O.t.Content) (ts : List (Turn O.Edit)) (held : O.State) (mine : List O.Edit) (joined shown : ℕ) (i : ℕ)
      (l : LinkState O.Op) (a : AttachedOf O) : Type 0 where
    pub pair : Paired most i first (take (told_of joined shown ts) ts) (drop (told_of joined shown ts) ts) held mine l a
    pub joined_within : joined ≤ length ts
    pub shown_within : shown ≤ length (others (drop joined ts))

  -- how many insertions of a site are in an order
  abbrev pub named_in : List (Entry O.Edit) → ℕ → ℕ
  named_in order j = named_by 0 j (turns 0 order)

  -- the edits of an order
  abbrev pub edits_in : List (Entry O.Edit) → List O.Edit
  edits_in order = edits (turns 0 order)

  -- An operation of a queue: what is left, past some operations, of the one that the star applied for an entry of its order. If
  -- the star applied that, it meant the entry.
  pub record IsMoved (es : List O.Edit) (b : O.Op) : Type 0 where
    pub before : List O.Edit
    pub meant : O.Edit
    pub later : List O.Edit
    pub applied : O.Op
    pub past : List O.Op
    pub stands : es ≡ before ++ meant ∷ later
    pub same : SameMeaning O (before ++ O.t.edit_of applied ∷ []) (before ++ meant ∷ [])
    pub is : b ≡ row_operation O.t.server_past applied past

  -- a link, no matter who is at its far end
  pub record IsSoundLink (order : List (Entry O.Edit)) (i : ℕ) (l : LinkState O.Op) : Type 0 where
    pub side : l.end.side ≡ Server
    pub positive : 1 ≤ i
    pub named : l.named ≡ named_in order i
    pub moved : AllByRecursion (IsMoved (edits_in order)) l.end.outgoing
    pub known : AllByRecursion (λ b. ChangesKnown (named_in order) (O.t.edit_of b)) l.end.outgoing

  abbrev pub SoundLinkAt : List (Entry O.Edit) → ℕ → Option (LinkState O.Op) → Type 0
  SoundLinkAt order i None = Unit {0}
  SoundLinkAt order i (Some l) = IsSoundLink order i l

  -- a star, no matter who sends to it: `first` is what it was opened with, and `most` how small that is
  pub record IsSoundStar (most : ℕ) (first : O.t.Content) (s : StarOf O) : Type 0 where
    pub content_is : O.t.content s.board ≡ O.t.meaning first (edits_in s.order)
    pub distinct : O.t.is_distinct s.board
    pub room : ℕ
    pub small : O.t.is_small room s.board
    pub enough : room + length s.order ≡ most
    pub few : length s.order ≤ s.limit
    pub limited : s.limit + most_beyond ≤ most
    pub counted : most ≤ 4294967295
    pub board_known : HoldsKnown (named_in s.order) s.board
    pub order_known : AllByRecursion (ChangesKnown (named_in s.order)) (edits_in s.order)
    pub links : (i : ℕ) → SoundLinkAt s.order i (link_of i s.links)
    -- numbers that were not given yet
    pub no_link : (i : ℕ) → s.given < i → link_of i s.links ≡ None
    pub no_name : (i : ℕ) → s.given < i → named_in s.order i ≡ 0
