-- One site beside a star that anyone calls: what may happen to them, and what holds at every moment.
use Rattle.std.specs.Prelude.{◌≡◌, ℕ, ◌+◌, ◌≤◌, ◌<◌, List, [], ◌∷◌, ◌++◌, length, nat_eq, false, Some, None, Ok, take, drop}
use Rattle.jup_site.specs.Prelude.{opened_link, opened_site, Operations, Up, UpOp, UpAck, UpPing, Down, LinkState, StarOf, link_of, joined, left, fetched, taken, up_fault, edit_answer, operation_at, link_sent, link_fetched, link_heard, link_acked, link_ponged}
use Rattle.jup_site.specs.Sites.{AttachedOf, with_edit, one_taken, one_handed, pinged, with_fetched}
use Rattle.jup_site.specs.Turns.{Turn, turns, edits, own_edits, brings, Counts}
use Rattle.jup_site.specs.Sound.{told_of, IsKnown, own_counts, named_by, IsSoundStar, Standing}

-- # The system

module _ (O : Operations) where
  -- One moment: the star and its end of the site's link, the edits that the site made, and how many edits of others it received.
  -- Then the site with what is on its way. Once the star has dropped the link, `link` is what it would be if nobody had read it since.
  -- The stream up is then what was left when the link was dropped, and what the site sent since
  pub record Moment : Type 0 where
    pub star : StarOf O
    pub link : LinkState O.Op
    pub mine : List O.Edit
    pub shown : ℕ
    pub at : AttachedOf O

  -- a link once the star took a message of its site
  abbrev pub link_taken : Up O.Op → LinkState O.Op → LinkState O.Op
  link_taken (UpOp m) l = link_heard O m l
  link_taken (UpAck n) l = link_acked n l
  link_taken (UpPing k) l = link_ponged k l

  -- and once it took one of another site by the link `from`
  abbrev pub link_told : Up O.Op → LinkState O.Op → LinkState O.Op → LinkState O.Op
  link_told (UpOp m) from l = link_sent (operation_at O from.end m) l
  link_told (UpAck n) from l = l
  link_told (UpPing k) from l = l

  -- What may happen, one thing after another. The site edits, sends a ping, receives the oldest message to it. Anyone joins or leaves,
  -- fetches messages, or sends a message that the star takes. One that it refuses makes its sender leave
  pub data Moves (i : ℕ) : Moment → Moment → Type 0 where
    Edits : {m : Moment} (command : O.Command) (op : O.Op) → edit_answer O command m.at.site ≡ Ok op
        → Moves i m (record m { mine = m.mine ++ O.t.edit_of op ∷ []; at = with_edit O op m.at })
    Asks : {m : Moment} (k : ℕ) → Moves i m (record m { at = pinged O k m.at })
    Hands : {m : Moment} (d : Down O.Op) (falling : List (Down O.Op)) → m.at.down ≡ d ∷ falling
        → Moves i m (record m { shown = m.shown + brings d; at = one_handed O d falling m.at })
    Joins : {m : Moment} → Moves i m (record m { star = joined m.star })
    Leaves : {m : Moment} (j : ℕ) → Moves i m (record m { star = left j m.star })
    Fetches : {m : Moment} (j n : ℕ) → nat_eq j i ≡ false → Moves i m (record m { star = fetched j n m.star })
    FetchesOwn : {m : Moment} (n : ℕ) → link_of i m.star.links ≡ Some m.link
        → Moves i m (record m { star = fetched i n m.star; link = link_fetched n m.link; at = with_fetched O n m.link m.at })
    Takes : {m : Moment} (j : ℕ) → nat_eq j i ≡ false → (l : LinkState O.Op) → link_of j m.star.links ≡ Some l → (up : Up O.Op) → up_fault O m.star l up ≡ None
        → Moves i m (record m { star = taken O j up l m.star; link = link_told up l m.link })
    TakesOwn : {m : Moment} (up : Up O.Op) (us : List (Up O.Op)) → m.at.up ≡ up ∷ us → link_of i m.star.links ≡ Some m.link → up_fault O m.star m.link up ≡ None
        → Moves i m (record m { star = taken O i up m.link m.star; link = link_taken up m.link; at = one_taken O m.at })

  -- the number of the next site, and the moment of its join: it opens with the star's board, and nothing is on its way
  abbrev pub next_number : StarOf O → ℕ
  next_number s = s.given + 1

  abbrev pub newcomer : StarOf O → Moment
  newcomer s = record {
    star = joined s;
    link = opened_link (next_number s);
    mine = [];
    shown = 0;
    at = record { site = opened_site (next_number s) s.limit s.board; up = []; down = [] };
  }

  -- several
  pub data Runs (i : ℕ) : Moment → Moment → Type 0 where
    Stays : {m : Moment} → Runs i m m
    Then : {m n : Moment} → (o : Moment) → Moves i m o → Runs i o n → Runs i m n

  -- # What a site shows and knows

  module _ (since i : ℕ) (m : Moment) where
    -- how many entries of the star's order have reached the site, and those
    abbrev pub told_count : ℕ
    told_count = told_of O since m.shown (turns i m.star.order)

    abbrev pub told : List (Turn O.Edit)
    told = take told_count (turns i m.star.order)

    -- what it should show: these, and then its own edits that are not among them
    abbrev pub view : List O.Edit
    view = edits told ++ drop (length (own_edits told)) m.mine

    -- a name that it knows: of the layout, of its own insertions, or of an entry that has reached it
    abbrev pub Knows : O.t.Name → Type 0
    Knows n = IsKnown O (own_counts O i m.at.site.named (λ k. named_by O i k told)) n

-- # What holds at every moment

module _ (O : Operations) (most : ℕ) (first : O.t.Content) where
  -- a sound star, of whose order no entry is of a number that was not given
  pub record IsCalled (s : StarOf O) : Type 0 where
    pub star : IsSoundStar O most first s
    pub no_entry : (j : ℕ) → s.given < j → own_edits (turns j s.order) ≡ []

  -- The site joined when the order had so many entries. It and the link are at one place of the star's order and count alike, and the star has no other link for the site
  pub record IsBeside (since i : ℕ) (m : Moment O) : Type 0 where
    pub star : IsCalled m.star
    pub given : i ≤ m.star.given
    pub stands : Standing O most first (turns i m.star.order) m.star.board m.mine since m.shown i m.link m.at
    pub counts : Counts O m.link m.at
    pub is : (l : LinkState O.Op) → link_of i m.star.links ≡ Some l → l ≡ m.link
