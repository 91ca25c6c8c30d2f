-- From one moment to a later one: items keep their order, what was known stays known, and of that nothing comes back.
use Rattle.std.proofs.Common.{◌≡◌, ℕ, ◌≤◌, ◌+◌, List, [], ◌∷◌, ◌++◌, length, refl, ap, sym, ◌∙◌, arith, append-nil}
use Rattle.jup_site.specs.Prelude.{Operations, AreLawful, Entry, UpOp, UpAck, UpPing, Down, DownOp, DownAck, DownPong, downs, entry, received}
use Rattle.jup_site.specs.Turns.{turns}
use Rattle.jup_site.specs.Sound.{named_by}
use Rattle.jup_site.proofs.Known as known_names
use Rattle.jup_site.proofs.Turns.{turns-append}
use Rattle.jup_site.proofs.Pairs.Grids.{first_falling}
use Rattle.jup_site.proofs.Pairs.Edits as pairs
use Rattle.jup_site.proofs.Pairs.Places.{room}
use Rattle.jup_site.proofs.Follows as following
use Rattle.jup_site.specs.Moments.{Moment, Moves, Edits, Hands, Joins, Leaves, Fetches, FetchesOwn, Takes, TakesOwn, Runs, Stays, Then, told, Knows, IsBeside}
use Rattle.jup_site.proofs.Stars as stars
use Rattle.jup_site.proofs.Beside.{fits, moves-beside}

module _ (O : Operations) (L : AreLawful O) (most : ℕ) (first : O.t.Content) (since i : ℕ) where
  -- the order grows by one entry at the most, and no fewer edits are received or items named
  pub record Grows (m n : Moment O) : Type 0 where
    pub more : List (Entry O.Edit)
    pub one : length more ≤ 1
    pub grows : n.star.order ≡ m.star.order ++ more
    pub shown : m.shown ≤ n.shown
    pub named : m.at.site.named ≤ n.at.site.named

  -- a moment and a later one
  pub record Later (m n : Moment O) : Type 0 where
    pub star : following.Follows O L m.star n.star
    pub order : O.t.keeps_order m.at.site.board n.at.site.board
    pub knows : (x : O.t.Name) → Knows O since i m x → Knows O since i n x
    pub none_back : (x : O.t.Name) → Knows O since i m x → O.t.holds n.at.site.board x → O.t.holds m.at.site.board x

  pub later-self : (m : Moment O) → Later m m
  later-self m = record { star = following.follows-same O L m.star m.star (omega arith) refl refl; order = L.keeps.order_self m.at.site.board; knows = λ x k. k; none_back = λ x k held. held }

  pub later-chain : (m n o : Moment O) → IsBeside O most first since i m → Later m n → Later n o → Later m o
  later-chain m n o h f g = record {
    star = following.follows-chain O L m.star n.star o.star h.star.star.board_known f.star g.star;
    order = L.keeps.order_chain m.at.site.board n.at.site.board o.at.site.board f.order g.order (λ x here there. g.none_back x (f.knows x (h.stands.pair.board_known x here)) there);
    knows = λ x k. g.knows x (f.knows x k);
    none_back = λ x k there. f.none_back x k (g.none_back x (f.knows x k) there);
  }

  -- # Each move

  still : (m n : Moment O) → n.star.order ≡ m.star.order → m.shown ≤ n.shown → m.at.site.named ≤ n.at.site.named → Grows m n
  still m n e shown named = record { more = []; one = omega arith; grows = e ∙ sym (append-nil m.star.order); shown = shown; named = named }

  pub moves-grow : (m n : Moment O) → Moves O i m n → Grows m n
  moves-grow m n (Hands d falling e) = still m n refl (omega arith) (same_named d)
    where
      same_named : (d : Down O.Op) → m.at.site.named ≤ (received O d m.at.site).named
      same_named (DownOp x) = omega arith
      same_named (DownAck k) = omega arith
      same_named (DownPong k) = omega arith
  moves-grow m n (Takes j apart l fl (UpOp x) none) = record { more = entry O j x ∷ []; one = omega arith; grows = refl; shown = omega arith; named = omega arith }
  moves-grow m n (Takes j apart l fl (UpAck k) none) = still m n refl (omega arith) (omega arith)
  moves-grow m n (Takes j apart l fl (UpPing k) none) = still m n refl (omega arith) (omega arith)
  moves-grow m n (TakesOwn (UpOp x) us rising fl none) = record { more = entry O i x ∷ []; one = omega arith; grows = refl; shown = omega arith; named = omega arith }
  moves-grow m n (TakesOwn (UpAck k) us rising fl none) = still m n refl (omega arith) (omega arith)
  moves-grow m n (TakesOwn (UpPing k) us rising fl none) = still m n refl (omega arith) (omega arith)
  moves-grow m n move = still m n refl (omega arith) (omega arith)

  -- what was known stays known
  knows-on : (m n : Moment O) → IsBeside O most first since i m → Grows m n → (x : O.t.Name) → Knows O since i m x → Knows O since i n x
  knows-on m n h g x known = known_names.known_more O L _ _ x (known_names.own_counts-more O L i m.at.site.named n.at.site.named (λ k. named_by O i k (told O since i m)) (λ k. named_by O i k (told O since i n)) g.named named) known
    where
      named : (k : ℕ) → named_by O i k (told O since i m) ≤ named_by O i k (told O since i n)
      named k = rw (g.grows, turns-append i m.star.order g.more)
          (following.told_more O L i k since m.shown n.shown (turns i m.star.order) (turns i g.more) h.stands.joined_within h.stands.shown_within g.shown)

  -- the star
  pub moves-follow : (m n : Moment O) → IsBeside O most first since i m → Moves O i m n → following.Follows O L m.star n.star
  moves-follow m n h Joins = (stars.called-joined O L most first m.star h.star).follows
  moves-follow m n h (Leaves j) = (stars.called-left O L most first m.star h.star j).follows
  moves-follow m n h (Fetches j k apart) = (stars.called-fetched O L most first m.star h.star j k).follows
  moves-follow m n h (FetchesOwn k fl) = (stars.called-fetched O L most first m.star h.star i k).follows
  moves-follow m n h (Takes j apart l fl up none) = (stars.called-taken O L most first m.star h.star j l fl up none).follows
  moves-follow m n h (TakesOwn up us rising fl none) = (stars.called-taken O L most first m.star h.star i m.link fl up none).follows
  moves-follow m n h move = (stars.called-still O L most first m.star h.star).follows

  -- the site's board
  abbrev Kept : Moment O → Moment O → Type 0
  Kept m n = O.t.keeps_order m.at.site.board n.at.site.board × ((x : O.t.Name) → Knows O since i m x → O.t.holds n.at.site.board x → O.t.holds m.at.site.board x)

  moves-keep : (m n : Moment O) → IsBeside O most first since i m → Moves O i m n → Kept m n
  moves-keep m n h (Edits command op ok) =
      let few = room O L most first m.star m.mine i since m.shown m.link m.at h.stands (fits O L most first since i m h) in (
        pairs.made_keeps_order O L most i first _ _ m.star.board m.mine m.link m.at h.stands.pair command op ok few h.star.star.counted,
        pairs.made_none_back O L most i first _ _ m.star.board m.mine m.link m.at h.stands.pair command op ok few h.star.star.counted,
      )
  moves-keep m n h (Hands (DownOp x) ds e) =
      let few = room O L most first m.star m.mine i since m.shown m.link m.at h.stands (fits O L most first since i m h) in
      let comes = ap (λ r. downs (r ++ m.link.outbox)) e in
      let head = first_falling O L h.stands.pair x (downs (ds ++ m.link.outbox)) comes in (
        pairs.shown_keeps_order O L most i first _ _ m.star.board m.mine m.link m.at h.stands.pair few x (downs (ds ++ m.link.outbox)) comes ds m.link.outbox refl head.0 head.1 head.2,
        pairs.shown_none_back O L most i first _ _ m.star.board m.mine m.link m.at h.stands.pair few x (downs (ds ++ m.link.outbox)) comes ds m.link.outbox refl head.0 head.1 head.2,
      )
  moves-keep m n h (Hands (DownAck k) ds e) = (L.keeps.order_self m.at.site.board, λ x known held. held)
  moves-keep m n h (Hands (DownPong k) ds e) = (L.keeps.order_self m.at.site.board, λ x known held. held)
  moves-keep m n h move = (L.keeps.order_self m.at.site.board, λ x known held. held)

  pub moves-later : (m n : Moment O) → IsBeside O most first since i m → Moves O i m n → Later m n
  moves-later m n h move = let kept = moves-keep m n h move in record { star = moves-follow m n h move; order = kept.0; knows = knows-on m n h (moves-grow m n move); none_back = kept.1 }

  -- over any run
  pub runs-later : (m n : Moment O) → Runs O i m n → IsBeside O most first since i m → Later m n
  runs-later m n Stays h = later-self m
  runs-later m n (Then o move run) h = later-chain m o n h (moves-later m o h move) (runs-later o n run (moves-beside O L most first since i m o move h))
