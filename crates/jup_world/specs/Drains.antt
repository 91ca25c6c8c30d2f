-- The rounds in which a world is drained.
use Rattle.std.specs.Prelude.{ℕ, zero, suc, ◌+◌, ◌*◌, List, [], ◌∷◌, Option, Some, None, ◌≡◌, ◌<◌, IsTrue, IsFalse, Bool, ◌≤◌, ◌↔◌, ◌||◌, true, false, nat_lt}
use Rattle.jup_world.specs.Prelude.{BoardBatch, board_batches, Up, UpOp, UpAck, UpPing, Down, DownOp, DownAck, DownPong, link_of, BoardStar, Way, WayUp, WayDown, Nothing}
use Rattle.jup_world.specs.Worlds.{attached, outcome}
use Rattle.jup_world.specs.Boards.{BoardWorld, BoardLink, BoardAttached, BoardEvent}
use Rattle.jup_world.specs.Events.{Up as MoveUp, Down as MoveDown}
use Rattle.jup_world.specs.Lanes.{LaneWorld, messages_of, IsDelivered, Plain, LaneSite, lane_site, Steps}

-- How much is on its way in a world: each delivery that moves a message leaves less, so a world can be drained. The rounds of
-- deliveries go over the numbers from 1 to that of the site that joined last.

-- an edit on its way up weighs more than all that it may bring down, the more sites there were
abbrev pub up_weight : ℕ → List (Up BoardBatch) → ℕ
up_weight given [] = 0
up_weight given (UpOp m ∷ us) = 2 * given + 10 + up_weight given us
up_weight given (UpAck n ∷ us) = 1 + up_weight given us
up_weight given (UpPing k ∷ us) = 2 + up_weight given us

-- what is on its way down
abbrev pub down_weight : List (Down BoardBatch) → ℕ
down_weight [] = 0
down_weight (DownOp m ∷ ds) = 2 + down_weight ds
down_weight (DownAck n ∷ ds) = 1 + down_weight ds
down_weight (DownPong k ∷ ds) = 1 + down_weight ds

-- what is on its way over one link
abbrev pub link_weight : ℕ → Option BoardLink → Option BoardAttached → ℕ
link_weight given None None = 0
link_weight given None (Some a) = 0
link_weight given (Some l) None = 0
link_weight given (Some l) (Some a) = up_weight given a.up + (down_weight a.down + down_weight l.outbox)

-- a sum over the numbers below one
abbrev pub sum_to : ℕ → (ℕ → ℕ) → ℕ
sum_to zero f = 0
sum_to (suc n) f = f n + sum_to n f

-- over all links
abbrev pub weight_of : BoardStar → List BoardAttached → ℕ
weight_of star sites = sum_to (suc star.given) (λ i. link_weight star.given (link_of i star.links) (attached i sites))

-- in a world
unfoldable pub weight : BoardWorld → ℕ
weight w = weight_of w.star w.sites

-- the delivery of this way at a site
abbrev pub way_event : Way → ℕ → BoardEvent
way_event WayUp i = MoveUp i
way_event WayDown i = MoveDown i

-- some deliveries, of which one moved a message, or none did
pub record Settles (moved : Bool) (w v : LaneWorld) : Type 0 where
  pub delivered : IsDelivered w v
  pub lighter : IsTrue moved → weight (messages_of v) < weight (messages_of w)
  pub same_star : IsFalse moved → v.star ≡ w.star
  pub same_sites : IsFalse moved → (messages_of v).sites ≡ (messages_of w).sites

-- a delivery at this site, if it is attached, moves nothing
abbrev pub MovesNothing : Way → ℕ → BoardWorld → Type 0
MovesNothing way i w = (a : BoardAttached) → attached i w.sites ≡ Some a → (outcome board_batches w (way_event way i)).reply ≡ Nothing

-- nor does one at any
abbrev pub NothingMoves : Way → BoardWorld → Type 0
NothingMoves way w = (i : ℕ) → MovesNothing way i w

-- The rounds in which a world is drained: which deliveries are tried, and in which order.

-- so many steps of one kind, one after the other
abbrev pub Repeats : {A : Type 0} → (A → A → Type 0) → ℕ → A → A → Type 0
Repeats {A = A} R zero w v = v ≡ w
Repeats {A = A} R (suc n) w v = (u : A) × Repeats R n w u × R u v

-- a delivery of this way at a site, which answered `Nothing` or moved a message
pub record Delivers (way : Way) (i : ℕ) (moved : Bool) (w v : LaneWorld) : Type 0 where
  pub step : Steps w (Plain (way_event way i)) v
  pub nothing : IsFalse moved ↔ ((outcome board_batches (messages_of w) (way_event way i)).reply ≡ Nothing)

-- deliveries at a site until one answers `Nothing`, and whether there was another
pub record Exhausts (way : Way) (i : ℕ) (moved : Bool) (w v : LaneWorld) : Type 0 where
  pub count : ℕ
  pub last : LaneWorld
  pub some : moved ≡ nat_lt 0 count
  pub moves : Repeats (Delivers way i true) count w last
  pub ends : Delivers way i false last v

-- if it is attached
abbrev pub Visits : Way → ℕ → Bool → Option LaneSite → LaneWorld → LaneWorld → Type 0
Visits way i moved None w v = (moved ≡ false) × (v ≡ w)
Visits way i moved (Some a) w v = Exhausts way i moved w v

-- at the numbers from 1 to n, ascending
abbrev pub Passes : Way → ℕ → Bool → LaneWorld → LaneWorld → Type 0
Passes way zero moved w v = (moved ≡ false) × (v ≡ w)
Passes way (suc n) moved w v =
    (before : Bool) × (here : Bool) × (u : LaneWorld) × (moved ≡ (before || here)) × Passes way n before w u × Visits way (suc n) here (lane_site (suc n) u.sites) u v

-- at all attached sites, ascending
pub record Sweeps (way : Way) (moved : Bool) (w v : LaneWorld) : Type 0 where
  pub last : ℕ
  pub all : (i : ℕ) (a : LaneSite) → lane_site i w.sites ≡ Some a → (1 ≤ i) × (i ≤ last)
  pub passes : Passes way last moved w v

-- a round: up at all of them, and then down at all, and whether a message was moved
pub record IsRound (moved : Bool) (w v : LaneWorld) : Type 0 where
  pub up : Bool
  pub down : Bool
  pub between : LaneWorld
  pub some : moved ≡ (up || down)
  pub ups : Sweeps WayUp up w between
  pub downs : Sweeps WayDown down between v

-- a drain: rounds, each of which moves a message, and one that moves none
pub record IsDrained (w v : LaneWorld) : Type 0 where
  pub count : ℕ
  pub last : LaneWorld
  pub rounds : Repeats (IsRound true) count w last
  pub ends : IsRound false last v
