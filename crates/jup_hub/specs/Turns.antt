-- The rule of the table, and what each step shows. Word 0 is the count of events, and word 1 the turn: 0 if it is free.
-- The slot holds the star and a copy of the count.
use Rattle.std.specs.Prelude.{◌≡◌, ◌≢◌, ℕ, suc, ◌≤◌, true, List, [], ◌∷◌, length, slice_index, Option, Some, None}
use mathlib.Core.Option as maybe
use lib.ListN.{get_elem?}
use Rattle.atomic_table.specs.Table.{State, Me, Step}
use Rattle.atomic_table.specs.Seated.{TableId}
use Rattle.jup_hub.specs.Prelude.{BoardStar, Call, StarReply, Desk, HubEvent, Tally, View}
use Rattle.jup_hub.specs.Histories.{star_through, IsLegal, calls_by, BeginsWithAll, AllTallied, AllApart, tallies, at_turn, having_seen, having_called, with_call, Meets}

-- what is in the slot after a history: the star after it, and how long it is
abbrev pub desk_after : BoardStar → List HubEvent → Desk
desk_after star log = record { star = star_through star log; count = length log }

-- a seat owns the numbers of some tallies. The owner of a number is one more than the seat of the pass that has it, and 0 if no
-- pass has it
abbrev pub AllOwned : (List ℕ → ℕ) → ℕ → List Tally → Type 0
AllOwned owner seat [] = Unit {0}
AllOwned owner seat (t ∷ ts) = (owner t.number ≡ suc seat) × AllOwned owner seat ts

module _ (star : BoardStar) (log : List HubEvent) (owner : List ℕ → ℕ) (turn holder seat : ℕ) where
  -- a pass that has the turn is the holder, and what it took to be the history of all calls is it
  abbrev pub HasTurn : Option (List HubEvent) → Type 0
  HasTurn None = Unit {0}
  HasTurn (Some whole) = (turn ≢ 0) × (seat ≡ holder) × (whole ≡ log)

  -- What the pass in a seat knows is so: the star that the hub was opened with, its turn, and what it has seen. So are the calls
  -- under its numbers, which differ and are its own. No pass has a number yet that will be split from its own
  pub record Fits (v : View) : Type 0 where
    pub opened : v.opening ≡ star
    pub has_turn : HasTurn v.turn
    pub begins : BeginsWithAll log v.seen
    pub tallied : AllTallied log (tallies v)
    pub apart : AllApart (tallies v)
    pub owned : AllOwned owner seat (tallies v)
    pub unborn : (k : ℕ) → v.splits ≤ k → owner (k ∷ v.number) ≡ 0

-- What holds between any two steps. There is one legal history, as long as the count. If the turn is free, what is in the slot
-- is after it. What each pass knows is so. A number that no pass has bears no calls, and none is split from it
pub record Kept (star : BoardStar) (s : State (Option Desk) View) : Type 0 where
  pub log : List HubEvent
  pub owner : List ℕ → ℕ
  pub holder : ℕ
  pub wide : length s.words ≡ 2
  pub count : slice_index s.words 0 ≡ length log
  pub legal : IsLegal star log
  pub at_rest : slice_index s.words 1 ≡ 0 → s.homes ≡ maybe.some (Some (desk_after star log)) ∷ []
  pub each_seat : (j : ℕ) (v : View) → get_elem? s.views j ≡ maybe.some v → v.is_live ≡ true → Fits star log owner (slice_index s.words 1) holder j v
  pub no_calls : (number : List ℕ) → owner number ≡ 0 → calls_by number log ≡ []
  pub no_child : (k : ℕ) (number : List ℕ) → owner number ≡ 0 → owner (k ∷ number) ≡ 0

-- the view of a seat, and the slots that it holds, each with what it took out
abbrev pub SeatState : Type 0
SeatState = Me (Option Desk) View

-- a step: its word, and the numbers given to it
abbrev TableStep : Type 0
TableStep = Step (Option Desk)

-- the turn was free: the pass meets the history of all calls, and takes what is in the slot
abbrev pub TookTurn : SeatState → SeatState → Type 0
TookTurn m m' = (log : List HubEvent) × Meets m.0 log × (m' ≡ (at_turn (Some log) m.0, (0, Some (desk_after m.0.opening log)) ∷ m.1))

-- a try for the turn
abbrev pub tried : TableStep → SeatState → ℕ → SeatState → Type 0
tried st m found m' = (found ≡ 0 → TookTurn m m') × (found ≢ 0 → m' ≡ m)

-- the call is added to the history of all calls
abbrev pub decided : Call → StarReply → TableStep → SeatState → ℕ → SeatState → Type 0
decided call reply st m stored m' = (log : List HubEvent) → m.0.turn ≡ Some log → m' ≡ (at_turn (Some (with_call log m.0 call reply)) (having_called log call reply m.0), m.1)

-- the turn is given up, and what is in hand goes into the slot
abbrev pub gave : TableStep → SeatState → ℕ → SeatState → Type 0
gave st m stored m' = m' ≡ (at_turn None m.0, [])

-- a look at the count: the pass meets the history of all calls, and has then seen it
abbrev pub looked : TableStep → SeatState → ℕ → SeatState → Type 0
looked st m found m' = (log : List HubEvent) × Meets m.0 log × (found ≡ length log) × (m' ≡ (having_seen log m.0, m.1))

-- a look at the count by the pass that has the turn: it has then seen the history of all calls
abbrev pub saw : TableStep → SeatState → ℕ → SeatState → Type 0
saw st m found m' = (log : List HubEvent) → m.0.turn ≡ Some log → m' ≡ (having_seen log m.0, m.1)

-- a look at the count by which nothing is seen: the pass fits the history of all calls
abbrev pub learned : TableStep → SeatState → ℕ → SeatState → Type 0
learned st m found m' = (log : List HubEvent) × Meets m.0 log × (m' ≡ m)

-- the history of all calls, if the pass has the turn
abbrev pub whole_or : Option (List HubEvent) → List HubEvent
whole_or None = []
whole_or (Some log) = log

-- the same of a view
abbrev pub whole : View → List HubEvent
whole v = whole_or v.turn

-- a seat at rest
abbrev pub IsIdle : SeatState → Type 0
IsIdle m = (m.1 ≡ []) × (m.0.turn ≡ None) × (m.0.is_live ≡ true)

-- a seat that has the turn, and nothing in the slot that it took
abbrev pub IsAtTurn : SeatState → Type 0
IsAtTurn m = (m.1 ≡ (0, None) ∷ []) × (m.0.turn ≡ Some (whole m.0)) × (m.0.is_live ≡ true)

-- the star after the history of all calls
abbrev pub star_now : View → BoardStar
star_now v = star_through v.opening (whole v)

-- the turn was taken, and the desk out of the slot
abbrev pub Takes : SeatState → SeatState → Desk → Type 0
Takes m m' desk = (log : List HubEvent) × Meets m.0 log × (desk ≡ desk_after m.0.opening log) × (m' ≡ (at_turn (Some log) m.0, (0, None) ∷ []))

-- two words and one slot
abbrev pub IsHubTable : TableId → Type 0
IsHubTable z = (z.words ≡ 2) × (z.slots ≡ 1)
