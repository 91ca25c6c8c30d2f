-- How far a site is behind, the operations of others that it has not acknowledged, and what one message may cost the others.
use Rattle.std.specs.Prelude.{◌≡◌, ℕ, ◌+◌, ◌-◌, ◌/◌, min, List, [], ◌∷◌, ◌++◌, take, drop, length, sum, ◌*◌, if◌then◌else◌, nat_lt, Option, Some, None, Result, Ok, Err}
use Rattle.std.specs.Duration.{as_nanos}
use Rattle.std.specs.declared.time.Duration.{Duration}
use Rattle.std.specs.List.{flat_map}
use Rattle.jup_limits.specs.Limits.{most_behind}
use Rattle.jup_rules.specs.Prelude.{BoardBatch, Down, DownOp, DownAck, DownPong, Up, UpOp, UpAck, UpPing}
use Rattle.jup_rules.specs.declared.behind.Admission.{Admission}
use Rattle.jup_rules.specs.declared.behind.Admission.TheVariants.{Light, Heavy, Long, Costly}
use Rattle.jup_rules.specs.declared.behind.FarBehind.{FarBehind}
use Rattle.jup_rules.specs.declared.behind.Rests.{Rests}

-- What is kept of a site: how many operations it knows of those that the server has taken. Some messages were fetched for it, and it has not acknowledged
-- them: how many operations each has. And how many messages it acknowledged, and how many of these were not fetched yet
pub record Behind : Type 0 where
  pub known : ℕ
  pub waiting : List ℕ
  pub acknowledged : ℕ
  pub early : ℕ

-- a count of operations, which stops at the largest that there is; no server takes so many
abbrev pub counted : ℕ → ℕ
counted operations = min operations 18446744073709551615

-- Messages of so many operations each were fetched for the site. Of all operations that the server has taken so many are not others' since the site joined: they
-- were taken before that, or are its own
pub record IsBehind (besides : ℕ) (messages : List ℕ) (site : Behind) : Type 0 where
  pub known : site.known ≡ counted (besides + sum (take site.acknowledged messages))
  pub waiting : site.waiting ≡ drop site.acknowledged messages
  pub early : site.early ≡ site.acknowledged - length messages

-- the operations that it does not know, where the server has taken so many: also those that wait to be fetched
abbrev pub behind_of : ℕ → Behind → ℕ
behind_of taken site = taken - site.known

-- the operations of a message of a site
abbrev pub operations_in : Up BoardBatch → ℕ
operations_in (UpOp msg) = length msg.op
operations_in (UpAck count) = 0
operations_in (UpPing number) = 0

-- how many messages it acknowledges
abbrev pub heard_by : Up BoardBatch → ℕ
heard_by (UpOp msg) = msg.heard
heard_by (UpAck count) = count
heard_by (UpPing number) = 0

-- the operations of a message to a site, where it is one that a site acknowledges
abbrev pub brought_by : Down BoardBatch → List ℕ
brought_by (DownOp msg) = length msg.op ∷ []
brought_by (DownAck count) = []
brought_by (DownPong number) = []

-- these messages were fetched for a site, whatever came before
abbrev pub HasFetchedSome : List (Down BoardBatch) → Behind → Behind → Type 0
HasFetchedSome downs old new = (besides : ℕ) (messages : List ℕ) → IsBehind besides messages old → IsBehind besides (messages ++ flat_map brought_by downs) new

-- transforms that a message may cost and still be light: some 0.3 ms
abbrev pub light_transforms : ℕ
light_transforms = 8192

-- those of a message that is heavy and not yet long: some 4 ms
abbrev pub heavy_transforms : ℕ
heavy_transforms = 131072

-- those of a message that is long and not yet costly: some 35 ms
abbrev pub long_transforms : ℕ
long_transforms = 1048576

-- what becomes of a message that costs so many transforms
abbrev pub admission_at : ℕ → Admission
admission_at cost = if nat_lt long_transforms cost then Costly else (if nat_lt heavy_transforms cost then Long else (if nat_lt light_transforms cost then Heavy else Light))

-- whether a site that is so many operations behind may go on
abbrev pub check_of : ℕ → Result (Unit {0}) FarBehind
check_of behind = if nat_lt most_behind behind then Err (record { operations = behind }) else Ok tt

-- what becomes of a message of so many operations whose site is so many behind: it costs a transform for each pair of them
abbrev pub admission_of : ℕ → ℕ → Result Admission FarBehind
admission_of operations behind = if nat_lt most_behind behind then Err (record { operations = behind }) else Ok (admission_at (operations * behind))

-- microseconds of a time, up to as many as can be counted; as many if the time is not known
abbrev pub micros_of : Option Duration → ℕ
micros_of None = 18446744073709551615
micros_of (Some took) = min (as_nanos took / 1000) 18446744073709551615

-- How a session rests after a take: half a millisecond after a long one, before others make takes that are not light. After a costly one it rests beside such
-- takes of others, seven times as long as that took, and at most two seconds
abbrev pub rests_of : Admission → Option Duration → Rests
rests_of Light took = record { before_others = 0; beside_others = 0 }
rests_of Heavy took = record { before_others = 0; beside_others = 0 }
rests_of Long took = record { before_others = 500; beside_others = 0 }
rests_of Costly took = record { before_others = 0; beside_others = min (7 * micros_of took) 2000000 }
