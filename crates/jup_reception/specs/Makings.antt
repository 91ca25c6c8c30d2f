-- How many boards a server makes in a time.
use Rattle.std.specs.Prelude.{◌≡◌, ◌⊎◌, ℕ, ◌-◌, ◌<◌, ◌≤◌, Bool, true, false, List, [], ◌∷◌, ◌++◌, length, drop, nat_lt, if◌then◌else◌}

-- when the latest boards were made: of all, and of those that the owner did not make
pub record Made : Type 0 where
  pub all : List ℕ
  pub strange : List ℕ

-- fewer than so many of the latest were made within a time
abbrev pub HasRoom : (most time now : ℕ) → List ℕ → Type 0
HasRoom most time now [] = Unit {0}
HasRoom most time now (first ∷ rest) = (length (first ∷ rest) < most) ⊎ (time ≤ now - first)

-- 10 in a minute, and 100 in a day that the owner did not make
abbrev pub MayMake : Made → ℕ → Bool → Type 0
MayMake made now true = HasRoom 10 60000 now made.all
MayMake made now false = HasRoom 10 60000 now made.all × HasRoom 100 86400000 now made.strange

-- without the first, if there are more than so many
abbrev pub latest : ℕ → List ℕ → List ℕ
latest most made = if nat_lt most (length made) then drop 1 made else made

-- another was made then
abbrev pub after_making : Made → ℕ → Bool → Made
after_making made now true = record made { all = latest 10 (made.all ++ now ∷ []) }
after_making made now false = record { all = latest 10 (made.all ++ now ∷ []); strange = latest 100 (made.strange ++ now ∷ []) }
