-- What a server keeps of links that are over, in the order in which it began to keep only that.
use Rattle.std.specs.Prelude.{◌≡◌, ◌≢◌, ℕ, ◌-◌, not, nat_lt, if◌then◌else◌, List, [], ◌∷◌, ◌++◌, length, position, filter, Option, None, Some}
use Rattle.std.specs.List.{remove, AllByRecursion}
use Rattle.jup_links.specs.declared.counts.Count.{Count}

-- of how many links
abbrev pub most_counts : ℕ
most_counts = 4096

-- for how many milliseconds: a day
abbrev pub a_day : ℕ
a_day = 86400000

abbrev pub or_first : Option ℕ → ℕ
or_first None = 0
or_first (Some place) = place

-- the first of a link without an edit is forgotten, or else the first
abbrev pub without_one : List Count → List Count
without_one counts = remove counts (or_first (position (λ c. not c.has_edits) counts))

-- with one more, of which one is forgotten if these are too many
abbrev pub with_one_more : Count → List Count → List Count
with_one_more count counts = if nat_lt (length counts) most_counts then counts ++ count ∷ [] else without_one (counts ++ count ∷ [])

-- those that were kept for less than a day
abbrev pub of_a_day : ℕ → List Count → List Count
of_a_day now counts = filter (λ c. nat_lt (now - c.since) a_day) counts

-- the last count of this token
pub record IsCountOf (token : List ℕ) (counts : List Count) (taken : ℕ) : Type 0 where
  pub before : List Count
  pub count : Count
  pub behind : List Count
  pub whole : counts ≡ before ++ count ∷ behind
  pub token_is : count.token ≡ token
  pub taken_is : count.taken ≡ taken
  pub last : AllByRecursion (λ c. c.token ≢ token) behind

abbrev pub Finds : List ℕ → List Count → Option ℕ → Type 0
Finds token counts None = AllByRecursion (λ c. c.token ≢ token) counts
Finds token counts (Some taken) = IsCountOf token counts taken
