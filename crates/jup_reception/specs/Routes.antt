-- What an address of a server of many boards is of, and what a request is answered by.
use Rattle.std.specs.Prelude.{◌≡◌, ◌≢◌, ◌⊎◌, ℕ, List, ◌++◌, codes, Bool, true, false, Result, MatchBool, MatchResult}
use Rattle.jup_http.specs.declared.asked.Asked.{Asked}
use Rattle.jup_http.specs.declared.refusal.Refusal.{Refusal}
use Rattle.jup_http.specs.declared.refusal.Refusal.TheVariants.{Foreign, BadMethod, NoPage}
use Rattle.jup_keys.specs.Ids.{IsIdText}
use Rattle.jup_reception.specs.declared.routes.Route.{Route}
use Rattle.jup_reception.specs.declared.routes.Route.TheVariants as route
use Rattle.jup_reception.specs.declared.routes.Answered.{Answered}
use Rattle.jup_reception.specs.declared.routes.Answered.TheVariants as answered

-- what follows `/b/`: an ID, or an ID and `/ws`
abbrev pub IsBoardRoute : List ℕ → Route → Type 0
IsBoardRoute rest route.Page = IsIdText rest
IsBoardRoute rest route.Health = ⊥
IsBoardRoute rest (route.Socket id) = IsIdText id × (rest ≡ id ++ codes "/ws")
IsBoardRoute rest route.Nowhere = (IsIdText rest → ⊥) × ((id : List ℕ) → IsIdText id → rest ≢ id ++ codes "/ws")

-- what the path of an address is of
abbrev pub IsRoute : List ℕ → Route → Type 0
IsRoute target route.Page = (target ≡ codes "/") ⊎ ((id : List ℕ) × IsIdText id × (target ≡ codes "/b/" ++ id))
IsRoute target route.Health = target ≡ codes "/health"
IsRoute target (route.Socket id) = IsIdText id × (target ≡ codes "/b/" ++ (id ++ codes "/ws"))
IsRoute target route.Nowhere = (target ≢ codes "/") × (target ≢ codes "/health")
    × ((id : List ℕ) → IsIdText id → (target ≢ codes "/b/" ++ id) × (target ≢ codes "/b/" ++ (id ++ codes "/ws")))

-- what a request of the server's own pages is answered by
abbrev pub IsAnsweredAt : Route → Result (List ℕ) Refusal → Answered → Type 0
IsAnsweredAt route.Page upgrade answer = answer ≡ answered.Page
IsAnsweredAt route.Health upgrade answer = answer ≡ answered.Health
IsAnsweredAt (route.Socket id) upgrade answer = MatchResult upgrade (λ key. answer ≡ answered.Socket id key) (λ refusal. answer ≡ answered.Refused refusal)
IsAnsweredAt route.Nowhere upgrade answer = answer ≡ answered.Refused NoPage

-- a request that comes from elsewhere is refused, except for that of whether the server is well
abbrev pub IsForeign : Asked → Route → Type 0
IsForeign asked at = (asked.is_own ≡ false) × (at ≢ route.Health)

-- what the head of a request is answered by
pub record IsAnswered (asked : Asked) (answer : Answered) : Type 0 where
  pub at : Route
  pub is : IsRoute asked.target.now at
  pub answers : (IsForeign asked at × (answer ≡ answered.Refused Foreign))
      ⊎ ((IsForeign asked at → ⊥) × MatchBool asked.is_get (IsAnsweredAt at asked.upgrade answer) (answer ≡ answered.Refused BadMethod))
