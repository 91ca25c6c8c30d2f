-- What a table ends as, once a `&mut` into it has ended.
use Rattle.std.specs.Prelude.{ℕ, zero, suc, List, [], ◌∷◌, Option}
use Rattle.std.specs.Borrow.{Lends, LendsIf, Fml, RattleType, MutBor}
use Rattle.jup_window.specs.Entries.{change_at}
use Rattle.jup_window.specs.contracts.entries.Table.{the_row}

-- the entries, of which that at an index has another value
abbrev pub with_value_at : {A : Type 0} → List (ℕ × A) → ℕ → A → List (ℕ × A)
with_value_at [] i a = []
with_value_at (e ∷ es) zero a = (e.0, a) ∷ es
with_value_at (e ∷ es) (suc i) a = e ∷ with_value_at es i a

module _ (A : RattleType) (t : MutBor (List (ℕ × A.Denot))) where
  -- the entry at an index has the last value written through r
  abbrev pub lends_entry : ℕ → MutBor A.Denot → Fml
  lends_entry i r = Lends (the_row A) A t r (with_value_at t.now i)

  -- the id has the last value written through r, and at `None` the table stays as it is
  abbrev pub lends_value : ℕ → Option (MutBor A.Denot) → Fml
  lends_value k r = LendsIf (the_row A) A t r (λ w. change_at k (λ _. w) t.now) t.now
