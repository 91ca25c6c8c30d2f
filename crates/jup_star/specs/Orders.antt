-- What a star keeps of its order.
use Rattle.std.specs.Prelude.{List, [], ◌∷◌, ◌++◌, ℕ, Bool, if◌then◌else◌}
use Rattle.jup_star.specs.Prelude.{Entry}

-- an order: its entries, and whether they are kept or only counted
pub record OrderState (Edit : Type 0) : Type 0 where
  pub entries : List (Entry Edit)
  pub keeps : Bool

-- an order in memory: how many more entries there is room for
pub record RoomyOrder (Edit : Type 0) : Type 0 where
  pub state : OrderState Edit
  pub spare : ℕ

-- an entry that is to come into an order, and whether it is whole or only to be counted
pub record Coming (Edit : Type 0) : Type 0 where
  pub entry : Entry Edit
  pub keeps : Bool

module _ {Edit : Type 0} where
  -- the entries that are kept
  abbrev pub kept_entries : OrderState Edit → List (Entry Edit)
  kept_entries o = if o.keeps then o.entries else []

  -- one more entry
  abbrev pub with_entry : Entry Edit → OrderState Edit → OrderState Edit
  with_entry e o = record o { entries = o.entries ++ e ∷ [] }
