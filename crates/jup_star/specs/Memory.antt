-- An order in memory, and an entry that is to come into it, as contracts see them.
use Rattle.std.specs.Prelude.{ℕ, ◌-◌, vec_len, true, false}
use Rattle.std.specs.Vec.{vec_capacity}
use Rattle.jup_star.specs.Prelude.{BoardEdits}
use Rattle.jup_batch.specs.Boards.{edit_of}
use Rattle.jup_star.specs.Orders.{OrderState, Coming}
use Rattle.jup_star.specs.declared.order.Entries.{Entries}
use Rattle.jup_star.specs.declared.order.Entries.TheVariants.{Kept, Counted}
use Rattle.jup_star.specs.declared.order.NewEntry.{NewEntry}
use Rattle.jup_star.specs.declared.order.NewEntry.TheVariants.{Whole, Noted}

-- the order that is kept, or only counted
abbrev pub state_of : Entries → OrderState BoardEdits
state_of (Kept es) = record { entries = es.items; keeps = true }
state_of (Counted c) = record { entries = c.taken.entries; keeps = false }

-- how many more entries there is room for: a count takes none
abbrev pub spare_of : Entries → ℕ
spare_of (Kept es) = vec_capacity es - vec_len es
spare_of (Counted c) = 18446744073709551615 - c.count

-- an entry that is to come
abbrev pub coming : NewEntry → Coming BoardEdits
coming (Whole e) = record { entry = e; keeps = true }
coming (Noted last) = record { entry = record { site = last.site; edit = edit_of last.msg.value.op }; keeps = false }
