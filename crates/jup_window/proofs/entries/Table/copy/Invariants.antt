use Rattle.std.proofs.Common.{◌≡◌, take}
use Rattle.jup_window.specs.Entries.{map_values}
use Rattle.jup_window.proofs.entries.Table.copy.Given as goal

-- the entries so far are copied
abbrev pub invariant-loop-id : goal.invariant-loop-id
invariant-loop-id g l = map_values g.A.TableValue.bare l.entries.items ≡ map_values g.A.TableValue.bare (take l.id-index l.self)
