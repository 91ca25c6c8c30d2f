use Rattle.std.proofs.Common.{◌≡◌, drop}
use Rattle.jup_window.specs.Entries.{map_values}
use Rattle.jup_window.proofs.entries.Table.same.Given as goal

-- the entries are equal exactly if what is left of them is
abbrev pub invariant-loop-entry : goal.invariant-loop-entry
invariant-loop-entry g l = record {
  from_rest : map_values g.A.TableValue.bare (drop l.entry-index l.entry-items) ≡ map_values g.A.TableValue.bare l.others.rest.now → map_values g.A.TableValue.bare l.self ≡ map_values g.A.TableValue.bare l.other;
  to_rest : map_values g.A.TableValue.bare l.self ≡ map_values g.A.TableValue.bare l.other → map_values g.A.TableValue.bare (drop l.entry-index l.entry-items) ≡ map_values g.A.TableValue.bare l.others.rest.now;
}
