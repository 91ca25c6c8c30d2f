use Rattle.std.proofs.Common.{refl}
use Rattle.jup_window.proofs.BoardChanges.{IsTable-set, value-at, value-set}
use Rattle.jup_window.proofs.entries.Table.value_mut.Goals as goal

pub invariant_of-self-lent : goal.invariant_of-self-lent
invariant_of-self-lent g c w = IsTable-set c.args.at c.self.inside.entries.items c.index_mut.result.now w c.index_mut.ensures.value c.self.invariant

pub returns : goal.returns
returns g c =
    rw (← c.self.view_is) (
      (refl, λ w. value-set c.args.at c.self.inside.entries.items c.index_mut.result.now w c.index_mut.ensures.value),
      record { writes_back = tt; value = value-at c.args.at c.self.inside.entries.items c.index_mut.result.now (rw (← c.self.view_is) at c.requires) c.index_mut.ensures.value },
    )
