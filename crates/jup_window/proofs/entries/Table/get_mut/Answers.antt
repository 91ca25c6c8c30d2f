use Rattle.std.proofs.Common.{◌≡◌, ◌==◌, Some, None, refl, sym, ◌∙◌, inl}
use Rattle.std.specs.List.{position}
use Rattle.jup_window.proofs.BoardChanges.{none_found, found-is, found-changed}
use Rattle.jup_window.proofs.entries.Table.get_mut.Goals as goal

pub returns-in_err-at : goal.returns-in_err-at
returns-in_err-at g c =
    let none : None ≡ position (λ e. e.0 == c.args.id) c.args.self.now = rw (c.deref.ensures.value ∙ c.self.view_is) at c.in_err-at.ensures in
    rw c.from_residual.ensures (refl, record { writes_back = tt; value = sym (none_found c.args.id c.args.self.now none) })

pub returns : goal.returns
returns g c =
    let some : Some c.in_ok-at.at ≡ position (λ e. e.0 == c.args.id) c.args.self.now = rw (c.deref.ensures.value ∙ c.self.view_is) at c.in_ok-at.ensures in (
      λ i. inl (c.value_mut.result.ghost_name, λ w. found-changed c.args.id c.in_ok-at.at c.args.self.now w some i),
      record { writes_back = tt; value = found-is c.args.id c.in_ok-at.at c.args.self.now c.value_mut.result.now some c.value_mut.ensures.value },
    )
