use Rattle.std.proofs.Common.{◌≡◌, ◌≤◌, true, length, ap, ◌∙◌, arith, take_all}
use Rattle.std.specs.Result.{is_ok}
use Rattle.std.proofs.lemmas.Grind.{common_steps}
use Rattle.jup_window.specs.Entries.{map_values}
use Rattle.jup_window.proofs.BoardChanges.{IsTable-same, copied_more}
use Rattle.jup_window.proofs.entries.Table.copy.Goals as goal

pub loop-id-preserved : goal.loop-id-preserved
loop-id-preserved g c =
    let ok : is_ok c.push.result ≡ true = grind (arith, common_steps, c.in_ok-map_err.ensures.variant, c.in_ok-map_err.was) in
    rw (c.push.ensures.items, ok, ← c.as_slice-id-items.ensures.entries)
    (copied_more g.A.TableValue.bare c.loop-id.entries.items c.as_slice-id-items.result.now c.loop-id.id-index c.loop-id-item.result c.in_ok-copy.field-0
    (rw (← c.as_slice-id-items.ensures.entries) at c.loop-id.invariant) c.loop-id-test.true c.loop-id-item.is c.in_ok-copy.ensures)

pub invariant_of-result : goal.invariant_of-result
invariant_of-result g c =
    let entries = c.as_slice-id-items.ensures.entries in
    let all : length c.args.self.now ≤ c.loop-id.id-index = rw entries at c.loop-id-test.false in
    IsTable-same g.A.TableValue.bare c.loop-id.entries.items c.args.self.now (c.loop-id.invariant ∙ ap (λ es. map_values g.A.TableValue.bare es) (take_all c.loop-id.id-index c.args.self.now all))
    c.as_slice-id-items.ensures.ascending
