use Rattle.jup_app.specs.Runs as runs
use Rattle.jup_app.proofs.runs.receive.deliver_all.Given as goal

abbrev pub invariant-loop-down : goal.invariant-loop-down
invariant-loop-down l = runs.IsDelivering l.downs l.down-index (runs.link_with l.fn.site l.fn.owed.items) (runs.link_with l.site l.owed.items)
