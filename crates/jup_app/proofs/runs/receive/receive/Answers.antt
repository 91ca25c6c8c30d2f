use Rattle.std.proofs.Common.{[], lit<, sym, ◌∙◌}
use Rattle.jup_app.specs.Prelude.{most_fetched, append-nil}
use Rattle.jup_app.proofs.Passes as passes
use Rattle.jup_app.proofs.Calls.{fetches_first}
use Rattle.jup_app.proofs.runs.receive.receive.Goals as goal

pub returns-then-is_empty-clause-handled : goal.returns-then-is_empty-clause-handled
returns-then-is_empty-clause-handled g c =
    passes.got_nothing _ most_fetched _ _ _ _ _ _ c.in_ok-downs.ensures.called c.in_ok-downs.ensures.count (lit< tt) (passes.no_elements _ _ c.as_slice.ensures.messages (sym c.is_empty.ensures ∙ c.if-is_empty.true))

pub returns-clause-handled : goal.returns-clause-handled
returns-clause-handled g c =
    passes.handles_both _ _ _ _ _ _ _ _ _ _
    (passes.got_through _ most_fetched _ _ _ _ _ _ _ _ _ _ _ c.in_ok-downs.ensures.called c.in_ok-downs.ensures.count (lit< tt) c.as_slice-2.ensures.messages c.new-owed.ensures.items c.as_slice-3.ensures.value c.in_ok-deliver_all.ensures.accepted c.in_ok-deliver_all.ensures.link)
    (c.in_ok-take_all.ensures.took _)

pub returns-then-is_empty-clause-fetched : goal.returns-then-is_empty-clause-fetched
returns-then-is_empty-clause-fetched g c = fetches_first _ _ _ _ _ [] c.in_ok-downs.ensures.called (sym (append-nil _))

pub returns-clause-fetched : goal.returns-clause-fetched
returns-clause-fetched g c =
    let took = c.in_ok-take_all.ensures.took c.args.site.now in
    fetches_first _ _ _ _ _ took.plays.calls c.in_ok-downs.ensures.called took.plays.made
