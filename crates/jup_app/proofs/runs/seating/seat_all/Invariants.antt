use Rattle.std.proofs.Common.{◌≡◌, List, ◌++◌, length}
use Rattle.jup_app.specs.Prelude.{BoardSite, HubEvent, view_of, IsPassOf, into_iter_items}
use Rattle.jup_app.specs.Runs as runs
use Rattle.jup_app.proofs.runs.seating.seat_all.Given as goal

abbrev pub invariant-loop-site : goal.invariant-loop-site
invariant-loop-site l = record {
  can_next : (goal.iterator-loop-site).can_next l.site-iterator;
  is_finite : (goal.iterator-loop-site).is_finite l.site-iterator;
  fits : IsPassOf l.hub l.caller.pass;
  same : runs.IsSame (view_of l.fn.caller.pass) (view_of l.caller.pass);
  calls : l.caller.calls ≡ l.fn.caller.calls;
  done : List BoardSite;
  split : l.fn.sites.items ≡ done ++ into_iter_items l.site-iterator;
  long : length l.jobs.items ≡ length done;
  seated : (h : List HubEvent) → runs.HasMet (view_of l.fn.caller.pass) h → runs.AreJobs l.hub h l.fn.sites.items l.scripts l.jobs.items;
}
