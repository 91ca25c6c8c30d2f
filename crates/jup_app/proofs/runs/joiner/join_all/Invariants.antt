use Rattle.std.proofs.Common.{◌≡◌, vec_len}
use Rattle.jup_app.specs.Prelude.{view_of, IsPassOf}
use Rattle.jup_app.specs.Runs.{HasJoinedAll}
use Rattle.jup_app.proofs.runs.joiner.join_all.Given as goal

abbrev pub invariant-loop-k : goal.invariant-loop-k
invariant-loop-k g l = record {
  fits : IsPassOf l.hub l.caller.pass;
  joined : HasJoinedAll (view_of l.caller.pass) l.caller.calls l.sites.items;
  long : vec_len l.sites ≡ l._k;
}
