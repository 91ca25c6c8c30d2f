use Rattle.std.proofs.Common.{◌≡◌, List, ◌++◌, Result, All, IfOk}
use Rattle.jup_app.specs.Prelude.{view_of, IsPassOf, Player, Halt, into_iter_items}
use Rattle.jup_app.specs.Runs.{HasTaken}
use Rattle.jup_app.proofs.runs.joiner.rejoin_all.Given as goal

abbrev pub invariant-loop-result : goal.invariant-loop-result
invariant-loop-result l = record {
  can_next : (goal.iterator-loop-result).can_next l.result-iterator;
  is_finite : (goal.iterator-loop-result).is_finite l.result-iterator;
  fits : IsPassOf l.hub l.caller.pass;
  passes : All (λ r. IfOk r (λ p. IsPassOf l.hub p.caller.pass)) (into_iter_items l.result-iterator);
  done : List (Result Player Halt);
  split : l.fn.results.items ≡ done ++ into_iter_items l.result-iterator;
  taken : HasTaken (view_of l.fn.caller.pass) (view_of l.caller.pass) l.fn.caller.calls l.caller.calls done l.ends.items;
}
