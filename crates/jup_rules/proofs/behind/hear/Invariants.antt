use Rattle.std.proofs.Common.{◌≡◌, ◌+◌, take, drop, sum}
use Rattle.jup_rules.specs.Lags.{counted}
use Rattle.jup_rules.proofs.behind.hear.Given as goal

abbrev pub invariant-loop : goal.invariant-loop
invariant-loop l = record {
  known : l.all ≡ counted (l.fn.known + sum (take l.counter l.fn.unheard.items));
  waiting : l.unheard.items ≡ drop l.counter l.fn.unheard.items;
}
