use Rattle.std.proofs.Common.{◌≡◌, take}
use Rattle.jup_rules.specs.Lags.{HasFetchedSome}
use Rattle.jup_rules.proofs.behind.Lag.fetch_all.Given as goal

abbrev pub invariant-loop-down : goal.invariant-loop-down
invariant-loop-down l = record {
  fetched : HasFetchedSome (take l.down-index l.downs) l.fn.self l.self;
  acknowledged : l.self.acknowledged ≡ l.fn.self.acknowledged;
}
