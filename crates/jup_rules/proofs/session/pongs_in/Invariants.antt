use Rattle.std.proofs.Common.{◌≡◌, ◌≤◌, take, count_by}
use Rattle.jup_rules.specs.Sessions.{is_pong}
use Rattle.jup_rules.proofs.session.pongs_in.Given as goal

-- the pongs so far
abbrev pub invariant-loop-down : goal.invariant-loop-down
invariant-loop-down l = record {
  counted : l.pongs ≡ count_by is_pong (take l.down-index l.downs);
  few : l.pongs ≤ l.down-index;
}
