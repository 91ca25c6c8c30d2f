use Rattle.std.proofs.Common.{arith}
use Rattle.jup_app.proofs.Calls as calls
use Rattle.jup_app.proofs.runs.joiner.join_all.Goals as goal

pub loop-k-init : goal.loop-k-init
loop-k-init g c = record { fits = c.requires.pass; joined = calls.joined_none _ _ _ c.new-sites.ensures.items c.requires.none; long = c.new-sites.ensures.len }

pub loop-k-preserved : goal.loop-k-preserved
loop-k-preserved g c = record {
  fits = c.in_ok-join_one.ensures.pass;
  joined = calls.joined_more _ _ _ _ _ _ _ c.loop-k.invariant.joined c.in_ok-join_one.ensures.called c.in_ok-join_one.ensures.fresh c.in_ok-join_one.ensures.count c.in_ok-push.ensures.items;
  long = omega (arith, c.in_ok-push.ensures.len, c.loop-k.invariant.long);
}
