use Rattle.callers.proofs.Calls.{left_none}
use Rattle.callers.proofs.sites.detach.Goals as goal

pub returns : goal.returns
returns c = left_none c.args.site c.args.star.now c.leave.new.self c.leave.result c.leave.ensures.memory c.leave.ensures.call
