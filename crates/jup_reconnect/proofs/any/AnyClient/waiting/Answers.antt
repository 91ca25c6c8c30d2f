use Rattle.std.proofs.Common.{rules}
use Rattle.jup_reconnect.proofs.Hearing.{waits_some, waits_none}
use Rattle.jup_reconnect.proofs.any.AnyClient.waiting.Goals as goal

pub returns-then-is_waiting : goal.returns-then-is_waiting
returns-then-is_waiting c = waits_some _ _ c.in-Lasting.is (c.is_waiting.ensures.0 (search rules))

pub returns-else-is_waiting : goal.returns-else-is_waiting
returns-else-is_waiting c = waits_none _ _ c.in-Lasting.is (λ w. search rules)
