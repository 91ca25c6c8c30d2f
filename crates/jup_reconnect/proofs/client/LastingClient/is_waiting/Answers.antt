use Rattle.std.proofs.Common.{subst, inl}
use Rattle.jup_reconnect.specs.Lasting.{IsWaiting}
use Rattle.jup_reconnect.proofs.client.LastingClient.is_waiting.Goals as goal

pub returns-then-is_waiting : goal.returns-then-is_waiting
returns-then-is_waiting c = (λ h. subst IsWaiting c.self.view_is (inl (c.is_waiting.ensures.0 h)), λ h. c.if-is_waiting.true)
