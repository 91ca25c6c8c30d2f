use Rattle.std.proofs.Common.{◌≢◌, ◌+◌, length, arith, ap}
use Rattle.jup_embed.specs.Sessions.{Waiting}
use Rattle.jup_embed.proofs.Sessions.{left_held}
use Rattle.jup_embed.proofs.unsent.Unsent.drop_front.Goals as goal

pub returns-else-self-len-clause-held : goal.returns-else-self-len-clause-held
returns-else-self-len-clause-held c =
    let more : c.self.inside.sent + c.args.count ≢ length c.self.inside.text.items = omega (arith, c.if-self-len.false, c.len.ensures) in
    left_held c.self.inside.text.items c.args.self.now.bytes c.self.inside.sent c.args.self.now.sent c.args.count (ap (λ (w : Waiting). w.bytes) c.self.view_is) (ap (λ (w : Waiting). w.sent) c.self.view_is)
    more c.self.invariant c.requires
