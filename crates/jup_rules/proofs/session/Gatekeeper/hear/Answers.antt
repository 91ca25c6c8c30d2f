use Rattle.std.proofs.Common.{sym, subst}
use Rattle.jup_rules.specs.declared.session.Next.{Next}
use Rattle.jup_rules.specs.Sessions.{Keeper, HasHeard, Leads, next_of}
use Rattle.jup_rules.proofs.Sessions.{leads}
use Rattle.jup_rules.proofs.session.Gatekeeper.hear.Goals as goal

pub returns : goal.returns
returns c = λ lines saids heard.
    let before : Keeper = (c.self.inside.gather, c.self.inside.edits) in
    let had : HasHeard lines saids before = subst (λ (k : Keeper). HasHeard lines saids k) (sym c.self.view_is) heard in
    let said = c.hear_site-said.result in
    let led = leads lines saids before c.args.line.now said c.hear_site-said.new.gather had c.hear_site-said.ensures.said c.hear_site-said.ensures.refused in
    subst (λ (k : Keeper). Leads lines saids k c.args.line.now c.next.result c.next.new.self) c.self.view_is
    (subst (λ (n : Next). Leads lines saids before c.args.line.now n c.next.new.self) (sym c.next.ensures.next)
    (subst (λ (k : Keeper). Leads lines saids before c.args.line.now (next_of c.self.inside.edits said) k) (sym c.next.ensures.counted) led))
