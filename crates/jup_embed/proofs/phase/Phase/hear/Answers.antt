use Rattle.std.proofs.Common.{Ok, sym, subst, rules}
use Rattle.jup_embed.specs.Sessions.{Opens, PhaseHears}
use Rattle.jup_embed.proofs.phase.Phase.hear.Goals.{in-Some, in_default}
use Rattle.jup_embed.proofs.phase.Phase.hear.Goals as goal

pub returns-after-branch-3 : goal.returns-after-branch-3
returns-after-branch-3 c =
    let opens : Opens c.hear.new.self (Ok c.in_ok-state-in-Opening.field-0) (Ok c.nothing_heard-in-Opening.result) c.match-branch-3.self =
    elim c.match-branch-3.branch [ in-Some w ↦ search rules | in_default w ↦ search rules ] in
    let heard = c.in_ok-state-in-Opening.ensures in
    subst (λ p. PhaseHears c.args.line.now p (Ok c.nothing_heard-in-Opening.result) c.match-branch-3.self) (sym c.in-Opening.is)
    (Ok c.in_ok-state-in-Opening.field-0, c.hear.new.self, record { ready = heard.ready; part = heard.part; other = heard.other }, opens)
