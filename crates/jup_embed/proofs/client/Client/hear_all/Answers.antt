use Rattle.std.proofs.Common.{arith, ◌∙◌}
use Rattle.jup_embed.specs.Sessions.{HearsUpTo}
use Rattle.jup_embed.proofs.Sessions.{hears_more, handed_on, refused_at}
use Rattle.jup_embed.proofs.client.Client.hear_all.Goals as goal

pub returns-in_err-hear-clause-refused : goal.returns-in_err-hear-clause-refused
returns-in_err-hear-clause-refused c =
    handed_on c.from_residual.result c.in_err-hear.field-0.0 (λ end. HearsUpTo c.args.lines.now c.args.self.now end c.hear.new.self) c.from_residual.ensures.1
    (refused_at c.args.lines.now c.loop-line.line-index c.line-item.result _ _ _ c.in_err-hear.field-0.0 (omega (arith, c.loop-line-test.true)) c.line-item.is c.loop-line.invariant.0
    c.in_err-hear.ensures.refused c.in_err-hear.ensures.kept)

pub loop-line-preserved : goal.loop-line-preserved
loop-line-preserved c = (
  hears_more c.args.lines.now c.loop-line.line-index c.line-item.result _ _ _ (omega (arith, c.loop-line-test.true)) c.line-item.is c.loop-line.invariant.0 c.in_ok-hear.ensures.heard,
  c.in_ok-hear.ensures.read ∙ c.loop-line.invariant.1,
)
