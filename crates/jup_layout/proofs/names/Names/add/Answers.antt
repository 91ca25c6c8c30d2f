use Rattle.std.proofs.Common.{◌∙◌}
use Rattle.jup_layout.proofs.Drafting.{same_name, or_cond}
use Rattle.jup_layout.proofs.names.Names.add.Goals as goal

pub returns-in-Ok-clause-held : goal.returns-in-Ok-clause-held
returns-in-Ok-clause-held c = λ other. c.in-Ok.ensures.updates.0 (other.site, other.number) ∙ or_cond _ _ _ (same_name c.args.name other)
