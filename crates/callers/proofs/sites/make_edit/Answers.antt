use Rattle.std.proofs.Common.{[], ◌∷◌}
use Rattle.callers.proofs.Calls.{kept}
use Rattle.callers.proofs.sites.make_edit.Goals as goal

pub returns-clause-same : goal.returns-clause-same
returns-clause-same c = kept (c.args.command.now ∷ []) c.args.site.now c.edit.new.self c.edit.result c.edit.ensures.answer
