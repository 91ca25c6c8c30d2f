use Rattle.std.proofs.Common.{◌∙◌}
use Rattle.jup_xform.specs.Laws.Grids.{grid_columns-mirror}
use Rattle.jup_xform.proofs.batch.cross.Goals as goal

pub returns-clause-server : goal.returns-clause-server
returns-clause-server g c = c.grid.ensures.b ∙ grid_columns-mirror g.T.Transform.client_past g.T.Transform.server_past c.args.c.now c.args.s.now
