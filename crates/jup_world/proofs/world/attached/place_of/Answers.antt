use Rattle.jup_world.proofs.Happenings.{placed, below_at}
use Rattle.jup_world.proofs.world.attached.place_of.Goals as goal

pub returns-then-stands_at-clause-below : goal.returns-then-stands_at-clause-below
returns-then-stands_at-clause-below c = below_at _ _ _ (c.stands_at.ensures c.if-stands_at.true)

pub returns-clause-place : goal.returns-clause-place
returns-clause-place c = placed c.args.number c.args.sites.now c.first_of.result c.first_of.ensures
