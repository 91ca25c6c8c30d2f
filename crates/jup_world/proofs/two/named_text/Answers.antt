use Rattle.std.proofs.Common.{arith, ◌∙◌}
use Rattle.jup_world.proofs.Known as known
use Rattle.jup_world.proofs.two.named_text.Goals as goal

pub insert-requires-clause-place : goal.insert-requires-clause-place
insert-requires-clause-place c =
    omega (arith, known.length_so_far c.args.start.now c.loop-at.at c.reserve_one.new.self.items (c.reserve_one.ensures.items ∙ c.loop-at.invariant) c.loop-at-test.true)

pub insert-requires-clause-fresh : goal.insert-requires-clause-fresh
insert-requires-clause-fresh c =
    known.new_so_far c.args.start.now c.loop-at.at c.reserve_one.new.self.items (c.reserve_one.ensures.items ∙ c.loop-at.invariant) c.loop-at-test.true

pub insert-requires-clause-fits : goal.insert-requires-clause-fits
insert-requires-clause-fits c =
    omega (arith, known.length_so_far c.args.start.now c.loop-at.at c.reserve_one.new.self.items (c.reserve_one.ensures.items ∙ c.loop-at.invariant) c.loop-at-test.true, c.requires)

pub loop-at-preserved : goal.loop-at-preserved
loop-at-preserved c =
    known.pushed_item c.args.start.now c.loop-at.at c.index-start-at.result c.reserve_one.new.self.items c.insert.new.self.items
    (c.reserve_one.ensures.items ∙ c.loop-at.invariant) c.loop-at-test.true c.index-start-at.is c.insert.ensures.items
