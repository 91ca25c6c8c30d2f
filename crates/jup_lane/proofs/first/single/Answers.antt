use Rattle.jup_lane.proofs.Trays.{single_there}
use Rattle.jup_lane.proofs.first.single.Goals as goal

pub returns : goal.returns
returns c =
    let batch = c.in-Some-Batch-default-default-eq1 in
    let next = c.in-Some-Do.ensures.item in
    single_there c.args.there.now.items batch.mine batch.heard batch.field-0-2 c.in-Some-Do.op c.one.result batch.field-0.now c.in-Some-Do.field-0.now next.3.0
    batch.ensures.item.1 next.1 batch.field-0-is batch.field-0-2-test c.in-Some-Do.field-0-is c.one.ensures
