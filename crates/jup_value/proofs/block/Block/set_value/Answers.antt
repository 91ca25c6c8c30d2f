use Rattle.jup_value.proofs.Items.{set-with_value}
use Rattle.jup_value.proofs.block.Block.set_value.Goals as goal

pub returns : goal.returns
returns g c =
    let e = set-with_value c.self.inside.items.items c.args.at c.index_mut.result.now c.args.value c.index_mut.ensures.value in
    rw (← c.self.view_is) e
