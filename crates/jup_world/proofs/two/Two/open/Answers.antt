use Rattle.jup_world.proofs.TwoKept.{opened_kept}
use Rattle.jup_world.proofs.two.Two.open.Goals as goal

pub invariant_of-result : goal.invariant_of-result
invariant_of-result c =
    rw (c.in_ok-open_end.ensures, c.in_ok-open_end-2.ensures, c.new.ensures.items, c.new-2.ensures.items) (opened_kept c.args.start.now c.requires)
