use Rattle.jup_lane.proofs.Trays.{new_tray}
use Rattle.jup_lane.proofs.tray.Tray.new.Goals as goal

pub invariant_of-result : goal.invariant_of-result
invariant_of-result c = (new_tray c.new-2.result c.new-2.ensures c.new.result.items c.new.ensures.items).0

pub returns : goal.returns
returns c = (new_tray c.new-2.result c.new-2.ensures c.new.result.items c.new.ensures.items).1
