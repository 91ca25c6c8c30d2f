use Rattle.jup_layout.proofs.Drafting.{adds_at_end}
use Rattle.jup_layout.proofs.drafts.append.Goals as goal

pub returns-in_default-is_new-clause-appended : goal.returns-in_default-is_new-clause-appended
returns-in_default-is_new-clause-appended g c = rw c.in_default-is_new.ensures.memory tt

pub returns-clause-kept : goal.returns-clause-kept
returns-clause-kept g c = c.in-Ok.ensures.kept _
    (adds_at_end c.args.items.items c.reserve_one.new.self.items c.insert.new.self.items c.args.item c.len-place.result c.reserve_one.ensures.items c.len-place.ensures.count c.insert.ensures.items)
