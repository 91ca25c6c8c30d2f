use Rattle.std.proofs.Common.{sym, subst, arith}
use Rattle.std.proofs.lemmas.List.{nil_from_length}
use Rattle.jup_gather.specs.Gathering.{BeginsNone}
use Rattle.jup_gather.proofs.Gathering.{no_part, part_begins_none}
use Rattle.jup_lane.proofs.first.is_short.Goals as goal

pub returns-in-None : goal.returns-in-None
returns-in-None c none =
    let empty = c.in-None.ensures.item.3 in
    subst BeginsNone (sym (nil_from_length c.args.there.now.items (omega (arith, empty)))) (part_begins_none _ no_part)
