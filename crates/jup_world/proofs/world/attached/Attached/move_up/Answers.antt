use Rattle.std.proofs.Common.{Some, refl, subst}
use Rattle.jup_lane.specs.Lanes.{IsFilled, ups}
use Rattle.jup_world.specs.Prelude.{ups_laws}
use Rattle.jup_world.proofs.Lanes.Sites.{taken-read, taken-carries}
use Rattle.jup_world.proofs.world.attached.Attached.move_up.Goals as goal

pub returns-clause-read : goal.returns-clause-read
returns-clause-read c =
    let old = c.args.self.now.up.way in
    let mid = c.first.new.self.way in
    let new = c.drop_first.new.self.way in
    let filled : IsFilled ups old mid (Some c.in-Some.up) = subst (λ o. IsFilled ups old mid o) c.in-Some.is c.in-Ok.ensures.first in
    record {
      up = taken-read ups ups_laws old mid new c.in-Some.up filled c.drop_first.ensures.way;
      down = refl;
      carry_up = taken-carries ups ups_laws old mid new c.in-Some.up filled c.drop_first.ensures.way c.drop_first.ensures.messages;
      carry_down = λ is. is;
    }
