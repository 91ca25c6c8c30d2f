use Rattle.std.proofs.Common.{sym, ap, subst}
use Rattle.std.proofs.lemmas.Result.{on_ok_weaker, on_err_weaker}
use Rattle.jup_world.specs.Prelude.{link_of}
use Rattle.jup_world.specs.Happenings.{FirstFits}
use Rattle.jup_world.specs.Boards.{BoardAttached}
use Rattle.jup_world.specs.Insides.{lane_of}
use Rattle.jup_world.proofs.Answers.{some_link}
use Rattle.jup_world.proofs.Lanes.Sites.{refilled-read, rests_down}
use Rattle.jup_world.proofs.world.attached.Attached.move_down.Goals as goal

pub hand-requires : goal.hand-requires
hand-requires c =
    let there = some_link (link_of c.args.self.now.site.number c.args.star.now.links) c.requires.linked in
    subst FirstFits (sym (c.in_ok-refill.ensures.site there.0 there.1)) (c.requires.fits there.0 there.1)

pub returns-clause-read : goal.returns-clause-read
returns-clause-read c =
    on_ok_weaker c.hand.result (λ read l found. refilled-read l (lane_of c.args.self.now) (lane_of c.refill.new.self) (lane_of c.hand.new.self) (c.in_ok-refill.ensures.filled l found)
    (ap (λ (a : BoardAttached). a.down) (c.in_ok-refill.ensures.site l found)) read) c.hand.ensures.read

pub returns-clause-moved : goal.returns-clause-moved
returns-clause-moved c =
    on_err_weaker c.hand.result (λ moved l found. rests_down l (lane_of c.args.self.now) (lane_of c.refill.new.self) (lane_of c.hand.new.self) (c.in_ok-refill.ensures.filled l found) moved) c.hand.ensures.moved
