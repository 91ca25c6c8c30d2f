use Rattle.std.proofs.Common.{refl}
use Rattle.jup_world.proofs.Answers.{leave_left, leave_none}
use Rattle.jup_world.proofs.Happenings.{plays_left, plays_no_link}
use Rattle.jup_world.proofs.Lanes.Sites.{without_read}
use Rattle.jup_world.proofs.Lanes.LaneEvents.{none_read_at}
use Rattle.jup_world.proofs.world.happening.leave.Goals as goal

pub returns-in-Ok-clause-plays : goal.returns-in-Ok-clause-plays
returns-in-Ok-clause-plays c =
    let call = leave_left c.args.number c.args.star.now c.leave.new.self c.in-Ok.ensures.call in
    plays_left _ _ _ _ c.args.number call.1 c.requires call.0 c.drop_site.ensures.messages

pub returns-in-Ok-clause-read : goal.returns-in-Ok-clause-read
returns-in-Ok-clause-read c = without_read _ c.args.star.now c.args.number _ _ c.drop_site.ensures.bytes (λ j a other. refl) (λ j l a other. refl)

pub returns-in-Err-clause-plays : goal.returns-in-Err-clause-plays
returns-in-Err-clause-plays c =
    let call = leave_none c.args.number c.args.star.now c.leave.new.self c.in-Err.field-0 c.in-Err.ensures.memory c.in-Err.ensures.call in
    plays_no_link _ _ _ _ c.args.number call.1 call.0 refl

pub returns-in-Err-clause-read : goal.returns-in-Err-clause-read
returns-in-Err-clause-read c = none_read_at _ c.args.star.now _ _ ((λ j a. refl), (λ j l a. refl)) refl
