use Rattle.std.proofs.Common.{◌∙◌, refl, ap, min, length}
use Rattle.jup_world.specs.Insides.{lane_of}
use Rattle.jup_world.specs.Lanes.{push_reply}
use Rattle.jup_lane.specs.Lanes.{Way}
use Rattle.jup_world.proofs.Answers.{on_err}
use Rattle.jup_world.proofs.Lanes.Sites as lane_sites
use Rattle.jup_world.proofs.world.attached.Attached.push_down.Goals as goal

pub returns-in_err-count-clause-moved : goal.returns-in_err-count-clause-moved
returns-in_err-count-clause-moved c =
    on_err c.from_residual-in_err-count.result
    (λ l found. lane_sites.rests_filled l (lane_of c.args.self.now) (lane_of c.fill.new.self) _ (c.in_ok-fill.ensures.filled l found)
    (ap (λ (w : Way). record (lane_of c.fill.new.self) { down = w }) c.in_err-count.ensures.err))

pub returns-clause-reply : goal.returns-clause-reply
returns-clause-reply c l found =
    c.reply_to_push.ensures
    ∙ ap push_reply (c.in_ok-count.ensures.count ∙ ap (λ s. min c.args.most (length s)) (lane_sites.filled_stream-is l (lane_of c.args.self.now) (lane_of c.fill.new.self) (c.in_ok-fill.ensures.filled l found)))

pub returns-clause-read : goal.returns-clause-read
returns-clause-read c l found =
    lane_sites.pushed-site l (lane_of c.args.self.now) (lane_of c.fill.new.self) _ c.in_ok-count.count c.args.most (c.in_ok-fill.ensures.filled l found) c.in_ok-count.ensures.count c.in_ok-count.ensures.ok refl
