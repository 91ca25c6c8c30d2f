use Rattle.std.proofs.Common.{◌++◌, ◌+◌, take, sym, ap, ◌∙◌}
use Rattle.jup_lane.specs.Lanes.{codec, LaneState, Way, moved}
use Rattle.jup_lane.proofs.Lanes.{same_ways, leads, moved-none, moved-twice}
use Rattle.jup_lane.proofs.Trays.{codec_laws}
use Rattle.jup_lane.proofs.lane.Lane.push.Goals as goal

pub take_in-requires : goal.take_in-requires
take_in-requires g c = leads (codec g.M.Message) (codec_laws g.M.Message) _ (c.self.inside.ahead + c.if-most-there.count) _ c.as_slice-2.ensures c.self.invariant.carries

pub returns-clause-ok : goal.returns-clause-ok
returns-clause-ok g c =
    let here = c.self.inside in
    let count = c.if-most-there.count in
    let end = here.ahead + count in
    let w : Way = record { read = here.tray; stream = here.stream.bytes } in
    let now : Way = record { read = c.take_in.new.self; stream = c.drop_front.new.self.bytes } in
    moved-none now ∙ same_ways now (moved end w) (c.in_ok-take_in.ensures.ok ∙ ap (λ t. here.tray ++ take end t) c.as_slice-2.ensures) c.drop_front.ensures
    ∙ sym (moved-twice here.ahead count w) ∙ ap (λ (s : LaneState). moved count s.way) c.self.view_is
