use Rattle.std.proofs.Common.{◌≡◌, true, ap, subst, rules}
use Rattle.jup_wire.specs.Lines.{BeginsLines}
use Rattle.jup_lane.specs.Lanes.{codec, LaneState, Way}
use Rattle.jup_lane.proofs.Lanes.{ReadAhead, read_there}
use Rattle.jup_lane.proofs.Trays.{codec_laws, message_first}
use Rattle.jup_lane.proofs.lane.Lane.read_ahead.Given as given
use Rattle.jup_lane.proofs.lane.Lane.read_ahead.Goals as goal

fact : (g : given.Over) (c : goal.After-self-1 g)
    → ReadAhead (codec g.M.Message) (codec_laws g.M.Message) c.args.self.now.way (record { read = c.self.inside.tray; stream = c.self.inside.stream.bytes }) c.in_ok-message.len c.in_ok-message.message
fact g c =
    let w : Way = record { read = c.self.inside.tray; stream = c.self.inside.stream.bytes } in
    let m = c.in_ok-message.message in
    let nothing : c.is_empty.result ≡ true = search rules in
    let begins = subst (BeginsLines ((codec g.M.Message).lines m) c.in_ok-message.len) c.as_slice.ensures c.in_ok-message.ensures in
    read_there (codec g.M.Message) (codec_laws g.M.Message) c.self.inside.ahead w c.args.self.now.way c.in_ok-message.len m c.self.invariant (ap (λ (s : LaneState). s.way) c.self.view_is) (c.is_empty.ensures.0 nothing) begins (message_first g.M.Message m)

pub invariant_of-self : goal.invariant_of-self
invariant_of-self g c = (fact g c).lane

pub returns-clause-first : goal.returns-clause-first
returns-clause-first g c = (fact g c).filled

pub returns-clause-whole : goal.returns-clause-whole
returns-clause-whole g c = (fact g c).whole
