use Rattle.std.proofs.Common.{◌++◌, drop, ap, ◌∙◌, arith}
use Rattle.std.proofs.lemmas.List.{drop-append-le}
use Rattle.jup_gather.specs.Gathering.{piece_lines}
use Rattle.jup_lane.specs.Lanes.{bytes_of, StreamState, codec}
use Rattle.jup_lane.proofs.Lanes.{lines_written}
use Rattle.jup_lane.proofs.stream.Stream.write.Goals as goal

pub returns-clause-bytes : goal.returns-clause-bytes
returns-clause-bytes g c =
    let here = c.self.inside in
    let bytes = bytes_of (codec g.M.Message) c.args.message.now in
    let written = lines_written (piece_lines (g.M.Message.piece c.args.message.now)) (c.write_message.ensures.spelled c.requires.may_go) in
    let within = c.self.invariant in
    let long = here.bytes.ok.0 in
    ap (drop here.start) (c.write_message.ensures.items ∙ ap (λ t. here.bytes.items ++ t) written.1) ∙ drop-append-le here.start here.bytes.items bytes (omega (arith, within, long))
    ∙ ap (λ (s : StreamState). s.bytes ++ bytes) c.self.view_is
