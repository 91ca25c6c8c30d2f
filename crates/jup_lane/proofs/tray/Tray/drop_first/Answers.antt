use Rattle.std.proofs.Common.{drop, sym, ap, ◌∙◌}
use Rattle.jup_lane.specs.Lanes.{codec}
use Rattle.jup_lane.proofs.Trays.{codec_laws, dropped}
use Rattle.jup_lane.proofs.tray.Tray.drop_first.Goals as goal

pub returns : goal.returns
returns g c =
    let lines = c.self.inside.lines.items in
    sym c.self.view_is ∙ (dropped (codec g.M.Message) (codec_laws g.M.Message) lines c.drop_lines.new.lines.items c.self.inside.reader c.args.message.now c.requires.0 c.self.invariant c.requires.1
    (c.self.view_is ∙ c.requires.2) (c.drop_lines.ensures ∙ ap (λ k. drop k lines) c.count.ensures)).1
