use Rattle.std.proofs.Common.{◌≡◌, ◌<◌, arith, subst, sym, ◌∷◌, length, get_or}
use Rattle.jup_wire.specs.declared.line.Line.TheVariants as line
use Rattle.jup_layout.specs.Drafts.{widget_lines, IsWidget}
use Rattle.jup_wire.proofs.Streams.{flat_map_more, all_more}
use Rattle.jup_layout.proofs.board_lines.put_window.Goals as goal

pub loop-wid-preserved : goal.loop-wid-preserved
loop-wid-preserved g c =
    let shown = c.widgets-wid-items.ensures.widgets in
    let entry = c.loop-wid-item.result in
    let first : c.loop-wid.wid-index < length c.widgets-wid-items.result.now = omega (arith, c.loop-wid-test.true) in
    let below = subst (λ widgets. c.loop-wid.wid-index < length widgets) shown first in
    let is = subst (λ widgets. entry ≡ get_or widgets c.loop-wid.wid-index entry) shown c.loop-wid-item.is in
    let done = c.loop-wid.invariant in
    record {
      lines = subst (λ lines. g.S.LineSink.takes c.args.sink.now (line.Window c.args.win ∷ lines) c.put_widget.new.sink)
          (sym (flat_map_more widget_lines _ c.loop-wid.wid-index entry below is))
          (g.S.LineSink.takes_more _ _ _ _ _ done.lines c.in_ok-put_widget.ensures.lines);
      sound = all_more IsWidget _ c.loop-wid.wid-index entry below is done.sound c.in_ok-put_widget.ensures.sound;
    }
