use Rattle.std.proofs.Common.{◌≡◌, ◌<◌, arith, subst, sym, length, get_or}
use Rattle.jup_layout.specs.Drafts.{window_lines, IsWindow}
use Rattle.jup_wire.proofs.Streams.{flat_map_more, all_more}
use Rattle.jup_layout.proofs.board_lines.put_board.Goals as goal

pub loop-win-preserved : goal.loop-win-preserved
loop-win-preserved g c =
    let shown = c.windows-win-items.ensures.windows in
    let entry = c.loop-win-item.result in
    let first : c.loop-win.win-index < length c.windows-win-items.result.now = omega (arith, c.loop-win-test.true) in
    let below = subst (λ windows. c.loop-win.win-index < length windows) shown first in
    let is = subst (λ windows. entry ≡ get_or windows c.loop-win.win-index entry) shown c.loop-win-item.is in
    let done = c.loop-win.invariant in
    record {
      lines = subst (λ lines. g.S.LineSink.takes c.args.sink.now lines c.put_window.new.sink)
          (sym (flat_map_more window_lines _ c.loop-win.win-index entry below is))
          (g.S.LineSink.takes_more _ _ _ _ _ done.lines c.in_ok-put_window.ensures.lines);
      sound = all_more IsWindow _ c.loop-win.win-index entry below is done.sound c.in_ok-put_window.ensures.sound;
    }
