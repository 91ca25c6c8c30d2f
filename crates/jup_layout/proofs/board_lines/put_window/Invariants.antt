use Rattle.std.proofs.Common.{take, ◌∷◌}
use Rattle.std.specs.List.{flat_map, AllByRecursion}
use Rattle.jup_wire.specs.declared.line.Line.TheVariants as line
use Rattle.jup_layout.specs.Drafts.{widget_lines, IsWidget}
use Rattle.jup_layout.proofs.board_lines.put_window.Given as goal

abbrev pub invariant-loop-wid : goal.invariant-loop-wid
invariant-loop-wid g l = record {
  lines : g.S.LineSink.takes l.fn.sink (line.Window l.win ∷ flat_map widget_lines (take l.wid-index l.window)) l.sink;
  sound : AllByRecursion IsWidget (take l.wid-index l.window);
}
