use Rattle.std.proofs.Common.{take}
use Rattle.std.specs.List.{flat_map, AllByRecursion}
use Rattle.jup_layout.specs.Drafts.{window_lines, IsWindow}
use Rattle.jup_layout.proofs.board_lines.put_board.Given as goal

abbrev pub invariant-loop-win : goal.invariant-loop-win
invariant-loop-win g l = record {
  lines : g.S.LineSink.takes l.fn.sink (flat_map window_lines (take l.win-index l.board)) l.sink;
  sound : AllByRecursion IsWindow (take l.win-index l.board);
}
