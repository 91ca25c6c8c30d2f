use Rattle.std.proofs.Common.{take, flat_map}
use Rattle.std.specs.Fmt.{HasWritten, IsPlainFormatter}
use Rattle.jup_text.specs.Boards.{widget_line}
use Rattle.jup_text.proofs.boards.write_window.Given as goal

-- the widgets so far are written
abbrev pub invariant-loop-entry : goal.invariant-loop-entry
invariant-loop-entry g l =
    IsPlainFormatter l.initial.f → HasWritten g.W.Write.write_str_gives l.initial.f (flat_map widget_line (take l.entry-index l.entry-items)) l.f
