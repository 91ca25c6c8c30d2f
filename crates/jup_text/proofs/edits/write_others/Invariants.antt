use Rattle.std.proofs.Common.{take, flat_map}
use Rattle.std.specs.Fmt.{HasWritten, IsPlainFormatter}
use Rattle.jup_text.specs.Commands.{other_text}
use Rattle.jup_text.proofs.edits.write_others.Given as goal

-- the edits so far are written
abbrev pub invariant-loop-edit : goal.invariant-loop-edit
invariant-loop-edit g l =
    IsPlainFormatter l.initial.f → HasWritten g.W.Write.write_str_gives l.initial.f (flat_map other_text (take l.edit-index l.edits)) l.f
