use Rattle.std.proofs.Common.{take, flat_map}
use Rattle.std.specs.Fmt.{HasWritten, IsPlainFormatter}
use Rattle.jup_text.specs.Words.{quoted_char}
use Rattle.jup_text.proofs.quoted.QuotedLabelDisplay.fmt.Given as goal

-- what was written since the quote
abbrev pub invariant-loop-byte : goal.invariant-loop-byte
invariant-loop-byte g l =
    IsPlainFormatter l.initial.f → HasWritten g.W.Write.write_str_gives l.initial.f (flat_map quoted_char (take l.byte-index l.byte-items)) l.f
