-- How sessions end, with their numbers.
use Rattle.std.specs.Prelude.{ℕ, Option, Some, None}
use Rattle.jup_rules.specs.Prelude.{Line, SessionFault, Ending, Stop, End, StopFault, Hub, Stream, GateShut, FarBehind, Bye, Gone, Fault}
use Rattle.jup_wire.specs.declared.line.Line.TheVariants.{Bye as ByeLine, Error}
use Rattle.jup_stream.specs.Faults.{stream_fault_number}
use Rattle.jup_hub.specs.Histories.{hub_fault_number}
use Rattle.jup_faults.specs.Faults.{fault_number}
use Rattle.jup_faults.specs.declared.table.Fault.TheVariants as faults
use Rattle.jup_rules.specs.declared.ends.Untaken.{Untaken}
use Rattle.jup_rules.specs.declared.ends.Untaken.TheVariants as untaken

-- the number of a fault, as messages and printed texts have it
abbrev pub session_fault_number : SessionFault → ℕ
session_fault_number (Hub fault) = hub_fault_number fault
session_fault_number (Stream fault) = stream_fault_number fault
session_fault_number GateShut = fault_number faults.GateShut
session_fault_number (FarBehind far) = fault_number faults.WriteFailed

-- How a session ends: its last line, and which ending counts.

-- the line that tells the site how it ended
abbrev pub last_line : Ending → Line
last_line Bye = ByeLine
last_line Gone = ByeLine
last_line (Fault number) = Error number

-- the ending that was noted first counts
abbrev pub standing : Option Ending → Ending → Ending
standing None later = later
standing (Some noted) later = noted

-- a fault ends a session with its number
abbrev pub ending_of : SessionFault → Ending
ending_of fault = Fault (session_fault_number fault)

-- the site is gone if its bytes end between lines
abbrev pub ended_by : Stop → Ending
ended_by End = Gone
ended_by (StopFault fault) = ending_of (Stream fault)

-- how a session ends whose message was not taken, though the star was not asked
abbrev pub ended_untaken : Untaken → Ending
ended_untaken (untaken.FarBehind far) = ending_of (FarBehind far)
ended_untaken (untaken.GateShut nth) = ending_of GateShut
ended_untaken untaken.Over = Gone
