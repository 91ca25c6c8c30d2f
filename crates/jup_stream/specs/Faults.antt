-- The numbers of what is wrong with a link.
use Rattle.std.specs.Prelude.{ℕ}
use Rattle.jup_wire.specs.Lines.{wire_fault_number}
use Rattle.jup_faults.specs.Faults.{fault_number}
use Rattle.jup_faults.specs.declared.table.Fault.TheVariants as faults
use Rattle.jup_stream.specs.declared.faults.StreamFault.{StreamFault}
use Rattle.jup_stream.specs.declared.faults.StreamFault.TheVariants.{Wire, NoMemory, Misplaced, ReadsSpent, ReadFailed, WriteFailed}

-- as messages and printed texts have it
abbrev pub stream_fault_number : StreamFault → ℕ
stream_fault_number (Wire fault) = wire_fault_number fault
stream_fault_number NoMemory = fault_number faults.NoMemory
stream_fault_number Misplaced = fault_number faults.Misplaced
stream_fault_number ReadsSpent = fault_number faults.ReadsSpent
stream_fault_number ReadFailed = fault_number faults.ReadFailed
stream_fault_number WriteFailed = fault_number faults.WriteFailed
