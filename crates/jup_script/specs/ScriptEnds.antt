-- The numbers and exit statuses of the ends of scripts.
use Rattle.std.specs.Prelude.{ℕ, Option, Some, None}
use Rattle.jup_script.specs.declared.ending.ScriptEnd.{ScriptEnd}
use Rattle.jup_script.specs.declared.faults.ScriptFault.{ScriptFault}
use Rattle.jup_script.specs.declared.ending.ScriptEnd.TheVariants.{Bad, LongInput, NoMemory, ReadFailed, WriteFailed}
use Rattle.jup_faults.specs.Faults.{fault_number}
use Rattle.jup_faults.specs.declared.table.Fault.TheVariants as faults

-- what is wrong with the line, if one is bad
abbrev pub script_end_fault : ScriptEnd → Option ScriptFault
script_end_fault (Bad line fault) = Some fault
script_end_fault LongInput = None
script_end_fault NoMemory = None
script_end_fault ReadFailed = None
script_end_fault WriteFailed = None

-- the numbers of the ends of scripts, as messages and printed texts have them
abbrev pub script_end_number : ScriptEnd → ℕ
script_end_number (Bad line fault) = fault_number faults.BadLine
script_end_number LongInput = 47
script_end_number NoMemory = fault_number faults.NoMemory
script_end_number ReadFailed = fault_number faults.ReadFailed
script_end_number WriteFailed = fault_number faults.WriteFailed

-- the exit status of a program that plays the script: 1 for a failed read or write, 2 for a script, 3 for memory
abbrev pub script_end_status : ScriptEnd → ℕ
script_end_status (Bad line fault) = 2
script_end_status LongInput = 2
script_end_status NoMemory = 3
script_end_status ReadFailed = 1
script_end_status WriteFailed = 1

-- an end that comes once the script has been read
abbrev pub ComesInPlay : ScriptEnd → Type 0
ComesInPlay (Bad line fault) = Unit {0}
ComesInPlay LongInput = ⊥
ComesInPlay NoMemory = Unit {0}
ComesInPlay ReadFailed = ⊥
ComesInPlay WriteFailed = Unit {0}
