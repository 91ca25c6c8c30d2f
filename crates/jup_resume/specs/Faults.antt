-- The numbers of what an end that keeps lines refuses.
use Rattle.std.specs.Prelude.{ℕ}
use Rattle.jup_faults.specs.Faults.{fault_number}
use Rattle.jup_faults.specs.declared.table.Fault.TheVariants as faults
use Rattle.jup_resume.specs.declared.keeper.KeepFault.{KeepFault}
use Rattle.jup_resume.specs.declared.keeper.KeepFault.TheVariants.{NoMemory, LinesSpent, BadTaken}

-- as messages and printed texts have it
abbrev pub keep_fault_number : KeepFault → ℕ
keep_fault_number NoMemory = fault_number faults.NoMemory
keep_fault_number LinesSpent = fault_number faults.LinesSpent
keep_fault_number BadTaken = fault_number faults.BadTaken
