-- The numbers that c/jup.h has of a client of a lasting link.
use Rattle.std.specs.Prelude.{ℕ, Result, Ok, Err}
use Rattle.jup_faults.specs.Faults.{fault_number}
use Rattle.jup_faults.specs.declared.table.Fault.TheVariants as faults
use Rattle.jup_embed.specs.Numbers.{answer}
use Rattle.jup_reconnect.specs.declared.faults.LastingFault.{LastingFault}
use Rattle.jup_reconnect.specs.declared.faults.LastingFault.TheVariants.{Refused, Cut, Carried, Pings, LinesSpent}

-- what a call answers
abbrev pub lasting_answer : Result (Unit {0}) LastingFault → ℕ
lasting_answer (Ok done) = 0
lasting_answer (Err (Refused fault)) = answer (Err fault)
lasting_answer (Err Cut) = 95
lasting_answer (Err Carried) = 96
lasting_answer (Err Pings) = 7
lasting_answer (Err LinesSpent) = fault_number faults.LinesSpent
