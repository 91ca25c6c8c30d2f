-- The faults of runs.
use Rattle.std.specs.Prelude.{◌≡◌, ℕ, ◌&&◌, nat_le, Option, Some, None, Result, Err, IfErr, if◌then◌else◌}
use Rattle.std.specs.Option.{option_map}
use Rattle.jup_app.specs.Prelude.{Windows, OpenFault, SiteFault, HubFault, Halt}
use Rattle.jup_star.specs.Stars.{star_open_fault}
use Rattle.jup_star.specs.declared.faults.OpenFault.TheVariants as refusal
use Rattle.jup_star.specs.declared.faults.StarFault.TheVariants as star
use Rattle.jup_star.specs.declared.faults.SiteFault.TheVariants as site
use Rattle.jup_hub.specs.declared.fault.HubFault.TheVariants as hub
use Rattle.jup_app.specs.declared.runs.halt.Halt.TheVariants as stop
use Rattle.jup_app.specs.declared.runs.fault.RunFault.{RunFault}
use Rattle.jup_app.specs.declared.runs.fault.RunFault.TheVariants.{NoMemory, LogFull, BadLimit, BadSite, GateShut, BadSites, RunBroken}
use Rattle.jup_star.specs.Prelude.{most_attached}
use Rattle.jup_faults.specs.Faults.{fault_number}
use Rattle.jup_faults.specs.declared.table.Fault.TheVariants as faults

-- their numbers in messages and printed texts
abbrev pub run_fault_number : RunFault → ℕ
run_fault_number NoMemory = fault_number faults.NoMemory
run_fault_number LogFull = fault_number faults.LogFull
run_fault_number BadLimit = fault_number faults.BadLimit
run_fault_number BadSite = fault_number faults.BadSite
run_fault_number GateShut = fault_number faults.GateShut
run_fault_number BadSites = 61
run_fault_number RunBroken = 62

-- the refusal of a star that is not opened
abbrev pub open_refusal : OpenFault → RunFault
open_refusal refusal.NoMemory = NoMemory
open_refusal refusal.BadLimit = BadLimit
open_refusal refusal.BadSite = BadSite

-- why a run stops if the hub refuses a call
abbrev pub stop_of_hub : HubFault → Halt
stop_of_hub (hub.Star star.NoMemory) = stop.NoMemory
stop_of_hub (hub.Star star.LogFull) = stop.LogFull
stop_of_hub fault = stop.RunBroken

-- or a site a message
abbrev pub stop_of_site : SiteFault → Halt
stop_of_site site.NoMemory = stop.NoMemory
stop_of_site fault = stop.RunBroken

-- the refusal of a run that has begun
abbrev pub stopped_by : Halt → RunFault
stopped_by stop.NoMemory = NoMemory
stopped_by stop.LogFull = LogFull
stopped_by stop.GateShut = GateShut
stopped_by stop.RunBroken = RunBroken

-- why no star is opened on a board
abbrev pub opening_refusal : Windows → ℕ → Option RunFault
opening_refusal board limit = option_map open_refusal (star_open_fault board limit)

-- a number of sites that is not 1 to 64 is refused before that
abbrev pub many_refusal : ℕ → Windows → ℕ → Option RunFault
many_refusal sites board limit = if nat_le 1 sites && nat_le sites most_attached then opening_refusal board limit else Some BadSites

-- a refusal of a run that has begun
abbrev pub IsOfRun : RunFault → Type 0
IsOfRun NoMemory = Unit {0}
IsOfRun LogFull = Unit {0}
IsOfRun BadLimit = ⊥
IsOfRun BadSite = ⊥
IsOfRun GateShut = Unit {0}
IsOfRun BadSites = ⊥
IsOfRun RunBroken = Unit {0}

-- the first refusal, if there is one; else only a run that has begun is refused
abbrev pub RefusedFirst : {A : Type 0} → Option RunFault → Result A RunFault → Type 0
RefusedFirst (Some fault) r = r ≡ Err fault
RefusedFirst None r = IfErr r IsOfRun
