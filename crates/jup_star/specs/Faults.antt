-- Tests and their faults.
use Rattle.std.specs.Prelude.{Bool, List, [], ◌∷◌, Option, Some, None, Result, Ok, Err, if◌then◌else◌, ℕ}
use Rattle.jup_link.specs.declared.LinkFault.{LinkFault}
use Rattle.jup_link.specs.declared.LinkFault.TheVariants.{BadCount as LinkBadCount, BadAck as LinkBadAck}
use Rattle.jup_star.specs.Prelude.{Msg, EndLink as Link, accepts_number, accepts_count, StarFault, NoMemory, BadCount, BadAck, BadName, BadOp, NotAnEdit, Full, SitesSpent, LogFull, NoLink, SiteFault, OpenFault, BadLimit, BadSite}
use Rattle.jup_star.specs.declared.faults.SiteFault.TheVariants.{NoMemory as SiteNoMemory, BadCount as SiteBadCount, BadAck as SiteBadAck, BadName as SiteBadName, BadOp as SiteBadOp, Stopped}
use Rattle.jup_star.specs.declared.faults.OpenFault.TheVariants.{NoMemory as OpenNoMemory}
use Rattle.jup_faults.specs.Faults.{fault_number}
use Rattle.jup_faults.specs.declared.table.Fault.TheVariants as faults

-- Tests in order, and the fault of the first that fails.

-- a test, and the fault if it fails
pub record Test (Fault : Type 0) : Type 0 where
  pub holds : Bool
  pub fault : Fault

abbrev pub test : {Fault : Type 0} → Bool → Fault → Test Fault
test holds fault = record { holds = holds; fault = fault }

-- the fault of the first test that fails, if one does
abbrev pub first_fault : {Fault : Type 0} → List (Test Fault) → Option Fault
first_fault [] = None
first_fault (t ∷ ts) = if t.holds then first_fault ts else Some t.fault

-- the fault of a call that was refused
abbrev pub fault_of : {A Fault : Type 0} → Result A Fault → Option Fault
fault_of (Ok x) = None
fault_of (Err fault) = Some fault

-- The numbers of the faults of stars and sites.

-- the number of each fault, as messages and printed texts give it
abbrev pub star_fault_number : StarFault → ℕ
star_fault_number NoMemory = fault_number faults.NoMemory
star_fault_number BadCount = fault_number faults.BadCount
star_fault_number BadAck = fault_number faults.BadAck
star_fault_number BadName = fault_number faults.BadName
star_fault_number BadOp = fault_number faults.BadOp
star_fault_number NotAnEdit = fault_number faults.NotAnEdit
star_fault_number Full = fault_number faults.Full
star_fault_number SitesSpent = fault_number faults.SitesSpent
star_fault_number LogFull = fault_number faults.LogFull
star_fault_number NoLink = fault_number faults.NoLink

abbrev pub site_fault_number : SiteFault → ℕ
site_fault_number SiteNoMemory = fault_number faults.NoMemory
site_fault_number SiteBadCount = fault_number faults.BadCount
site_fault_number SiteBadAck = fault_number faults.BadAck
site_fault_number SiteBadName = fault_number faults.BadName
site_fault_number SiteBadOp = fault_number faults.BadOp
site_fault_number Stopped = fault_number faults.Stopped

abbrev pub open_fault_number : OpenFault → ℕ
open_fault_number OpenNoMemory = fault_number faults.NoMemory
open_fault_number BadLimit = fault_number faults.BadLimit
open_fault_number BadSite = fault_number faults.BadSite

-- a refusal of an end of a link, as the star and as a site report it
abbrev pub star_fault_of : LinkFault → StarFault
star_fault_of LinkBadCount = BadCount
star_fault_of LinkBadAck = BadAck

abbrev pub site_fault_of : LinkFault → SiteFault
site_fault_of LinkBadCount = SiteBadCount
site_fault_of LinkBadAck = SiteBadAck

-- The two counts of a message.

-- the tests of them: that the message is the next one, and that what it acknowledges can be
abbrev pub count_tests : {Operation Fault : Type 0} → Fault → Fault → Link Operation → Msg Operation → List (Test Fault)
count_tests bad_count bad_ack e m = test (accepts_number e m.mine) bad_count ∷ test (accepts_count e m.heard) bad_ack ∷ []
