-- The numbers of faults.
use Rattle.std.specs.Prelude.{ℕ}
use Rattle.jup_faults.specs.declared.table.Fault.{Fault}
pub use Rattle.jup_faults.specs.declared.table.Fault.TheVariants.{NoMemory, DoubleId, TooMany, BadId, BadBounds, BadCount, BadAck, BadName, BadOp, NotAnEdit, Stopped, Full, SitesSpent, LogFull, NoLink, HubSpent, NoSuchLink, BadTaken, LinesSpent, NoSuchBoard, NotAllowed, BadLine, LongLine, BadVersion, EarlyEnd, Misplaced, BadItemName, ReadsSpent, NoRoom, UnreadableBoard, BadLimit, BadSite, GateShut, ReadFailed, WriteFailed}

-- the number of each, as messages and printed texts have it
abbrev pub fault_number : Fault → ℕ
fault_number NoMemory = 8
fault_number DoubleId = 10
fault_number TooMany = 11
fault_number BadId = 12
fault_number BadBounds = 13
fault_number BadCount = 20
fault_number BadAck = 21
fault_number BadName = 22
fault_number BadOp = 23
fault_number NotAnEdit = 24
fault_number Stopped = 25
fault_number Full = 30
fault_number SitesSpent = 31
fault_number LogFull = 32
fault_number NoLink = 33
fault_number HubSpent = 34
fault_number NoSuchLink = 35
fault_number BadTaken = 36
fault_number LinesSpent = 37
fault_number NoSuchBoard = 38
fault_number NotAllowed = 39
fault_number BadLine = 40
fault_number LongLine = 41
fault_number BadVersion = 42
fault_number EarlyEnd = 43
fault_number Misplaced = 44
fault_number BadItemName = 45
fault_number ReadsSpent = 46
fault_number NoRoom = 48
fault_number UnreadableBoard = 49
fault_number BadLimit = 50
fault_number BadSite = 51
fault_number GateShut = 60
fault_number ReadFailed = 70
fault_number WriteFailed = 71
