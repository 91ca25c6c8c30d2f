-- Why a client ends, by what was refused, with its number, its exit status and whether it is explained.
use Rattle.std.specs.Prelude.{ℕ, ◌==◌, if◌then◌else◌, Bool, true, false}
use Rattle.jup_star.specs.Faults.{site_fault_number, open_fault_number}
use Rattle.jup_wire.specs.declared.faults.WireFault.TheVariants.{EarlyEnd}
use Rattle.jup_wire.specs.Lines.{wire_fault_number}
use Rattle.jup_stream.specs.declared.faults.StreamFault.{StreamFault}
use Rattle.jup_stream.specs.declared.faults.StreamFault.TheVariants.{NoMemory as StreamNoMemory, ReadFailed as StreamReadFailed, WriteFailed as StreamWriteFailed}
use Rattle.jup_stream.specs.declared.faults.Stop.{Stop}
use Rattle.jup_stream.specs.declared.faults.Stop.TheVariants.{End, Fault as StopFault}
use Rattle.jup_stream.specs.Faults.{stream_fault_number}
use Rattle.jup_client.specs.Prelude.{SiteFault, OpenFault, LayoutFault, ClientEnd, Fault, NoMemory, Unconnected, ReadFailed, WriteFailed}

-- the number of an end, as messages and printed texts have it
abbrev pub client_end_number : ClientEnd → ℕ
client_end_number (Fault number) = number
client_end_number NoMemory = stream_fault_number StreamNoMemory
client_end_number Unconnected = stream_fault_number StreamReadFailed
client_end_number ReadFailed = stream_fault_number StreamReadFailed
client_end_number WriteFailed = stream_fault_number StreamWriteFailed

-- 1 for a failed read or write, 3 for memory, 4 for a fault
abbrev pub client_end_status : ClientEnd → ℕ
client_end_status (Fault number) = 4
client_end_status NoMemory = 3
client_end_status Unconnected = 1
client_end_status ReadFailed = 1
client_end_status WriteFailed = 1

-- Whether an end has a second line, which explains it to people: a fault has one, and a failed read or write. `NoMemory` has its own text, and the caller knows the
-- address to which no link could be made
abbrev pub client_end_is_explained : ClientEnd → Bool
client_end_is_explained (Fault number) = true
client_end_is_explained NoMemory = false
client_end_is_explained Unconnected = false
client_end_is_explained ReadFailed = true
client_end_is_explained WriteFailed = true

-- no memory has a case of its own, as have reads and writes; all else is its number
abbrev pub end_of_fault : StreamFault → ClientEnd
end_of_fault StreamNoMemory = NoMemory
end_of_fault StreamReadFailed = ReadFailed
end_of_fault StreamWriteFailed = WriteFailed
end_of_fault fault = Fault (stream_fault_number fault)

-- a server says that it ends, so a link that just ends does so too early
abbrev pub end_of_stop : Stop → ClientEnd
end_of_stop End = Fault (wire_fault_number EarlyEnd)
end_of_stop (StopFault fault) = end_of_fault fault

-- lines that are no board; line 0 means that an allocation failed
abbrev pub end_of_layout : LayoutFault → ClientEnd
end_of_layout fault = if fault.line == 0 then NoMemory else Fault fault.number

-- a number is 8 exactly if an allocation failed
abbrev pub end_of_number : ℕ → ClientEnd
end_of_number number = if number == stream_fault_number StreamNoMemory then NoMemory else Fault number

abbrev pub end_of_open : OpenFault → ClientEnd
end_of_open fault = end_of_number (open_fault_number fault)

abbrev pub end_of_site : SiteFault → ClientEnd
end_of_site fault = end_of_number (site_fault_number fault)
