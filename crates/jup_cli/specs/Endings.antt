-- How a client ends whose link outlives its connections.
use Rattle.std.specs.Prelude.{ℕ, ◌==◌, Bool, true, false, not, if◌then◌else◌, Result, Ok, Err}
use Rattle.jup_redial.specs.Fates.{is_told}
use Rattle.jup_client.specs.declared.ends.ClientEnd.{ClientEnd}
use Rattle.jup_client.specs.declared.ends.ClientEnd.TheVariants.{Fault, NoMemory, Unconnected, ReadFailed, WriteFailed}
use Rattle.jup_redial.specs.declared.fate.Fate.{Fate}
use Rattle.jup_redial.specs.declared.fate.Fate.TheVariants as fate

-- it has said `bye`: the server's last line has come, or the server has counted all edits
abbrev pub leaving : Fate → Result (Unit {0}) ClientEnd
leaving fate.Goes = Err WriteFailed
leaving fate.Finished = Ok tt
leaving (fate.Refused number) = Err WriteFailed
leaving (fate.Forgotten number) = Err WriteFailed
leaving (fate.Ended lost) = if lost == 0 then Ok tt else Err WriteFailed
leaving (fate.Faulty number) = Err WriteFailed
leaving fate.Late = Err WriteFailed
leaving fate.Unanswered = Err WriteFailed
leaving fate.Unconnected = Err WriteFailed
leaving fate.NoMemory = Err NoMemory
leaving fate.Abandoned = Err WriteFailed

-- the bytes have ended: a fault of the server, a server that can't be reached, memory, or an end that comes too early (43)
abbrev pub end_of_bytes : Fate → ClientEnd
end_of_bytes fate.Goes = Fault 43
end_of_bytes fate.Finished = Fault 43
end_of_bytes (fate.Refused number) = Fault number
end_of_bytes (fate.Forgotten number) = Fault 43
end_of_bytes (fate.Ended lost) = Fault 43
end_of_bytes (fate.Faulty number) = Fault number
end_of_bytes fate.Late = Fault 43
end_of_bytes fate.Unanswered = Fault 43
end_of_bytes fate.Unconnected = Unconnected
end_of_bytes fate.NoMemory = NoMemory
end_of_bytes fate.Abandoned = Fault 43

abbrev pub end_of_writes : Fate → ClientEnd
end_of_writes fate.Goes = WriteFailed
end_of_writes fate.Finished = WriteFailed
end_of_writes (fate.Refused number) = WriteFailed
end_of_writes (fate.Forgotten number) = WriteFailed
end_of_writes (fate.Ended lost) = WriteFailed
end_of_writes (fate.Faulty number) = WriteFailed
end_of_writes fate.Late = WriteFailed
end_of_writes fate.Unanswered = WriteFailed
end_of_writes fate.Unconnected = WriteFailed
end_of_writes fate.NoMemory = NoMemory
end_of_writes fate.Abandoned = WriteFailed

-- an end by a fault of the run's own stays, unless it is that of an end that comes too early
abbrev pub end_by : ClientEnd → Fate → ClientEnd
end_by (Fault number) became = if number == 43 then end_of_bytes became else Fault number
end_by NoMemory became = NoMemory
end_by Unconnected became = Unconnected
end_by ReadFailed became = ReadFailed
end_by WriteFailed became = end_of_writes became

abbrev pub ending_of : Result (Unit {0}) ClientEnd → Fate → Result (Unit {0}) ClientEnd
ending_of (Ok done) became = leaving became
ending_of (Err end) became = Err (end_by end became)

-- whether a fault that the client reports leaves more to say
abbrev pub adds_to_fault : ℕ → Fate → Bool
adds_to_fault told fate.Goes = false
adds_to_fault told fate.Finished = false
adds_to_fault told (fate.Refused number) = false
adds_to_fault told (fate.Forgotten number) = true
adds_to_fault told (fate.Ended lost) = true
adds_to_fault told (fate.Faulty number) = not (told == number)
adds_to_fault told fate.Late = true
adds_to_fault told fate.Unanswered = true
adds_to_fault told fate.Unconnected = false
adds_to_fault told fate.NoMemory = false
adds_to_fault told fate.Abandoned = false

-- whether its end does
abbrev pub adds_to : ClientEnd → Fate → Bool
adds_to (Fault told) became = adds_to_fault told became
adds_to NoMemory became = is_told became
adds_to Unconnected became = is_told became
adds_to ReadFailed became = is_told became
adds_to WriteFailed became = is_told became

-- there is more to say of the link than the client's end says
abbrev pub leaves_more : Result (Unit {0}) ClientEnd → Fate → Bool
leaves_more (Ok done) became = false
leaves_more (Err end) became = adds_to end became
