-- A world of the program, as contracts see it.
use Rattle.std.specs.Prelude.{ℕ, ◌≤◌, ◌⊎◌, List, [], ◌∷◌, length, map}
use Rattle.jup_world.specs.Prelude.{EditFault, Command, BoardEdits, bare, Played, Reply, Kept, Attached}
use Rattle.jup_world.specs.declared.world.World.TheInside.{Inside}
use Rattle.jup_world.specs.declared.events.Event.TheVariants as played
use Rattle.jup_world.specs.declared.events.Reply.TheVariants as answer
use Rattle.jup_world.specs.Events.{Join, Leave, Edit as MakeEdit, Up as MoveUp, Down as MoveDown, Ping as SendPing}
use Rattle.jup_world.specs.Lanes.{LaneEvent, Plain, PushUp, PushDown, Noted, LaneSite, messages_at, LaneWorld}
use Rattle.jup_world.specs.Boards.{BoardAttached}

-- A trace of the program as its definitions see it.

-- one event
abbrev pub lane_event : Played Command → LaneEvent
lane_event played.Join = Plain Join
lane_event (played.Leave i) = Plain (Leave i)
lane_event (played.Edit i command) = Plain (MakeEdit i (command ∷ []))
lane_event (played.Batch i commands) = Plain (MakeEdit i commands)
lane_event (played.Up i) = Plain (MoveUp i)
lane_event (played.Down i) = Plain (MoveDown i)
lane_event (played.Ping i k) = Plain (SendPing i k)
lane_event (played.PushUp i n) = PushUp i n
lane_event (played.PushDown i n) = PushDown i n

-- the most edits that an event may make
abbrev pub most_edits : Played Command → ℕ
most_edits played.Join = 0
most_edits (played.Leave i) = 0
most_edits (played.Edit i command) = 1
most_edits (played.Batch i commands) = length commands
most_edits (played.Up i) = 0
most_edits (played.Down i) = 0
most_edits (played.Ping i k) = 0
most_edits (played.PushUp i n) = 0
most_edits (played.PushDown i n) = 0

-- a reply reports one edit at most, or no more than so many
abbrev pub MakesFew : Reply BoardEdits EditFault → ℕ → Type 0
MakesFew (answer.Made edits) n = (length edits ≤ 1) ⊎ (length edits ≤ n)
MakesFew (answer.Joined i) n = Unit {0}
MakesFew (answer.NoJoin fault) n = Unit {0}
MakesFew answer.Left n = Unit {0}
MakesFew (answer.Refused fault) n = Unit {0}
MakesFew (answer.Taken place) n = Unit {0}
MakesFew answer.Heard n = Unit {0}
MakesFew (answer.Detached fault) n = Unit {0}
MakesFew answer.Shown n = Unit {0}
MakesFew answer.Asked n = Unit {0}
MakesFew (answer.Moved count) n = Unit {0}
MakesFew answer.Nothing n = Unit {0}

-- a trace
abbrev pub noted_trace : List (Kept Command BoardEdits EditFault) → List Noted
noted_trace trace = map (λ h. record { event = lane_event h.event; reply = h.reply }) trace

-- A world of the program as its definitions see it.

-- a site with the two ways of its link, without the room that they keep
abbrev pub lane_of : Attached → LaneSite
lane_of a = record { site = a.site; up = a.up.way; down = a.down.way }

-- with the messages that are on them
abbrev pub bare_attached : Attached → BoardAttached
bare_attached a = messages_at (lane_of a)

-- A world of the program as contracts see it.

-- a world without the room that it and its links keep
abbrev pub bare_world : Inside → LaneWorld
bare_world w = record { opening = bare w.opening; star = w.star; sites = map lane_of w.sites.items; trace = noted_trace w.trace.items }
