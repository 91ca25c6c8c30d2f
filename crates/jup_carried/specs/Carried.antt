-- A link of protocol 4: one carrier after another brings its lines.
use Rattle.std.specs.Prelude.{◌≡◌, ◌≢◌, ◌≤◌, ◌⊎◌, ℕ, Bool, List, [], ◌∷◌, ◌++◌, map, length}
use Rattle.jup_served.specs.Prelude.{Up, Down, BoardBatch, Joined, Line, HasSpelling, spelling, flat_map, AllByRecursion, bytes_read, bytes_written, HubEvent}
use Rattle.jup_served.specs.Sessions.{Ended, fetches_for, IsServing}
use Rattle.jup_socket.specs.Sockets.{all_said, said_lines, IsLast, written_down, Brought, Received}
use Rattle.jup_honest.specs.Sites.{Step, Connection, after, Begins, SiteRun, start, now, fetches_of}
use Rattle.jup_session.specs.Prelude.{Hello}
use Rattle.jup_wire.specs.Lines.{line_text}
use Rattle.jup_gather.specs.Gathering.{piece_lines, up_piece}
use Rattle.jup_resume.specs.Texts.{spelled}
use Rattle.jup_resume.specs.Notes.{begins_note}
use Rattle.jup_resume.specs.Ways.{Way, new_way, Event, Breaks, run, AreAllowed, IsRun}

-- # Both ways

-- the way of the client's lines, and that of the server's
pub record Ways : Type 0 where
  pub up : Way
  pub down : Way

-- before the first line
abbrev pub new_ways : Ways
new_ways = record { up = new_way; down = new_way }

-- Whatever is cut, each is a run of the machine of `jup_resume`: a carrier brings a beginning of the bytes that were written to it
pub record AreRuns (ways : Ways) : Type 0 where
  pub up : IsRun begins_note ways.up
  pub down : IsRun begins_note ways.down

-- both go on, as such ways do
pub record GoOn (old new : Ways) : Type 0 where
  pub ups : List Event
  pub downs : List Event
  pub ups_allowed : AreAllowed begins_note ups
  pub downs_allowed : AreAllowed begins_note downs
  pub up : new.up ≡ run begins_note ups old.up
  pub down : new.down ≡ run begins_note downs old.down

-- a carrier broke when it had brought a part of a line
pub record BreaksWithin (way : Way) : Type 0 where
  pub before : List Event
  pub later : List Event
  pub allowed : AreAllowed begins_note (before ++ Breaks ∷ later)
  pub within : (run begins_note before new_way).part ≢ []
  pub is : way ≡ run begins_note (before ++ Breaks ∷ later) new_way

-- # What both ends do with them, at one moment

-- lines as a way has them, without their line feeds
abbrev pub texts : List Line → List (List ℕ)
texts lines = map line_text lines

-- the bytes of the lines that a way handed on
abbrev pub bytes_handed : Way → List ℕ
bytes_handed way = flat_map spelled way.handed

-- the client puts the first of the lines that say these messages, and perhaps a bye
pub record PutsSaid (ups : List (Up BoardBatch)) (way : Way) : Type 0 where
  pub bye : Bool
  pub spells : AllByRecursion HasSpelling (said_lines (all_said ups bye))
  pub put : Begins (texts (said_lines (all_said ups bye))) way.put

-- the client read the first of the bytes that were handed on to it
pub record Hears (delivered : List (Down BoardBatch)) (way : Way) : Type 0 where
  pub received : Received delivered
  pub first : Begins (bytes_handed way) received.read

-- up: the session read the line `hello 3`, and then the first of the bytes that were handed on to it
pub record CarriesUp (c : Connection) (way : Way) : Type 0 where
  pub puts : PutsSaid c.sent way
  pub brought : Brought c.taken
  pub first : Begins (spelling Hello ++ bytes_handed way) brought.read

-- down: the session puts the first of the lines that it writes. Before the client has read its greeting, nothing is delivered to its site
pub record CarriesDown (answer : Joined) (c : Connection) (way : Way) : Type 0 where
  pub last : List Line
  pub ends : AllByRecursion IsLast last
  pub spells : AllByRecursion HasSpelling (written_down answer c.fetched last)
  pub put : Begins (texts (written_down answer c.fetched last)) way.put
  pub hears : (c.handed ≡ []) ⊎ Hears c.handed way

-- both
pub record Carries (answer : Joined) (c : Connection) (ways : Ways) : Type 0 where
  pub up : CarriesUp c ways.up
  pub down : CarriesDown answer c ways.down

-- # At each moment

-- this holds at each moment of some steps, as the ways go on to what they are in the end
abbrev pub AtEach : (Connection → Ways → Type 0) → List Step → Connection → Ways → Ways → Type 0
AtEach Holds [] c ways last = Holds c ways × GoOn ways last
AtEach Holds (step ∷ steps) c ways last = Holds c ways × ((next : Ways) × GoOn ways next × AtEach Holds steps (after step c) next last)

-- the lines of messages up
abbrev pub messages_up : List (Up BoardBatch) → List Line
messages_up ups = flat_map (λ up. piece_lines (up_piece up)) ups

-- Neither end is ahead of what it has. It puts no line of a message that it has not sent, and no last line before its last message. It takes no message of which a line was not
-- handed on. Only numbers are compared, and each with what is at the same end
pub record IsInTime (answer : Joined) (ups : List (Up BoardBatch)) (downs : List (Down BoardBatch)) (c : Connection) (ways : Ways) : Type 0 where
  pub said : (length ways.up.put ≤ length (messages_up c.sent)) ⊎ (c.sent ≡ ups)
  pub taken : length (messages_up c.taken) ≤ length ways.up.handed
  pub written : (length ways.down.put ≤ length (written_down answer c.fetched [])) ⊎ (c.fetched ≡ downs)
  pub delivered : (c.handed ≡ []) ⊎ (length (written_down answer c.handed []) ≤ length ways.down.handed)

-- # A site that a session serves

-- The link of the session is carried so, and its client is of this product. `ways` are both ways as the session ends. By then the client may have said more messages than at the
-- run's last moment
pub record IsCarriedRun (run : SiteRun) (log : List HubEvent) (s : Ended) : Type 0 where
  pub serving : IsServing run log s
  pub ways : Ways
  pub more : List (Up BoardBatch)
  pub puts : PutsSaid ((now run).sent ++ more) ways.up
  pub read : Begins (spelling Hello ++ bytes_handed ways.up) (bytes_read s.exact)
  pub put : Begins (bytes_written s.exact) (flat_map spelled ways.down.put)
  pub hears : Hears (now run).handed ways.down
  pub first : Ways
  pub opens : GoOn new_ways first
  pub in_time : AtEach (IsInTime run.answer ((now run).sent ++ more) (fetches_of run.answer.site (fetches_for serving.serves))) run.steps (start run) first ways
