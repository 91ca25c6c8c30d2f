-- What may happen in a world whose links carry messages. The program has two more events, which move bytes, and only these answer that
-- bytes were moved.
use Rattle.std.specs.Prelude.{ℕ}
use Rattle.jup_world.specs.Prelude.{Reply, Up as Message}

-- a site joins, leaves, edits; the star takes the oldest message from it; the site receives the oldest message to it; it sends a ping.
-- And a stranger joins; the star receives this message by a link that has no site; a stranger leaves
pub data Event (Command Operation : Type 0) : Type 0 where
  Join : Event Command Operation
  Leave : ℕ → Event Command Operation
  Edit : ℕ → Command → Event Command Operation
  Up : ℕ → Event Command Operation
  Down : ℕ → Event Command Operation
  Ping : ℕ → ℕ → Event Command Operation
  JoinStray : Event Command Operation
  Stray : ℕ → Message Operation → Event Command Operation
  LeaveStray : ℕ → Event Command Operation

-- an event with its reply
pub record Happened (Command Operation Edit Fault : Type 0) : Type 0 where
  pub event : Event Command Operation
  pub reply : Reply Edit Fault
