-- What the values of the code report of a stream.
use Rattle.std.specs.Prelude.{List, [], ◌∷◌, Option, None, Some}
use Rattle.jup_http.specs.declared.stream.Event.{Event}
use Rattle.jup_http.specs.declared.stream.Event.TheVariants.{Ping, Closed, Broken}
use Rattle.jup_http.specs.declared.stream.Met.{Met}
use Rattle.jup_http.specs.declared.stream.Met.TheVariants as Mets
use Rattle.jup_http.specs.declared.stream.FrameStream.{FrameStream}
use Rattle.jup_http.specs.Frames.{held_bytes}
use Rattle.jup_http.specs.Streams.{Told, brought, ping, closed, broken, Standing, Step}

-- where a stream is
abbrev pub standing : FrameStream → Standing
standing s = record { place = s.place; pending = s.pending; held = held_bytes s.held }

abbrev pub told_by_event : Event → List Told
told_by_event (Ping held) = ping (held_bytes held) ∷ []
told_by_event (Closed code) = closed code ∷ []
told_by_event (Broken b) = broken b ∷ []

abbrev pub told_by_option : Option Event → List Told
told_by_option None = []
told_by_option (Some e) = told_by_event e

abbrev pub told_by : Met → List Told
told_by Mets.Nothing = []
told_by (Mets.Data b) = brought b ∷ []
told_by (Mets.Event e) = told_by_event e

-- a byte that left the stream here, and came to this
abbrev pub stepped : Met → FrameStream → Step
stepped met s = record { next = standing s; told = told_by met }
