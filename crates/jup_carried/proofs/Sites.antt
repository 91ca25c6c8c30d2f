-- A site that a session serves over a link of protocol 4 is honest.
use Rattle.std.proofs.Common.{◌≡◌, ℕ, ◌+◌, ◌≤◌, Bool, List, [], ◌∷◌, ◌++◌, length, refl, sym, ap, ◌∙◌, subst, arith, inl, inr, length-append}
use Rattle.jup_served.specs.Prelude.{Up, Down, BoardBatch, Joined, Line, HubEvent, spelling, flat_map, flat_map-cons, bytes_read, bytes_written, Windows}
use Rattle.jup_gather.specs.Gathering.{Piece, Message, Alone, piece_lines, up_piece, down_piece}
use Rattle.jup_resume.specs.Texts.{spelled}
use Rattle.jup_resume.specs.Notes.{begins_note}
use Rattle.jup_resume.proofs.WayRuns.{keeps}
use Rattle.jup_honest.specs.Sites.{Step, Connection, after, through, Begins, IsCausalThrough, IsHonest, SiteRun, calls, start, now, fetches_of}
use Rattle.jup_honest.proofs.Backlogs.{begins_chain, grows_through}
use Rattle.jup_socket.specs.Sockets.{said_lines, all_said, greeting, messages_down, written_down}
use Rattle.jup_session.specs.Prelude.{Hello, board_lines}
use Rattle.jup_served.specs.Sessions.{Ended, fetches_for, IsOwnedBy, HasWritten, HasReceived, IsServedRun, IsOneOf, IsSessionHub}
use Rattle.jup_served.proofs.Runs as served
use Rattle.jup_carried.specs.Carried.{Ways, new_ways, AreRuns, AtEach, IsInTime, IsCarriedRun}
use Rattle.jup_carried.proofs.Links.{first_bytes, read_first, runs_on}

-- # Numbers

begins_long : {A : Type 0} (all first : List A) → Begins all first → length first ≤ length all
begins_long all first begins = omega (arith, ap length begins.1, length-append first begins.0)

some_line : (p : Piece) → 1 ≤ length (piece_lines p)
some_line (Message m) = omega arith
some_line (Alone line) = omega arith

-- of two beginnings of one list the one with fewer lines is no longer
module _ {A : Type 0} (piece : A → Piece) where
  abbrev lines : List A → List Line
  lines xs = flat_map (λ x. piece_lines (piece x)) xs

  cons_long : (x : A) (xs : List A) → length (lines (x ∷ xs)) ≡ length (piece_lines (piece x)) + length (lines xs)
  cons_long x xs = ap length (flat_map-cons (λ x. piece_lines (piece x)) x xs) ∙ length-append (piece_lines (piece x)) (lines xs)

  no_longer : (all one two : List A) → Begins all one → Begins all two → length (lines one) ≤ length (lines two) → length one ≤ length two
  no_longer all [] two b c few = omega arith
  no_longer all (x ∷ one) [] b c few = absurd (omega (arith, few, cons_long x one, some_line (piece x)))
  no_longer [] (x ∷ one) (y ∷ two) b c few = absurd (let none : [] ≡ x ∷ (one ++ b.0) = b.1 in cc)
  no_longer (z ∷ all) (x ∷ one) (y ∷ two) b c few =
      let same : x ≡ y = (let first : z ≡ x = cc in let second : z ≡ y = cc in sym first ∙ second) in
      let rest = no_longer all one two (b.0, cc) (c.0, cc) (omega (arith, few, cons_long x one, cons_long y two, ap (λ p. length (piece_lines (piece p))) same)) in
      omega (arith, rest)

-- # At one moment

-- what passed is the first of all that is to pass
record AreFirst (ups : List (Up BoardBatch)) (downs : List (Down BoardBatch)) (c : Connection) : Type 0 where
  sent : Begins ups c.sent
  taken : Begins ups c.taken
  fetched : Begins downs c.fetched
  handed : Begins downs c.handed

module _ (answer : Joined) (ups : List (Up BoardBatch)) (downs : List (Down BoardBatch)) where
  down_long : (ds : List (Down BoardBatch)) → length (written_down answer ds []) ≡ length (greeting answer.site answer.limit (board_lines answer.board)) + length (messages_down ds)
  down_long ds = omega (arith, length-append (greeting answer.site answer.limit (board_lines answer.board)) (messages_down ds ++ []), length-append (messages_down ds) [])

  up_causal : (c : Connection) (ways : Ways) → AreRuns ways → AreFirst ups downs c → IsInTime answer ups downs c ways → length c.taken ≤ length c.sent
  up_causal c ways are first t =
      let handed = begins_long ways.up.put ways.up.handed (keeps begins_note ways.up are.up).in_order in
      elim t.said as (λ s. length c.taken ≤ length c.sent) [
        | inl few ↦ no_longer up_piece ups c.taken c.sent first.taken first.sent (omega (arith, t.taken, handed, few))
        | inr all ↦ omega (arith, begins_long ups c.taken first.taken, ap length all)
      ]

  down_causal : (c : Connection) (ways : Ways) → AreRuns ways → AreFirst ups downs c → IsInTime answer ups downs c ways → length c.handed ≤ length c.fetched
  down_causal c ways are first t =
      let handed = begins_long ways.down.put ways.down.handed (keeps begins_note ways.down are.down).in_order in
      elim t.written as (λ w. length c.handed ≤ length c.fetched) [
        | inl few ↦ elim t.delivered as (λ d. length c.handed ≤ length c.fetched) [
          | inl none ↦ omega (arith, ap length none)
          | inr came ↦ no_longer down_piece downs c.handed c.fetched first.handed first.fetched (omega (arith, came, handed, few, down_long c.handed, down_long c.fetched))
        ]
        | inr all ↦ omega (arith, begins_long downs c.handed first.handed, ap length all)
      ]

  each_causal : (steps : List Step) (c : Connection) (ways last : Ways) → AreRuns ways → AreFirst ups downs (through steps c) → AtEach (IsInTime answer ups downs) steps c ways last → IsCausalThrough steps c
  each_causal [] c ways last are first at = record { up = up_causal c ways are first at.0; down = down_causal c ways are first at.0 }
  each_causal (step ∷ steps) c ways last are first at =
      let end = through (step ∷ steps) c in
      let grows = grows_through (step ∷ steps) c in
      let now : AreFirst ups downs c = record {
        sent = begins_chain ups end.sent c.sent first.sent grows.sent;
        taken = begins_chain ups end.taken c.taken first.taken grows.taken;
        fetched = begins_chain downs end.fetched c.fetched first.fetched grows.fetched;
        handed = begins_chain downs end.handed c.handed first.handed grows.handed;
      } in (
        record { up = up_causal c ways are now at.0; down = down_causal c ways are now at.0 },
        each_causal steps (after step c) at.1.0 last (runs_on ways at.1.0 at.1.1 are) first at.1.2,
      )

-- # The ways of a run

new_runs : AreRuns new_ways
new_runs = record { up = record { events = []; allowed = tt; is = refl }; down = record { events = []; allowed = tt; is = refl } }

last_runs : (Holds : Connection → Ways → Type 0) (steps : List Step) (c : Connection) (ways last : Ways) → AreRuns ways → AtEach Holds steps c ways last → AreRuns last
last_runs Holds [] c ways last are at = runs_on ways last at.1 are
last_runs Holds (step ∷ steps) c ways last are at = last_runs Holds steps (after step c) at.1.0 last (runs_on ways at.1.0 at.1.1 are) at.1.2

module _ (run : SiteRun) (log : List HubEvent) (s : Ended) (is : IsCarriedRun run log s) where
  abbrev ups : List (Up BoardBatch)
  ups = (now run).sent ++ is.more

  abbrev downs : List (Down BoardBatch)
  downs = fetches_of run.answer.site (fetches_for is.serving.serves)

  first_are : AreRuns is.first
  first_are = runs_on new_ways is.first is.opens new_runs

  are : AreRuns is.ways
  are = last_runs (IsInTime run.answer ups downs) run.steps (start run) is.first is.ways first_are is.in_time

  -- what the session read is the first of what its client wrote
  written : HasWritten run (bytes_read s.exact)
  written =
      let lines = said_lines (all_said ups is.puts.bye) in
      let read = read_first (spelling Hello) lines is.ways.up are.up is.puts.put (bytes_read s.exact) is.read in
      record { more = is.more; bye = is.puts.bye; spelled = (tt, is.puts.spells); left = read.0; bytes = sym read.1 ∙ sym (flat_map-cons spelling Hello lines) }

  -- and the other way round
  received : HasReceived run (bytes_written s.exact)
  received =
      let d = is.ways.down in
      let handed = begins_chain (bytes_written s.exact) (flat_map spelled d.put) (flat_map spelled d.handed) is.put (first_bytes spelled [] d.put d.handed (keeps begins_note d are.down).in_order) in
      let read = begins_chain (bytes_written s.exact) (flat_map spelled d.handed) is.hears.received.read handed is.hears.first in
      record { received = is.hears.received; left = read.0; bytes = sym read.1 }

  module _ (own : IsOwnedBy s run.answer.site (calls run)) where
    downs_are : downs ≡ fetches_of is.serving.serves.served.site (fetches_for is.serving.serves)
    downs_are = ap (λ i. fetches_of i (fetches_for is.serving.serves)) (served.site_is run log s is.serving written received)

    first : AreFirst ups downs (now run)
    unfolding written
    first = record {
      sent = (is.more, refl);
      taken = served.taken_is_sent run log s is.serving written received own;
      fetched = subst (λ ds. Begins ds (now run).fetched) (sym downs_are) (served.fetched_first run log s is.serving written received own);
      handed = subst (λ ds. Begins ds (now run).handed) (sym downs_are) (served.handed_first run log s is.serving written received);
    }

    pub carried_served : IsServedRun run log s
    carried_served = record {
      serving = is.serving;
      up = written;
      down = received;
      causal = each_causal run.answer ups downs run.steps (start run) is.first is.ways first_are first is.in_time;
    }

-- # At a hub that sessions alone call

pub hub_carried : (keeps : Bool) (board : Windows) (limit : ℕ) (sessions : List Ended) (log : List HubEvent) → IsSessionHub keeps board limit sessions log → (run : SiteRun) (s : Ended) → IsOneOf s sessions → IsCarriedRun run log s → IsHonest run
hub_carried keeps board limit sessions log hub run s one is =
    served.hub_honest keeps board limit sessions log hub run s one (carried_served run log s is (served.hub_owned keeps board limit sessions log hub run s one is.serving))
