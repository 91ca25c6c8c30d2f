-- What a handle owns, and what a call makes of it.
use Rattle.std.specs.Prelude.{Option, None, Some, ◌≡◌, ℕ, List, [], ◌∷◌, Result, Ok, Err}
use Rattle.std.specs.Coded.{coded_option, Coded}
use base.Fml.{Fml, ftrue, ffalse}
use denote.RawPtr.{Ptr, block_ptr, null_ptr}
use Rattle.std_heap.specs.contracts.GlobalAllocator.TheImpl.{ghosts}
use Rattle.std_alloc.specs.Box.Ownership.{box_owns}
use Rattle.jup_lasting.specs.declared.terms.Terms.{Terms}
use Rattle.jup_c.specs.Prelude.{BoardOp, Hello, line_bytes, HasRead, Greeting, stage_of, site_in, PlainChange, AnyClient, session_of, with_session, Global}
use Rattle.jup_reconnect.specs.contracts.any.AnyClient.{the_row}
use Rattle.jup_reconnect.specs.declared.any.AnyClient.TheVariants.{Single, Lasting as OfLink}
use Rattle.jup_reconnect.specs.AnyClients.{terms_of, arrived_of}
use Rattle.jup_reconnect.specs.Lasting.{IsFreshLasting}
use Rattle.jup_embed.specs.Numbers.{stage_number, no_stage, stage_fault, closed, Shows}

-- What a handle owns: nothing where its word is null, and else the client that the word points to, with the right to free it.

abbrev pub held : Global → Ptr → Option AnyClient → Fml
held alloc null_ptr None = ftrue
held alloc null_ptr (Some client) = ffalse
held alloc (block_ptr block offset) None = ffalse
held alloc (block_ptr block offset) (Some client) = box_owns (ghosts.dealloc_token alloc) the_row (block_ptr block offset) client

-- how the logic stores what is inside
abbrev pub inside_coded : Coded (Option AnyClient)
inside_coded = coded_option the_row.coded

-- What a call of C makes of the client in its handle.

-- a call made this of the client that is there; or there is none, and this is so
abbrev pub Inside : (AnyClient → AnyClient → Type 0) → Type 0 → Option AnyClient → Option AnyClient → Type 0
Inside Made without (Some c) (Some d) = Made c d
Inside Made without None None = without
Inside Made without (Some c) None = ⊥
Inside Made without None (Some d) = ⊥

-- this is so of the client that is there; or there is none, and that is so
abbrev pub Shown : (AnyClient → Type 0) → Type 0 → Option AnyClient → Type 0
Shown Is without (Some c) = Is c
Shown Is without None = without

-- a client of one connection before the first byte, whose greeting waits
abbrev pub IsFresh : Option AnyClient → Type 0
IsFresh None = ⊥
IsFresh (Some (Single c)) = HasRead [] [] c.progress × (c.phase ≡ Greeting) × (c.waiting ≡ line_bytes Hello) × (c.changes ≡ [])
IsFresh (Some (OfLink c)) = ⊥

-- a client of a link that outlives its connections, before the first byte
abbrev pub IsFreshLink : Option AnyClient → Type 0
IsFreshLink None = ⊥
IsFreshLink (Some (Single c)) = ⊥
IsFreshLink (Some (OfLink c)) = IsFreshLasting c.session.watched c

-- how far the session is, and the number of the fault that ended it
abbrev pub stage_inside : Option AnyClient → ℕ
stage_inside None = no_stage
stage_inside (Some c) = stage_number (stage_of (session_of c).phase)

abbrev pub fault_inside : Option AnyClient → ℕ
fault_inside None = 0
fault_inside (Some c) = stage_fault (stage_of (session_of c).phase)

-- what the client has not told
abbrev pub changes_inside : Option AnyClient → List BoardOp
changes_inside None = []
changes_inside (Some c) = (session_of c).changes

-- these numbers are the oldest change that it had not told
abbrev pub Tells : PlainChange → AnyClient → AnyClient → Type 0
Tells change c d = (op : BoardOp) × Shows change op × (c ≡ with_session (record (session_of d) { changes = op ∷ (session_of d).changes }) d)

-- the number of its site and its backlog, if its board is there
abbrev pub site_inside : Option AnyClient → Option (ℕ × ℕ)
site_inside None = None
site_inside (Some c) = site_in (session_of c).phase

-- what the server said of its link, and how many of its edits had their effect, or why that is not known
abbrev pub terms_inside : Option AnyClient → Result (Option Terms) ℕ
terms_inside None = Err closed
terms_inside (Some c) = terms_of c

abbrev pub arrived_inside : Option AnyClient → Result (Option ℕ) ℕ
arrived_inside None = Err closed
arrived_inside (Some c) = arrived_of c

-- the answer of a call that asks for one of these
abbrev pub known_answer : {A : Type 0} → Result (Option A) ℕ → ℕ
known_answer (Ok (Some value)) = 0
known_answer (Ok None) = 91
known_answer (Err fault) = fault
