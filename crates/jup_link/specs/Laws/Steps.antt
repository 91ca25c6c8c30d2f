-- Two ends in step: the events of the near end, and all events.
use Rattle.std.proofs.Common.{◌≡◌, ℕ, ◌+◌, ◌-◌, ◌<◌, ◌≤◌, List, [], ◌∷◌, ◌++◌, length, refl, ap, sym, subst, arith, length-append, length-drop, if◌then◌else◌, true, false, append-nil}
use Rattle.jup_xform.specs.declared.Transform.{Ghosts}
use Rattle.jup_xform.specs.declared.row.Side.{Side}
use Rattle.jup_xform.specs.declared.row.Side.TheVariants.{Client, Server}
use Rattle.jup_xform.specs.Rows.{row_operation, row_entries}
use Rattle.jup_xform.specs.Laws.Grids.{length-row_entries, IsLawful-mirror, small_less, distinct_after_all, small_after_all, small_before_all}
use Rattle.jup_xform.specs.Grids.{past, opposite, AllApart, mirror, IsLawful, after_all}
use Rattle.jup_link.specs.Links.{Link, Message, Operation, Ack, IsCount, IsNumber, opened, generated, unheard, after_count, after_send, after_ack, arrived, after_arrival, received_operation, after_receive, message, MessagesApart, InStepAt, shared_after, rest, past_first, owes, link_after, state_after, AcceptsMessage, owed, answered, operation_count, InStep}
use Rattle.jup_link.specs.Laws.InStep.{Comes-first, InStepAt-mirror, InStepAt-room, InStepAt-edit, InStepAt-edit_apart, InStepAt-ack, InStepAt-count, InStepAt-arrival, InStepAt-quiet, QueueMeets-next, generated_is, Comes-count}

-- The events of the near end, and the operation that comes next.

-- the near end's events, as the far end's seen from the other end
module _ {Op State Edit : Type 0} (t : Ghosts Op State Edit) (lawful : IsLawful t) where
  -- the near end makes an edit that is apart from the messages to it
  pub InStepAt-edit_near : (n : ℕ) (base : State) (cs ss : List Op) (x y : State) (near far : Link Op) (out back : List (Message Op)) (c : Op)
      → InStepAt t (n + 1) base cs ss x y near far out back → t.is_valid c x → MessagesApart t back c → generated near < 4294967295
      → InStepAt t n base (cs ++ c ∷ []) ss (t.after c x) y (after_send near c) far (out ++ message near c ∷ []) back
  InStepAt-edit_near n base cs ss x y near far out back c m valid apart counted =
      InStepAt-mirror (mirror t) n base ss (cs ++ c ∷ []) y (t.after c x) far (after_send near c) back (out ++ message near c ∷ [])
      (InStepAt-edit (mirror t) (IsLawful-mirror t lawful) n base ss cs y x far near back out c
      (InStepAt-mirror t (n + 1) base cs ss x y near far out back m) valid apart counted)

  -- the near end sends an acknowledgement
  pub InStepAt-ack_near : (n : ℕ) (base : State) (cs ss : List Op) (x y : State) (near far : Link Op) (out back : List (Message Op))
      → InStepAt t n base cs ss x y near far out back
      → InStepAt t n base cs ss x y (after_ack near) far (out ++ Ack near.received ∷ []) back
  InStepAt-ack_near n base cs ss x y near far out back m =
      InStepAt-mirror (mirror t) n base ss cs y x far (after_ack near) back (out ++ Ack near.received ∷ [])
      (InStepAt-ack (mirror t) (IsLawful-mirror t lawful) n base ss cs y x far near back out
      (InStepAt-mirror t n base cs ss x y near far out back m))

  -- the near end takes an acknowledgement
  pub InStepAt-count_near : (n : ℕ) (base : State) (cs ss : List Op) (x y : State) (near far : Link Op) (k : ℕ) (out back : List (Message Op))
      → InStepAt t n base cs ss x y near far out (Ack k ∷ back)
      → IsCount near k × InStepAt t n base cs ss x y (after_count near k) far out back
  InStepAt-count_near n base cs ss x y near far k out back m =
      let taken = InStepAt-count (mirror t) (IsLawful-mirror t lawful) n base ss cs y x far near k back out
      (InStepAt-mirror t n base cs ss x y near far out (Ack k ∷ back) m) in
      (taken.0, InStepAt-mirror (mirror t) n base ss cs y x far (after_count near k) back out taken.1)

-- the operation that comes next, at each side
module _ {Op State Edit : Type 0} (t : Ghosts Op State Edit) (lawful : IsLawful t) where
  -- what the server's end gives for the next message up, and what it leaves
  abbrev pub GoesUp : ℕ → State → List Op → List Op → State → State → Link Op → Link Op → ℕ → ℕ → Op → List (Message Op) → List (Message Op) → Type 0
  GoesUp n base cs ss x y c s mine heard o up down =
      IsNumber s mine × IsCount s heard × t.is_valid (received_operation t s heard o) y
      × InStepAt t n (shared_after t cs base) (rest cs) (past_first t.client_past t.server_past cs ss)
      x (t.after (received_operation t s heard o) y) c (after_receive t s heard o) up down

  -- the server's end receives the next message up
  pub InStepAt-up : (n : ℕ) (base : State) (cs ss : List Op) (x y : State) (c s : Link Op) (mine heard : ℕ) (o : Op) (up down : List (Message Op))
      → s.side ≡ Server → InStepAt t n base cs ss x y c s (Operation mine heard o ∷ up) down
      → GoesUp n base cs ss x y c s mine heard o up down
  InStepAt-up n base [] ss x y c s mine heard o up down side m = absurd m.far_queue.comes
  InStepAt-up n base (a ∷ cs) ss x y c s mine heard o up down side m =
      let arrival = InStepAt-arrival t lawful n base a cs ss x y c s mine heard o up down m in
      let P : Side → Type 0 = λ z.
      t.is_valid (arrived (past t (opposite z)) s heard o) y
      × InStepAt t n (t.after a base) cs (row_entries t.client_past t.server_past a ss) x (t.after (arrived (past t (opposite z)) s heard o) y) c
      (after_arrival (past t (opposite z)) (past t z) s heard o) up down in
      let at_side : P s.side = subst P (sym side) (arrival.2, arrival.3) in
      (arrival.0, arrival.1, at_side.0, at_side.1)

  -- what the client's end gives for the next message down, and what it leaves
  abbrev pub GoesDown : ℕ → State → List Op → List Op → State → State → Link Op → Link Op → ℕ → ℕ → Op → List (Message Op) → List (Message Op) → Type 0
  GoesDown n base cs ss x y c s mine heard o up down =
      IsNumber c mine × IsCount c heard × t.is_valid (received_operation t c heard o) x
      × InStepAt t n (shared_after t ss base) (past_first t.server_past t.client_past ss cs) (rest ss)
      (t.after (received_operation t c heard o) x) y (after_receive t c heard o) s up down

  -- the client's end receives the next message down
  pub InStepAt-down : (n : ℕ) (base : State) (cs ss : List Op) (x y : State) (c s : Link Op) (mine heard : ℕ) (o : Op) (up down : List (Message Op))
      → c.side ≡ Client → InStepAt t n base cs ss x y c s up (Operation mine heard o ∷ down)
      → GoesDown n base cs ss x y c s mine heard o up down
  InStepAt-down n base cs [] x y c s mine heard o up down side m = absurd m.near_queue.comes
  InStepAt-down n base cs (a ∷ ss) x y c s mine heard o up down side m =
      let arrival = InStepAt-arrival (mirror t) (IsLawful-mirror t lawful) n base a ss cs y x s c mine heard o down up
      (InStepAt-mirror t n base cs (a ∷ ss) x y c s up (Operation mine heard o ∷ down) m) in
      let P : Side → Type 0 = λ z.
      t.is_valid (arrived (past t (opposite z)) c heard o) x
      × InStepAt t n (t.after a base) (row_entries t.server_past t.client_past a cs) ss (t.after (arrived (past t (opposite z)) c heard o) x) y
      (after_arrival (past t (opposite z)) (past t z) c heard o) s up down in
      let back = InStepAt-mirror (mirror t) n (t.after a base) ss (row_entries t.server_past t.client_past a cs) y
      (t.after (arrived t.server_past c heard o) x) s (after_arrival t.server_past t.client_past c heard o) down up arrival.3 in
      let at_side : P c.side = subst P (sym side) (arrival.2, back) in
      (arrival.0, arrival.1, at_side.0, at_side.1)

-- two new ends of a link
module _ {Op State Edit : Type 0} (t : Ghosts Op State Edit) (lawful : IsLawful t) where
  -- over one small state they are in step
  pub InStepAt-opened : (n : ℕ) (x : State) → t.is_distinct x → t.is_small n x
      → InStepAt t n x [] [] x x (opened Client) (opened Server) [] []
  InStepAt-opened n x d small =
      let none : n ≡ n + (length {A = Op} [] + length {A = Op} []) = omega arith in record {
        states = record { distinct = d; small = rw none at small; near_valid = tt; far_valid = tt; near_is = refl; far_is = refl; closes = tt };
        near_queue = record { before = []; queue = refl; count = refl; comes = tt };
        far_queue = record { before = []; queue = refl; count = refl; comes = tt };
      }

-- an operation at the front of a stream is the first of what it brings
module _ {Op State Edit : Type 0} (t : Ghosts Op State Edit) {n : ℕ} {base : State} {cs ss : List Op} {x y : State} {c s : Link Op} {mine heard : ℕ} {o : Op} {up down : List (Message Op)} where
  -- the client's operations that the server's end has not received have a first
  pub first_up : InStepAt t n base cs ss x y c s (Operation mine heard o ∷ up) down → (a : Op) × (rest : List Op) × (cs ≡ a ∷ rest)
  first_up m = Comes-first t s.received s.acknowledged m.far_queue.before mine heard o up cs m.far_queue.comes

  -- the server's operations that the client's end has not received have a first
  pub first_down : InStepAt t n base cs ss x y c s up (Operation mine heard o ∷ down) → (a : Op) × (rest : List Op) × (ss ≡ a ∷ rest)
  first_down m = Comes-first (mirror t) c.received c.acknowledged m.near_queue.before mine heard o down ss m.near_queue.comes

-- a state that is small by n is small by any less
pub small_le : {Op State Edit : Type 0} (t : Ghosts Op State Edit) (lawful : IsLawful t) (m n : ℕ) (x : State) → m ≤ n → t.is_small n x → t.is_small m x
small_le t lawful m n x le small =
    let sum : n ≡ (n - m) + m = omega arith in
    small_less t lawful (n - m) m x (rw sum at small)

-- a state that is small by m is small by any less after a valid operation
pub small_next : {Op State Edit : Type 0} (t : Ghosts Op State Edit) (lawful : IsLawful t) (m n : ℕ) (x : State) (o : Op)
    → n < m → t.is_small m x → t.is_valid o x → t.is_small n (t.after o x)
small_next t lawful m n x o less small valid = lawful.small_after n x o (small_le t lawful (n + 1) m x (omega arith) small) valid

-- two ends in step, for those who name what leads from the base to each: what holds of them
module _ {Op State Edit : Type 0} (t : Ghosts Op State Edit) (lawful : IsLawful t) {n : ℕ} {base : State} {cs ss : List Op} {x y : State} {c s : Link Op} {up down : List (Message Op)} where
  -- what the server's end has not received is in the client's queue
  pub client_lengths : InStepAt t n base cs ss x y c s up down → length cs ≤ length c.outgoing
  client_lengths m = omega (arith, ap (λ (z : List Op). length z) m.near_queue.queue, length-append m.near_queue.before cs)

  -- the names of the client's state are distinct
  pub client_distinct : InStepAt t n base cs ss x y c s up down → t.is_distinct x
  client_distinct m = rw m.states.near_is (distinct_after_all t lawful cs base m.states.distinct m.states.near_valid)

  -- the client's state is small by k if the base is by k and the client's operations
  pub client_small : (k : ℕ) → InStepAt t n base cs ss x y c s up down → t.is_small (k + length cs) base → t.is_small k x
  client_small k m small = rw m.states.near_is (small_after_all t lawful k cs base small m.states.near_valid)

  -- an end makes an edit that the base has room for
  pub server_sends : (o : Op) → InStepAt t n base cs ss x y c s up down → t.is_valid o y → AllApart t cs o
      → t.is_small (n + 1 + (length cs + length ss)) base → generated s < 4294967295
      → InStepAt t n base cs (ss ++ o ∷ []) x (t.after o y) c (after_send s o) up (down ++ message s o ∷ [])
  server_sends o m valid apart small counted =
      InStepAt-edit_apart t lawful n base cs ss x y c s up down o (InStepAt-room t n (n + 1) base cs ss x y c s up down m small) valid apart counted

  -- the same of the client's end
  pub client_sends : (o : Op) → InStepAt t n base cs ss x y c s up down → t.is_valid o x → AllApart t ss o
      → t.is_small (n + 1 + (length cs + length ss)) base → generated c < 4294967295
      → InStepAt t n base (cs ++ o ∷ []) ss (t.after o x) y (after_send c o) s (up ++ message c o ∷ []) down
  client_sends o m valid apart small counted =
      InStepAt-mirror (mirror t) n base ss (cs ++ o ∷ []) y (t.after o x) s (after_send c o) down (up ++ message c o ∷ [])
      (InStepAt-edit_apart (mirror t) (IsLawful-mirror t lawful) n base ss cs y x s c down up o
      (InStepAt-mirror t (n + 1) base cs ss x y c s up down (InStepAt-room t n (n + 1) base cs ss x y c s up down m small)) valid apart counted)

-- an end sends a count of what it received, and takes one
module _ {Op State Edit : Type 0} (t : Ghosts Op State Edit) (lawful : IsLawful t) {n : ℕ} {base : State} {cs ss : List Op} {x y : State} {c s : Link Op} {up down : List (Message Op)} where
  -- the client's end sends a count
  pub client_acks : InStepAt t n base cs ss x y c s up down → InStepAt t n base cs ss x y (after_ack c) s (up ++ Ack c.received ∷ []) down
  client_acks m = InStepAt-ack_near t lawful n base cs ss x y c s up down m

  -- the server's end sends a count
  pub server_acks : InStepAt t n base cs ss x y c s up down → InStepAt t n base cs ss x y c (after_ack s) up (down ++ Ack s.received ∷ [])
  server_acks m = InStepAt-ack t lawful n base cs ss x y c s up down m

  -- the client's end takes a count
  pub client_counts : {k : ℕ} → InStepAt t n base cs ss x y c s up (Ack k ∷ down) → IsCount c k × InStepAt t n base cs ss x y (after_count c k) s up down
  client_counts {k} m = InStepAt-count_near t lawful n base cs ss x y c s k up down m

  -- the server's end takes a count
  pub server_counts : {k : ℕ} → InStepAt t n base cs ss x y c s (Ack k ∷ up) down → IsCount s k × InStepAt t n base cs ss x y c (after_count s k) up down
  server_counts {k} m = InStepAt-count t lawful n base cs ss x y c s k up down m

-- if nothing is on its way the states are equal
pub quiet_equal : {Op State Edit : Type 0} (t : Ghosts Op State Edit) {n : ℕ} {base : State} {cs ss : List Op} {x y : State} {c s : Link Op} → InStepAt t n base cs ss x y c s [] [] → x ≡ y
quiet_equal t {n} {base} {cs} {ss} {x} {y} {c} {s} m = InStepAt-quiet t n base cs ss x y c s m

-- an end receives an operation: what it gives is the other end's first, past all of its own
module _ {Op State Edit : Type 0} (t : Ghosts Op State Edit) (lawful : IsLawful t) {n : ℕ} {base : State} {a : Op} {os bs : List Op} {x y : State} {c s : Link Op}
    {mine heard : ℕ} {o : Op} {up down : List (Message Op)} where
  -- the server's end receives the first of the client's operations
  pub server_receives : s.side ≡ Server → InStepAt t n base (a ∷ os) bs x y c s (Operation mine heard o ∷ up) down
      → (received_operation t s heard o ≡ row_operation t.client_past a bs) × IsNumber s mine × IsCount s heard × t.is_valid (received_operation t s heard o) y
      × InStepAt t n (t.after a base) os (row_entries t.client_past t.server_past a bs) x (t.after (received_operation t s heard o) y) c (after_receive t s heard o) up down
  server_receives side m =
      let next = QueueMeets-next t s c.received bs mine heard o up a os m.far_queue in
      let came = InStepAt-up t lawful n base (a ∷ os) bs x y c s mine heard o up down side m in
      let P : Side → Type 0 = λ z. arrived (past t (opposite z)) s heard o ≡ row_operation t.client_past a bs in
      (subst P (sym side) next.2, came.0, came.1, came.2, came.3)

  -- the client's end receives the first of the server's operations
  pub client_receives : c.side ≡ Client → InStepAt t n base bs (a ∷ os) x y c s up (Operation mine heard o ∷ down)
      → (received_operation t c heard o ≡ row_operation t.server_past a bs) × IsNumber c mine × IsCount c heard × t.is_valid (received_operation t c heard o) x
      × InStepAt t n (t.after a base) (row_entries t.server_past t.client_past a bs) os (t.after (received_operation t c heard o) x) y (after_receive t c heard o) s up down
  client_receives side m =
      let next = QueueMeets-next (mirror t) c s.received bs mine heard o down a os m.near_queue in
      let came = InStepAt-down t lawful n base bs (a ∷ os) x y c s mine heard o up down side m in
      let P : Side → Type 0 = λ z. arrived (past t (opposite z)) c heard o ≡ row_operation t.server_past a bs in
      (subst P (sym side) next.2, came.0, came.1, came.2, came.3)

-- how many operations an end generated
module _ {Op State Edit : Type 0} (t : Ghosts Op State Edit) {n : ℕ} {base : State} {cs ss : List Op} {x y : State} {c s : Link Op} {up down : List (Message Op)} where
  -- the client's end generated what the server's received and what it has not
  pub client_generated : InStepAt t n base cs ss x y c s up down → generated c ≡ s.received + length cs
  client_generated m = generated_is (mirror t) c s.received cs down ss m.near_queue

  -- the server's end generated what the client's received and what it has not
  pub server_generated : InStepAt t n base cs ss x y c s up down → generated s ≡ c.received + length ss
  server_generated m = generated_is t s c.received ss up cs m.far_queue

-- what an end's calls leave of its queue and of what it generated
module _ {Op State Edit : Type 0} (t : Ghosts Op State Edit) (l : Link Op) (heard : ℕ) where
  -- a count makes the queue no longer
  pub length-after_count : length (after_count l heard).outgoing ≤ length l.outgoing
  length-after_count = omega (arith, length-drop (heard - l.acknowledged) l.outgoing)

  -- a count leaves the number of operations generated
  pub generated-after_count : IsCount l heard → generated (after_count l heard) ≡ generated l
  generated-after_count fits = omega (arith, fits.low, fits.high, length-drop (heard - l.acknowledged) l.outgoing)

  -- a message makes the queue no longer
  pub length-after_receive : (o : Op) → length (after_receive t l heard o).outgoing ≤ length l.outgoing
  length-after_receive o =
      omega (arith, length-row_entries (past t (opposite l.side)) (past t l.side) o (unheard l heard), length-drop (heard - l.acknowledged) l.outgoing)

  -- a message leaves the number of operations generated
  pub generated-after_receive : (o : Op) → IsCount l heard → generated (after_receive t l heard o) ≡ generated l
  generated-after_receive o fits =
      omega (arith, fits.low, fits.high, length-row_entries (past t (opposite l.side)) (past t l.side) o (unheard l heard), length-drop (heard - l.acknowledged) l.outgoing)

-- Two ends stay in step: one lemma for each thing that may happen to them.

-- ends that are in step over some base and lists are in step
InStep-of : {Op State Edit : Type 0} (t : Ghosts Op State Edit) {n : ℕ} {base : State} {cs ss : List Op} {x y : State} {c s : Link Op} {up down : List (Message Op)}
    → c.side ≡ Client → s.side ≡ Server → InStepAt t n base cs ss x y c s up down → InStep t n x y c s up down
InStep-of t {base = base} {cs = cs} {ss = ss} client server m =
    record { client_side = client; server_side = server; base = base; client_ahead = cs; server_ahead = ss; meets = m }

-- kept by each call of both ends
module _ {Op State Edit : Type 0} (t : Ghosts Op State Edit) (lawful : IsLawful t) where
  -- two new ends over one small state
  pub InStep-opened : (n : ℕ) (x : State) → t.is_distinct x → t.is_small n x
      → InStep t n x x (opened Client) (opened Server) [] []
  InStep-opened n x d small = InStep-of t refl refl (InStepAt-opened t lawful n x d small)

  -- the client's owner applies an operation, and its end sends it
  pub InStep-client_edit : (n : ℕ) (x y : State) (c s : Link Op) (up down : List (Message Op)) (o : Op)
      → InStep t (n + 1) x y c s up down → t.is_valid o x → MessagesApart t down o → generated c < 4294967295
      → InStep t n (t.after o x) y (after_send c o) s (up ++ message c o ∷ []) down
  InStep-client_edit n x y c s up down o m valid apart counted =
      InStep-of t m.client_side m.server_side
      (InStepAt-edit_near t lawful n m.base m.client_ahead m.server_ahead x y c s up down o m.meets valid apart counted)

  -- the server's owner applies an operation, and its end sends it
  pub InStep-server_edit : (n : ℕ) (x y : State) (c s : Link Op) (up down : List (Message Op)) (o : Op)
      → InStep t (n + 1) x y c s up down → t.is_valid o y → MessagesApart t up o → generated s < 4294967295
      → InStep t n x (t.after o y) c (after_send s o) up (down ++ message s o ∷ [])
  InStep-server_edit n x y c s up down o m valid apart counted =
      InStep-of t m.client_side m.server_side
      (InStepAt-edit t lawful n m.base m.client_ahead m.server_ahead x y c s up down o m.meets valid apart counted)

  -- the client's end sends an acknowledgement
  pub InStep-client_ack : (n : ℕ) (x y : State) (c s : Link Op) (up down : List (Message Op))
      → InStep t n x y c s up down → InStep t n x y (after_ack c) s (up ++ Ack c.received ∷ []) down
  InStep-client_ack n x y c s up down m = InStep-of t m.client_side m.server_side (client_acks t lawful m.meets)

  -- the server's end sends an acknowledgement
  pub InStep-server_ack : (n : ℕ) (x y : State) (c s : Link Op) (up down : List (Message Op))
      → InStep t n x y c s up down → InStep t n x y c (after_ack s) up (down ++ Ack s.received ∷ [])
  InStep-server_ack n x y c s up down m = InStep-of t m.client_side m.server_side (server_acks t lawful m.meets)

  -- the server's end receives an acknowledgement, whose count it accepts
  pub InStep-up_ack : (n : ℕ) (x y : State) (c s : Link Op) (k : ℕ) (up down : List (Message Op))
      → InStep t n x y c s (Ack k ∷ up) down → IsCount s k × InStep t n x y c (after_count s k) up down
  InStep-up_ack n x y c s k up down m =
      let taken = server_counts t lawful m.meets in
      (taken.0, InStep-of t m.client_side m.server_side taken.1)

  -- the client's end receives an acknowledgement, whose count it accepts
  pub InStep-down_ack : (n : ℕ) (x y : State) (c s : Link Op) (k : ℕ) (up down : List (Message Op))
      → InStep t n x y c s up (Ack k ∷ down) → IsCount c k × InStep t n x y (after_count c k) s up down
  InStep-down_ack n x y c s k up down m =
      let taken = client_counts t lawful m.meets in
      (taken.0, InStep-of t m.client_side m.server_side taken.1)

  -- the server's end receives the first message up: it accepts it, what it gives is valid there, and both stay in step
  pub InStep-up : (n : ℕ) (x y : State) (c s : Link Op) (mine heard : ℕ) (o : Op) (up down : List (Message Op))
      → InStep t n x y c s (Operation mine heard o ∷ up) down
      → IsNumber s mine × IsCount s heard × t.is_valid (received_operation t s heard o) y
      × InStep t n x (t.after (received_operation t s heard o) y) c (after_receive t s heard o) up down
  InStep-up n x y c s mine heard o up down m =
      let first = first_up t m.meets in
      let came = server_receives t lawful m.server_side (subst (λ cs. InStepAt t n m.base cs m.server_ahead x y c s (Operation mine heard o ∷ up) down) first.2 m.meets) in
      (came.1, came.2, came.3, InStep-of t m.client_side m.server_side came.4)

  -- the same of the client's end and the first message down
  pub InStep-down : (n : ℕ) (x y : State) (c s : Link Op) (mine heard : ℕ) (o : Op) (up down : List (Message Op))
      → InStep t n x y c s up (Operation mine heard o ∷ down)
      → IsNumber c mine × IsCount c heard × t.is_valid (received_operation t c heard o) x
      × InStep t n (t.after (received_operation t c heard o) x) y (after_receive t c heard o) s up down
  InStep-down n x y c s mine heard o up down m =
      let first = first_down t m.meets in
      let came = client_receives t lawful m.client_side (subst (λ ss. InStepAt t n m.base m.client_ahead ss x y c s up (Operation mine heard o ∷ down)) first.2 m.meets) in
      (came.1, came.2, came.3, InStep-of t m.client_side m.server_side came.4)

  -- if nothing is on its way the states are equal
  pub InStep-quiet : (n : ℕ) (x y : State) (c s : Link Op) → InStep t n x y c s [] [] → x ≡ y
  InStep-quiet n x y c s m = quiet_equal t m.meets

  -- each end generated what the other received and what is on its way
  pub InStep-client_generated : (n : ℕ) (x y : State) (c s : Link Op) (up down : List (Message Op))
      → InStep t n x y c s up down → generated c ≡ s.received + operation_count up
  InStep-client_generated n x y c s up down m =
      omega (arith, client_generated t m.meets, Comes-count t s.received s.acknowledged m.meets.far_queue.before up m.client_ahead m.meets.far_queue.comes)

  -- the same of the server's end
  pub InStep-server_generated : (n : ℕ) (x y : State) (c s : Link Op) (up down : List (Message Op))
      → InStep t n x y c s up down → generated s ≡ c.received + operation_count down
  InStep-server_generated n x y c s up down m =
      omega (arith, server_generated t m.meets, Comes-count (mirror t) c.received c.acknowledged m.meets.near_queue.before down m.server_ahead m.meets.near_queue.comes)

-- an end takes the next message, whatever it is, and sends what it then owes
module _ {Op State Edit : Type 0} (t : Ghosts Op State Edit) (lawful : IsLawful t) where
  -- the server's end takes the first message up
  pub InStep-takes_up : (n : ℕ) (x y : State) (c s : Link Op) (m : Message Op) (up down : List (Message Op))
      → InStep t n x y c s (m ∷ up) down
      → AcceptsMessage t s y m × InStep t n x (state_after t s y m) c (link_after t s m) up down
  InStep-takes_up n x y c s (Operation mine heard o) up down in_step =
      let came = InStep-up t lawful n x y c s mine heard o up down in_step in
      ((came.0, came.1, came.2), came.3)
  InStep-takes_up n x y c s (Ack k) up down in_step = InStep-up_ack t lawful n x y c s k up down in_step

  -- the client's end takes the first message down
  pub InStep-takes_down : (n : ℕ) (x y : State) (c s : Link Op) (m : Message Op) (up down : List (Message Op))
      → InStep t n x y c s up (m ∷ down)
      → AcceptsMessage t c x m × InStep t n (state_after t c x m) y (link_after t c m) s up down
  InStep-takes_down n x y c s (Operation mine heard o) up down in_step =
      let came = InStep-down t lawful n x y c s mine heard o up down in_step in
      ((came.0, came.1, came.2), came.3)
  InStep-takes_down n x y c s (Ack k) up down in_step = InStep-down_ack t lawful n x y c s k up down in_step

  -- an end sends the acknowledgement that it owes
  pub InStep-server_answers : (n : ℕ) (x y : State) (c s : Link Op) (up down : List (Message Op))
      → InStep t n x y c s up down → InStep t n x y c (answered s) up (down ++ owed s)
  InStep-server_answers n x y c s up down in_step =
      elim (owes s.unanswered) as (λ b. InStep t n x y c (if b then after_ack s else s) up (down ++ (if b then Ack s.received ∷ [] else []))) [
        | true ↦ InStep-server_ack t lawful n x y c s up down in_step
        | false ↦ rw append-nil in_step
      ]

  -- the same of the client's end
  pub InStep-client_answers : (n : ℕ) (x y : State) (c s : Link Op) (up down : List (Message Op))
      → InStep t n x y c s up down → InStep t n x y (answered c) s (up ++ owed c) down
  InStep-client_answers n x y c s up down in_step =
      elim (owes c.unanswered) as (λ b. InStep t n x y (if b then after_ack c else c) s (up ++ (if b then Ack c.received ∷ [] else [])) down) [
        | true ↦ InStep-client_ack t lawful n x y c s up down in_step
        | false ↦ rw append-nil in_step
      ]

-- room for more edits, read off the server's state: each operation that led to it made it larger by one at most
module _ {Op State Edit : Type 0} (t : Ghosts Op State Edit) (lawful : IsLawful t) where
  -- as many more edits fit as the server's state has room for, beyond what is on its way
  pub InStep-room : (m n : ℕ) (x y : State) (c s : Link Op) (up down : List (Message Op))
      → InStep t m x y c s up down → t.is_small (n + (operation_count up + operation_count down) + operation_count down) y
      → InStep t n x y c s up down
  InStep-room m n x y c s up down in_step small =
      let up_count : operation_count up ≡ length in_step.client_ahead =
      Comes-count t s.received s.acknowledged in_step.meets.far_queue.before up in_step.client_ahead in_step.meets.far_queue.comes in
      let down_count : operation_count down ≡ length in_step.server_ahead =
      Comes-count (mirror t) c.received c.acknowledged in_step.meets.near_queue.before down in_step.server_ahead in_step.meets.near_queue.comes in
      let small_y : t.is_small (n + (length in_step.client_ahead + length in_step.server_ahead) + length in_step.server_ahead)
      (after_all t in_step.server_ahead in_step.base) = rw (up_count, down_count, in_step.meets.states.far_is) at small in
      InStep-of t in_step.client_side in_step.server_side
      (InStepAt-room t m n in_step.base in_step.client_ahead in_step.server_ahead x y c s up down in_step.meets
      (small_before_all t lawful (n + (length in_step.client_ahead + length in_step.server_ahead)) in_step.server_ahead in_step.base in_step.meets.states.far_valid small_y))
