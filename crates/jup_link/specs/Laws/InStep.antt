-- Two ends in step: what a stream brings, and the events of the far end.
use Rattle.std.proofs.Common.{◌≡◌, ℕ, ◌+◌, ◌-◌, ◌<◌, ◌≤◌, List, [], ◌∷◌, ◌++◌, length, drop, refl, ap, sym, ◌∙◌, arith, length-drop, suc, length-append, append_assoc}
use Rattle.std.proofs.lemmas.List.{drop-append-le, drop_all, length_push}
use Rattle.jup_xform.specs.declared.Transform.{Ghosts}
use Rattle.jup_xform.specs.Rows.{row_operation, row_entries}
use Rattle.jup_xform.specs.Laws.Grids.{row_operation-append, row_entries-append, length-row_entries, IsLawful-mirror, after_all-append, AreValid-append, row_operation-valid, row_entries-valid, row-after, GridCloses-mirror, GridCloses-push, small_less}
use Rattle.jup_xform.specs.Grids.{AllApart, IsLawful, after_all, mirror}
use Rattle.jup_link.specs.Links.{Message, Operation, Ack, operation_count, AllMessages, MessagesApart, Comes, Link, IsCount, IsNumber, generated, unheard, after_count, after_send, after_ack, arrived, after_arrival, message, BringsInTurn, IsNext, StatesMeet, QueueMeets, InStepAt}

-- What a stream brings: streams joined, and what is apart from the messages.

-- two streams joined have the property if each has it
pub AllMessages-append : {Op : Type 0} (P : Op → Type 0) (ms ns : List (Message Op)) → AllMessages P ms → AllMessages P ns → AllMessages P (ms ++ ns)
AllMessages-append P [] ns first second = second
AllMessages-append P (Ack n ∷ ms) ns first second = AllMessages-append P ms ns first second
AllMessages-append P (Operation mine heard o ∷ ms) ns first second = (first.0, AllMessages-append P ms ns first.1 second)

-- an operation is apart from messages whose operations are all of a kind that it is apart from
pub MessagesApart-from : {Op State Edit : Type 0} (t : Ghosts Op State Edit) (P : Op → Type 0) (ms : List (Message Op)) (s : Op)
    → ((o : Op) → P o → t.are_apart o s) → AllMessages P ms → MessagesApart t ms s
MessagesApart-from t P [] s from all = tt
MessagesApart-from t P (Ack n ∷ ms) s from all = MessagesApart-from t P ms s from all
MessagesApart-from t P (Operation mine heard o ∷ ms) s from all = (from o all.0, MessagesApart-from t P ms s from all.1)

-- what a stream brings
module _ {Op State Edit : Type 0} (t : Ghosts Op State Edit) where
  -- what is apart from the messages is apart from what they bring
  pub Comes-apart : (received acknowledged : ℕ) (before : List Op) (ms : List (Message Op)) (ahead : List Op) (s : Op)
      → Comes t received acknowledged before ms ahead → MessagesApart t ms s → AllApart t ahead s
  Comes-apart r k before [] [] s comes apart = tt
  Comes-apart r k before [] (a ∷ ahead) s comes apart = absurd comes
  Comes-apart r k before (Ack n ∷ ms) ahead s comes apart = Comes-apart r n (drop (n - k) before) ms ahead s comes.2 apart
  Comes-apart r k before (Operation mine heard o ∷ ms) [] s comes apart = absurd comes
  Comes-apart r k before (Operation mine heard o ∷ ms) (a ∷ ahead) s comes apart = (
    comes.0.apart s apart.0,
    Comes-apart (r + 1) heard (row_entries t.client_past t.server_past o (drop (heard - k) before)) ms ahead s comes.1 apart.1,
  )

  -- a stream has as many operations as it brings
  pub Comes-count : (received acknowledged : ℕ) (before : List Op) (ms : List (Message Op)) (ahead : List Op)
      → Comes t received acknowledged before ms ahead → operation_count ms ≡ length ahead
  Comes-count r k before [] [] comes = refl
  Comes-count r k before [] (a ∷ ahead) comes = absurd comes
  Comes-count r k before (Ack n ∷ ms) ahead comes = Comes-count r n (drop (n - k) before) ms ahead comes.2
  Comes-count r k before (Operation mine heard o ∷ ms) [] comes = absurd comes
  Comes-count r k before (Operation mine heard o ∷ ms) (a ∷ ahead) comes =
      omega (arith, Comes-count (r + 1) heard (row_entries t.client_past t.server_past o (drop (heard - k) before)) ms ahead comes.1)

  -- an empty stream brings nothing
  pub Comes-nil : (received acknowledged : ℕ) (before : List Op) (ahead : List Op) → Comes t received acknowledged before [] ahead → ahead ≡ []
  Comes-nil r k before [] comes = refl
  Comes-nil r k before (a ∷ ahead) comes = absurd comes

  -- a stream that begins with an operation brings one
  pub Comes-first : (received acknowledged : ℕ) (before : List Op) (mine heard : ℕ) (o : Op) (ms : List (Message Op)) (ahead : List Op)
      → Comes t received acknowledged before (Operation mine heard o ∷ ms) ahead → (a : Op) × (rest : List Op) × (ahead ≡ a ∷ rest)
  Comes-first r k before mine heard o ms [] comes = absurd comes
  Comes-first r k before mine heard o ms (a ∷ rest) comes = (a, rest, refl)

  -- when entries are dropped, their number goes from the length to the count
  count_after_drop : (k n : ℕ) (xs : List Op) → k ≤ n → n ≤ k + length xs → k + length xs ≡ n + length (drop (n - k) xs)
  count_after_drop k n xs low high = omega (arith, length-drop (n - k) xs)

  -- the sender generates an operation: its message comes last
  pub Comes-send : (received acknowledged : ℕ) (before : List Op) (ms : List (Message Op)) (ahead : List Op) (mine heard : ℕ) (o : Op)
      → Comes t received acknowledged before ms ahead → mine ≡ received + length ahead → mine < 4294967295
      → heard ≡ acknowledged + length before
      → Comes t received acknowledged before (ms ++ Operation mine heard o ∷ []) (ahead ++ o ∷ [])
  Comes-send r k before [] [] mine heard o comes number counted all_heard =
      let all : length before ≤ heard - k = omega arith in (
        record {
          number = omega arith;
          counted = omega arith;
          low = omega arith;
          high = omega arith;
          gives = rw (drop_all (heard - k) before all) refl;
          apart = λ other apart. apart;
        },
        tt,
      )
  Comes-send r k before [] (a ∷ ahead) mine heard o comes number counted all_heard = absurd comes
  Comes-send r k before (Ack n ∷ ms) ahead mine heard o comes number counted all_heard = (
    comes.0,
    comes.1,
    Comes-send r n (drop (n - k) before) ms ahead mine heard o comes.2 number counted (all_heard ∙ count_after_drop k n before comes.0 comes.1),
  )
  Comes-send r k before (Operation m n q ∷ ms) [] mine heard o comes number counted all_heard = absurd comes
  Comes-send r k before (Operation m n q ∷ ms) (a ∷ ahead) mine heard o comes number counted all_heard =
      let left : List Op = drop (n - k) before in
      let next_number : mine ≡ (r + 1) + length ahead = omega arith in
      let next_heard : heard ≡ n + length (row_entries t.client_past t.server_past q left) =
      all_heard ∙ count_after_drop k n before comes.0.low comes.0.high ∙ ap (λ len. n + len) (sym (length-row_entries t.client_past t.server_past q left)) in
      (comes.0, Comes-send (r + 1) n (row_entries t.client_past t.server_past q left) ms ahead mine heard o comes.1 next_number counted next_heard)

  -- the sender sends an acknowledgement: it comes last
  pub Comes-ack : (received acknowledged : ℕ) (before : List Op) (ms : List (Message Op)) (ahead : List Op) (heard : ℕ)
      → Comes t received acknowledged before ms ahead → heard ≡ acknowledged + length before
      → Comes t received acknowledged before (ms ++ Ack heard ∷ []) ahead
  Comes-ack r k before [] [] heard comes all_heard = (omega arith, omega arith, tt)
  Comes-ack r k before [] (a ∷ ahead) heard comes all_heard = absurd comes
  Comes-ack r k before (Ack n ∷ ms) ahead heard comes all_heard = (
    comes.0,
    comes.1,
    Comes-ack r n (drop (n - k) before) ms ahead heard comes.2 (all_heard ∙ count_after_drop k n before comes.0 comes.1),
  )
  Comes-ack r k before (Operation m n q ∷ ms) [] heard comes all_heard = absurd comes
  Comes-ack r k before (Operation m n q ∷ ms) (a ∷ ahead) heard comes all_heard =
      let left : List Op = drop (n - k) before in
      let next_heard : heard ≡ n + length (row_entries t.client_past t.server_past q left) =
      all_heard ∙ count_after_drop k n before comes.0.low comes.0.high ∙ ap (λ len. n + len) (sym (length-row_entries t.client_past t.server_past q left)) in
      (comes.0, Comes-ack (r + 1) n (row_entries t.client_past t.server_past q left) ms ahead heard comes.1 next_heard)

-- the sender receives the receiver's next operation: what its messages bring is moved past that
module _ {Op State Edit : Type 0} (t : Ghosts Op State Edit) (lawful : IsLawful t) where
  -- it joins the entries of the queue that the sender has received
  pub Comes-past : (received acknowledged : ℕ) (before : List Op) (ms : List (Message Op)) (ahead : List Op) (b : Op)
      → Comes t received acknowledged before ms ahead
      → Comes t received acknowledged (before ++ b ∷ []) ms (row_entries t.server_past t.client_past b ahead)
  Comes-past r k before [] [] b comes = tt
  Comes-past r k before [] (a ∷ ahead) b comes = absurd comes
  Comes-past r k before (Ack n ∷ ms) ahead b comes =
      let fits : n - k ≤ length before = omega (arith, comes.0, comes.1) in (
        comes.0,
        omega (arith, comes.1, length_push before b),
        rw drop-append-le (Comes-past r n (drop (n - k) before) ms ahead b comes.2),
      )
  Comes-past r k before (Operation m n q ∷ ms) [] b comes = absurd comes
  Comes-past r k before (Operation m n q ∷ ms) (a ∷ ahead) b comes =
      let left : List Op = drop (n - k) before in
      let fits : n - k ≤ length before = omega (arith, comes.0.low, comes.0.high) in
      let split : drop (n - k) (before ++ b ∷ []) ≡ left ++ b ∷ [] = drop-append-le (n - k) before (b ∷ []) fits in
      let gives : row_operation t.client_past q (left ++ b ∷ []) ≡ t.client_past a b =
      row_operation-append t.client_past q left (b ∷ []) ∙ ap (λ z. t.client_past z b) comes.0.gives in
      let entries : row_entries t.client_past t.server_past q (left ++ b ∷ []) ≡ row_entries t.client_past t.server_past q left ++ t.server_past b a ∷ [] =
      row_entries-append t.client_past t.server_past q left (b ∷ [])
      ∙ ap (λ z. row_entries t.client_past t.server_past q left ++ t.server_past b z ∷ []) comes.0.gives in (
        record {
          number = comes.0.number;
          counted = comes.0.counted;
          low = comes.0.low;
          high = omega (arith, comes.0.high, length_push before b);
          gives = ap (λ z. row_operation t.client_past q z) split ∙ gives;
          apart = λ other apart. lawful.apart_client a b other (comes.0.apart other apart);
        },
        rw (split, entries) (Comes-past (r + 1) n (row_entries t.client_past t.server_past q left) ms ahead (t.server_past b a) comes.1),
      )

-- Two ends in step, seen from the other end, and the events of the far end.

-- in step seen from the other end
module _ {Op State Edit : Type 0} (t : Ghosts Op State Edit) where
  -- the states meet seen from the other end
  pub StatesMeet-mirror : (n : ℕ) (base : State) (cs ss : List Op) (x y : State)
      → StatesMeet t n base cs ss x y → StatesMeet (mirror t) n base ss cs y x
  StatesMeet-mirror n base cs ss x y m =
      let sum : n + (length cs + length ss) ≡ n + (length ss + length cs) = omega arith in
      record {
        distinct = m.distinct;
        small = rw sum at m.small;
        near_valid = m.far_valid;
        far_valid = m.near_valid;
        near_is = m.far_is;
        far_is = m.near_is;
        closes = GridCloses-mirror t cs ss base m.closes;
      }

  -- the ends are in step seen from the other end
  pub InStepAt-mirror : (n : ℕ) (base : State) (cs ss : List Op) (x y : State) (near far : Link Op) (out back : List (Message Op))
      → InStepAt t n base cs ss x y near far out back → InStepAt (mirror t) n base ss cs y x far near back out
  InStepAt-mirror n base cs ss x y near far out back m = record {
    states = StatesMeet-mirror n base cs ss x y m.states;
    near_queue = m.far_queue;
    far_queue = m.near_queue;
  }

-- the states
module _ {Op State Edit : Type 0} (t : Ghosts Op State Edit) (lawful : IsLawful t) where
  -- the far end makes an edit
  pub StatesMeet-edit : (n : ℕ) (base : State) (cs ss : List Op) (x y : State) (s : Op)
      → StatesMeet t (n + 1) base cs ss x y → t.is_valid s y → AllApart t cs s
      → StatesMeet t n base cs (ss ++ s ∷ []) x (t.after s y)
  StatesMeet-edit n base cs ss x y s m valid apart =
      let valid_s : t.is_valid s (after_all t ss base) = rw m.far_is at valid in
      let one_more : (n + 1) + (length cs + length ss) ≡ n + (length cs + length (ss ++ s ∷ [])) = omega (arith, length_push ss s) in
      let room : (n + 1) + (length cs + length ss) ≡ suc n + (length cs + length ss) = omega arith in
      let small : t.is_small (length cs + length ss) base = small_less t lawful (suc n) (length cs + length ss) base (rw room at m.small) in
      record {
        distinct = m.distinct;
        small = rw one_more at m.small;
        near_valid = m.near_valid;
        far_valid = AreValid-append t ss (s ∷ []) base m.far_valid (valid_s, tt);
        near_is = m.near_is;
        far_is = ap (λ z. t.after s z) m.far_is ∙ sym (after_all-append t ss (s ∷ []) base);
        closes = GridCloses-push t lawful cs ss s base m.distinct small m.near_valid m.far_valid valid_s apart m.closes;
      }

  -- the near end's first operation is valid at the far end, past all of that end's
  pub StatesMeet-valid : (n : ℕ) (base : State) (c : Op) (cs ss : List Op) (x y : State)
      → StatesMeet t n base (c ∷ cs) ss x y → t.is_valid (row_operation t.client_past c ss) y
  StatesMeet-valid n base c cs ss x y m =
      rw m.far_is (row_operation-valid t c ss base m.near_valid.0 m.closes.0)

  -- once it is applied there, the states meet over the base with it
  pub StatesMeet-arrival : (n : ℕ) (base : State) (c : Op) (cs ss : List Op) (x y : State)
      → StatesMeet t n base (c ∷ cs) ss x y
      → StatesMeet t n (t.after c base) cs (row_entries t.client_past t.server_past c ss) x (t.after (row_operation t.client_past c ss) y)
  StatesMeet-arrival n base c cs ss x y m =
      let past_ss : List Op = row_entries t.client_past t.server_past c ss in
      let sum : n + (length {A = Op} (c ∷ cs) + length ss) ≡ (n + (length cs + length past_ss)) + 1 =
      omega (arith, length-row_entries t.client_past t.server_past c ss) in
      record {
        distinct = lawful.distinct_after base c m.distinct m.near_valid.0;
        small = lawful.small_after (n + (length cs + length past_ss)) base c (rw sum at m.small) m.near_valid.0;
        near_valid = m.near_valid.1;
        far_valid = row_entries-valid t c ss base m.closes.0;
        near_is = m.near_is;
        far_is = ap (λ z. t.after (row_operation t.client_past c ss) z) m.far_is ∙ sym (row-after t c ss base m.closes.0);
        closes = m.closes.1;
      }

-- room for more edits
module _ {Op State Edit : Type 0} (t : Ghosts Op State Edit) where
  -- ends in step have room for as many more edits as the base has
  pub InStepAt-room : (m n : ℕ) (base : State) (cs ss : List Op) (x y : State) (near far : Link Op) (out back : List (Message Op))
      → InStepAt t m base cs ss x y near far out back → t.is_small (n + (length cs + length ss)) base
      → InStepAt t n base cs ss x y near far out back
  InStepAt-room m n base cs ss x y near far out back in_step small = record {
    states = record {
      distinct = in_step.states.distinct;
      small = small;
      near_valid = in_step.states.near_valid;
      far_valid = in_step.states.far_valid;
      near_is = in_step.states.near_is;
      far_is = in_step.states.far_is;
      closes = in_step.states.closes;
    };
    near_queue = in_step.near_queue;
    far_queue = in_step.far_queue;
  }

-- the queues and the streams
module _ {Op State Edit : Type 0} (t : Ghosts Op State Edit) where
  -- an end's queue when it generates an operation
  pub QueueMeets-send : (l : Link Op) (heard : ℕ) (ahead : List Op) (stream : List (Message Op)) (brings : List Op) (o : Op)
      → QueueMeets t l heard ahead stream brings → QueueMeets t (after_send l o) heard (ahead ++ o ∷ []) stream brings
  QueueMeets-send l heard ahead stream brings o q = record {
    before = q.before;
    queue = ap (λ z. z ++ o ∷ []) q.queue ∙ append_assoc q.before ahead (o ∷ []);
    count = q.count;
    comes = q.comes;
  }

  -- the stream to an end when the other end generates an operation
  pub QueueMeets-message : (l : Link Op) (ahead : List Op) (stream : List (Message Op)) (brings : List Op) (sender : Link Op) (o : Op)
      → QueueMeets t l sender.received ahead stream brings → generated sender ≡ l.received + length brings → generated sender < 4294967295
      → QueueMeets t l sender.received ahead (stream ++ message sender o ∷ []) (brings ++ o ∷ [])
  QueueMeets-message l ahead stream brings sender o q number counted = record {
    before = q.before;
    queue = q.queue;
    count = q.count;
    comes = Comes-send t l.received l.acknowledged q.before stream brings (generated sender) sender.received o q.comes number counted q.count;
  }

  -- the stream to an end when the other end acknowledges
  pub QueueMeets-ack : (l : Link Op) (ahead : List Op) (stream : List (Message Op)) (brings : List Op) (heard : ℕ)
      → QueueMeets t l heard ahead stream brings → QueueMeets t l heard ahead (stream ++ Ack heard ∷ []) brings
  QueueMeets-ack l ahead stream brings heard q = record {
    before = q.before;
    queue = q.queue;
    count = q.count;
    comes = Comes-ack t l.received l.acknowledged q.before stream brings heard q.comes q.count;
  }

  -- how many operations an end generated, as the other end received them
  pub generated_is : (l : Link Op) (heard : ℕ) (ahead : List Op) (stream : List (Message Op)) (brings : List Op)
      → QueueMeets t l heard ahead stream brings → generated l ≡ heard + length ahead
  generated_is l heard ahead stream brings q =
      omega (arith, ap (λ (z : List Op). length z) q.queue, length-append q.before ahead, q.count)

  -- an end takes an acknowledgement
  pub QueueMeets-accepts : (l : Link Op) (heard : ℕ) (ahead : List Op) (n : ℕ) (stream : List (Message Op)) (brings : List Op)
      → QueueMeets t l heard ahead (Ack n ∷ stream) brings → IsCount l n
  QueueMeets-accepts l heard ahead n stream brings q = record {
    low = q.comes.0;
    high = omega (arith, q.comes.1, ap (λ (z : List Op). length z) q.queue, length-append q.before ahead);
  }

  -- and its queue then starts at that count
  pub QueueMeets-count : (l : Link Op) (heard : ℕ) (ahead : List Op) (n : ℕ) (stream : List (Message Op)) (brings : List Op)
      → QueueMeets t l heard ahead (Ack n ∷ stream) brings → QueueMeets t (after_count l n) heard ahead stream brings
  QueueMeets-count l heard ahead n stream brings q =
      let fits : n - l.acknowledged ≤ length q.before = omega (arith, q.comes.0, q.comes.1) in
      record {
        before = drop (n - l.acknowledged) q.before;
        queue = ap (λ z. drop (n - l.acknowledged) z) q.queue ∙ drop-append-le (n - l.acknowledged) q.before ahead fits;
        count = omega (arith, q.count, q.comes.0, q.comes.1, length-drop (n - l.acknowledged) q.before);
        comes = q.comes.2;
      }

-- an end receives an operation
module _ {Op State Edit : Type 0} (t : Ghosts Op State Edit) where
  -- it accepts the message, which brings the operation past all that it has ahead, and its queue is moved past that
  pub QueueMeets-next : (l : Link Op) (heard : ℕ) (ahead : List Op) (mine told : ℕ) (o : Op) (stream : List (Message Op)) (a : Op) (brings : List Op)
      → QueueMeets t l heard ahead (Operation mine told o ∷ stream) (a ∷ brings)
      → IsNumber l mine × IsCount l told × (arrived t.client_past l told o ≡ row_operation t.client_past a ahead)
      × QueueMeets t (after_arrival t.client_past t.server_past l told o) heard (row_entries t.client_past t.server_past a ahead) stream brings
  QueueMeets-next l heard ahead mine told o stream a brings q =
      let next : IsNext t l.received l.acknowledged q.before mine told o a = q.comes.0 in
      let k : ℕ = told - l.acknowledged in
      let left : List Op = drop k q.before in
      let fits : k ≤ length q.before = omega (arith, next.low, next.high) in
      let queue : unheard l told ≡ left ++ ahead = ap (λ z. drop k z) q.queue ∙ drop-append-le k q.before ahead fits in
      let past_left : row_operation t.client_past o (left ++ ahead) ≡ row_operation t.client_past a ahead =
      row_operation-append t.client_past o left ahead ∙ ap (λ z. row_operation t.client_past z ahead) next.gives in
      let entries : row_entries t.client_past t.server_past o (left ++ ahead)
      ≡ row_entries t.client_past t.server_past o left ++ row_entries t.client_past t.server_past a ahead =
      row_entries-append t.client_past t.server_past o left ahead
      ∙ ap (λ z. row_entries t.client_past t.server_past o left ++ row_entries t.client_past t.server_past z ahead) next.gives in (
        record { next = next.number; counted = next.counted },
        record { low = next.low; high = omega (arith, next.high, ap (λ (z : List Op). length z) q.queue, length-append q.before ahead) },
        ap (λ z. row_operation t.client_past o z) queue ∙ past_left,
        record {
          before = row_entries t.client_past t.server_past o left;
          queue = ap (λ z. row_entries t.client_past t.server_past o z) queue ∙ entries;
          count = omega (arith, q.count, next.low, next.high, length-drop k q.before, length-row_entries t.client_past t.server_past o left);
          comes = q.comes.1;
        },
      )

-- what comes to an end that is in step, received in turn
module _ {Op State Edit : Type 0} (t : Ghosts Op State Edit) where
  -- a queue and its stream in step mean that each message is accepted in its turn
  pub QueueMeets-in_turn : (l : Link Op) (heard : ℕ) (ahead : List Op) (stream : List (Message Op)) (brings : List Op)
      → QueueMeets t l heard ahead stream brings → BringsInTurn t l ahead stream brings
  QueueMeets-in_turn l heard ahead [] [] q = tt
  QueueMeets-in_turn l heard ahead [] (a ∷ brings) q = absurd q.comes
  QueueMeets-in_turn l heard ahead (Ack n ∷ ms) brings q = (
    QueueMeets-accepts t l heard ahead n ms brings q,
    QueueMeets-in_turn (after_count l n) heard ahead ms brings (QueueMeets-count t l heard ahead n ms brings q),
  )
  QueueMeets-in_turn l heard ahead (Operation mine told o ∷ ms) [] q = absurd q.comes
  QueueMeets-in_turn l heard ahead (Operation mine told o ∷ ms) (a ∷ brings) q =
      let next = QueueMeets-next t l heard ahead mine told o ms a brings q in (
        next.0,
        next.1,
        next.2,
        QueueMeets-in_turn (after_arrival t.client_past t.server_past l told o) heard (row_entries t.client_past t.server_past a ahead) ms brings next.3,
      )

-- an end's queue, when the other end receives the first operation that it has ahead
module _ {Op State Edit : Type 0} (t : Ghosts Op State Edit) (lawful : IsLawful t) where
  -- that entry joins those that were received, and what comes is moved past it
  pub QueueMeets-heard : (l : Link Op) (heard : ℕ) (b : Op) (ahead : List Op) (stream : List (Message Op)) (brings : List Op)
      → QueueMeets t l heard (b ∷ ahead) stream brings
      → QueueMeets t l (heard + 1) ahead stream (row_entries t.server_past t.client_past b brings)
  QueueMeets-heard l heard b ahead stream brings q = record {
    before = q.before ++ b ∷ [];
    queue = q.queue ∙ sym (append_assoc q.before (b ∷ []) ahead);
    count = omega (arith, q.count, length_push q.before b);
    comes = Comes-past t lawful l.received l.acknowledged q.before stream brings b q.comes;
  }

-- two ends in step stay so
module _ {Op State Edit : Type 0} (t : Ghosts Op State Edit) (lawful : IsLawful t) where
  -- the far end makes an edit that is apart from the near end's operations
  pub InStepAt-edit_apart : (n : ℕ) (base : State) (cs ss : List Op) (x y : State) (near far : Link Op) (out back : List (Message Op)) (s : Op)
      → InStepAt t (n + 1) base cs ss x y near far out back → t.is_valid s y → AllApart t cs s → generated far < 4294967295
      → InStepAt t n base cs (ss ++ s ∷ []) x (t.after s y) near (after_send far s) out (back ++ message far s ∷ [])
  InStepAt-edit_apart n base cs ss x y near far out back s m valid apart counted = record {
    states = StatesMeet-edit t lawful n base cs ss x y s m.states valid apart;
    near_queue = QueueMeets-message (mirror t) near cs back ss far s m.near_queue (generated_is t far near.received ss out cs m.far_queue) counted;
    far_queue = QueueMeets-send t far near.received ss out cs s m.far_queue;
  }

  -- the same if it is apart from the messages' operations
  pub InStepAt-edit : (n : ℕ) (base : State) (cs ss : List Op) (x y : State) (near far : Link Op) (out back : List (Message Op)) (s : Op)
      → InStepAt t (n + 1) base cs ss x y near far out back → t.is_valid s y → MessagesApart t out s → generated far < 4294967295
      → InStepAt t n base cs (ss ++ s ∷ []) x (t.after s y) near (after_send far s) out (back ++ message far s ∷ [])
  InStepAt-edit n base cs ss x y near far out back s m valid apart counted =
      let from_messages : AllApart t cs s = Comes-apart t far.received far.acknowledged m.far_queue.before out cs s m.far_queue.comes apart in
      InStepAt-edit_apart n base cs ss x y near far out back s m valid from_messages counted

  -- the far end sends an acknowledgement
  pub InStepAt-ack : (n : ℕ) (base : State) (cs ss : List Op) (x y : State) (near far : Link Op) (out back : List (Message Op))
      → InStepAt t n base cs ss x y near far out back
      → InStepAt t n base cs ss x y near (after_ack far) out (back ++ Ack far.received ∷ [])
  InStepAt-ack n base cs ss x y near far out back m = record {
    states = m.states;
    near_queue = QueueMeets-ack (mirror t) near cs back ss far.received m.near_queue;
    far_queue = record { before = m.far_queue.before; queue = m.far_queue.queue; count = m.far_queue.count; comes = m.far_queue.comes };
  }

  -- the far end takes an acknowledgement
  pub InStepAt-count : (n : ℕ) (base : State) (cs ss : List Op) (x y : State) (near far : Link Op) (k : ℕ) (out back : List (Message Op))
      → InStepAt t n base cs ss x y near far (Ack k ∷ out) back
      → IsCount far k × InStepAt t n base cs ss x y near (after_count far k) out back
  InStepAt-count n base cs ss x y near far k out back m = (
    QueueMeets-accepts t far near.received ss k out cs m.far_queue,
    record { states = m.states; near_queue = m.near_queue; far_queue = QueueMeets-count t far near.received ss k out cs m.far_queue },
  )

  -- what an end does with the message of an operation in its turn
  abbrev pub Arrives : ℕ → State → List Op → List Op → State → State → Link Op → Link Op → ℕ → ℕ → Op → List (Message Op) → List (Message Op) → Type 0
  Arrives n base cs ss x y near far mine heard o out back =
      IsNumber far mine × IsCount far heard × t.is_valid (arrived t.client_past far heard o) y
      × InStepAt t n base cs ss x (t.after (arrived t.client_past far heard o) y) near (after_arrival t.client_past t.server_past far heard o) out back

  -- the far end receives an operation
  pub InStepAt-arrival : (n : ℕ) (base : State) (c : Op) (cs ss : List Op) (x y : State) (near far : Link Op) (mine heard : ℕ) (o : Op) (out back : List (Message Op))
      → InStepAt t n base (c ∷ cs) ss x y near far (Operation mine heard o ∷ out) back
      → Arrives n (t.after c base) cs (row_entries t.client_past t.server_past c ss) x y near far mine heard o out back
  InStepAt-arrival n base c cs ss x y near far mine heard o out back m =
      let next = QueueMeets-next t far near.received ss mine heard o out c cs m.far_queue in (
        next.0,
        next.1,
        rw next.2 (StatesMeet-valid t lawful n base c cs ss x y m.states),
        record {
          states = rw next.2 (StatesMeet-arrival t lawful n base c cs ss x y m.states);
          near_queue = QueueMeets-heard (mirror t) (IsLawful-mirror t lawful) near far.received c cs back ss m.near_queue;
          far_queue = next.3;
        },
      )

-- what holds if nothing is on its way
module _ {Op State Edit : Type 0} (t : Ghosts Op State Edit) where
  -- the two states are equal
  pub InStepAt-quiet : (n : ℕ) (base : State) (cs ss : List Op) (x y : State) (near far : Link Op)
      → InStepAt t n base cs ss x y near far [] [] → x ≡ y
  InStepAt-quiet n base cs ss x y near far m =
      let no_cs : cs ≡ [] = Comes-nil t far.received far.acknowledged m.far_queue.before cs m.far_queue.comes in
      let no_ss : ss ≡ [] = Comes-nil (mirror t) near.received near.acknowledged m.near_queue.before ss m.near_queue.comes in
      m.states.near_is
      ∙ ap (λ z. after_all t z base) no_cs
      ∙ sym (ap (λ z. after_all t z base) no_ss)
      ∙ sym m.states.far_is
