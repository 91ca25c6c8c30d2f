use Rattle.std.specs.Prelude.{◌≡◌, List, [], ◌∷◌, refl}
use Rattle.jup_xform.specs.declared.Transform.{Ghosts}
use Rattle.jup_xform.specs.Grids.{mirror, IsLawful}
use Rattle.jup_link.specs.Links.{Link, Message, Operation, Ack, InStepAt, Pair, PairEvent, ClientEdits, ServerEdits, ClientAcks, ServerAcks, MovesUp, MovesDown, opened_pair, moved_up, moved_down, pair_after, pair_after_all, IsAllowed, AreAllowed, AcceptsNext, IsInStep, Agrees}
use Rattle.jup_link.specs.Laws.InStep.{InStepAt-room, InStepAt-edit, QueueMeets-in_turn}
use Rattle.jup_link.specs.Laws.Steps.{InStepAt-opened, InStepAt-up, InStepAt-down, InStepAt-edit_near, client_acks, server_acks, client_counts, server_counts, quiet_equal}

-- the pair of these parts
abbrev pub pair_of : {Op State : Type 0} → State → State → Link Op → Link Op → List (Message Op) → List (Message Op) → State → List Op → List Op → Pair Op State
pair_of x y c s up down base cs ss = record {
  client_state = x;
  server_state = y;
  client = c;
  server = s;
  up = up;
  down = down;
  shared = base;
  client_ahead = cs;
  server_ahead = ss;
}

module _ {Op State Edit : Type 0} (t : Ghosts Op State Edit) (lawful : IsLawful t) where
  -- the server's end accepts the next message up, and the pair stays in step
  pub up_in_step : (x y : State) (c s : Link Op) (up down : List (Message Op)) (base : State) (cs ss : List Op)
      → IsInStep t (pair_of x y c s up down base cs ss)
      → AcceptsNext t s y up × IsInStep t (moved_up t (pair_of x y c s up down base cs ss) up)
  up_in_step x y c s [] down base cs ss m = (tt, m)
  up_in_step x y c s (Ack n ∷ up) down base cs ss m =
      let taken = server_counts t lawful m.meets in
      (taken.0, record { client_side = m.client_side; server_side = m.server_side; meets = taken.1 })
  up_in_step x y c s (Operation mine heard o ∷ up) down base cs ss m =
      let came = InStepAt-up t lawful 0 base cs ss x y c s mine heard o up down m.server_side m.meets in
      ((came.0, came.1, came.2), record { client_side = m.client_side; server_side = m.server_side; meets = came.3 })

  -- the client's end accepts the next message down, and the pair stays in step
  pub down_in_step : (x y : State) (c s : Link Op) (up down : List (Message Op)) (base : State) (cs ss : List Op)
      → IsInStep t (pair_of x y c s up down base cs ss)
      → AcceptsNext t c x down × IsInStep t (moved_down t (pair_of x y c s up down base cs ss) down)
  down_in_step x y c s up [] base cs ss m = (tt, m)
  down_in_step x y c s up (Ack n ∷ down) base cs ss m =
      let taken = client_counts t lawful m.meets in
      (taken.0, record { client_side = m.client_side; server_side = m.server_side; meets = taken.1 })
  down_in_step x y c s up (Operation mine heard o ∷ down) base cs ss m =
      let came = InStepAt-down t lawful 0 base cs ss x y c s mine heard o up down m.client_side m.meets in
      ((came.0, came.1, came.2), record { client_side = m.client_side; server_side = m.server_side; meets = came.3 })

  -- the next message up is accepted in a pair that is in step
  accepts_up : (p : Pair Op State) → IsInStep t p → AcceptsNext t p.server p.server_state p.up
  accepts_up p m = (up_in_step p.client_state p.server_state p.client p.server p.up p.down p.shared p.client_ahead p.server_ahead m).0

  -- the next message down is accepted in a pair that is in step
  accepts_down : (p : Pair Op State) → IsInStep t p → AcceptsNext t p.client p.client_state p.down
  accepts_down p m = (down_in_step p.client_state p.server_state p.client p.server p.up p.down p.shared p.client_ahead p.server_ahead m).0

  -- a pair in step stays so, whatever may happen
  pub stays_in_step : (p : Pair Op State) (e : PairEvent Op) → IsAllowed t p e → IsInStep t p → IsInStep t (pair_after t p e)
  stays_in_step p (ClientEdits o) may m = record {
    client_side = m.client_side;
    server_side = m.server_side;
    meets = InStepAt-edit_near t lawful 0 p.shared p.client_ahead p.server_ahead p.client_state p.server_state p.client p.server p.up p.down o
        (InStepAt-room t 0 1 p.shared p.client_ahead p.server_ahead p.client_state p.server_state p.client p.server p.up p.down m.meets may.small)
        may.valid may.apart may.counted;
  }
  stays_in_step p (ServerEdits o) may m = record {
    client_side = m.client_side;
    server_side = m.server_side;
    meets = InStepAt-edit t lawful 0 p.shared p.client_ahead p.server_ahead p.client_state p.server_state p.client p.server p.up p.down o
        (InStepAt-room t 0 1 p.shared p.client_ahead p.server_ahead p.client_state p.server_state p.client p.server p.up p.down m.meets may.small)
        may.valid may.apart may.counted;
  }
  stays_in_step p ClientAcks may m =
      record { client_side = m.client_side; server_side = m.server_side; meets = client_acks t lawful m.meets }
  stays_in_step p ServerAcks may m =
      record { client_side = m.client_side; server_side = m.server_side; meets = server_acks t lawful m.meets }
  stays_in_step p MovesUp may m = (up_in_step p.client_state p.server_state p.client p.server p.up p.down p.shared p.client_ahead p.server_ahead m).1
  stays_in_step p MovesDown may m = (down_in_step p.client_state p.server_state p.client p.server p.up p.down p.shared p.client_ahead p.server_ahead m).1

  -- a pair in step stays so over a list of events that may happen
  pub all_in_step : (p : Pair Op State) (es : List (PairEvent Op)) → AreAllowed t p es → IsInStep t p → IsInStep t (pair_after_all t p es)
  all_in_step p [] may m = m
  all_in_step p (e ∷ es) may m = all_in_step (pair_after t p e) es may.1 (stays_in_step p e may.0 m)

  -- with nothing on its way the states are equal
  quiet_agree : (p : Pair Op State) → IsInStep t p → p.up ≡ [] → p.down ≡ [] → p.client_state ≡ p.server_state
  quiet_agree p m no_up no_down =
      let at_rest : InStepAt t 0 p.shared p.client_ahead p.server_ahead p.client_state p.server_state p.client p.server [] [] =
      rw (no_up, no_down) at m.meets in
      quiet_equal t at_rest

  -- what a pair in step promises
  pub in_step_agrees : (p : Pair Op State) → IsInStep t p → Agrees t p
  in_step_agrees p m = record {
    in_step = m;
    up_brings = QueueMeets-in_turn t p.server p.client.received p.server_ahead p.up p.client_ahead m.meets.far_queue;
    down_brings = QueueMeets-in_turn (mirror t) p.client p.server.received p.client_ahead p.down p.server_ahead m.meets.near_queue;
    next_up = accepts_up p m;
    next_down = accepts_down p m;
    equal = quiet_agree p m;
  }

  -- two new ends over one small state, after every list of events that may happen
  pub ends_agree_lem : (x : State) (es : List (PairEvent Op)) → t.is_distinct x → t.is_small 0 x → AreAllowed t (opened_pair x) es
      → Agrees t (pair_after_all t (opened_pair x) es)
  ends_agree_lem x es distinct small may =
      let at_first : IsInStep t (opened_pair x) =
      record { client_side = refl; server_side = refl; meets = InStepAt-opened t lawful 0 x distinct small } in
      in_step_agrees (pair_after_all t (opened_pair x) es) (all_in_step (opened_pair x) es may at_first)
