-- Nothing refuses a message that fits, except a star with a full order, which refuses an edit.
use Rattle.std.proofs.Common.{◌≡◌, ℕ, Bool, true, false, cond, length, nat_le, refl, Result, Ok, Err, ◌≤◌, ◌<◌, ◌⊎◌, not, ◌&&◌, List, [], ◌∷◌, ◌++◌, nat_lt, ap, inl, inr, ◌∙◌, IsTrue, Some, None, eq-eqb, le-leb, lt-ltb, ltb-true, ltb-false}
use Rattle.jup_site.specs.Prelude.{most_unacknowledged, Msg, Link, IsCount, IsNumber, generated, accepts_count, received_operation, EditFault, Operations, AreLawful, UpOp, UpAck, DownOp, DownAck, DownPong, LogFull, BadOp, SiteBadOp, SiteOf, edit_answer, running_test, heard_tests, deliver_tests, fits_shown, deliver_fault, test, first_fault, LinkState, StarOf, fits_board, up_fault}
use Rattle.jup_star.specs.Sites.{within_bounds}
use Rattle.jup_star.specs.Faults.{Test, count_tests}
use Rattle.jup_star.specs.Stars as stars
use Rattle.jup_star.proofs.FaultTests.{AllHold, fault_after}
use Rattle.jup_star.specs.Prelude.{accepts_number}
use Rattle.jup_window.specs.declared.faults.EditFault.TheVariants.{Backlog, Spent, Stopped}
use Rattle.jup_star.specs.declared.faults.StarFault.TheVariants.{BadCount, BadAck}

-- What a command that is not refused says of its site.

module _ (O : Operations) where
  -- a command within its site's bounds
  bounded_ok : (site : SiteOf O) (r : Result O.Op EditFault) (op : O.Op) → within_bounds O site r ≡ Ok op → (r ≡ Ok op) × (nat_le most_unacknowledged (length site.end.outgoing) ≡ false)
  bounded_ok site (Err n) op h = absurd (cc)
  bounded_ok site (Ok o) op h = cases (nat_le most_unacknowledged (length site.end.outgoing)) (nat_le site.limit site.made) h
    where
      cases : (b c : Bool) → cond {A = Result O.Op EditFault} b (Err Backlog) (cond {A = Result O.Op EditFault} c (Err Spent) (Ok o)) ≡ Ok op → (◌≡◌ {A = Result O.Op EditFault} (Ok o) (Ok op)) × (b ≡ false)
      cases true c k = absurd (cc)
      cases false true k = absurd (cc)
      cases false false k = (k, refl)

  -- a command that is not refused: its operation, and that fewer than 1,024 edits wait
  pub answer_ok : (site : SiteOf O) (command : O.Command) (op : O.Op) → edit_answer O command site ≡ Ok op
      → (O.operation_of site.board command site.number site.named ≡ Ok op) × (nat_le most_unacknowledged (length site.end.outgoing) ≡ false)
  answer_ok site command op h = cases site.stopped h
    where
      cases : (b : Bool) → cond {A = Result O.Op EditFault} b (Err Stopped) (within_bounds O site (O.operation_of site.board command site.number site.named)) ≡ Ok op
          → (O.operation_of site.board command site.number site.named ≡ Ok op) × (nat_le most_unacknowledged (length site.end.outgoing) ≡ false)
      cases true k = absurd (cc)
      cases false k = bounded_ok site _ op k

-- Nothing refuses a message that fits, except a star with a full order, which refuses an edit.

-- tests that all pass name no fault
pub no_fault : {Fault : Type 0} → (ts : List (Test Fault)) → AllHold ts → first_fault ts ≡ None
no_fault [] h = refl
no_fault (t ∷ ts) h = rw h.0 (no_fault ts h.1)

-- the first that fails names its fault
pub first_to_fail : {Fault : Type 0} → (ts : List (Test Fault)) (t : Test Fault) (us : List (Test Fault)) → AllHold ts → t.holds ≡ false → first_fault (ts ++ t ∷ us) ≡ Some t.fault
first_to_fail ts t us h fails = fault_after ts (t ∷ us) (no_fault ts h) ∙ rw fails refl

-- two tests that pass
both : (b c : Bool) → b ≡ true → c ≡ true → b && c ≡ true
both true c h k = k
both false c h k = absurd (cc)

-- a count, and a number, that may be sent
pub count_fits : {Op : Type 0} → (l : Link Op) (n : ℕ) → IsCount l n → accepts_count l n ≡ true
count_fits l n h = both _ _ (le-leb l.acknowledged n h.low) (le-leb n (generated l) h.high)

-- a number that comes next passes its test
pub number_fits : {Op : Type 0} → (l : Link Op) (n : ℕ) → IsNumber l n → accepts_number l n ≡ true
number_fits l n h = both _ _ (eq-eqb n l.received h.next) (lt-ltb l.received 4294967295 h.counted)

module _ (O : Operations) (L : AreLawful O) where
  -- a site that goes on accepts an edit that fits
  pub deliver_fits : (site : SiteOf O) (m : Msg O.Op) → site.stopped ≡ false → IsNumber site.end m.mine → IsCount site.end m.heard → O.bears_site site.number (O.t.edit_of m.op) ≡ false
      → O.t.is_valid (received_operation O.t site.end m.heard m.op) site.board → deliver_fault O (DownOp m) site ≡ None
  deliver_fits site m runs number count foreign valid =
      no_fault (deliver_tests O site m ++ test (fits_shown O site m) SiteBadOp ∷ [])
      (ap not runs, (number_fits site.end m.mine number, (count_fits site.end m.heard count, (ap not foreign, ((L.decides _ site.board).1 valid, tt)))))

  -- and an acknowledgement
  pub deliver_ack : (site : SiteOf O) (n : ℕ) → site.stopped ≡ false → IsCount site.end n → deliver_fault O (DownAck n) site ≡ None
  deliver_ack site n runs count = no_fault (running_test site ∷ heard_tests site.end n) (ap not runs, (count_fits site.end n count, tt))

  -- and a pong
  pub deliver_pong : (site : SiteOf O) (k : ℕ) → site.stopped ≡ false → deliver_fault O (DownPong k) site ≡ None
  deliver_pong site k runs = no_fault (running_test site ∷ []) (ap not runs, tt)

  -- the star takes an edit that fits, or its order is full
  pub take_fits : (star : StarOf O) (l : LinkState O.Op) (m : Msg O.Op) → IsNumber l.end m.mine → IsCount l.end m.heard → O.is_nothing (O.t.edit_of m.op) ≡ false
      → IsTrue (O.bears_next l.site l.named (O.t.edit_of m.op)) → O.t.is_valid (received_operation O.t l.end m.heard m.op) star.board
      → ((up_fault O star l (UpOp m) ≡ None) × (length star.order < star.limit)) ⊎ ((up_fault O star l (UpOp m) ≡ Some LogFull) × (star.limit ≤ length star.order))
  take_fits star l m number count something next valid = cases (nat_lt (length star.order) star.limit) refl
    where
      before : AllHold (count_tests BadCount BadAck l.end m ++ stars.edit_tests O l (O.t.edit_of m.op))
      before = (number_fits l.end m.mine number, (count_fits l.end m.heard count, (ap not something, (next, tt))))

      cases : (b : Bool) → nat_lt (length star.order) star.limit ≡ b
          → ((up_fault O star l (UpOp m) ≡ None) × (length star.order < star.limit)) ⊎ ((up_fault O star l (UpOp m) ≡ Some LogFull) × (star.limit ≤ length star.order))
      cases true room = inl (
        no_fault (count_tests BadCount BadAck l.end m ++ (stars.edit_tests O l (O.t.edit_of m.op) ++ (stars.log_tests star.limit (length star.order) ++ test (fits_board O star.board l m) BadOp ∷ [])))
            (before.0, (before.1.0, (before.1.1.0, (before.1.1.1.0, (room, ((L.decides _ star.board).1 valid, tt)))))),
        ltb-true _ _ room,
      )
      cases false full = inr (first_to_fail (count_tests BadCount BadAck l.end m ++ stars.edit_tests O l (O.t.edit_of m.op)) (test (nat_lt (length star.order) star.limit) LogFull) (test (fits_board O star.board l m) BadOp ∷ []) before full, ltb-false _ _ full)

  -- the star takes an acknowledgement that fits
  pub take_ack : (star : StarOf O) (l : LinkState O.Op) (n : ℕ) → IsCount l.end n → up_fault O star l (UpAck n) ≡ None
  take_ack star l n count = no_fault (stars.ack_tests l.end n) (count_fits l.end n count, tt)
