-- The tallies of traces.
use Rattle.std.proofs.Common.{◌≡◌, ℕ, ◌+◌, Bool, true, false, List, [], ◌∷◌, ◌++◌, refl, ap, sym, ◌∙◌, arith, length-append, if◌then◌else◌, length, Option, Some, eq-eqb, cond, not, map, filter, nat_eq, append-nil, eqb-true}
use Rattle.jup_world.specs.Prelude.{Operations, DownOp, DownAck, DownPong, UpOp, UpAck, UpPing, LinkState, EditFault, AllByRecursion, Joined, Made}
use Rattle.jup_world.specs.Worlds.{AttachedOf, with_edit, one_taken, one_handed, pinged, with_fetched, WorldOf, EventOf, attached, at_site, without_site, Outcome, new_site, only_fetched, outcome, happens, ReplyOf, is_number, unchanged}
use Rattle.jup_world.specs.Traces.{made, edit_made, gives, numbers_given, CountsItsEdits, IsTallied, Tallies}
use Rattle.jup_world.specs.Events.{Join, Edit as MakeEdit, Down as MoveDown, Ping as SendPing, JoinStray, Happened}
use Rattle.jup_world.proofs.EventSteps as steps
use Rattle.jup_world.proofs.Sound.Traces.{made-end}

-- Each event keeps the tallies of the trace.

-- # Each of a list

-- with each element changed
each-mapped : {A : Type 0} (P Q : A → Type 0) (f : A → A) → ((a : A) → P a → Q (f a)) → (xs : List A) → AllByRecursion P xs → AllByRecursion Q (map f xs)
each-mapped P Q f h [] each = tt
each-mapped P Q f h (x ∷ xs) each = (h x each.0, each-mapped P Q f h xs each.1)

-- as it is
each-implied : {A : Type 0} (P Q : A → Type 0) → ((a : A) → P a → Q a) → (xs : List A) → AllByRecursion P xs → AllByRecursion Q xs
each-implied P Q h [] each = tt
each-implied P Q h (x ∷ xs) each = (h x each.0, each-implied P Q h xs each.1)

-- some of them
each-some : {A : Type 0} (P Q : A → Type 0) (keep : A → Bool) → ((a : A) → P a → Q a) → (xs : List A) → AllByRecursion P xs → AllByRecursion Q (filter keep xs)
each-some P Q keep h [] each = tt
each-some {A = A} P Q keep h (x ∷ xs) each = kept (keep x) (h x each.0) (each-some P Q keep h xs each.1)
  where
    kept : (b : Bool) → Q x → AllByRecursion Q (filter keep xs) → AllByRecursion Q (cond b (x ∷ filter keep xs) (filter keep xs))
    kept true here rest = (here, rest)
    kept false here rest = rest

-- and one more
each-more : {A : Type 0} (P Q : A → Type 0) (y : A) → ((a : A) → P a → Q a) → (xs : List A) → AllByRecursion P xs → Q y → AllByRecursion Q (xs ++ y ∷ [])
each-more P Q y h [] each last = (last, tt)
each-more P Q y h (x ∷ xs) each last = (h x each.0, each-more P Q y h xs each.1 last)

-- one more event gives its numbers
pub given-end : {Command Operation Edit Fault : Type 0} (hs : List (Happened Command Operation Edit Fault)) (h : Happened Command Operation Edit Fault) → numbers_given (hs ++ h ∷ []) ≡ numbers_given hs + gives h.reply
given-end [] h = omega arith
given-end (g ∷ hs) h = omega (arith, given-end hs h)

module _ (O : Operations) where
  -- the trace with one more event
  abbrev noted : WorldOf O → EventOf O → ReplyOf O → List (Happened O.Command O.Op O.Edit EditFault)
  noted w e r = w.trace ++ record { event = e; reply = r } ∷ []

  -- what an outcome leaves
  abbrev IsTallyOf : WorldOf O → EventOf O → Outcome O → Type 0
  IsTallyOf w e o = (o.star.given ≡ w.star.given + gives o.reply) × AllByRecursion (CountsItsEdits O (noted w e o.reply)) o.sites

  -- a site that made no edit at an event
  quiet_site : (w : WorldOf O) (e : EventOf O) (r : ReplyOf O) (a b : AttachedOf O) → edit_made a.site.number e r ≡ [] → b.site.number ≡ a.site.number → b.site.made ≡ a.site.made
      → CountsItsEdits O w.trace a → CountsItsEdits O (noted w e r) b
  quiet_site w e r a b none number same counts =
      let more : made b.site.number (noted w e r) ≡ made a.site.number w.trace =
      ap (λ j. made j (noted w e r)) number ∙ made-end a.site.number w.trace (record { event = e; reply = r }) ∙ ap (λ es. made a.site.number w.trace ++ es) none ∙ append-nil _ in
      same ∙ counts ∙ sym (ap (λ es. length es) more)

  -- a site that made one
  edited_site : (w : WorldOf O) (i : ℕ) (command : O.Command) (op : O.Op) (a : AttachedOf O) → is_number i a ≡ true → CountsItsEdits O w.trace a
      → CountsItsEdits O (noted w (MakeEdit i command) (Made (O.t.edit_of op))) (with_edit O op a)
  edited_site w i command op a is counts =
      let same : nat_eq i a.site.number ≡ true = eq-eqb i a.site.number (sym (eqb-true a.site.number i is)) in
      let one : edit_made {Operation = O.Op} {Fault = EditFault} a.site.number (MakeEdit i command) (Made (O.t.edit_of op)) ≡ O.t.edit_of op ∷ [] = ap (λ b. cond b (O.t.edit_of op ∷ []) []) same in
      let more : made a.site.number (noted w (MakeEdit i command) (Made (O.t.edit_of op))) ≡ made a.site.number w.trace ++ O.t.edit_of op ∷ [] =
      made-end a.site.number w.trace (record { event = MakeEdit i command; reply = Made (O.t.edit_of op) }) ∙ ap (λ es. made a.site.number w.trace ++ es) one in
      ap (λ n. n + 1) counts ∙ sym (ap (λ es. length es) more ∙ length-append (made a.site.number w.trace) (O.t.edit_of op ∷ []))

  -- nor did another
  other_site : (w : WorldOf O) (i : ℕ) (command : O.Command) (op : O.Op) (a : AttachedOf O) → is_number i a ≡ false → CountsItsEdits O w.trace a
      → CountsItsEdits O (noted w (MakeEdit i command) (Made (O.t.edit_of op))) a
  other_site w i command op a is =
      quiet_site w (MakeEdit i command) (Made (O.t.edit_of op)) a a (ap (λ b. cond b (O.t.edit_of op ∷ []) []) (apart (nat_eq i a.site.number) refl)) refl refl
    where
      apart : (b : Bool) → nat_eq i a.site.number ≡ b → nat_eq i a.site.number ≡ false
      apart false e = e
      apart true e = absurd (let same = eqb-true i a.site.number e in let not_same : nat_eq a.site.number i ≡ true = eq-eqb a.site.number i (sym same) in cc)

  -- nothing changes
  same_tally : (w : WorldOf O) (e : EventOf O) (r : ReplyOf O) → ((j : ℕ) → edit_made j e r ≡ []) → gives r ≡ 0 → AllByRecursion (CountsItsEdits O w.trace) w.sites → IsTallyOf w e (unchanged O w r)
  same_tally w e r none zero all = (omega (arith, zero), each-implied (CountsItsEdits O w.trace) (CountsItsEdits O (noted w e r)) (λ a. quiet_site w e r a a (none a.site.number) refl refl) w.sites all)

  -- one site changed, and made no edit
  one_changed : (w : WorldOf O) (e : EventOf O) (r : ReplyOf O) (i : ℕ) (f : AttachedOf O → AttachedOf O) → ((j : ℕ) → edit_made j e r ≡ [])
      → ((a : AttachedOf O) → (f a).site.number ≡ a.site.number) → ((a : AttachedOf O) → (f a).site.made ≡ a.site.made)
      → AllByRecursion (CountsItsEdits O w.trace) w.sites → AllByRecursion (CountsItsEdits O (noted w e r)) (at_site i f w.sites)
  one_changed w e r i f none number same = each-mapped (CountsItsEdits O w.trace) (CountsItsEdits O (noted w e r)) (λ a. if is_number i a then f a else a) (λ a. chosen a (is_number i a)) w.sites
    where
      chosen : (a : AttachedOf O) (b : Bool) → CountsItsEdits O w.trace a → CountsItsEdits O (noted w e r) (if b then f a else a)
      chosen a true = quiet_site w e r a (f a) (none a.site.number) (number a) (same a)
      chosen a false = quiet_site w e r a a (none a.site.number) refl refl

  -- one site dropped
  one_dropped : (w : WorldOf O) (e : EventOf O) (r : ReplyOf O) (i : ℕ) → ((j : ℕ) → edit_made j e r ≡ []) → AllByRecursion (CountsItsEdits O w.trace) w.sites
      → AllByRecursion (CountsItsEdits O (noted w e r)) (without_site i w.sites)
  one_dropped w e r i none = each-some (CountsItsEdits O w.trace) (CountsItsEdits O (noted w e r)) (λ a. not (is_number i a)) (λ a. quiet_site w e r a a (none a.site.number) refl refl) w.sites

  -- what changes nothing, or lets a link go, gives no number
  still_gives : (w : WorldOf O) {e : EventOf O} {r : ReplyOf O} → steps.WhyStill O w e r → gives r ≡ 0
  still_gives w (steps.Finds e) = refl
  still_gives w (steps.NotJoined fault) = refl
  still_gives w (steps.NoStray fault) = refl
  still_gives w (steps.NotMade i command fault) = refl

  gone_gives : (w : WorldOf O) {i : ℕ} {l : LinkState O.Op} {oa : Option (AttachedOf O)} {e : EventOf O} {r : ReplyOf O} → steps.WhyGone O w i l oa e r → gives r ≡ 0
  gone_gives w (steps.Leaves a) = refl
  gone_gives w steps.StrayLeaves = refl
  gone_gives w (steps.IsDropped up fault brought f) = refl

  -- an event, by its outcome
  step_tally : (w : WorldOf O) → AllByRecursion (CountsItsEdits O w.trace) w.sites → made (w.star.given + 1) w.trace ≡ [] → (e : EventOf O) (o : Outcome O) → steps.StepOf O w e o → IsTallyOf w e o
  step_tally w all new e o (steps.Still why) = same_tally w e _ (steps.still_silent O w why).no_edit (still_gives w why) all
  step_tally w all new e o (steps.Enters none) = (
    refl,
    each-more (CountsItsEdits O w.trace) (CountsItsEdits O (noted w Join (Joined (w.star.given + 1)))) (new_site O w (w.star.given + 1))
        (λ a. quiet_site w Join (Joined (w.star.given + 1)) a a refl refl refl) w.sites all
        (quiet_site w Join (Joined (w.star.given + 1)) (new_site O w (w.star.given + 1)) (new_site O w (w.star.given + 1)) refl refl refl (sym (ap (λ es. length es) new))),
  )
  step_tally w all new e o (steps.EntersStray none) = (refl, each-implied (CountsItsEdits O w.trace) (CountsItsEdits O (noted w JoinStray (Joined (w.star.given + 1)))) (λ a. quiet_site w JoinStray (Joined (w.star.given + 1)) a a refl refl refl) w.sites all)
  step_tally w all new e o (steps.Goes i l oa fl fa why) = (omega (arith, gone_gives w why), one_dropped w e _ i (steps.gone_silent O w why).no_edit all)
  step_tally w all new e o (steps.Makes i command l a op fl fa ok) = (
    omega arith,
    each-mapped (CountsItsEdits O w.trace) (CountsItsEdits O (noted w (MakeEdit i command) (Made (O.t.edit_of op))))
        (λ b. if is_number i b then with_edit O op b else b) (λ b. chosen b (is_number i b) refl) w.sites all,
  )
    where
      chosen : (b : AttachedOf O) (is : Bool) → is_number i b ≡ is → CountsItsEdits O w.trace b → CountsItsEdits O (noted w (MakeEdit i command) (Made (O.t.edit_of op))) (if is then with_edit O op b else b)
      chosen b true is = edited_site w i command op b is
      chosen b false is = other_site w i command op b is
  step_tally w all new e o (steps.Asks i k l a fl fa) = (omega arith, one_changed w (SendPing i k) _ i (pinged O k) (λ j. refl) (λ b. refl) (λ b. refl) all)
  step_tally w all new e o (steps.Takes i l oa (UpOp m) fl fa brought none) = (omega arith, one_changed w e _ i (one_taken O) (steps.brought_made O w brought _) (λ b. refl) (λ b. refl) all)
  step_tally w all new e o (steps.Takes i l oa (UpAck n) fl fa brought none) = (omega arith, one_changed w e _ i (one_taken O) (steps.brought_made O w brought _) (λ b. refl) (λ b. refl) all)
  step_tally w all new e o (steps.Takes i l oa (UpPing k) fl fa brought none) = (omega arith, one_changed w e _ i (one_taken O) (steps.brought_made O w brought _) (λ b. refl) (λ b. refl) all)
  step_tally w all new e o (steps.Hands i gone l a (DownOp m) ds fl fa falls none) = (omega arith, one_changed w (MoveDown i) _ i (one_handed O (DownOp m) ds) (λ j. refl) (λ b. refl) (λ b. refl) all)
  step_tally w all new e o (steps.Hands i gone l a (DownAck n) ds fl fa falls none) = (omega arith, one_changed w (MoveDown i) _ i (one_handed O (DownAck n) ds) (λ j. refl) (λ b. refl) (λ b. refl) all)
  step_tally w all new e o (steps.Hands i gone l a (DownPong k) ds fl fa falls none) = (omega arith, one_changed w (MoveDown i) _ i (one_handed O (DownPong k) ds) (λ j. refl) (λ b. refl) (λ b. refl) all)

  pub tallied-happens : (w : WorldOf O) → IsTallied O w → made (w.star.given + 1) w.trace ≡ [] → (e : EventOf O) → IsTallied O (happens O w e)
  tallied-happens w is none e =
      let tally = step_tally w is.made none e (outcome O w e) (steps.step_of O w e) in
      record {
        given = tally.0 ∙ ap (λ n. n + gives (outcome O w e).reply) is.given ∙ sym (given-end w.trace (record { event = e; reply = (outcome O w e).reply }));
        made = tally.1;
      }

  -- a failed allocation
  pub tallied-fetched : (w : WorldOf O) → IsTallied O w → (i n : ℕ) (l : LinkState O.Op) → IsTallied O (only_fetched O w i n l)
  tallied-fetched w is i n l = record {
    given = is.given;
    made = each-mapped (CountsItsEdits O w.trace) (CountsItsEdits O w.trace) (λ a. if is_number i a then with_fetched O n l a else a) (λ a. chosen a (is_number i a)) w.sites is.made;
  }
    where
      chosen : (a : AttachedOf O) (b : Bool) → CountsItsEdits O w.trace a → CountsItsEdits O w.trace (if b then with_fetched O n l a else a)
      chosen a true counts = counts
      chosen a false counts = counts

  -- the tally of the site of a number
  pub tallies : (w : WorldOf O) → IsTallied O w → Tallies O w
  tallies w is = record { given = is.given; made = λ i a found. one i a w.sites found is.made }
    where
      one : (i : ℕ) (a : AttachedOf O) (sites : List (AttachedOf O)) → attached i sites ≡ Some a → AllByRecursion (CountsItsEdits O w.trace) sites → a.site.made ≡ length (made i w.trace)
      one i a [] found all = absurd cc
      one i a (x ∷ later) found all = step (is_number i x) refl (λ h. one i a later h all.1) found
        where
          step : (b : Bool) → is_number i x ≡ b → (attached i later ≡ Some a → a.site.made ≡ length (made i w.trace)) → cond b (Some x) (attached i later) ≡ Some a → a.site.made ≡ length (made i w.trace)
          step true e rest h =
              let same : x ≡ a = cc in
              let number : x.site.number ≡ i = eqb-true _ _ e in
              sym (ap (λ (y : AttachedOf O). y.site.made) same) ∙ all.0 ∙ ap (λ j. length (made j w.trace)) number
          step false e rest h = rest h
