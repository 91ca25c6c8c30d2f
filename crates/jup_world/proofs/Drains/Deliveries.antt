-- Deliveries, and worlds in which none is left.
use Rattle.std.proofs.Common.{◌≡◌, ℕ, Bool, true, false, List, [], ◌∷◌, ◌++◌, length, refl, subst, Some, leb-false, leb-true, nat_le, sym, ap, zero, suc, ◌+◌, ◌*◌, ◌<◌, ◌≤◌, cond, drop, nat_eq, Option, None, option_map, option_to_list, arith, eq-eqb, ◌∙◌, ◌↔◌, eqb-true, ne_eqb}
use Rattle.std.proofs.lemmas.Bool.{eqb-false}
use Rattle.jup_world.specs.Prelude.{Msg, Link, owes, next_message, Operations, AreLawful, board_batches, BoardBatch, batch_laws, Up, UpOp, UpAck, UpPing, Down, DownOp, DownAck, DownPong, StarOf, owed_down, link_acked, link_ponged, link_fetched, link_sent, link_heard, operation_at, end_after, link_of, without, at_link, links_after, most_batches, BoardStar, sent_back, Nothing}
use Rattle.jup_world.specs.Events as world_events
use Rattle.jup_world.specs.Worlds.{WorldOf, EventOf, attached, IsQuiet, Outcome, outcome, at_site, without_site, happens, is_number, AreAscending, AttachedOf, one_taken, one_handed}
use Rattle.jup_world.specs.Sound as soundness
use Rattle.jup_world.specs.Boards.{BoardWorld, BoardLink, BoardAttached, BoardEvent, AllAgree}
use Rattle.jup_world.specs.Lanes.{IsDelivery}
use Rattle.jup_world.specs.Drains.{up_weight, down_weight, link_weight, sum_to, weight_of, weight}
use Rattle.jup_world.specs.Traces as traces
use Rattle.jup_world.specs.Happenings.{IsQuietAt, AllQuiet, IsWorld}
use Rattle.jup_world.proofs.EventSteps as steps
use Rattle.jup_site.proofs.Numbers as numbers
use Rattle.jup_world.proofs.Sound.Runs as sound_runs
use Rattle.jup_world.proofs.Worlds.{link_given, are_linked}
use Rattle.jup_world.proofs.Sound.Traces.{standing_of}
use Rattle.jup_world.proofs.Sound.Tallies.{tallies}

-- What a delivery that answers nothing says: a world in which all do is quiet.

-- two lists of which nothing is left
both_empty : {A : Type 0} → (xs ys : List A) → xs ++ ys ≡ [] → (xs ≡ []) × (ys ≡ [])
both_empty [] ys e = (refl, e)
both_empty (x ∷ xs) ys e = absurd cc

module _ (O : Operations) (L : AreLawful O) where
  -- nothing is on its way up if nothing is answered
  none_up : (s : StarOf O) (us : List (Up O.Op)) → soundness.UpReplies O s us Nothing → us ≡ []
  none_up s [] r = refl
  none_up s (UpOp m ∷ us) r = cases (nat_le s.limit (length s.order)) refl
    where
      cases : (b : Bool) → nat_le s.limit (length s.order) ≡ b → UpOp m ∷ us ≡ []
      cases true e = let full = r.1 (leb-true s.limit (length s.order) e) in absurd cc
      cases false e = let taken = r.0 (leb-false s.limit (length s.order) e) in absurd cc
  none_up s (UpAck n ∷ us) r = absurd cc
  none_up s (UpPing k ∷ us) r = absurd cc

  -- nor down
  none_down : (ds : List (Down O.Op)) → soundness.DownReplies O ds Nothing → ds ≡ []
  none_down [] r = refl
  none_down (DownOp m ∷ ds) r = absurd cc
  none_down (DownAck n ∷ ds) r = absurd cc
  none_down (DownPong k ∷ ds) r = absurd cc

  -- if no delivery at an attached site answers anything, no message is on its way
  pub nothing_quiet : (most : ℕ) (w : WorldOf O) → soundness.IsSound O most w
      → ((i : ℕ) (a : AttachedOf O) → attached i w.sites ≡ Some a → ((outcome O w (world_events.Up i)).reply ≡ Nothing) × ((outcome O w (world_events.Down i)).reply ≡ Nothing))
      → IsQuiet O w
  nothing_quiet most w s nothing i l a fl fa =
      let both = nothing i a fa in
      let up = subst (λ r. soundness.RepliesTo O w (world_events.Up i) r) both.0 (sound_runs.replies O L most w s (world_events.Up i)) in
      let down = subst (λ r. soundness.RepliesTo O w (world_events.Down i) r) both.1 (sound_runs.replies O L most w s (world_events.Down i)) in
      let below = both_empty a.down l.outbox (none_down (a.down ++ l.outbox) (down.present l a fl fa)) in
      (none_up w.star a.up (up.present l a fl fa), below.0, below.1)

  -- an outcome that leaves the star and the sites if it answers nothing
  abbrev pub LeavesAll : WorldOf O → Outcome O → Type 0
  LeavesAll w o = o.reply ≡ Nothing → (o.star ≡ w.star) × (o.sites ≡ w.sites)

  -- an event, by its outcome
  step_leaves : (w : WorldOf O) (e : EventOf O) (o : Outcome O) → steps.StepOf O w e o → LeavesAll w o
  step_leaves w e o (steps.Still why) r = (refl, refl)
  step_leaves w e o (steps.Enters none) r = absurd cc
  step_leaves w e o (steps.EntersStray none) r = absurd cc
  step_leaves w e o (steps.Goes i l oa fl fa (steps.Leaves a)) r = absurd cc
  step_leaves w e o (steps.Goes i l oa fl fa steps.StrayLeaves) r = absurd cc
  step_leaves w e o (steps.Goes i l oa fl fa (steps.IsDropped up fault brought f)) r = absurd cc
  step_leaves w e o (steps.Makes i command l a op fl fa ok) r = absurd cc
  step_leaves w e o (steps.Asks i k l a fl fa) r = absurd cc
  step_leaves w e o (steps.Takes i l oa (UpOp m) fl fa brought none) r = absurd cc
  step_leaves w e o (steps.Takes i l oa (UpAck n) fl fa brought none) r = absurd cc
  step_leaves w e o (steps.Takes i l oa (UpPing k) fl fa brought none) r = absurd cc
  step_leaves w e o (steps.Hands i gone l a (DownOp m) ds fl fa falls none) r = absurd cc
  step_leaves w e o (steps.Hands i gone l a (DownAck n) ds fl fa falls none) r = absurd cc
  step_leaves w e o (steps.Hands i gone l a (DownPong k) ds fl fa falls none) r = absurd cc

  -- an event that answers nothing leaves the star and all sites as they were
  pub nothing_leaves : (w : WorldOf O) (e : EventOf O) → LeavesAll w (outcome O w e)
  nothing_leaves w e = step_leaves w e (outcome O w e) (steps.step_of O w e)

-- Each delivery that moves a message leaves less on its way.

-- # Sums

sum_less : (n : ℕ) (f g : ℕ → ℕ) → ((j : ℕ) → g j ≤ f j) → sum_to n g ≤ sum_to n f
sum_less zero f g each = omega arith
sum_less (suc n) f g each = let here = each n in let rest = sum_less n f g each in omega arith

sum_falls : (n i d : ℕ) (f g : ℕ → ℕ) → i < n → ((j : ℕ) → g j + cond (nat_eq i j) d 0 ≤ f j) → sum_to n g + d ≤ sum_to n f
sum_falls zero i d f g below each = absurd (omega arith)
sum_falls (suc n) i d f g below each = cases (nat_eq i n) refl (each n) (λ low. sum_falls n i d f g low each) (sum_less n f g (λ j. less (nat_eq i j) (each j)))
  where
    less : {x y : ℕ} (b : Bool) → x + cond b d 0 ≤ y → x ≤ y
    less true h = omega arith
    less false h = omega arith

    cases : (b : Bool) → nat_eq i n ≡ b → g n + cond b d 0 ≤ f n → (i < n → sum_to n g + d ≤ sum_to n f) → sum_to n g ≤ sum_to n f → g n + sum_to n g + d ≤ f n + sum_to n f
    cases true e here later rest = omega arith
    cases false e here later rest = let other = eqb-false i n e in let low : i < n = omega (arith, other) in let more = later low in omega arith

sum_more : (n : ℕ) (f g : ℕ → ℕ) → ((j : ℕ) → g j ≤ f j + 2) → sum_to n g ≤ sum_to n f + 2 * n
sum_more zero f g each = omega arith
sum_more (suc n) f g each = let here = each n in let rest = sum_more n f g each in omega arith

sum_outweighs : (n i d : ℕ) (f g : ℕ → ℕ) → i < n → ((j : ℕ) → g j + cond (nat_eq i j) d 0 ≤ f j + 2) → sum_to n g + d ≤ sum_to n f + 2 * n
sum_outweighs zero i d f g below each = absurd (omega arith)
sum_outweighs (suc n) i d f g below each = cases (nat_eq i n) refl (each n) (λ low. sum_outweighs n i d f g low each) (sum_more n f g (λ j. less (nat_eq i j) (each j)))
  where
    less : {x y : ℕ} (b : Bool) → x + cond b d 0 ≤ y → x ≤ y
    less true h = omega arith
    less false h = omega arith

    cases : (b : Bool) → nat_eq i n ≡ b → g n + cond b d 0 ≤ f n + 2 → (i < n → sum_to n g + d ≤ sum_to n f + 2 * n) → sum_to n g ≤ sum_to n f + 2 * n → g n + sum_to n g + d ≤ f n + sum_to n f + 2 * suc n
    cases true e here later rest = omega arith
    cases false e here later rest = let other = eqb-false i n e in let low : i < n = omega (arith, other) in let more = later low in omega arith

-- # One link

down-append : (xs ys : List (Down BoardBatch)) → down_weight (xs ++ ys) ≡ down_weight xs + down_weight ys
down-append [] ys = omega arith
down-append (DownOp m ∷ xs) ys = omega (arith, down-append xs ys)
down-append (DownAck n ∷ xs) ys = omega (arith, down-append xs ys)
down-append (DownPong k ∷ xs) ys = omega (arith, down-append xs ys)

up-append : (given : ℕ) (xs ys : List (Up BoardBatch)) → up_weight given (xs ++ ys) ≡ up_weight given xs + up_weight given ys
up-append given [] ys = omega arith
up-append given (UpOp m ∷ xs) ys = omega (arith, up-append given xs ys)
up-append given (UpAck n ∷ xs) ys = omega (arith, up-append given xs ys)
up-append given (UpPing k ∷ xs) ys = omega (arith, up-append given xs ys)

-- an acknowledgement weighs one
owed_little : (e : Link BoardBatch) (b : Bool) → down_weight (cond b (DownAck e.received ∷ []) []) ≤ 1
owed_little e true = omega arith
owed_little e false = omega arith

owed_up_little : (given : ℕ) (e : Link BoardBatch) (b : Bool) → up_weight given (option_to_list (cond b (Some (UpAck e.received)) None)) ≤ 1
owed_up_little given e true = omega arith
owed_up_little given e false = omega arith

module _ (w : BoardWorld) (sound : soundness.IsSound board_batches most_batches w) (i : ℕ) (l : BoardLink) (a : BoardAttached) (fl : link_of i w.star.links ≡ Some l) (fa : attached i w.sites ≡ Some a) where
  -- what was on its way over each link
  abbrev before : ℕ → ℕ
  before j = link_weight w.star.given (link_of j w.star.links) (attached j w.sites)

  here_before : before i ≡ up_weight w.star.given a.up + (down_weight a.down + down_weight l.outbox)
  here_before = rw (fl, fa) refl

  among : i < suc w.star.given
  among = let low = link_given w sound i l fl in omega arith

  -- what is on its way over a link after an event, if it was so much before, and at this link so much less
  abbrev Falls : ℕ → ℕ → Option BoardLink → Option BoardAttached → Type 0
  Falls d j ol oa = link_weight w.star.given ol oa + cond (nat_eq i j) d 0 ≤ before j

  -- or so much less, except for an edit that was sent
  abbrev Outweighs : ℕ → ℕ → Option BoardLink → Option BoardAttached → Type 0
  Outweighs d j ol oa = link_weight w.star.given ol oa + cond (nat_eq i j) d 0 ≤ before j + 2

  at_here : (P : Bool → Type 0) → P true → P (nat_eq i i)
  at_here P holds = subst P (sym (eq-eqb i i refl)) holds

  at_other : (j : ℕ) (P : Bool → Type 0) → nat_eq i j ≡ false → P false → P (nat_eq i j)
  at_other j P e holds = subst P (sym e) holds

  -- all other links stay as they were
  others_stay : (j : ℕ) → nat_eq i j ≡ false → Falls 1 j (link_of j w.star.links) (attached j w.sites)
  others_stay j e = at_other j (λ b. before j + cond b 1 0 ≤ before j) e (omega arith)

  -- this link alone is changed, and carries less
  one_falls : (f : BoardLink → BoardLink) (g : BoardAttached → BoardAttached) → ((k : BoardLink) → (f k).site ≡ k.site) → ((b : BoardAttached) → (g b).site.number ≡ b.site.number)
      → up_weight w.star.given (g a).up + (down_weight (g a).down + down_weight (f l).outbox) + 1 ≤ up_weight w.star.given a.up + (down_weight a.down + down_weight l.outbox)
      → sum_to (suc w.star.given) (λ j. link_weight w.star.given (link_of j (at_link i f w.star.links)) (attached j (at_site i g w.sites))) + 1 ≤ weight_of w.star w.sites
  one_falls f g kf kg less =
      sum_falls (suc w.star.given) i 1 before _ among
      (numbers.at_one (λ k. k.site) (λ b. b.site.number) (Falls 1) i f g kf kg w.star.links w.sites l (Some a) fl fa
      (at_here (λ b. up_weight w.star.given (g a).up + (down_weight (g a).down + down_weight (f l).outbox) + cond b 1 0 ≤ before i) (omega (arith, here_before))) others_stay)

  -- this link is dropped
  dropped_falls : 1 ≤ up_weight w.star.given a.up → sum_to (suc w.star.given) (λ j. link_weight w.star.given (link_of j (without i w.star.links)) (attached j (without_site i w.sites))) + 1 ≤ weight_of w.star w.sites
  dropped_falls some =
      sum_falls (suc w.star.given) i 1 before _ among
      (numbers.at_removal (λ k. k.site) (λ b. b.site.number) (Falls 1) i w.star.links w.sites (at_here (λ b. 0 + cond b 1 0 ≤ before i) (omega (arith, here_before))) others_stay)

  -- an edit is sent over another link
  sent_more : (op : BoardBatch) (ol : Option BoardLink) (oa : Option BoardAttached) → link_weight w.star.given (option_map (link_sent op) ol) oa ≤ link_weight w.star.given ol oa + 2
  sent_more op None None = omega arith
  sent_more op None (Some b) = omega arith
  sent_more op (Some k) None = omega arith
  sent_more op (Some k) (Some b) = omega (arith, down-append k.outbox (DownOp (next_message k.end op) ∷ []))

  -- this link hears an edit, and all others are sent it
  edit_falls : (m : Msg BoardBatch) (us : List (Up BoardBatch)) → a.up ≡ UpOp m ∷ us
      → sum_to (suc w.star.given) (λ j. link_weight w.star.given (link_of j (links_after board_batches i m (operation_at board_batches l.end m) w.star.links)) (attached j (at_site i (one_taken board_batches) w.sites))) + 1 ≤ weight_of w.star w.sites
  edit_falls m us first =
      let paid : down_weight (link_heard board_batches m l).outbox ≤ down_weight l.outbox + 1 =
      (let little = owed_little (end_after board_batches l.end m) (owes (end_after board_batches l.end m).unanswered) in omega (arith, down-append l.outbox (owed_down (end_after board_batches l.end m)))) in
      let less : up_weight w.star.given (drop 1 a.up) + (2 * w.star.given + 10) ≡ up_weight w.star.given a.up = subst (λ ups. up_weight w.star.given (drop 1 ups) + (2 * w.star.given + 10) ≡ up_weight w.star.given ups) (sym first) (omega arith) in
      let all = sum_outweighs (suc w.star.given) i (2 * w.star.given + 10) before _ among
      (numbers.at_all (λ k. k.site) (λ b. b.site.number) (Outweighs (2 * w.star.given + 10)) i (link_heard board_batches m) (link_sent (operation_at board_batches l.end m)) (one_taken board_batches) (λ k. refl) (λ k. refl) (λ b. refl) w.star.links w.sites l (Some a) fl fa
      (at_here (λ b. up_weight w.star.given (drop 1 a.up) + (down_weight a.down + down_weight (link_heard board_batches m l).outbox) + cond b (2 * w.star.given + 10) 0 ≤ before i + 2) (omega (arith, here_before, less, paid)))
      (λ j e. at_other j (λ b. link_weight w.star.given (option_map (link_sent (operation_at board_batches l.end m)) (link_of j w.star.links)) (attached j w.sites) + cond b (2 * w.star.given + 10) 0 ≤ before j + 2) e
      (let more = sent_more (operation_at board_batches l.end m) (link_of j w.star.links) (attached j w.sites) in omega arith))) in
      omega arith

  up_some : (up : Up BoardBatch) (us : List (Up BoardBatch)) → 1 ≤ up_weight w.star.given (up ∷ us)
  up_some (UpOp m) us = omega arith
  up_some (UpAck n) us = omega arith
  up_some (UpPing k) us = omega arith

  -- the first message of an up stream is gone
  up_lighter : (up : Up BoardBatch) (us : List (Up BoardBatch)) → a.up ≡ up ∷ us → up_weight w.star.given (drop 1 a.up) + up_weight w.star.given (up ∷ []) ≡ up_weight w.star.given a.up
  up_lighter up us first = subst (λ ups. up_weight w.star.given (drop 1 ups) + up_weight w.star.given (up ∷ []) ≡ up_weight w.star.given ups) (sym first) (split up)
    where
      split : (x : Up BoardBatch) → up_weight w.star.given us + up_weight w.star.given (x ∷ []) ≡ up_weight w.star.given (x ∷ us)
      split (UpOp m) = omega arith
      split (UpAck n) = omega arith
      split (UpPing k) = omega arith

  -- what a site sends back is lighter than what it received
  back_light : (d : Down BoardBatch) → up_weight w.star.given (option_to_list (sent_back board_batches d a.site)) + 1 ≤ down_weight (d ∷ [])
  back_light (DownOp m) = let little = owed_up_little w.star.given (end_after board_batches a.site.end m) (owes (end_after board_batches a.site.end m).unanswered) in omega arith
  back_light (DownAck n) = omega arith
  back_light (DownPong k) = omega arith

  one_down : (d : Down BoardBatch) (ds : List (Down BoardBatch)) → down_weight (d ∷ ds) ≡ down_weight (d ∷ []) + down_weight ds
  one_down (DownOp m) ds = omega arith
  one_down (DownAck n) ds = omega arith
  one_down (DownPong k) ds = omega arith

-- # Deliveries

-- a delivery that answers something, by its outcome
step_lightens : (w : BoardWorld) (s : soundness.IsSound board_batches most_batches w) (e : BoardEvent) (o : Outcome board_batches) → steps.StepOf board_batches w e o → IsDelivery e → (o.reply ≡ Nothing → ⊥) → weight_of o.star o.sites < weight_of w.star w.sites
step_lightens w s e o (steps.Still (steps.Finds event)) delivers some = absurd (some refl)
step_lightens w s e o (steps.Still (steps.NotJoined fault)) delivers some = absurd delivers
step_lightens w s e o (steps.Still (steps.NoStray fault)) delivers some = absurd delivers
step_lightens w s e o (steps.Still (steps.NotMade i command fault)) delivers some = absurd delivers
step_lightens w s e o (steps.Enters none) delivers some = absurd delivers
step_lightens w s e o (steps.EntersStray none) delivers some = absurd delivers
step_lightens w s e o (steps.Goes i l oa fl fa (steps.Leaves a)) delivers some = absurd delivers
step_lightens w s e o (steps.Goes i l oa fl fa steps.StrayLeaves) delivers some = absurd delivers
step_lightens w s e o (steps.Goes i l oa fl fa (steps.IsDropped up fault steps.Strays f)) delivers some = absurd delivers
step_lightens w s e o (steps.Goes i l oa fl fa (steps.IsDropped up fault (steps.Rises a us rising) f)) delivers some =
    let less = dropped_falls w s i l a fl fa (subst (λ ups. 1 ≤ up_weight w.star.given ups) (sym rising) (up_some w s i l a fl fa up us)) in omega arith
step_lightens w s e o (steps.Makes i command l a op fl fa ok) delivers some = absurd delivers
step_lightens w s e o (steps.Asks i k l a fl fa) delivers some = absurd delivers
step_lightens w s e o (steps.Takes i l oa up fl fa steps.Strays none) delivers some = absurd delivers
step_lightens w s e o (steps.Takes i l oa (UpOp m) fl fa (steps.Rises a us rising) none) delivers some = let less = edit_falls w s i l a fl fa m us rising in omega arith
step_lightens w s e o (steps.Takes i l oa (UpAck n) fl fa (steps.Rises a us rising) none) delivers some =
    let less = one_falls w s i l a fl fa (link_acked n) (one_taken board_batches) (λ k. refl) (λ b. refl) (omega (arith, up_lighter w s i l a fl fa (UpAck n) us rising)) in omega arith
step_lightens w s e o (steps.Takes i l oa (UpPing k) fl fa (steps.Rises a us rising) none) delivers some =
    let less = one_falls w s i l a fl fa (link_ponged k) (one_taken board_batches) (λ x. refl) (λ b. refl) (omega (arith, up_lighter w s i l a fl fa (UpPing k) us rising, down-append l.outbox (DownPong k ∷ []))) in omega arith
step_lightens w s e o (steps.Hands i gone l a d ds fl fa falls none) delivers some =
    let light = back_light w s i l a fl fa d in
    let all : down_weight (a.down ++ l.outbox) ≡ down_weight (d ∷ (ds ++ drop gone l.outbox)) = ap down_weight falls in
    let less = one_falls w s i l a fl fa (link_fetched gone) (one_handed board_batches d ds) (λ k. refl) (steps.handed_number board_batches d ds)
    (omega (arith, all, down-append a.down l.outbox, one_down w s i l a fl fa d (ds ++ drop gone l.outbox), down-append ds (drop gone l.outbox), up-append w.star.given a.up (option_to_list (sent_back board_batches d a.site)))) in omega arith

-- a delivery that answers something leaves less on its way
pub delivery_lightens : (w : BoardWorld) (event : BoardEvent) → soundness.IsSound board_batches most_batches w → IsDelivery event → ((outcome board_batches w event).reply ≡ Nothing → ⊥) → weight (happens board_batches w event) < weight w
unfolding weight
delivery_lightens w e s delivers some = step_lightens w s e (outcome board_batches w e) (steps.step_of board_batches w e) delivers some

-- what is on its way is that of the star and the sites
pub same_weight : (w v : BoardWorld) → v.star ≡ w.star → v.sites ≡ w.sites → weight v ≡ weight w
unfolding weight
same_weight w v e f = λ j. weight_of (e j) (f j)

-- Worlds in which no message is on its way.

-- # One site more

-- # All sites

-- a site that is found is one of them, and has its number
found_quiet : (star : BoardStar) (i : ℕ) (a : BoardAttached) (sites : List BoardAttached) → attached i sites ≡ Some a → AllQuiet star sites → IsQuietAt a star × (a.site.number ≡ i)
found_quiet star i a [] found all = absurd (cc)
found_quiet star i a (x ∷ later) found all = step (is_number i x) refl (λ h. found_quiet star i a later h all.1) found
  where
    step : (b : Bool) → is_number i x ≡ b → (attached i later ≡ Some a → IsQuietAt a star × (a.site.number ≡ i)) → cond b (Some x) (attached i later) ≡ Some a → IsQuietAt a star × (a.site.number ≡ i)
    step true e rest h = let same : x ≡ a = cc in (subst (λ (y : BoardAttached). IsQuietAt y star) same all.0, subst (λ (y : BoardAttached). y.site.number ≡ i) same (eqb-true _ _ e))
    step false e rest h = rest h

-- an outbox in which no message waits
none_waits : (i : ℕ) (star : BoardStar) (l : BoardLink) → link_of i star.links ≡ Some l → option_map (λ k. length k.outbox) (link_of i star.links) ≡ Some 0 → l.outbox ≡ []
none_waits i star l found none =
    let count : Some (length l.outbox) ≡ Some 0 = sym (ap (option_map (λ k. length k.outbox)) found) ∙ none in
    Rattle.std.proofs.lemmas.List.nil_from_length l.outbox (cc)

-- each site is found under its number, since they ascend
all_found : (least most : ℕ) (sites : List BoardAttached) (P : BoardAttached → Type 0) → AreAscending least most sites → ((i : ℕ) (a : BoardAttached) → least < i → attached i sites ≡ Some a → a.site.number ≡ i → P a)
    → (star : BoardStar) → ((a : BoardAttached) → P a → IsQuietAt a star) → AllQuiet star sites
all_found least most [] P up each star quiet = tt
all_found least most (x ∷ later) P up each star quiet = (quiet x (each x.site.number x up.0 here refl), all_found x.site.number most later P up.1 rest star quiet)
  where
    here : attached x.site.number (x ∷ later) ≡ Some x
    here = rw (eq-eqb x.site.number x.site.number refl) refl

    rest : (i : ℕ) (a : BoardAttached) → x.site.number < i → attached i later ≡ Some a → a.site.number ≡ i → P a
    rest i a above found number =
        let other : is_number i x ≡ false = ne_eqb x.site.number i (λ e. absurd (omega arith)) in
        each i a (let low = up.0 in omega arith) (rw other found) number

pub quiet_world : (w : BoardWorld) → IsWorld w → AllQuiet w.star w.sites ↔ IsQuiet board_batches w
quiet_world w is = (to, from)
  where
    to : AllQuiet w.star w.sites → IsQuiet board_batches w
    to all i l a fl fa =
        let one = found_quiet w.star i a w.sites fa all in
        (one.0.0, one.0.1, none_waits i w.star l fl (ap (λ n. option_map (λ k. length k.outbox) (link_of n w.star.links)) (sym one.1) ∙ one.0.2))

    from : IsQuiet board_batches w → AllQuiet w.star w.sites
    from quiet = all_found 0 w.star.given w.sites (λ a. IsQuietAt a w.star) is.numbered.ascending
        (λ i a low found number.
        let st = standing_of board_batches batch_laws most_batches w is.board.sound i a found in
        let one = quiet i st.0 a st.2 found in
        (one.0, one.1, ap (λ n. option_map (λ k. length k.outbox) (link_of n w.star.links)) number ∙ ap (option_map (λ k. length k.outbox)) st.2 ∙ ap (λ os. Some (length os)) one.2))
        w.star (λ a holds. holds)

-- # What a world promises

pub promises : (w : BoardWorld) → IsWorld w → traces.Promises board_batches w
promises w is = sound_runs.sound-promises board_batches batch_laws most_batches w is.board.sound (are_linked board_batches batch_laws w is.board.strays)

pub backlogs : (w : BoardWorld) → IsWorld w → traces.BacklogIsShort board_batches w
backlogs w is = sound_runs.sound-backlog board_batches batch_laws most_batches w is.board.sound

pub tallies_of : (w : BoardWorld) → IsWorld w → traces.Tallies board_batches w
tallies_of w is = tallies board_batches w is.board.tallied

pub all_agree : (w : BoardWorld) → IsWorld w → IsQuiet board_batches w → AllAgree w
all_agree w is quiet = record {
  equal = (promises w is).equal quiet;
  content = (promises w is).star_content;
  whole = (promises w is).whole quiet;
  backlog = (backlogs w is).quiet quiet;
}
