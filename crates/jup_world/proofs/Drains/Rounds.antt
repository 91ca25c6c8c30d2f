-- The rounds of a drain.
use Rattle.std.proofs.Common.{◌≡◌, refl, sym, ◌∙◌, ap, subst, ℕ, ◌+◌, ◌-◌, ◌<◌, ◌≤◌, Bool, true, false, not, ◌||◌, List, [], ◌∷◌, ◌++◌, length, map, nat_eq, slice_get, take, Option, Some, None, option_map, is_some, Result, Ok, Err, OnOk, OnErr, IfErr, arith, ◌↔◌, IsTrue, IsFalse, eqb-true, le_refl, cond, suc, nat_lt}
use Rattle.std.proofs.lemmas.Bool.{eqb-false, or_parts, lt-ltb}
use Rattle.jup_world.specs.Prelude.{NoMemory, EditFault, board_batches, batch_laws, BoardBatch, BoardEdits, Up, Down, StarFault, SiteFault, link_of, up_fault, place_taken, most_batches, deliver_fault, Reply, Attached, Way, WayUp, WayDown, Nothing}
use Rattle.jup_world.specs.declared.world.draining.Halted.{Halted}
use Rattle.jup_world.specs.Worlds.{attached, IsQuiet, AreAscending, Outcome, outcome, up_outcome, first_up, down_outcome, first_down, at_attached, at_linked, at_number, place_reply}
use Rattle.jup_world.specs.Insides.{lane_of, bare_attached}
use Rattle.jup_world.specs.Lanes.{LaneEvent, Plain, LaneSite, LaneWorld, messages_at, messages_of, lane_site, IsStill, Steps, AllSteps, IsSparedBy, IsHalted, IsDelivery, AreDeliveries, IsDelivered, IsDeliveredInPart}
use Rattle.jup_world.specs.Happenings.{IsLaneWorld, IsWorld}
use Rattle.jup_world.specs.Traces.{OrderIsKept}
use Rattle.jup_world.specs.Boards.{BoardWorld, BoardLink, BoardAttached, BoardEvent}
use Rattle.jup_world.specs.Drains.{way_event, Settles, MovesNothing, NothingMoves, weight, Repeats, Delivers, Visits, Passes, IsRound}
use Rattle.jup_world.proofs.Drains.Deliveries as delivering
use Rattle.jup_world.proofs.Happenings.{found_bounds}
use Rattle.jup_world.proofs.Lanes.Worlds as lane_worlds
use Rattle.jup_world.proofs.Lanes.Sites.{messages_map}

-- What the rounds of a drain keep, delivery by delivery.

-- # One delivery

one_delivered : (w v : LaneWorld) (event : BoardEvent) → IsDelivery event → Steps w (Plain event) v → IsDelivered w v
one_delivered w v event delivers step = record { events = event ∷ []; deliveries = (delivers, tt); steps = (v, step, refl) }

pub settles_one : (w v : LaneWorld) (event : BoardEvent) (reply : Reply BoardEdits EditFault) (nothing : Bool) → IsWorld (messages_of w) → IsDelivery event → Steps w (Plain event) v
    → reply ≡ (outcome board_batches (messages_of w) event).reply → (IsTrue nothing ↔ (reply ≡ Nothing)) → Settles (not nothing) w v
settles_one w v event reply nothing is delivers step answer test = record {
  delivered = one_delivered w v event delivers step;
  lighter = λ some. subst (λ u. weight u < weight (messages_of w)) (sym step.messages)
      (delivering.delivery_lightens (messages_of w) event is.board.sound delivers (λ none. moved nothing some (test.1 (answer ∙ none))));
  same_star = λ none. ap (λ u. u.star) step.messages ∙ (delivering.nothing_leaves board_batches batch_laws (messages_of w) event (still none)).0;
  same_sites = λ none. ap (λ u. u.sites) step.messages ∙ (delivering.nothing_leaves board_batches batch_laws (messages_of w) event (still none)).1;
}
  where
    moved : (b : Bool) → IsTrue (not b) → IsTrue b → ⊥
    moved true some none = absurd (cc)
    moved false some none = absurd (cc)

    was : (b : Bool) → IsFalse (not b) → IsTrue b
    was true none = refl
    was false none = absurd (cc)

    still : IsFalse (not nothing) → (outcome board_batches (messages_of w) event).reply ≡ Nothing
    still none = sym answer ∙ test.0 (was nothing none)

-- an allocation failed at one
pub part_one : (w v : LaneWorld) (event : BoardEvent) → IsDelivery event → IsSparedBy w (Plain event) v → IsDeliveredInPart w v
part_one w v event delivers spared = record { between = w; delivered = record { events = []; deliveries = tt; steps = refl }; event = event; delivery = delivers; spared = spared }

-- # Several

deliveries_append : (one two : List BoardEvent) → AreDeliveries one → AreDeliveries two → AreDeliveries (one ++ two)
deliveries_append [] two p q = q
deliveries_append (e ∷ es) two p q = (p.0, deliveries_append es two p.1 q)

pub delivered_both : (w v u : LaneWorld) → IsDelivered w v → IsDelivered v u → IsDelivered w u
delivered_both w v u one two = record {
  events = one.events ++ two.events;
  deliveries = deliveries_append one.events two.events one.deliveries two.deliveries;
  steps = subst (λ (es : List LaneEvent). AllSteps w es u) (sym (Rattle.std.proofs.lemmas.List.map-append (λ e. Plain e) one.events two.events))
      (lane_worlds.steps_append (map (λ e. Plain e) one.events) (map (λ e. Plain e) two.events) w v u one.steps two.steps);
}

pub part_both : (w v u : LaneWorld) → IsDelivered w v → IsDeliveredInPart v u → IsDeliveredInPart w u
part_both w v u one two = record {
  between = two.between;
  delivered = delivered_both w v two.between one two.delivered;
  event = two.event;
  delivery = two.delivery;
  spared = two.spared;
}

-- some deliveries and then others
pub settles_both : (one two : Bool) (w v u : LaneWorld) → Settles one w v → Settles two v u → Settles (one || two) w u
settles_both true two w v u p q = record {
  delivered = delivered_both w v u p.delivered q.delivered;
  lighter = λ some. let first = p.lighter refl in let then_less = no_heavier two v u q in omega arith;
  same_star = λ none. absurd (cc);
  same_sites = λ none. absurd (cc);
}
  where
    no_heavier : (b : Bool) (x y : LaneWorld) → Settles b x y → weight (messages_of y) ≤ weight (messages_of x)
    no_heavier true x y s = let less = s.lighter refl in omega arith
    no_heavier false x y s = let same = delivering.same_weight (messages_of x) (messages_of y) (s.same_star refl) (s.same_sites refl) in omega arith
settles_both false two w v u p q = record {
  delivered = delivered_both w v u p.delivered q.delivered;
  lighter = λ some. let less = q.lighter some in let same = delivering.same_weight (messages_of w) (messages_of v) (p.same_star refl) (p.same_sites refl) in omega arith;
  same_star = λ none. q.same_star none ∙ p.same_star refl;
  same_sites = λ none. q.same_sites none ∙ p.same_sites refl;
}

-- # What a delivery answers does not depend on the events before it

up_alike : (w v : BoardWorld) (i : ℕ) (l : BoardLink) (us : List (Up BoardBatch)) → v.star ≡ w.star → (first_up board_batches v i l us).reply ≡ (first_up board_batches w i l us).reply
up_alike w v i l [] e = refl
up_alike w v i l (up ∷ us) e = (λ j. (up_outcome board_batches v i l up (up_fault board_batches (e j) l up)).reply) ∙ cases (up_fault board_batches w.star l up)
  where
    cases : (f : Option StarFault) → (up_outcome board_batches v i l up f).reply ≡ (up_outcome board_batches w i l up f).reply
    cases None = (λ j. place_reply board_batches (place_taken board_batches (e j) up))
    cases (Some fault) = refl

down_alike : (w v : BoardWorld) (i : ℕ) (a : BoardAttached) (ds os : List (Down BoardBatch)) → (first_down board_batches v i a ds os).reply ≡ (first_down board_batches w i a ds os).reply
down_alike w v i a (d ∷ ds) os = cases (deliver_fault board_batches d a.site)
  where
    cases : (f : Option SiteFault) → (down_outcome board_batches v i 0 d ds f).reply ≡ (down_outcome board_batches w i 0 d ds f).reply
    cases None = refl
    cases (Some fault) = refl
down_alike w v i a [] (d ∷ os) = cases (deliver_fault board_batches d a.site)
  where
    cases : (f : Option SiteFault) → (down_outcome board_batches v i 1 d [] f).reply ≡ (down_outcome board_batches w i 1 d [] f).reply
    cases None = refl
    cases (Some fault) = refl
down_alike w v i a [] [] = refl

at_alike : (w v : BoardWorld) (i : ℕ) (f g : BoardLink → BoardAttached → Outcome board_batches) → v.star ≡ w.star → v.sites ≡ w.sites → ((l : BoardLink) (a : BoardAttached) → (f l a).reply ≡ (g l a).reply)
    → (at_number board_batches v i f).reply ≡ (at_number board_batches w i g).reply
at_alike w v i f g e p same = (λ j. (at_linked board_batches v i f (link_of i (e j).links)).reply) ∙ linked (link_of i w.star.links)
  where
    there : (l : BoardLink) (oa : Option BoardAttached) → (at_attached board_batches v l f oa).reply ≡ (at_attached board_batches w l g oa).reply
    there l None = refl
    there l (Some a) = same l a

    linked : (ol : Option BoardLink) → (at_linked board_batches v i f ol).reply ≡ (at_linked board_batches w i g ol).reply
    linked None = refl
    linked (Some l) = (λ j. (at_attached board_batches v l f (attached i (p j))).reply) ∙ there l (attached i w.sites)

pub alike : (w v : BoardWorld) (way : Way) (i : ℕ) → v.star ≡ w.star → v.sites ≡ w.sites → (outcome board_batches v (way_event way i)).reply ≡ (outcome board_batches w (way_event way i)).reply
alike w v WayUp i e p = at_alike w v i _ _ e p (λ l a. up_alike w v i l a.up e)
alike w v WayDown i e p = at_alike w v i _ _ e p (λ l a. down_alike w v i a a.down l.outbox)

-- so what moves nothing before moves nothing after deliveries that moved nothing
pub moves_none : (w v : BoardWorld) (way : Way) (i : ℕ) → v.star ≡ w.star → v.sites ≡ w.sites → MovesNothing way i v → MovesNothing way i w
moves_none w v way i e p none a found = sym (alike w v way i e p) ∙ none a (ap (attached i) p ∙ found)

-- # Rounds

pub way_delivers : (way : Way) (i : ℕ) → IsDelivery (way_event way i)
way_delivers WayUp i = tt
way_delivers WayDown i = tt

-- a round in which nothing moved leaves a quiet world
pub round_quiet : (w v u : LaneWorld) → IsWorld (messages_of u) → Settles false w v → Settles false v u → NothingMoves WayUp (messages_of w) → NothingMoves WayDown (messages_of v)
    → IsQuiet board_batches (messages_of u)
round_quiet w v u is one two up down =
    delivering.nothing_quiet board_batches batch_laws most_batches (messages_of u) is.board.sound
    (λ i a found. (
      moves_none (messages_of u) (messages_of w) WayUp i (sym (two.same_star refl ∙ one.same_star refl)) (sym (two.same_sites refl ∙ one.same_sites refl)) (up i) a found,
      moves_none (messages_of u) (messages_of v) WayDown i (sym (two.same_star refl)) (sym (two.same_sites refl)) (down i) a found,
    ))

pub keeps_delivered : (w v : LaneWorld) → IsLaneWorld w → IsDelivered w v → IsLaneWorld v
keeps_delivered w v is some = lane_worlds.steps_keep (map (λ e. Plain e) some.events) w v is some.steps

order_delivered : (w v : LaneWorld) → IsLaneWorld w → IsDelivered w v → OrderIsKept board_batches (messages_of w) (messages_of v)
order_delivered w v is some = lane_worlds.steps_order (map (λ e. Plain e) some.events) w v is some.steps

order_in_part : (w v : LaneWorld) → IsLaneWorld w → IsDeliveredInPart w v → OrderIsKept board_batches (messages_of w) (messages_of v)
order_in_part w v is some =
    lane_worlds.spared_order (map (λ e. Plain e) some.delivered.events) w some.between v (Plain some.event) is some.delivered.steps (keeps_delivered w some.between is some.delivered).world some.spared

-- at the sites so far, and at one more
pub next_none : (w v : LaneWorld) (way : Way) (n : ℕ) (one two : Bool) → Settles one w v → (IsFalse one → (i : ℕ) → 1 ≤ i → i ≤ n → MovesNothing way i (messages_of w)) → (IsFalse two → MovesNothing way (n + 1) (messages_of v))
    → IsFalse (one || two) → (i : ℕ) → 1 ≤ i → i ≤ n + 1 → MovesNothing way i (messages_of w)
next_none w v way n one two settles before next none i low high = cases (nat_eq i (n + 1)) refl
  where
    both : (one ≡ false) × (two ≡ false)
    both = or_parts one two none

    cases : (b : Bool) → nat_eq i (n + 1) ≡ b → MovesNothing way i (messages_of w)
    cases true e = moves_none (messages_of w) (messages_of v) way i (settles.same_star both.0) (settles.same_sites both.0) (subst (λ k. MovesNothing way k (messages_of v)) (sym (eqb-true i (n + 1) e)) (next both.1))
    cases false e = let other = eqb-false i (n + 1) e in before both.0 i low (omega (arith, other))

-- a site with its messages is one with its bytes
from_messages : (i : ℕ) (sites : List LaneSite) (a : BoardAttached) → attached i (map messages_at sites) ≡ Some a → (b : LaneSite) × (lane_site i sites ≡ Some b)
from_messages i sites a found = there (lane_site i sites) refl
  where
    there : (o : Option LaneSite) → lane_site i sites ≡ o → (b : LaneSite) × (lane_site i sites ≡ Some b)
    there None e = absurd (let f = lane_worlds.messages_found i sites in cc)
    there (Some b) e = (b, e)

-- if the site is not attached
pub map_some : {A B : Type 0} (f : A → B) (o : Option A) → is_some (option_map f o) ≡ is_some o
map_some f None = refl
map_some f (Some x) = refl

pub absent_moves : (w : LaneWorld) (way : Way) (i : ℕ) → is_some (lane_site i w.sites) ≡ false → MovesNothing way i (messages_of w)
absent_moves w way i none a found = let b = from_messages i w.sites a found in let there = ap is_some b.1 in absurd (cc)

-- at all
pub none_moves : (w : LaneWorld) (way : Way) (last : ℕ) → ((i : ℕ) (a : LaneSite) → lane_site i w.sites ≡ Some a → (1 ≤ i) × (i ≤ last)) → ((i : ℕ) → 1 ≤ i → i ≤ last → MovesNothing way i (messages_of w))
    → NothingMoves way (messages_of w)
none_moves w way last within each i a found =
    let b = from_messages i w.sites a found in
    let low = within i b.0 b.1 in
    each i low.0 low.1 a found

-- # The last number

-- the last of some sites
abbrev last_of : Attached → List Attached → Attached
last_of x [] = x
last_of x (y ∷ ys) = last_of y ys

last_get : (x : Attached) (xs : List Attached) → slice_get (x ∷ xs) (length xs) ≡ Some (last_of x xs)
last_get x [] = refl
last_get x (y ∷ ys) = last_get y ys

-- its number is above all others
last_over : (low most : ℕ) (x : Attached) (xs : List Attached) → AreAscending low most (map bare_attached (x ∷ xs)) → low < (last_of x xs).site.number
last_over low most x [] up = up.0
last_over low most x (y ∷ ys) up = let rest = last_over x.site.number most y ys up.1 in let here = up.0 in omega arith

last_above : (i least most : ℕ) (a : BoardAttached) (x : Attached) (xs : List Attached) → AreAscending least most (map bare_attached (x ∷ xs)) → attached i (map bare_attached (x ∷ xs)) ≡ Some a
    → i ≤ (last_of x xs).site.number
last_above i least most a x [] up found = (found_bounds i least x.site.number a (bare_attached x ∷ []) (up.0, le_refl _) found).1
last_above i least most a x (y ∷ ys) up found = step (nat_eq x.site.number i) refl (last_above i x.site.number most a y ys up.1) found
  where
    step : (b : Bool) → nat_eq x.site.number i ≡ b → (attached i (map bare_attached (y ∷ ys)) ≡ Some a → i ≤ (last_of y ys).site.number)
        → cond b (Some (bare_attached x)) (attached i (map bare_attached (y ∷ ys))) ≡ Some a → i ≤ (last_of y ys).site.number
    step true e rest h = let same : x.site.number ≡ i = eqb-true _ _ e in let over = last_over x.site.number most y ys up.1 in omega arith
    step false e rest h = rest h

-- the number of each site that is found is between 1 and that of the last
within_last : (most : ℕ) (sites : List Attached) (e : Attached) → AreAscending 0 most (map bare_attached sites) → Some e ≡ slice_get sites (length sites - 1)
    → (i : ℕ) (a : BoardAttached) → attached i (map bare_attached sites) ≡ Some a → (1 ≤ i) × (i ≤ e.site.number)
within_last most [] e up is i a found = absurd (cc)
within_last most (x ∷ xs) e up is i a found =
    let count : length (x ∷ xs) - 1 ≡ length xs = omega arith in
    let last : Some e ≡ Some (last_of x xs) = is ∙ ap (slice_get (x ∷ xs)) count ∙ last_get x xs in
    let same : e ≡ last_of x xs = cc in
    let low = (found_bounds i 0 most a (map bare_attached (x ∷ xs)) up found).0 in
    (omega arith, subst (λ (z : Attached). i ≤ z.site.number) (sym same) (last_above i 0 most a x xs up found))

-- so with its bytes
pub within_lanes : (most : ℕ) (sites : List Attached) (e : Attached) → AreAscending 0 most (map bare_attached sites) → Some e ≡ slice_get sites (length sites - 1)
    → (i : ℕ) (a : LaneSite) → lane_site i (map lane_of sites) ≡ Some a → (1 ≤ i) × (i ≤ e.site.number)
within_lanes most sites e up is i a found =
    within_last most sites e up is i (messages_at a)
    (ap (attached i) (sym (messages_map sites)) ∙ lane_worlds.messages_found i (map lane_of sites) ∙ ap (option_map messages_at) found)

-- # The last of some deliveries

-- one moved a message
pub settles_then : (one two : Bool) (w v u : LaneWorld) → Settles one w v → Settles two v u → two ≡ true → Settles true w u
settles_then one two w v u p q moved = subst (λ b. Settles b w u) (either_moved one two moved) (settles_both one two w v u p q)
  where
    either_moved : (a b : Bool) → b ≡ true → (a || b) ≡ true
    either_moved true b e = refl
    either_moved false b e = e

-- none did
pub settles_last : (one two : Bool) (w v u : LaneWorld) → Settles one w v → Settles two v u → two ≡ false → Settles one w u
settles_last one two w v u p q none = subst (λ b. Settles b w u) (same one two none) (settles_both one two w v u p q)
  where
    same : (a b : Bool) → b ≡ false → (a || b) ≡ a
    same true b e = refl
    same false b e = e

-- # Order kept, whatever the answer

pub order_drained : (w v : LaneWorld) (r : Result (Unit {0}) NoMemory) → IsLaneWorld w → OnOk r (IsDelivered w v) → OnErr r (IsDeliveredInPart w v) → OrderIsKept board_batches (messages_of w) (messages_of v)
order_drained w v (Ok x) is delivered part = order_delivered w v is delivered
order_drained w v (Err fault) is delivered part = order_in_part w v is part

-- a world in which no message is on its way has no byte there
pub still_drained : (w v : LaneWorld) (r : Result (Unit {0}) NoMemory) → IsLaneWorld w → OnOk r (IsDelivered w v) → OnOk r (IsQuiet board_batches (messages_of v)) → OnOk r (IsStill v)
still_drained w v (Ok x) is delivered quiet = (lane_worlds.still_quiet v (keeps_delivered w v is delivered).carry).1 quiet
still_drained w v (Err fault) is delivered quiet = tt

pub order_played : (w v : LaneWorld) (events : List LaneEvent) (r : Result (Unit {0}) Halted) → IsLaneWorld w → OnOk r (AllSteps w events v)
    → IfErr r (λ halted. IsHalted w events halted.done v) → OrderIsKept board_batches (messages_of w) (messages_of v)
order_played w v events (Ok x) is played halted = lane_worlds.steps_order events w v is played
order_played w v events (Err fault) is played halted =
    lane_worlds.spared_order (take fault.done events) w halted.between v halted.event is halted.steps (lane_worlds.steps_keep (take fault.done events) w halted.between is halted.steps).world halted.spared

-- Each delivery of a drain belongs to its round.

-- one delivery, and what it says
pub delivery_told : (way : Way) (i : ℕ) (w v : LaneWorld) (reply : Reply BoardEdits EditFault) (nothing : Bool) → Steps w (Plain (way_event way i)) v
    → reply ≡ (outcome board_batches (messages_of w) (way_event way i)).reply → (IsTrue nothing ↔ (reply ≡ Nothing)) → Delivers way i (not nothing) w v
delivery_told way i w v reply nothing step tells test = record { step = step; nothing = (still nothing test.0, none nothing test.1) }
  where
    still : (b : Bool) → (IsTrue b → reply ≡ Nothing) → IsFalse (not b) → (outcome board_batches (messages_of w) (way_event way i)).reply ≡ Nothing
    still true is e = sym tells ∙ is refl
    still false is e = absurd cc

    none : (b : Bool) → (reply ≡ Nothing → IsTrue b) → (outcome board_batches (messages_of w) (way_event way i)).reply ≡ Nothing → IsFalse (not b)
    none true is e = refl
    none false is e = absurd (let h = is (tells ∙ e) in cc)

-- deliveries that each moved a message, and whether there was one
abbrev pub Moves : Way → ℕ → Bool → LaneWorld → LaneWorld → Type 0
Moves way i moved w v = (n : ℕ) × (moved ≡ nat_lt 0 n) × Repeats (Delivers way i true) n w v

-- one more
pub moves_more : (way : Way) (i : ℕ) (before now : Bool) (w u v : LaneWorld) → Moves way i before w u → Delivers way i now u v → now ≡ true → Moves way i true w v
moves_more way i before now w u v moves delivers is = (suc moves.0, sym (lt-ltb 0 (suc moves.0) (omega arith)), (u, moves.2, subst (λ b. Delivers way i b u v) is delivers))

-- and the last
pub visit_ends : (way : Way) (i : ℕ) (moved now : Bool) (o : Option LaneSite) (w u v : LaneWorld) → is_some o ≡ true → Moves way i moved w u → Delivers way i now u v → now ≡ false
    → Visits way i moved o w v
visit_ends way i moved now None w u v there moves delivers is = absurd cc
visit_ends way i moved now (Some a) w u v there moves delivers is =
    record { count = moves.0; last = u; some = moves.1; moves = moves.2; ends = subst (λ b. Delivers way i b u v) is delivers }

-- a site that is not attached
pub visit_absent : (way : Way) (i : ℕ) (o : Option LaneSite) (w : LaneWorld) → is_some o ≡ false → Visits way i false o w w
visit_absent way i None w absent = (refl, refl)
visit_absent way i (Some a) w absent = absurd cc

-- one more number
pub pass_more : (way : Way) (n : ℕ) (before here : Bool) (w u v : LaneWorld) → Passes way n before w u → Visits way (n + 1) here (lane_site (n + 1) u.sites) u v → Passes way (n + 1) (before || here) w v
pass_more way n before here w u v passes visits =
    let next : n + 1 ≡ suc n = omega arith in
    subst (λ k. Passes way k (before || here) w v) (sym next) (before, here, u, refl, passes, subst (λ k. Visits way k here (lane_site k u.sites) u v) next visits)

-- rounds that each moved a message
abbrev pub Rounds : LaneWorld → LaneWorld → Type 0
Rounds w v = (n : ℕ) × Repeats (IsRound true) n w v

pub rounds_more : (moved : Bool) (w u v : LaneWorld) → Rounds w u → IsRound moved u v → moved ≡ true → Rounds w v
rounds_more moved w u v rounds round is = (suc rounds.0, (u, rounds.1, subst (λ b. IsRound b u v) is round))
