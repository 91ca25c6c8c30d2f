-- What worlds of bytes keep.
use Rattle.std.proofs.Common.{◌≡◌, ◌↔◌, ◌⊎◌, ℕ, Bool, true, false, cond, List, [], ◌∷◌, ◌++◌, length, map, take, drop, nat_eq, Option, Some, None, option_map, refl, sym, ap, subst, inl, inr, ◌∙◌, append-nil, append_assoc, ◌<◌, arith, ◌+◌, get_or}
use Rattle.std.proofs.Math.Seq.{drop-append_seam, take-append_seam}
use Rattle.std.proofs.lemmas.List.{take_more, take-map, map-append}
use Rattle.std.proofs.lemmas.Option.{slice_get-map, slice_get-get_or}
use Rattle.jup_world.specs.Prelude.{board_batches, BoardBatch, batch_laws, Down, link_of, most_batches, fetched, BoardStar, BoardSite, ups_laws, downs_laws, Attached}
use Rattle.jup_lane.specs.Lanes.{Codec, bytes_of_all, ups, downs, Way, messages, Carries}
use Rattle.jup_lane.proofs.Lanes.{idle, idle_none}
use Rattle.jup_world.specs.Events.{Join, Leave, Edit as MakeEdit, Up as MoveUp, Down as MoveDown, Ping as SendPing, JoinStray, Stray, LeaveStray}
use Rattle.jup_world.specs.Worlds.{attached, IsQuiet, run, only_fetched, is_number, at_site, Outcome, with_fetched}
use Rattle.jup_world.specs.Boards.{BoardWorld, BoardLink, BoardEvent, BoardReply, BoardAttached}
use Rattle.jup_world.specs.Happenings.{IsWorld, IsSpared, IsLaneWorld, LanePlays, AreRead, SitesRest, LaneSpares}
use Rattle.jup_world.specs.Lanes.{LaneEvent, Plain, PushUp, PushDown, Noted, LaneSite, LaneWorld, messages_at, plain_happened, plain_trace, messages_of, lane_site, AllCarry, IsStill, filled_from, filled_for, messages_after, Steps, AllSteps, Rests, TouchesDown, IsSparedBy, AllTried, lane_outcome, AnswersTo, IsHalted}
use Rattle.jup_world.specs.Sound as soundness
use Rattle.jup_world.specs.Traces.{OrderIsKept}
use Rattle.jup_world.specs.Insides.{lane_of, bare_attached}
use Rattle.jup_world.proofs.Worlds as world_laws
use Rattle.jup_site.proofs.Numbers.{either}
use Rattle.jup_site.proofs.Follows as following
use Rattle.jup_world.proofs.Orders as orders
use Rattle.jup_world.proofs.Sound.Runs.{replies}
use Rattle.jup_world.proofs.Lanes.Sites.{messages_map}

-- A world of bytes keeps what the world of its messages keeps.

-- # What determines bytes

-- the messages, and how many of their bytes were read, determine all bytes of a way
pub ways_determined : {Message : Type 0} (C : Codec Message) (w v : Way) → Carries C w → Carries C v → messages C w ≡ messages C v → length w.read ≡ length v.read → w ≡ v
ways_determined C w v cw cv same count =
    let e : w.read ++ w.stream ≡ v.read ++ v.stream = cw.bytes ∙ ap (λ ms. bytes_of_all C ms) same ∙ sym cv.bytes in
    let read : w.read ≡ v.read = sym (take-append_seam w.read w.stream) ∙ ap (λ k. take k (w.read ++ w.stream)) count ∙ ap (take (length v.read)) e ∙ take-append_seam v.read v.stream in
    let stream : w.stream ≡ v.stream = sym (drop-append_seam w.read w.stream) ∙ ap (λ k. drop k (w.read ++ w.stream)) count ∙ ap (drop (length v.read)) e ∙ drop-append_seam v.read v.stream in
    λ j. record { read = read j; stream = stream j }

-- # Sites

-- the site of a number, with its messages
pub messages_found : (i : ℕ) (sites : List LaneSite) → attached i (map messages_at sites) ≡ option_map messages_at (lane_site i sites)
messages_found i [] = refl
messages_found i (a ∷ sites) = step (nat_eq a.site.number i) (messages_found i sites)
  where
    step : (b : Bool) → attached i (map messages_at sites) ≡ option_map messages_at (lane_site i sites) → cond b (Some (messages_at a)) (attached i (map messages_at sites)) ≡ option_map messages_at (cond b (Some a) (lane_site i sites))
    step true later = refl
    step false later = later

pub carry_at : (i : ℕ) (sites : List LaneSite) (a : LaneSite) → AllCarry sites → lane_site i sites ≡ Some a → Carries ups a.up × Carries downs a.down
carry_at i [] a all e = absurd (cc)
carry_at i (b ∷ sites) a all e = step (nat_eq b.site.number i) (carry_at i sites a all.2) e
  where
    step : (t : Bool) → (lane_site i sites ≡ Some a → Carries ups a.up × Carries downs a.down) → cond t (Some b) (lane_site i sites) ≡ Some a → Carries ups a.up × Carries downs a.down
    step true later e = let same : b ≡ a = cc in subst (λ (c : LaneSite). Carries ups c.up × Carries downs c.down) same (all.0, all.1)
    step false later e = later e

-- # Quiet

-- no byte is on its way exactly if no message is
pub still_quiet : (w : LaneWorld) → AllCarry w.sites → IsStill w ↔ IsQuiet board_batches (messages_of w)
still_quiet w all = (to, from)
  where
    to : IsStill w → IsQuiet board_batches (messages_of w)
    to still i l b fl fb = at (lane_site i w.sites) refl
      where
        at : (o : Option LaneSite) → lane_site i w.sites ≡ o → (b.up ≡ []) × (b.down ≡ []) × (l.outbox ≡ [])
        at None e = absurd (let f = messages_found i w.sites in cc)
        at (Some a) e =
            let f = messages_found i w.sites in
            let same : messages_at a ≡ b = cc in
            let none = still i l a fl e in
            let c = carry_at i w.sites a all e in
            (ap (λ x. x.up) (sym same) ∙ idle_none ups ups_laws a.up c.0 none.0, ap (λ x. x.down) (sym same) ∙ idle_none downs downs_laws a.down c.1 none.1, none.2)

    from : IsQuiet board_batches (messages_of w) → IsStill w
    from quiet i l a fl fa =
        let f : attached i (map messages_at w.sites) ≡ Some (messages_at a) = messages_found i w.sites ∙ ap (option_map messages_at) fa in
        let none = quiet i l (messages_at a) fl f in
        let c = carry_at i w.sites a all fa in
        (idle ups ups_laws a.up c.0 none.0, idle downs downs_laws a.down c.1 none.1, none.2)

-- # Traces

pub plain-append : (t s : List Noted) → plain_trace (t ++ s) ≡ plain_trace t ++ plain_trace s
plain-append [] s = refl
plain-append (h ∷ t) s = ap (λ hs. plain_happened h.event h.reply ++ hs) (plain-append t s) ∙ sym (append_assoc (plain_happened h.event h.reply) (plain_trace t) (plain_trace s))

-- an event that is noted
pub plain-noted : (t : List Noted) (event : LaneEvent) (reply : BoardReply) → plain_trace (t ++ record { event = event; reply = reply } ∷ []) ≡ plain_trace t ++ plain_happened event reply
plain-noted t event reply = plain-append t _ ∙ ap (λ hs. plain_trace t ++ hs) (append-nil (plain_happened event reply))

-- # Steps

-- an empty down stream that is filled leaves what a failed allocation may leave
pub filled_spared : (w : LaneWorld) (i : ℕ) → IsSpared (messages_of w) (filled_for (messages_of w) i (link_of i w.star.links) (lane_site i w.sites))
filled_spared w i = cases (link_of i w.star.links) refl (lane_site i w.sites) refl
  where
    from : (l : BoardLink) → link_of i w.star.links ≡ Some l → (a : LaneSite) → lane_site i w.sites ≡ Some a → (stream : List ℕ) (outbox : List (Down BoardBatch))
        → IsSpared (messages_of w) (filled_from (messages_of w) i l stream outbox)
    from l fl a fa [] [] = inl refl
    from l fl a fa [] (d ∷ os) = inr (i, l, messages_at a, fl, messages_found i w.sites ∙ ap (option_map messages_at) fa, refl)
    from l fl a fa (b ∷ stream) os = inl refl

    cases : (ol : Option BoardLink) → link_of i w.star.links ≡ ol → (oa : Option LaneSite) → lane_site i w.sites ≡ oa → IsSpared (messages_of w) (filled_for (messages_of w) i ol oa)
    cases None fl None fa = inl refl
    cases None fl (Some a) fa = inl refl
    cases (Some l) fl None fa = inl refl
    cases (Some l) fl (Some a) fa = from l fl a fa a.down.stream l.outbox

-- the messages after a push: it adds nothing to their trace
pub after_up : (w : LaneWorld) (i n : ℕ) → messages_after w (PushUp i n) ≡ messages_of w
after_up w i n = λ j. record { opening = w.opening; star = w.star; sites = map messages_at w.sites; trace = append-nil (plain_trace w.trace) j }

pub after_down : (w : LaneWorld) (i n : ℕ) → messages_after w (PushDown i n) ≡ filled_for (messages_of w) i (link_of i w.star.links) (lane_site i w.sites)
after_down w i n = cases (link_of i w.star.links) (lane_site i w.sites)
  where
    after : BoardWorld → BoardWorld
    after m = record { opening = w.opening; star = m.star; sites = m.sites; trace = plain_trace w.trace ++ [] }

    kept : (m : BoardWorld) → m.opening ≡ w.opening → m.trace ≡ plain_trace w.trace → after m ≡ m
    kept m o t = λ j. record { opening = sym o j; star = m.star; sites = m.sites; trace = (append-nil (plain_trace w.trace) ∙ sym t) j }

    from : (l : BoardLink) (stream : List ℕ) (outbox : List (Down BoardBatch)) → after (filled_from (messages_of w) i l stream outbox) ≡ filled_from (messages_of w) i l stream outbox
    from l [] [] = kept (messages_of w) refl refl
    from l [] (d ∷ os) = kept (only_fetched board_batches (messages_of w) i 1 l) refl refl
    from l (b ∷ stream) os = kept (messages_of w) refl refl

    cases : (ol : Option BoardLink) (oa : Option LaneSite) → after (filled_for (messages_of w) i ol oa) ≡ filled_for (messages_of w) i ol oa
    cases None None = kept (messages_of w) refl refl
    cases None (Some a) = kept (messages_of w) refl refl
    cases (Some l) None = kept (messages_of w) refl refl
    cases (Some l) (Some a) = from l a.down.stream l.outbox

-- so a push leaves what a failed allocation may leave
pub pushed_spared : (w : LaneWorld) (i n : ℕ) → IsSpared (messages_of w) (messages_after w (PushDown i n))
pushed_spared w i n = subst (IsSpared (messages_of w)) (sym (after_down w i n)) (filled_spared w i)

-- what holds of the world of messages holds of it after a step
pub after_keeps : (w : LaneWorld) (event : LaneEvent) → IsWorld (messages_of w) → IsWorld (messages_after w event)
after_keeps w (Plain event) is = world_laws.world_happens (messages_of w) event is
after_keeps w (PushUp i n) is = subst IsWorld (sym (after_up w i n)) is
after_keeps w (PushDown i n) is = world_laws.world_spared (messages_of w) (messages_after w (PushDown i n)) is (pushed_spared w i n)

pub step_keeps : (w : LaneWorld) (event : LaneEvent) (v : LaneWorld) → IsLaneWorld w → Steps w event v → IsLaneWorld v
step_keeps w event v is step = record { world = subst IsWorld (sym step.messages) (after_keeps w event is.world); carry = step.carry }

pub steps_keep : (events : List LaneEvent) (w v : LaneWorld) → IsLaneWorld w → AllSteps w events v → IsLaneWorld v
steps_keep [] w v is same = subst IsLaneWorld (sym same) is
steps_keep (e ∷ es) w v is next = steps_keep es next.0 v (step_keeps w e next.0 is next.1) next.2

-- # Several steps

pub steps_append : (one two : List LaneEvent) (w v u : LaneWorld) → AllSteps w one v → AllSteps v two u → AllSteps w (one ++ two) u
steps_append [] two w v u first more = subst (λ (x : LaneWorld). AllSteps x two u) first more
steps_append (e ∷ es) two w v u first more = (first.0, first.1, steps_append es two first.0 v u first.2 more)

pub steps_more : (w v u : LaneWorld) (events : List LaneEvent) (e : LaneEvent) → AllSteps w events v → Steps v e u → AllSteps w (events ++ e ∷ []) u
steps_more w v u events e first step = steps_append events (e ∷ []) w v u first (u, step, refl)

-- plain ones are a run of the world of messages
pub steps_run : (events : List BoardEvent) (w v : LaneWorld) → AllSteps w (map (λ e. Plain e) events) v → messages_of v ≡ run board_batches (messages_of w) events
steps_run [] w v same = ap messages_of same
steps_run (e ∷ es) w v next = steps_run es next.0 v next.2 ∙ ap (λ m. run board_batches m es) next.1.messages

-- # A failed allocation

pub rests_spared : (w v : LaneWorld) (event : LaneEvent) → Rests w event v → IsSpared (messages_of w) (messages_of v)
rests_spared w v event rests = spared rests.messages
  where
    spared : (messages_of v ≡ messages_of w)
        ⊎ ((i : ℕ) × (l : BoardLink) × (a : LaneSite) × TouchesDown event i × (link_of i w.star.links ≡ Some l) × (lane_site i w.sites ≡ Some a)
        × (messages_of v ≡ only_fetched board_batches (messages_of w) i 1 l)) → IsSpared (messages_of w) (messages_of v)
    spared (inl same) = inl same
    spared (inr f) = inr (f.0, f.1, messages_at f.2, f.4, messages_found f.0 w.sites ∙ ap (option_map messages_at) f.5, f.6)

-- of the messages it left what it leaves in a world of messages
pub spared_messages : (w v : LaneWorld) (event : LaneEvent) → IsSparedBy w event v → IsSpared (messages_of w) (messages_of v)
spared_messages w v (Plain Join) same = inl (ap messages_of same)
spared_messages w v (Plain (Leave i)) same = inl (ap messages_of same)
spared_messages w v (Plain (MakeEdit i command)) same = inl (ap messages_of same)
spared_messages w v (Plain (MoveUp i)) rests = rests_spared w v (Plain (MoveUp i)) rests
spared_messages w v (Plain (MoveDown i)) rests = rests_spared w v (Plain (MoveDown i)) rests
spared_messages w v (Plain (SendPing i k)) same = inl (ap messages_of same)
spared_messages w v (Plain JoinStray) same = inl (ap messages_of same)
spared_messages w v (Plain (Stray i up)) same = inl (ap messages_of same)
spared_messages w v (Plain (LeaveStray i)) same = inl (ap messages_of same)
spared_messages w v (PushUp i n) same = inl (ap messages_of same)
spared_messages w v (PushDown i n) rests = rests_spared w v (PushDown i n) rests

spared_carry : (w v : LaneWorld) (event : LaneEvent) → AllCarry w.sites → IsSparedBy w event v → AllCarry v.sites
spared_carry w v (Plain Join) all same = subst (λ (u : LaneWorld). AllCarry u.sites) (sym same) all
spared_carry w v (Plain (Leave i)) all same = subst (λ (u : LaneWorld). AllCarry u.sites) (sym same) all
spared_carry w v (Plain (MakeEdit i command)) all same = subst (λ (u : LaneWorld). AllCarry u.sites) (sym same) all
spared_carry w v (Plain (MoveUp i)) all rests = rests.carry
spared_carry w v (Plain (MoveDown i)) all rests = rests.carry
spared_carry w v (Plain (SendPing i k)) all same = subst (λ (u : LaneWorld). AllCarry u.sites) (sym same) all
spared_carry w v (Plain JoinStray) all same = subst (λ (u : LaneWorld). AllCarry u.sites) (sym same) all
spared_carry w v (Plain (Stray i up)) all same = subst (λ (u : LaneWorld). AllCarry u.sites) (sym same) all
spared_carry w v (Plain (LeaveStray i)) all same = subst (λ (u : LaneWorld). AllCarry u.sites) (sym same) all
spared_carry w v (PushUp i n) all same = subst (λ (u : LaneWorld). AllCarry u.sites) (sym same) all
spared_carry w v (PushDown i n) all rests = rests.carry

pub spared_keeps : (w v : LaneWorld) (event : LaneEvent) → IsLaneWorld w → IsSparedBy w event v → IsLaneWorld v
spared_keeps w v event is spared = record {
  world = world_laws.world_spared (messages_of w) (messages_of v) is.world (spared_messages w v event spared);
  carry = spared_carry w v event is.carry spared;
}

-- Over any steps, pushes among them, the star and each site keep the order of their items.

-- a world and a later one: what the star keeps, that a site that is gone stays gone, and what each site that is attached at both keeps
pub record Keeps (w v : BoardWorld) : Type 0 where
  pub star : following.Follows board_batches batch_laws w.star v.star
  pub gone : (j : ℕ) → attached j w.sites ≡ None → (w.star.given < j → ⊥) → attached j v.sites ≡ None
  pub sites : (j : ℕ) (a b : BoardAttached) → attached j w.sites ≡ Some a → attached j v.sites ≡ Some b → orders.SiteFollows board_batches batch_laws w v j a b

keeps_run : (events : List BoardEvent) (w : BoardWorld) → IsWorld w → Keeps w (run board_batches w events)
keeps_run events w is = record {
  star = orders.run-follows board_batches batch_laws events most_batches w is.board.sound;
  gone = λ j. orders.stays_gone board_batches batch_laws events most_batches w is.board.sound j;
  sites = λ j a b. orders.run_follows board_batches batch_laws events most_batches w is.board.sound j a b;
}

-- an empty down stream that is filled changes no site
keeps_fetched : (w : BoardWorld) (i : ℕ) (l : BoardLink) → Keeps w (only_fetched board_batches w i 1 l)
keeps_fetched w i l = record {
  star = following.follows-same board_batches batch_laws w.star (fetched i 1 w.star) (omega arith) refl refl;
  gone = λ j none old. either (attached j (only_fetched board_batches w i 1 l).sites) (λ o. o ≡ None) (λ is. refl)
      (λ b found. absurd (let was = before j b found in let there = was.1 in cc));
  sites = λ j a b fa fb.
      let was = before j b fb in
      let same : was.0 ≡ a = (let there = was.1 in cc) in
      let site : b.site ≡ a.site = was.2 ∙ ap (λ (x : BoardAttached). x.site) same in
      record {
        order = subst (λ (s : BoardSite). board_batches.t.keeps_order a.site.board s.board) (sym site) (batch_laws.keeps.order_self a.site.board);
        knows = λ n k. subst (λ (s : BoardSite). soundness.IsKnown board_batches (soundness.own_counts board_batches j s.named (λ m. soundness.named_by board_batches j m (orders.told_turns board_batches batch_laws w j))) n) (sym site) k;
        none_back = λ n k held. subst (λ (s : BoardSite). board_batches.t.holds s.board n) site held;
      };
}
  where
    same_site : (c : Bool) (x : BoardAttached) → (cond c (with_fetched board_batches 1 l x) x).site ≡ x.site
    same_site true x = refl
    same_site false x = refl

    before : (j : ℕ) (b : BoardAttached) → attached j (only_fetched board_batches w i 1 l).sites ≡ Some b → (a : BoardAttached) × (attached j w.sites ≡ Some a) × (b.site ≡ a.site)
    before j b found = world_laws.kept_site (λ x. cond (is_number i x) (with_fetched board_batches 1 l x) x) (λ x. same_site (is_number i x) x) j b w.sites found

keeps_spared : (w v : BoardWorld) → IsWorld w → IsSpared w v → Keeps w v
keeps_spared w v is (inl same) = subst (Keeps w) (sym same) (keeps_run [] w is)
keeps_spared w v is (inr more) = subst (Keeps w) (sym more.5) (keeps_fetched w more.0 more.1)

-- one world after another
keeps_chain : (u v w : BoardWorld) → IsWorld u → Keeps u v → Keeps v w → Keeps u w
keeps_chain u v w is f g = record {
  star = following.follows-chain board_batches batch_laws u.star v.star w.star is.board.sound.star.star.board_known f.star g.star;
  gone = λ j none old. g.gone j (f.gone j none old) (later j old);
  sites = λ j a c fa fc.
      either (attached j v.sites) (λ o. orders.SiteFollows board_batches batch_laws u w j a c)
      (λ none. absurd (let gone = g.gone j none (later j (λ above. orders.given_before board_batches batch_laws most_batches u is.board.sound j a fa above)) in cc))
      (λ b fb. orders.follows_chain board_batches batch_laws u v w j a b c (orders.holds_known board_batches batch_laws most_batches u is.board.sound j a fa) (f.sites j a b fa fb) (g.sites j b c fb fc));
}
  where
    later : (j : ℕ) → (u.star.given < j → ⊥) → v.star.given < j → ⊥
    later j old above = let given = f.star.given in old (omega (arith, given, above))

-- # Steps

step_follows : (w : LaneWorld) (event : LaneEvent) (v : LaneWorld) → IsLaneWorld w → Steps w event v → Keeps (messages_of w) (messages_of v)
step_follows w event v is step = subst (Keeps (messages_of w)) (sym step.messages) (after event)
  where
    after : (e : LaneEvent) → Keeps (messages_of w) (messages_after w e)
    after (Plain e) = keeps_run (e ∷ []) (messages_of w) is.world
    after (PushUp i n) = subst (Keeps (messages_of w)) (sym (after_up w i n)) (keeps_run [] (messages_of w) is.world)
    after (PushDown i n) = keeps_spared (messages_of w) (messages_after w (PushDown i n)) is.world (pushed_spared w i n)

steps_follow : (events : List LaneEvent) (w v : LaneWorld) → IsLaneWorld w → AllSteps w events v → Keeps (messages_of w) (messages_of v)
steps_follow [] w v is same = subst (λ (u : LaneWorld). Keeps (messages_of w) (messages_of u)) (sym same) (keeps_run [] (messages_of w) is.world)
steps_follow (e ∷ es) w v is next =
    keeps_chain (messages_of w) (messages_of next.0) (messages_of v) is.world (step_follows w e next.0 is next.1) (steps_follow es next.0 v (step_keeps w e next.0 is next.1) next.2)

-- an event that happened, or was refused because an allocation failed, leaves a world
pub try_keeps : (w : LaneWorld) (event : LaneEvent) (v : LaneWorld) → IsLaneWorld w → Steps w event v ⊎ IsSparedBy w event v → IsLaneWorld v
try_keeps w event v is (inl step) = step_keeps w event v is step
try_keeps w event v is (inr spared) = spared_keeps w v event is spared

-- and so do events in turn
pub tried_keeps : (events : List LaneEvent) (w v : LaneWorld) → IsLaneWorld w → AllTried w events v → IsLaneWorld v
tried_keeps [] w v is same = subst IsLaneWorld (sym same) is
tried_keeps (e ∷ es) w v is next = tried_keeps es next.0 v (try_keeps w e next.0 is next.1) next.2

tried_follow : (events : List LaneEvent) (w v : LaneWorld) → IsLaneWorld w → AllTried w events v → Keeps (messages_of w) (messages_of v)
tried_follow [] w v is same = subst (λ (u : LaneWorld). Keeps (messages_of w) (messages_of u)) (sym same) (keeps_run [] (messages_of w) is.world)
tried_follow (e ∷ es) w v is next =
    keeps_chain (messages_of w) (messages_of next.0) (messages_of v) is.world (one next.1) (tried_follow es next.0 v (try_keeps w e next.0 is next.1) next.2)
  where
    one : Steps w e next.0 ⊎ IsSparedBy w e next.0 → Keeps (messages_of w) (messages_of next.0)
    one (inl step) = step_follows w e next.0 is step
    one (inr spared) = keeps_spared (messages_of w) (messages_of next.0) is.world (spared_messages w next.0 e spared)

order_of_keeps : (w v : BoardWorld) → Keeps w v → OrderIsKept board_batches w v
order_of_keeps w v kept = record { star = kept.star.order; sites = λ i a b fa fb. (kept.sites i a b fa fb).order }

-- a step keeps the order of items, and so do several steps, and an allocation that fails after some
pub step_order : (w : LaneWorld) (event : LaneEvent) (v : LaneWorld) → IsLaneWorld w → Steps w event v → OrderIsKept board_batches (messages_of w) (messages_of v)
step_order w event v is step = order_of_keeps (messages_of w) (messages_of v) (step_follows w event v is step)

pub steps_order : (events : List LaneEvent) (w v : LaneWorld) → IsLaneWorld w → AllSteps w events v → OrderIsKept board_batches (messages_of w) (messages_of v)
steps_order events w v is all = order_of_keeps (messages_of w) (messages_of v) (steps_follow events w v is all)

pub tried_order : (events : List LaneEvent) (w v : LaneWorld) → IsLaneWorld w → AllTried w events v → OrderIsKept board_batches (messages_of w) (messages_of v)
tried_order events w v is all = order_of_keeps (messages_of w) (messages_of v) (tried_follow events w v is all)

pub spared_order : (events : List LaneEvent) (w u v : LaneWorld) (event : LaneEvent) → IsLaneWorld w → AllSteps w events u → IsWorld (messages_of u) → IsSparedBy u event v → OrderIsKept board_batches (messages_of w) (messages_of v)
spared_order events w u v event is all there spared =
    order_of_keeps (messages_of w) (messages_of v)
    (keeps_chain (messages_of w) (messages_of u) (messages_of v) is.world (steps_follow events w u is all) (keeps_spared (messages_of u) (messages_of v) there (spared_messages u v event spared)))

-- What a step of the program does to its world of bytes.

-- a world after an event that was played
pub played_lanes : (w : LaneWorld) (event : LaneEvent) (reply : BoardReply) (t : BoardStar) (next : List Attached) (trace : List Noted) → LanePlays event w.star w.sites reply t (map bare_attached next)
    → AreRead event w.star w.sites (map lane_of next) → trace ≡ w.trace ++ record { event = event; reply = reply } ∷ [] → AllCarry w.sites
    → Steps w event (record { opening = w.opening; star = t; sites = map lane_of next; trace = trace })
played_lanes w event reply t next trace plays read more carry = record {
  messages =
      (λ k. record { opening = w.opening; star = t; sites = messages_map next k; trace = (ap plain_trace more ∙ plain-noted w.trace event reply) k })
      ∙ sym (ap after (plays w.opening w.trace));
  trace = more ∙ ap (λ (r : BoardReply). w.trace ++ record { event = event; reply = r } ∷ []) (sym (ap (λ (o : Outcome board_batches). o.reply) (plays w.opening w.trace)));
  carry = read.carry carry;
  up = read.up;
  down = read.down;
}
  where
    after : Outcome board_batches → BoardWorld
    after o = record { opening = w.opening; star = o.star; sites = o.sites; trace = plain_trace w.trace ++ plain_happened event o.reply }

-- its reply
pub played_reply : (w : LaneWorld) (event : LaneEvent) (reply : BoardReply) (t : BoardStar) (next : List Attached) → LanePlays event w.star w.sites reply t (map bare_attached next)
    → reply ≡ (lane_outcome w event).reply
played_reply w event reply t next plays = sym (ap (λ (o : Outcome board_batches). o.reply) (plays w.opening w.trace))

-- is what it should be
answered : (w : LaneWorld) (event : LaneEvent) → IsWorld (messages_of w) → AnswersTo w event (lane_outcome w event).reply
answered w (Plain event) is = replies board_batches batch_laws most_batches (messages_of w) is.board.sound event
answered w (PushUp i n) is = refl
answered w (PushDown i n) is = refl

pub played_answers : (w : LaneWorld) (event : LaneEvent) (reply : BoardReply) (t : BoardStar) (next : List Attached) → IsLaneWorld w → LanePlays event w.star w.sites reply t (map bare_attached next)
    → AnswersTo w event reply
played_answers w event reply t next is plays =
    subst (λ (r : BoardReply). AnswersTo w event r) (sym (played_reply w event reply t next plays)) (answered w event is.world)

-- a world after a failed allocation
rests : (w : LaneWorld) (event : LaneEvent) (t : BoardStar) (next : List LaneSite) (trace : List Noted) → SitesRest event w.star w.sites t next → trace ≡ w.trace → AllCarry w.sites
    → Rests w event (record { opening = w.opening; star = t; sites = next; trace = trace })
rests w event t next trace rest kept carry = record {
  opening = refl;
  trace = kept;
  messages = messages rest.messages;
  carry = rest.carry carry;
  up = rest.up;
  down = rest.down;
}
  where
    world : LaneWorld
    world = record { opening = w.opening; star = t; sites = next; trace = trace }

    messages : ((t ≡ w.star) × (map messages_at next ≡ map messages_at w.sites))
        ⊎ ((i : ℕ) × (l : BoardLink) × (a : LaneSite) × TouchesDown event i × (link_of i w.star.links ≡ Some l) × (lane_site i w.sites ≡ Some a)
        × (t ≡ fetched i 1 w.star) × (map messages_at next ≡ at_site i (with_fetched board_batches 1 l) (map messages_at w.sites)))
        → (messages_of world ≡ messages_of w)
        ⊎ ((i : ℕ) × (l : BoardLink) × (a : LaneSite) × TouchesDown event i × (link_of i w.star.links ≡ Some l) × (lane_site i w.sites ≡ Some a)
        × (messages_of world ≡ only_fetched board_batches (messages_of w) i 1 l))
    messages (inl same) = inl (λ j. record { opening = w.opening; star = same.0 j; sites = same.1 j; trace = plain_trace (kept j) })
    messages (inr f) = inr (f.0, f.1, f.2, f.3, f.4, f.5, λ j. record { opening = w.opening; star = f.6 j; sites = f.7 j; trace = plain_trace (kept j) })

stays : (w : LaneWorld) (t : BoardStar) (next : List LaneSite) (trace : List Noted) → (t ≡ w.star) × (next ≡ w.sites) → trace ≡ w.trace
    → ◌≡◌ {A = LaneWorld} (record { opening = w.opening; star = t; sites = next; trace = trace }) w
stays w t next trace same kept = λ j. record { opening = w.opening; star = same.0 j; sites = same.1 j; trace = kept j }

pub spared_lanes : (w : LaneWorld) (event : LaneEvent) (t : BoardStar) (next : List LaneSite) (trace : List Noted) → LaneSpares event w.star w.sites t next → trace ≡ w.trace → AllCarry w.sites
    → IsSparedBy w event (record { opening = w.opening; star = t; sites = next; trace = trace })
spared_lanes w (Plain Join) t next trace same kept carry = stays w t next trace same kept
spared_lanes w (Plain (Leave i)) t next trace same kept carry = stays w t next trace same kept
spared_lanes w (Plain (MakeEdit i command)) t next trace same kept carry = stays w t next trace same kept
spared_lanes w (Plain (MoveUp i)) t next trace rest kept carry = rests w (Plain (MoveUp i)) t next trace rest kept carry
spared_lanes w (Plain (MoveDown i)) t next trace rest kept carry = rests w (Plain (MoveDown i)) t next trace rest kept carry
spared_lanes w (Plain (SendPing i k)) t next trace same kept carry = stays w t next trace same kept
spared_lanes w (Plain JoinStray) t next trace same kept carry = stays w t next trace same kept
spared_lanes w (Plain (Stray i up)) t next trace same kept carry = stays w t next trace same kept
spared_lanes w (Plain (LeaveStray i)) t next trace same kept carry = stays w t next trace same kept
spared_lanes w (PushUp i n) t next trace same kept carry = stays w t next trace same kept
spared_lanes w (PushDown i n) t next trace rest kept carry = rests w (PushDown i n) t next trace rest kept carry

-- the next event of a list
pub steps_next : {E : Type 0} (f : E → LaneEvent) (w v u : LaneWorld) (events : List E) (n : ℕ) (e : E) → n < length events → e ≡ get_or events n e
    → AllSteps w (map f (take n events)) v → Steps v (f e) u → AllSteps w (map f (take (n + 1) events)) u
steps_next f w v u events n e below is before step =
    subst (λ (es : List LaneEvent). AllSteps w es u)
    (sym (ap (map f) (take_more events n e below ∙ ap (λ x. take n events ++ x ∷ []) (sym is)) ∙ map-append f (take n events) (e ∷ [])))
    (steps_more w v u (map f (take n events)) (f e) before step)

-- an allocation failed at the next
pub halted : {E : Type 0} (f : E → LaneEvent) (w v u : LaneWorld) (events : List E) (n : ℕ) (e : E) → n < length events → e ≡ get_or events n e
    → AllSteps w (map f (take n events)) v → IsSparedBy v (f e) u → IsHalted w (map f events) n u
halted f w v u events n e below is before spared = record {
  between = v;
  event = f e;
  steps = subst (λ (es : List LaneEvent). AllSteps w es v) (sym (take-map f n events)) before;
  next = slice_get-map f events n ∙ ap (option_map f) (slice_get-get_or events n e below ∙ ap Some (sym is));
  spared = spared;
}
