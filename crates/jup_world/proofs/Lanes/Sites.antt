-- What the calls of a site do to the bytes of its link.
use Rattle.std.proofs.Common.{◌≡◌, ◌⊎◌, refl, sym, ◌∙◌, ap, subst, inl, inr, ℕ, zero, suc, Bool, true, false, cond, not, List, [], ◌∷◌, ◌++◌, length, map, filter, get_or, nat_eq, Some, None, eqb-true, ne_eqb, ◌+◌, ◌-◌, min, take, Option, arith, append-nil, length-append, length-drop, length-take}
use Rattle.std.proofs.Math.ListN.{set}
use Rattle.jup_world.specs.Prelude.{BoardBatch, board_batches, Down, link_of, BoardStar, fetched, downs_laws, Attached}
use Rattle.jup_lane.specs.Lanes.{ups, downs, Carries, Codec, IsCodec, bytes_of, bytes_of_all, Way, moved, sent, handed_over, filled_to, messages, IsFilled, IsMovedOn, oldest_length}
use Rattle.jup_lane.proofs.Lanes as lanes
use Rattle.jup_world.specs.Worlds as worlds
use Rattle.jup_world.specs.Boards.{BoardLink, BoardAttached}
use Rattle.jup_world.specs.Insides.{lane_of, bare_attached}
use Rattle.jup_world.specs.Lanes.{LaneEvent, LaneSite, messages_at, has_number, lane_site, without_lane, AllCarry, up_read, down_read, filled_way, filled_stream}
use Rattle.jup_world.specs.Happenings.{AreRead, IsRead, IsMovedDown, IsFilledDown, IsRefilled, RestsDown, filled_messages, with_filled, star_filled, refilled_from, refilled, fetched_for, refilled_star}

-- What a change of one site does to the bytes of all links.

-- the messages of sites are those of their bytes
pub messages_map : (sites : List Attached) → map messages_at (map lane_of sites) ≡ map bare_attached sites
messages_map [] = refl
messages_map (a ∷ sites) = ap (λ (xs : List BoardAttached). bare_attached a ∷ xs) (messages_map sites)

-- # The site of a number, before and after

not_equal : (i j : ℕ) → nat_eq j i ≡ false → nat_eq i j ≡ false
not_equal i j e = ne_eqb i j (λ same. Rattle.std.proofs.lemmas.Bool.eqb-false j i e (sym same))

-- one site is changed: it is the one of its number, and all others stay
pub set_found : (i : ℕ) (sites : List Attached) (at : ℕ) (d new : Attached) → worlds.IsSiteAt i (map bare_attached sites) at → new.site.number ≡ (get_or sites at d).site.number
    → (j : ℕ) (a b : LaneSite) → lane_site j (map lane_of sites) ≡ Some a → lane_site j (map lane_of (set sites at new)) ≡ Some b
    → ((i ≡ j) × (a ≡ lane_of (get_or sites at d)) × (b ≡ lane_of new)) ⊎ ((nat_eq i j ≡ false) × (b ≡ a))
set_found i [] at d new place same j a b fa fb = absurd place
set_found i (x ∷ later) zero d new place same j a b fa fb = step (nat_eq x.site.number j) refl fa (subst (λ n. cond (nat_eq n j) (Some (lane_of new)) (lane_site j (map lane_of later)) ≡ Some b) same fb)
  where
    number : x.site.number ≡ i
    number = eqb-true _ _ place

    step : (t : Bool) → nat_eq x.site.number j ≡ t → cond t (Some (lane_of x)) (lane_site j (map lane_of later)) ≡ Some a → cond (nat_eq x.site.number j) (Some (lane_of new)) (lane_site j (map lane_of later)) ≡ Some b
        → ((i ≡ j) × (a ≡ lane_of x) × (b ≡ lane_of new)) ⊎ ((nat_eq i j ≡ false) × (b ≡ a))
    step true e one two = let now : Some (lane_of new) ≡ Some b = (let t = rw e at two in t) in inl (sym number ∙ eqb-true _ _ e, cc, cc)
    step false e one two = let now : lane_site j (map lane_of later) ≡ Some b = (let t = rw e at two in t) in inr (ap (λ n. nat_eq n j) (sym number) ∙ e, cc)
set_found i (x ∷ later) (suc at) d new place same j a b fa fb = step (nat_eq x.site.number j) refl (set_found i later at d new place.1 same j a b) fa fb
  where
    step : (t : Bool) → nat_eq x.site.number j ≡ t
        → (lane_site j (map lane_of later) ≡ Some a → lane_site j (map lane_of (set later at new)) ≡ Some b → ((i ≡ j) × (a ≡ lane_of (get_or later at d)) × (b ≡ lane_of new)) ⊎ ((nat_eq i j ≡ false) × (b ≡ a)))
        → cond t (Some (lane_of x)) (lane_site j (map lane_of later)) ≡ Some a → cond t (Some (lane_of x)) (lane_site j (map lane_of (set later at new))) ≡ Some b
        → ((i ≡ j) × (a ≡ lane_of (get_or later at d)) × (b ≡ lane_of new)) ⊎ ((nat_eq i j ≡ false) × (b ≡ a))
    step true e rest one two = inr (not_equal i j (ap (λ n. nat_eq n i) (sym (eqb-true _ _ e)) ∙ place.0), cc)
    step false e rest one two = rest one two

-- one site is dropped
none_left : (i : ℕ) (sites : List LaneSite) → lane_site i (without_lane i sites) ≡ None
none_left i [] = refl
none_left i (x ∷ later) = step (has_number i x) refl (none_left i later)
  where
    step : (t : Bool) → has_number i x ≡ t → lane_site i (without_lane i later) ≡ None → lane_site i (cond (not t) (x ∷ without_lane i later) (without_lane i later)) ≡ None
    step true e rest = rest
    step false e rest = rw e rest

other_left : (i j : ℕ) → nat_eq i j ≡ false → (sites : List LaneSite) → lane_site j (without_lane i sites) ≡ lane_site j sites
other_left i j e [] = refl
other_left i j e (x ∷ later) = step (has_number i x) refl (other_left i j e later)
  where
    step : (t : Bool) → has_number i x ≡ t → lane_site j (without_lane i later) ≡ lane_site j later
        → lane_site j (cond (not t) (x ∷ without_lane i later) (without_lane i later)) ≡ cond (has_number j x) (Some x) (lane_site j later)
    step true f rest = let no : has_number j x ≡ false = ap (λ n. nat_eq n j) (eqb-true _ _ f) ∙ e in rw no rest
    step false f rest = ap (λ o. cond (has_number j x) (Some x) o) rest

pub without_found : (i : ℕ) (sites : List LaneSite) (j : ℕ) (a b : LaneSite) → lane_site j sites ≡ Some a → lane_site j (without_lane i sites) ≡ Some b → (nat_eq i j ≡ false) × (b ≡ a)
without_found i sites j a b fa fb = cases (nat_eq i j) refl
  where
    cases : (t : Bool) → nat_eq i j ≡ t → (nat_eq i j ≡ false) × (b ≡ a)
    cases true e = absurd (let none = subst (λ k. lane_site k (without_lane i sites) ≡ None) (eqb-true i j e) (none_left i sites) in cc)
    cases false e = (e, (let same = other_left i j e sites in cc))

-- one site has joined
pub end_found : (new : LaneSite) (sites : List LaneSite) (j : ℕ) (a b : LaneSite) → lane_site j sites ≡ Some a → lane_site j (sites ++ new ∷ []) ≡ Some b → b ≡ a
end_found new [] j a b fa fb = absurd (cc)
end_found new (x ∷ later) j a b fa fb = step (has_number j x) (end_found new later j a b) fa fb
  where
    step : (t : Bool) → (lane_site j later ≡ Some a → lane_site j (later ++ new ∷ []) ≡ Some b → b ≡ a) → cond t (Some x) (lane_site j later) ≡ Some a → cond t (Some x) (lane_site j (later ++ new ∷ [])) ≡ Some b → b ≡ a
    step true rest one two = cc
    step false rest one two = rest one two

-- # Bytes of messages

pub carry_set : (sites : List Attached) (at : ℕ) (d new : Attached) → (Carries ups (lane_of (get_or sites at d)).up → Carries ups (lane_of new).up)
    → (Carries downs (lane_of (get_or sites at d)).down → Carries downs (lane_of new).down) → AllCarry (map lane_of sites) → AllCarry (map lane_of (set sites at new))
carry_set [] at d new up down all = tt
carry_set (x ∷ later) zero d new up down all = (up all.0, down all.1, all.2)
carry_set (x ∷ later) (suc at) d new up down all = (all.0, all.1, carry_set later at d new up down all.2)

pub carry_without : (i : ℕ) (sites : List LaneSite) → AllCarry sites → AllCarry (without_lane i sites)
carry_without i [] all = tt
carry_without i (x ∷ later) all = step (not (has_number i x)) (carry_without i later all.2)
  where
    step : (t : Bool) → AllCarry (without_lane i later) → AllCarry (cond t (x ∷ without_lane i later) (without_lane i later))
    step true rest = (all.0, all.1, rest)
    step false rest = rest

pub carry_end : (new : LaneSite) (sites : List LaneSite) → Carries ups new.up → Carries downs new.down → AllCarry sites → AllCarry (sites ++ new ∷ [])
carry_end new [] up down all = (up, down, tt)
carry_end new (x ∷ later) up down all = (all.0, all.1, carry_end new later up down all.2)

-- sites that are dropped
kept_lane : (a : Attached) (later : List Attached) (rest : List LaneSite) (b : Bool) → map lane_of later ≡ rest → map lane_of (cond b (a ∷ later) later) ≡ cond b (lane_of a ∷ rest) rest
kept_lane a later rest true same = ap (λ (xs : List LaneSite). lane_of a ∷ xs) same
kept_lane a later rest false same = same

pub dropped_lanes : (i : ℕ) (sites : List Attached) → map lane_of (filter (λ a. not (nat_eq a.site.number i)) sites) ≡ without_lane i (map lane_of sites)
dropped_lanes i [] = refl
dropped_lanes i (a ∷ later) = kept_lane a (filter (λ x. not (nat_eq x.site.number i)) later) (without_lane i (map lane_of later)) (not (nat_eq a.site.number i)) (dropped_lanes i later)

-- none is changed
pub same_lanes : (sites : List Attached) (at : ℕ) (d new : Attached) → lane_of new ≡ lane_of (get_or sites at d) → map lane_of (set sites at new) ≡ map lane_of sites
same_lanes [] at d new same = refl
same_lanes (a ∷ later) zero d new same = ap (λ (x : LaneSite). x ∷ map lane_of later) same
same_lanes (a ∷ later) (suc at) d new same = ap (λ (xs : List LaneSite). lane_of a ∷ xs) (same_lanes later at d new same)

-- # How many bytes are read

-- an event at a site, of which all others keep what their readers have
pub set_read : (event : LaneEvent) (star : BoardStar) (i : ℕ) (sites : List Attached) (at : ℕ) (d new : Attached) → worlds.IsSiteAt i (map bare_attached sites) at → new.site.number ≡ (get_or sites at d).site.number
    → (AllCarry (map lane_of sites) → AllCarry (map lane_of (set sites at new)))
    → length (lane_of new).up.read ≡ up_read event i (lane_of (get_or sites at d))
    → ((l : BoardLink) → link_of i star.links ≡ Some l → length (lane_of new).down.read ≡ down_read event i l (lane_of (get_or sites at d)))
    → ((j : ℕ) (a : LaneSite) → nat_eq i j ≡ false → length a.up.read ≡ up_read event j a)
    → ((j : ℕ) (l : BoardLink) (a : LaneSite) → nat_eq i j ≡ false → length a.down.read ≡ down_read event j l a)
    → AreRead event star (map lane_of sites) (map lane_of (set sites at new))
set_read event star i sites at d new place number carry up down others_up others_down = record {
  carry = carry;
  up = λ j a b fa fb. up_cases j a b (set_found i sites at d new place number j a b fa fb);
  down = λ j l a b fl fa fb. down_cases j l a b fl (set_found i sites at d new place number j a b fa fb);
}
  where
    e : LaneSite
    e = lane_of (get_or sites at d)

    up_cases : (j : ℕ) (a b : LaneSite) → ((i ≡ j) × (a ≡ lane_of (get_or sites at d)) × (b ≡ lane_of new)) ⊎ ((nat_eq i j ≡ false) × (b ≡ a)) → length b.up.read ≡ up_read event j a
    up_cases j a b (inl here) =
        ap (λ (x : LaneSite). length x.up.read) here.2 ∙ up ∙ (λ t. up_read event (here.0 t) (sym here.1 t))
    up_cases j a b (inr other) = ap (λ (x : LaneSite). length x.up.read) other.1 ∙ others_up j a other.0

    down_cases : (j : ℕ) (l : BoardLink) (a b : LaneSite) → link_of j star.links ≡ Some l → ((i ≡ j) × (a ≡ lane_of (get_or sites at d)) × (b ≡ lane_of new)) ⊎ ((nat_eq i j ≡ false) × (b ≡ a))
        → length b.down.read ≡ down_read event j l a
    down_cases j l a b fl (inl here) =
        ap (λ (x : LaneSite). length x.down.read) here.2 ∙ down l (ap (λ k. link_of k star.links) here.0 ∙ fl) ∙ (λ t. down_read event (here.0 t) l (sym here.1 t))
    down_cases j l a b fl (inr other) = ap (λ (x : LaneSite). length x.down.read) other.1 ∙ others_down j l a other.0

-- an event at a site that is then gone
pub without_read : (event : LaneEvent) (star : BoardStar) (i : ℕ) (sites next : List LaneSite) → next ≡ without_lane i sites
    → ((j : ℕ) (a : LaneSite) → nat_eq i j ≡ false → length a.up.read ≡ up_read event j a)
    → ((j : ℕ) (l : BoardLink) (a : LaneSite) → nat_eq i j ≡ false → length a.down.read ≡ down_read event j l a)
    → AreRead event star sites next
without_read event star i sites next gone others_up others_down = subst (λ (xs : List LaneSite). AreRead event star sites xs) (sym gone) (record {
  carry = carry_without i sites;
  up = λ j a b fa fb. let f = without_found i sites j a b fa fb in ap (λ (x : LaneSite). length x.up.read) f.1 ∙ others_up j a f.0;
  down = λ j l a b fl fa fb. let f = without_found i sites j a b fa fb in ap (λ (x : LaneSite). length x.down.read) f.1 ∙ others_down j l a f.0;
})

-- an event after which all sites have what they had
pub same_read : (event : LaneEvent) (star : BoardStar) (sites next : List LaneSite) → next ≡ sites
    → ((j : ℕ) (a : LaneSite) → lane_site j sites ≡ Some a → length a.up.read ≡ up_read event j a)
    → ((j : ℕ) (l : BoardLink) (a : LaneSite) → link_of j star.links ≡ Some l → lane_site j sites ≡ Some a → length a.down.read ≡ down_read event j l a)
    → AreRead event star sites next
same_read event star sites next same up down = subst (λ (xs : List LaneSite). AreRead event star sites xs) (sym same) (record {
  carry = λ all. all;
  up = λ j a b fa fb. let same_site : b ≡ a = cc in ap (λ (x : LaneSite). length x.up.read) same_site ∙ up j a fa;
  down = λ j l a b fl fa fb. let same_site : b ≡ a = cc in ap (λ (x : LaneSite). length x.down.read) same_site ∙ down j l a fl fa;
})

-- What a site's calls leave of its two ways: how many bytes are read, and that all are still those of messages.

-- # Handing over

-- what is read once a message, filled up to, is handed over
pub handed-read : (n : ℕ) (w : Way) → length (handed_over n (filled_to n w)).read ≡ length w.read - n
handed-read n w =
    let front = length-drop n (w.read ++ take (n - length w.read) w.stream) in
    let both = length-append w.read (take (n - length w.read) w.stream) in
    let more = length-take (n - length w.read) w.stream in
    omega (arith, front, both, more)

module _ {Message : Type 0} (C : Codec Message) (L : IsCodec C) where
  -- the bytes of the oldest message are read
  pub filled-on : (old new : Way) (o : Option Message) → IsFilled C old new o → IsMovedOn old new
  filled-on old new None filled = record { count = 0; is = filled.1 ∙ sym (lanes.moved-none old) }
  filled-on old new (Some m) filled = record { count = length (bytes_of C m) - length old.read; is = filled.2 }

  pub moved-carries : (old new : Way) → IsMovedOn old new → Carries C old → Carries C new
  moved-carries old new on is = subst (Carries C) (sym on.is) (lanes.carried-moved C L on.count old is).1

  -- a message that was there is handed over
  pub taken-read : (old mid new : Way) (m : Message) → IsFilled C old mid (Some m) → new ≡ handed_over (length (bytes_of C m)) mid
      → length new.read ≡ length old.read - oldest_length C (messages C old)
  taken-read old mid new m filled handed =
      let n = length (bytes_of C m) in
      ap (λ (w : Way). length w.read) (handed ∙ ap (handed_over n) filled.2) ∙ handed-read n old ∙ ap (λ k. length old.read - k) (sym (ap (oldest_length C) filled.1))

  pub taken-carries : (old mid new : Way) (m : Message) → IsFilled C old mid (Some m) → new ≡ handed_over (length (bytes_of C m)) mid → messages C mid ≡ m ∷ messages C new → Carries C old → Carries C new
  taken-carries old mid new m filled handed first is =
      let there = moved-carries old mid (filled-on old mid (Some m) filled) is in
      subst (Carries C) (sym handed) (lanes.carried-handed C L mid m (messages C new) there first).1

  -- a push
  pub pushed-read : (old new : Way) (count most : ℕ) → count ≡ min most (length old.stream) → new ≡ moved count old → length new.read ≡ length old.read + min most (length old.stream)
  pushed-read old new count most is made =
      let long = lanes.length-moved count old (omega (arith, is)) in
      ap (λ (w : Way). length w.read) made ∙ long ∙ ap (λ k. length old.read + k) is

-- # A down stream that was filled

-- its reader has what it had
pub filled_way-read : (stream : List ℕ) (outbox : List (Down BoardBatch)) (w : Way) → (filled_way stream outbox w).read ≡ w.read
filled_way-read [] [] w = refl
filled_way-read [] (d ∷ os) w = refl
filled_way-read (b ∷ stream) os w = refl

pub filled_way-stream : (w : Way) (outbox : List (Down BoardBatch)) → (filled_way w.stream outbox w).stream ≡ filled_stream w.stream outbox
filled_way-stream w outbox = cases w.stream outbox refl
  where
    cases : (s : List ℕ) (os : List (Down BoardBatch)) → w.stream ≡ s → (filled_way s os w).stream ≡ filled_stream s os
    cases [] [] e = e
    cases [] (d ∷ os) e = ap (λ t. t ++ bytes_of downs d) e
    cases (b ∷ s) os e = e

-- a message was fetched into a stream that had no byte
pub fetched_site : (a b : BoardAttached) (stream : List ℕ) (l : BoardLink) → stream ≡ [] → (l.outbox ≡ [] → ⊥) → b ≡ worlds.with_fetched board_batches 1 l a → b ≡ with_filled stream l a
fetched_site a b stream l empty waits made = made ∙ there l.outbox waits ∙ ap (λ (st : List ℕ). filled_messages st l l.outbox a) (sym empty)
  where
    there : (os : List (Down BoardBatch)) → (os ≡ [] → ⊥) → worlds.with_fetched board_batches 1 l a ≡ filled_messages [] l os a
    there [] none = absurd (none refl)
    there (d ∷ os) none = refl

pub fetched_star : (i : ℕ) (stream : List ℕ) (outbox : List (Down BoardBatch)) (s t : BoardStar) → stream ≡ [] → (outbox ≡ [] → ⊥) → t ≡ fetched i 1 s → t ≡ star_filled i stream outbox s
fetched_star i stream outbox s t empty waits made = made ∙ there outbox waits ∙ ap (λ (st : List ℕ). star_filled i st outbox s) (sym empty)
  where
    there : (os : List (Down BoardBatch)) → (os ≡ [] → ⊥) → fetched i 1 s ≡ star_filled i [] os s
    there [] none = absurd (none refl)
    there (d ∷ os) none = refl

pub fetched_way : (w v : Way) (stream : List ℕ) (outbox gone : List (Down BoardBatch)) → stream ≡ [] → (outbox ≡ [] → ⊥) → gone ≡ take 1 outbox → v ≡ sent (bytes_of_all downs gone) w → v ≡ filled_way stream outbox w
fetched_way w v stream outbox gone empty waits is made =
    made ∙ ap (λ (ds : List (Down BoardBatch)). sent (bytes_of_all downs ds) w) is ∙ there outbox waits ∙ ap (λ (st : List ℕ). filled_way st outbox w) (sym empty)
  where
    there : (os : List (Down BoardBatch)) → (os ≡ [] → ⊥) → sent (bytes_of_all downs (take 1 os)) w ≡ filled_way [] os w
    there [] none = absurd (none refl)
    there (d ∷ os) none = ap (λ (t : List ℕ). sent t w) (append-nil (bytes_of downs d))

-- nothing was on its way down
pub refilled_idle : (a b : BoardAttached) (stream : List ℕ) (l : BoardLink) → a.down ≡ [] → stream ≡ [] → b ≡ with_filled stream l a → b ≡ refilled l a
refilled_idle a b stream l none empty made = made ∙ ap (λ (st : List ℕ). filled_messages st l l.outbox a) empty ∙ there l l.outbox refl
  where
    there : (k : BoardLink) (os : List (Down BoardBatch)) → k.outbox ≡ os → filled_messages [] k os a ≡ refilled k a
    there k [] e =
        let all : a.down ≡ refilled_from a.down k.outbox = none ∙ sym (ap (take 1) e) ∙ ap (λ (ds : List (Down BoardBatch)). refilled_from ds k.outbox) (sym none) in
        λ j. record { site = a.site; up = a.up; down = all j }
    there k (d ∷ os) e =
        let all : a.down ++ take 1 k.outbox ≡ refilled_from a.down k.outbox =
        ap (λ (ds : List (Down BoardBatch)). ds ++ take 1 k.outbox) none ∙ ap (λ (ds : List (Down BoardBatch)). refilled_from ds k.outbox) (sym none) in
        λ j. record { site = a.site; up = a.up; down = all j }

pub refilled_idle_star : (a : BoardAttached) (stream : List ℕ) (l : BoardLink) (s t : BoardStar) → a.down ≡ [] → stream ≡ [] → t ≡ star_filled a.site.number stream l.outbox s → t ≡ refilled_star l a s
refilled_idle_star a stream l s t none empty made =
    made ∙ ap (λ (st : List ℕ). star_filled a.site.number st l.outbox s) empty ∙ there l.outbox ∙ ap (λ (ds : List (Down BoardBatch)). fetched_for a.site.number ds l.outbox s) (sym none)
  where
    there : (os : List (Down BoardBatch)) → star_filled a.site.number [] os s ≡ fetched_for a.site.number [] os s
    there [] = refl
    there (d ∷ os) = refl

pub refilled_way : (l : BoardLink) (a b : LaneSite) → IsFilledDown l a b → IsRefilled l a b
refilled_way l a b filled = record { site = filled.site; up = filled.up; down = inr filled.down; carry = filled.carry }

-- # The calls of a site

-- what a refilled way is moved on to
pub rests_down : (l : BoardLink) (a mid b : LaneSite) → IsRefilled l a mid → IsMovedDown mid b → RestsDown l a b
rests_down l a mid b filled on = record {
  site = on.site ∙ filled.site;
  up = on.up ∙ filled.up;
  down = cases filled.down;
  carry = λ is. moved-carries downs downs_laws mid.down b.down on.down (filled.carry is);
}
  where
    from : (w : Way) → mid.down ≡ w → IsMovedOn w b.down
    from w e = subst (λ (x : Way). IsMovedOn x b.down) e on.down

    cases : (mid.down ≡ a.down) ⊎ (mid.down ≡ filled_way a.down.stream l.outbox a.down) → IsMovedOn a.down b.down ⊎ IsMovedOn (filled_way a.down.stream l.outbox a.down) b.down
    cases (inl same) = inl (from a.down same)
    cases (inr more) = inr (from (filled_way a.down.stream l.outbox a.down) more)

-- a message was delivered to the site
pub handed-site : (a b : LaneSite) (mid down : Way) (m : Down BoardBatch) → IsFilled downs a.down mid (Some m) → down ≡ mid → b.down ≡ handed_over (length (bytes_of downs m)) down
    → messages downs down ≡ m ∷ messages downs b.down → length b.up.read ≡ length a.up.read → (Carries ups a.up → Carries ups b.up)
    → IsRead a (length a.up.read) (length a.down.read - oldest_length downs (messages downs a.down)) b
handed-site a b mid down m filled same handed first up carry = record {
  up = up;
  down = taken-read downs downs_laws a.down mid b.down m filled (handed ∙ ap (handed_over (length (bytes_of downs m))) same);
  carry_up = carry;
  carry_down = λ is. taken-carries downs downs_laws a.down mid b.down m filled (handed ∙ ap (handed_over (length (bytes_of downs m))) same) (ap (messages downs) (sym same) ∙ first) is;
}

-- a refilled way, of which a message was handed over
first_of_both : (ds os : List (Down BoardBatch)) → oldest_length downs (refilled_from ds os) ≡ oldest_length downs (ds ++ os)
first_of_both [] [] = refl
first_of_both [] (d ∷ os) = refl
first_of_both (d ∷ ds) os = refl

pub refilled-read : (l : BoardLink) (a mid b : LaneSite) → IsRefilled l a mid → messages downs mid.down ≡ refilled_from (messages downs a.down) l.outbox
    → IsRead mid (length mid.up.read) (length mid.down.read - oldest_length downs (messages downs mid.down)) b
    → IsRead a (length a.up.read) (length a.down.read - oldest_length downs (messages downs a.down ++ l.outbox)) b
refilled-read l a mid b filled is read = record {
  up = read.up ∙ ap (λ (w : Way). length w.read) filled.up;
  down = read.down ∙ (λ j. length (same_read filled.down j) - (ap (oldest_length downs) is ∙ first_of_both (messages downs a.down) l.outbox) j);
  carry_up = λ c. read.carry_up (subst (Carries ups) (sym filled.up) c);
  carry_down = λ c. read.carry_down (filled.carry c);
}
  where
    same_read : (mid.down ≡ a.down) ⊎ (mid.down ≡ filled_way a.down.stream l.outbox a.down) → mid.down.read ≡ a.down.read
    same_read (inl same) = ap (λ (w : Way). w.read) same
    same_read (inr more) = ap (λ (w : Way). w.read) more ∙ filled_way-read a.down.stream l.outbox a.down

-- a way that was filled, of which bytes were pushed
pub filled_stream-is : (l : BoardLink) (a mid : LaneSite) → IsFilledDown l a mid → mid.down.stream ≡ filled_stream a.down.stream l.outbox
filled_stream-is l a mid filled = ap (λ (w : Way). w.stream) filled.down ∙ filled_way-stream a.down l.outbox

pub pushed-site : (l : BoardLink) (a mid b : LaneSite) (count most : ℕ) → IsFilledDown l a mid → count ≡ min most (length mid.down.stream) → b.down ≡ moved count mid.down → b.up ≡ mid.up
    → IsRead a (length a.up.read) (length a.down.read + min most (length (filled_stream a.down.stream l.outbox))) b
pushed-site l a mid b count most filled is down up = record {
  up = ap (λ (w : Way). length w.read) (up ∙ filled.up);
  down = pushed-read downs downs_laws mid.down b.down count most is down
      ∙ (λ j. length ((ap (λ (w : Way). w.read) filled.down ∙ filled_way-read a.down.stream l.outbox a.down) j) + min most (length (filled_stream-is l a mid filled j)));
  carry_up = λ c. subst (Carries ups) (sym (up ∙ filled.up)) c;
  carry_down = λ c. moved-carries downs downs_laws mid.down b.down (record { count = count; is = down }) (filled.carry c);
}

-- an allocation failed once it was filled
pub rests_filled : (l : BoardLink) (a mid b : LaneSite) → IsFilledDown l a mid → b ≡ mid → RestsDown l a b
rests_filled l a mid b filled same =
    rests_down l a mid b (refilled_way l a mid filled) (record {
      site = ap (λ (x : LaneSite). x.site) same;
      up = ap (λ (x : LaneSite). x.up) same;
      down = record { count = 0; is = ap (λ (x : LaneSite). x.down) same ∙ sym (lanes.moved-none mid.down) };
    })
