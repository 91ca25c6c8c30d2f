-- What the program does at an attached site, for the bytes of its link.
use Rattle.std.proofs.Common.{◌≡◌, ◌⊎◌, refl, sym, ◌∙◌, ap, subst, inl, inr, ℕ, zero, suc, ◌+◌, ◌-◌, min, Bool, true, false, List, [], ◌∷◌, ◌++◌, length, map, get_or, nat_eq, Option, Some, None, option_map, Result, Ok, Err, IfOk, OnOk, OnErr, arith, eq-eqb, eqb-true}
use Rattle.std.proofs.Math.ListN.{set}
use Rattle.jup_world.specs.Prelude.{NoMemory, EditFault, board_batches, BoardBatch, BoardEdits, Commands, Down, DownOp, DownAck, DownPong, link_of, fetched, BoardStar, edit_answer, BoardSite, ups_laws, Reply, Attached, Nothing}
use Rattle.jup_lane.specs.Lanes.{moved as moved_by, messages, Carries, IsMovedOn, oldest_length, ups, downs}
use Rattle.jup_world.specs.Events.{Join, Edit as MakeEdit, Up as MoveUp, Down as MoveDown}
use Rattle.jup_world.specs.Worlds.{attached, at_site, outcome, unchanged as unchanged_world, IsSiteAt, one_taken, with_fetched}
use Rattle.jup_world.specs.Insides.{lane_of, bare_attached}
use Rattle.jup_world.specs.Boards.{BoardWorld, BoardLink, BoardAttached, BoardEvent, BoardReply}
use Rattle.jup_world.specs.Happenings.{Plays, Spares, AreReady, with_answer, refilled, handed_first, handed, SparesAt, IsRead, IsMovedUp, RestsDown, FillsAt, filled_messages, with_filled, star_filled, LanePlays, AreRead, SitesRest}
use Rattle.jup_world.specs.Lanes.{LaneEvent, Plain, PushUp, PushDown, LaneSite, messages_at, plain_trace, messages_of, lane_site, without_lane, push_reply, there_up, filled_stream, there_down, filled_from, filled_for, filled_way, up_read, down_read, TouchesDown}
use Rattle.jup_world.proofs.Happenings as happenings
use Rattle.jup_world.proofs.Answers.{some_link}
use Rattle.jup_world.proofs.Lanes.Worlds.{messages_found}
use Rattle.jup_world.proofs.Lanes.Sites as lane_sites

-- # Events of messages

-- an event of messages at sites is that event at sites with bytes
pub plain_plays : (e : BoardEvent) (star t : BoardStar) (sites next : List Attached) (reply : BoardReply) → Plays e star (map bare_attached sites) reply t (map bare_attached next)
    → LanePlays (Plain e) star (map lane_of sites) reply t (map bare_attached next)
plain_plays e star t sites next reply plays opening trace =
    ap (λ (xs : List BoardAttached). outcome board_batches (record { opening = opening; star = star; sites = xs; trace = plain_trace trace }) e) (lane_sites.messages_map sites) ∙ plays opening (plain_trace trace)

pub plain_result : (e : BoardEvent) (star t : BoardStar) (sites next : List Attached) (r : Result (Reply BoardEdits EditFault) NoMemory)
    → IfOk r (λ reply. Plays e star (map bare_attached sites) reply t (map bare_attached next))
    → IfOk r (λ reply. LanePlays (Plain e) star (map lane_of sites) reply t (map bare_attached next))
plain_result e star t sites next (Ok reply) plays = plain_plays e star t sites next reply plays
plain_result e star t sites next (Err fault) plays = plays

-- # The site of a number

pub lane_found : (i : ℕ) (sites : List Attached) (at : ℕ) (d : Attached) → IsSiteAt i (map bare_attached sites) at → lane_site i (map lane_of sites) ≡ Some (lane_of (get_or sites at d))
lane_found i [] at d place = absurd place
lane_found i (a ∷ later) zero d place = rw place refl
lane_found i (a ∷ later) (suc at) d place = rw place.0 (lane_found i later at d place.1)

pub lane_none : (i : ℕ) (sites : List Attached) → attached i (map bare_attached sites) ≡ None → lane_site i (map lane_of sites) ≡ None
lane_none i sites none = there (lane_site i (map lane_of sites)) refl
  where
    there : (o : Option LaneSite) → lane_site i (map lane_of sites) ≡ o → lane_site i (map lane_of sites) ≡ None
    there None e = e
    there (Some a) e =
        let f : attached i (map bare_attached sites) ≡ Some (messages_at a) = ap (attached i) (sym (lane_sites.messages_map sites)) ∙ messages_found i (map lane_of sites) ∙ ap (option_map messages_at) e in
        absurd (cc)

same_number : (i : ℕ) → nat_eq i i ≡ true
same_number i = eq-eqb i i refl

min-none : (n : ℕ) → min n 0 ≡ 0
min-none n = omega arith

less-none : (n : ℕ) → n ≡ n - 0
less-none n = omega arith

more-none : (n : ℕ) → n ≡ n + 0
more-none n = omega arith

-- # How many bytes are read

-- an event by which nothing is read
abbrev pub ReadsNone : LaneEvent → Type 0
ReadsNone event = ((j : ℕ) (a : LaneSite) → length a.up.read ≡ up_read event j a) × ((j : ℕ) (l : BoardLink) (a : LaneSite) → length a.down.read ≡ down_read event j l a)

-- at all sites but its own
abbrev pub ReadsAt : LaneEvent → ℕ → Type 0
ReadsAt event i =
    ((j : ℕ) (a : LaneSite) → nat_eq i j ≡ false → length a.up.read ≡ up_read event j a)
    × ((j : ℕ) (l : BoardLink) (a : LaneSite) → nat_eq i j ≡ false → length a.down.read ≡ down_read event j l a)

pub up_reads : (i : ℕ) → ReadsAt (Plain (MoveUp i)) i
up_reads i = (λ j a other. rw other (less-none (length a.up.read)), λ j l a other. refl)

pub down_reads : (i : ℕ) → ReadsAt (Plain (MoveDown i)) i
down_reads i = (λ j a other. refl, λ j l a other. rw other (less-none (length a.down.read)))

pub push_up_reads : (i n : ℕ) → ReadsAt (PushUp i n) i
push_up_reads i n = (λ j a other. rw other (more-none (length a.up.read)), λ j l a other. refl)

pub push_down_reads : (i n : ℕ) → ReadsAt (PushDown i n) i
push_down_reads i n = (λ j a other. refl, λ j l a other. rw other (more-none (length a.down.read)))

-- nothing is read if the site is not attached
pub absent_read : (event : LaneEvent) (i : ℕ) (star : BoardStar) (sites : List Attached) → ReadsAt event i → attached i (map bare_attached sites) ≡ None → AreRead event star (map lane_of sites) (map lane_of sites)
absent_read event i star sites reads none =
    lane_sites.same_read event star (map lane_of sites) (map lane_of sites) refl
    (λ j a found. cases j (nat_eq i j) refl (length a.up.read ≡ up_read event j a) (reads.0 j a) (here j a found))
    (λ j l a link found. cases j (nat_eq i j) refl (length a.down.read ≡ down_read event j l a) (reads.1 j l a) (here j a found))
  where
    there : lane_site i (map lane_of sites) ≡ None
    there = lane_none i sites none

    here : (j : ℕ) (a : LaneSite) → lane_site j (map lane_of sites) ≡ Some a → nat_eq i j ≡ true → ⊥
    here j a found e = let same = subst (λ k. lane_site k (map lane_of sites) ≡ None) (eqb-true i j e) there in cc

    cases : (j : ℕ) (b : Bool) → nat_eq i j ≡ b → (P : Type 0) → (nat_eq i j ≡ false → P) → (nat_eq i j ≡ true → ⊥) → P
    cases j true e P other is = absurd (is e)
    cases j false e P other is = other e

pub none_read_at : (event : LaneEvent) (star : BoardStar) (sites next : List LaneSite) → ReadsNone event → next ≡ sites → AreRead event star sites next
none_read_at event star sites next reads same = lane_sites.same_read event star sites next same (λ j a found. reads.0 j a) (λ j l a link found. reads.1 j l a)

-- a site joins
pub end_read : (star : BoardStar) (sites next : List LaneSite) (new : LaneSite) → next ≡ sites ++ new ∷ [] → Carries ups new.up → Carries downs new.down → AreRead (Plain Join) star sites next
end_read star sites next new joined up down = subst (λ (xs : List LaneSite). AreRead (Plain Join) star sites xs) (sym joined) (record {
  carry = lane_sites.carry_end new sites up down;
  up = λ j a b fa fb. ap (λ (x : LaneSite). length x.up.read) (lane_sites.end_found new sites j a b fa fb);
  down = λ j l a b fl fa fb. ap (λ (x : LaneSite). length x.down.read) (lane_sites.end_found new sites j a b fa fb);
})

-- a site that is dropped, whatever was changed of it
pub without_set : (i : ℕ) (sites : List Attached) (at : ℕ) (new : Attached) → IsSiteAt i (map bare_attached sites) at → nat_eq new.site.number i ≡ true
    → without_lane i (map lane_of (set sites at new)) ≡ without_lane i (map lane_of sites)
without_set i [] at new place is = absurd place
without_set i (a ∷ later) zero new place is = rw (is, place) refl
without_set i (a ∷ later) (suc at) new place is = rw place.0 (ap (λ (xs : List LaneSite). lane_of a ∷ xs) (without_set i later at new place.1 is))

-- a site keeps its number
answer_number : (r : Result BoardBatch EditFault) (a : BoardAttached) → (with_answer r a).site.number ≡ a.site.number
answer_number (Ok op) a = refl
answer_number (Err n) a = refl

handed_number : (ds : List (Down BoardBatch)) (a : BoardAttached) → (handed_first ds a).site.number ≡ a.site.number
handed_number [] a = refl
handed_number (DownOp m ∷ ds) a = refl
handed_number (DownAck n ∷ ds) a = refl
handed_number (DownPong k ∷ ds) a = refl

filled_number : (stream : List ℕ) (l : BoardLink) (os : List (Down BoardBatch)) (a : BoardAttached) → (filled_messages stream l os a).site.number ≡ a.site.number
filled_number [] l [] a = refl
filled_number [] l (d ∷ os) a = refl
filled_number (b ∷ stream) l os a = refl

module _ (s : BoardStar) (sites : List Attached) (ready : AreReady s (map bare_attached sites)) (i at : ℕ) (e : Attached)
    (place : IsSiteAt i (map bare_attached sites) at) (value : e ≡ get_or sites at e) where
  -- the site of the number
  pub there : lane_site i (map lane_of sites) ≡ Some (lane_of e)
  there = lane_found i sites at e place ∙ ap (λ (a : Attached). Some (lane_of a)) (sym value)

  -- an event at it
  pub site_read : (event : LaneEvent) (new : Attached) (u d : ℕ) → new.site.number ≡ e.site.number → IsRead (lane_of e) u d (lane_of new) → u ≡ up_read event i (lane_of e)
      → ((l : BoardLink) → link_of i s.links ≡ Some l → d ≡ down_read event i l (lane_of e)) → ReadsAt event i → AreRead event s (map lane_of sites) (map lane_of (set sites at new))
  site_read event new u d number is up down reads =
      lane_sites.set_read event s i sites at e new place (number ∙ ap (λ (a : Attached). a.site.number) value)
      (lane_sites.carry_set sites at e new (λ c. is.carry_up (subst (λ (a : Attached). Carries ups (lane_of a).up) (sym value) c)) (λ c. is.carry_down (subst (λ (a : Attached). Carries downs (lane_of a).down) (sym value) c)))
      (is.up ∙ up ∙ ap (λ (a : Attached). up_read event i (lane_of a)) value)
      (λ l link. is.down ∙ down l link ∙ ap (λ (a : Attached). down_read event i l (lane_of a)) value)
      reads.0 reads.1

  -- nothing changes
  pub site_same : (new : Attached) → lane_of new ≡ lane_of e → map lane_of (set sites at new) ≡ map lane_of sites
  site_same new same = lane_sites.same_lanes sites at e new (same ∙ ap lane_of value)

  -- # A failed allocation

  -- on its way up
  pub up_rests : (t : BoardStar) (new : Attached) → t ≡ s → bare_attached new ≡ bare_attached e → IsMovedUp (lane_of e) (lane_of new)
      → SitesRest (Plain (MoveUp i)) s (map lane_of sites) t (map lane_of (set sites at new))
  up_rests t new star same moved = record {
    messages = inl (star, lane_sites.messages_map (set sites at new) ∙ happenings.unchanged s sites ready i at e place value new same ∙ sym (lane_sites.messages_map sites));
    carry = lane_sites.carry_set sites at e new
        (λ c. lane_sites.moved-carries ups ups_laws (lane_of e).up (lane_of new).up moved.up (subst (λ (a : Attached). Carries ups (lane_of a).up) (sym value) c))
        (λ c. subst (Carries downs) (sym moved.down) (subst (λ (a : Attached). Carries downs (lane_of a).down) (sym value) c));
    up = λ j a b fa fb. up_cases j a b (lane_sites.set_found i sites at e new place number_kept j a b fa fb);
    down = λ j l a b fl fa fb. inl (down_cases j a b (lane_sites.set_found i sites at e new place number_kept j a b fa fb));
  }
    where
      number_kept : new.site.number ≡ (get_or sites at e).site.number
      number_kept = ap (λ (x : LaneSite). x.site.number) (λ k. record { site = moved.site k; up = (lane_of e).up; down = (lane_of e).down }) ∙ ap (λ (a : Attached). a.site.number) value

      up_cases : (j : ℕ) (a b : LaneSite) → ((i ≡ j) × (a ≡ lane_of (get_or sites at e)) × (b ≡ lane_of new)) ⊎ ((nat_eq i j ≡ false) × (b ≡ a))
          → (b.up ≡ a.up) ⊎ ((i ≡ j) × IsMovedOn a.up b.up)
      up_cases j a b (inl here) =
          inr (here.0, record { count = moved.up.count; is = ap (λ (x : LaneSite). x.up) here.2 ∙ moved.up.is ∙ ap (λ (x : LaneSite). moved_by moved.up.count x.up) (ap lane_of value ∙ sym here.1) })
      up_cases j a b (inr other) = inl (ap (λ (x : LaneSite). x.up) other.1)

      down_cases : (j : ℕ) (a b : LaneSite) → ((i ≡ j) × (a ≡ lane_of (get_or sites at e)) × (b ≡ lane_of new)) ⊎ ((nat_eq i j ≡ false) × (b ≡ a)) → b.down ≡ a.down
      down_cases j a b (inl here) = ap (λ (x : LaneSite). x.down) here.2 ∙ moved.down ∙ ap (λ (x : LaneSite). x.down) (ap lane_of value ∙ sym here.1)
      down_cases j a b (inr other) = ap (λ (x : LaneSite). x.down) other.1

  -- or down
  pub down_rests : (event : LaneEvent) (t : BoardStar) (l : BoardLink) (new : Attached) → TouchesDown event i → link_of i s.links ≡ Some l → Spares i l s (map bare_attached sites) t (map bare_attached (set sites at new)) → RestsDown l (lane_of e) (lane_of new)
      → SitesRest event s (map lane_of sites) t (map lane_of (set sites at new))
  down_rests event t l new touches link messages rests = record {
    messages = fetched_cases messages;
    carry = lane_sites.carry_set sites at e new
        (λ c. subst (Carries ups) (sym rests.up) (subst (λ (a : Attached). Carries ups (lane_of a).up) (sym value) c))
        (λ c. rests.carry (subst (λ (a : Attached). Carries downs (lane_of a).down) (sym value) c));
    up = λ j a b fa fb. inl (up_cases j a b (lane_sites.set_found i sites at e new place number_kept j a b fa fb));
    down = λ j k a b fk fa fb. down_cases j k a b fk (lane_sites.set_found i sites at e new place number_kept j a b fa fb);
  }
    where
      number_kept : new.site.number ≡ (get_or sites at e).site.number
      number_kept = ap (λ (x : BoardSite). x.number) rests.site ∙ ap (λ (a : Attached). a.site.number) value

      fetched_cases : Spares i l s (map bare_attached sites) t (map bare_attached (set sites at new))
          → ((t ≡ s) × (map messages_at (map lane_of (set sites at new)) ≡ map messages_at (map lane_of sites)))
          ⊎ ((k : ℕ) × (m : BoardLink) × (a : LaneSite) × TouchesDown event k × (link_of k s.links ≡ Some m) × (lane_site k (map lane_of sites) ≡ Some a)
          × (t ≡ fetched k 1 s) × (map messages_at (map lane_of (set sites at new)) ≡ at_site k (with_fetched board_batches 1 m) (map messages_at (map lane_of sites))))
      fetched_cases (inl same) = inl (same.0, lane_sites.messages_map (set sites at new) ∙ same.1 ∙ sym (lane_sites.messages_map sites))
      fetched_cases (inr f) =
          inr (i, l, lane_of e, touches, link, there, f.0, lane_sites.messages_map (set sites at new) ∙ f.1 ∙ ap (λ (xs : List BoardAttached). at_site i (with_fetched board_batches 1 l) xs) (sym (lane_sites.messages_map sites)))

      up_cases : (j : ℕ) (a b : LaneSite) → ((i ≡ j) × (a ≡ lane_of (get_or sites at e)) × (b ≡ lane_of new)) ⊎ ((nat_eq i j ≡ false) × (b ≡ a)) → b.up ≡ a.up
      up_cases j a b (inl here) = ap (λ (x : LaneSite). x.up) here.2 ∙ rests.up ∙ ap (λ (x : LaneSite). x.up) (ap lane_of value ∙ sym here.1)
      up_cases j a b (inr other) = ap (λ (x : LaneSite). x.up) other.1

      -- it is moved on from the site as it was
      from_site : (k : BoardLink) (a b : LaneSite) → a ≡ lane_of e → b ≡ lane_of new → k ≡ l → IsMovedOn a.down b.down ⊎ IsMovedOn (filled_way a.down.stream k.outbox a.down) b.down
      from_site k a b fa fb fl =
          subst (λ (x : LaneSite). IsMovedOn x.down b.down ⊎ IsMovedOn (filled_way x.down.stream k.outbox x.down) b.down) (sym fa)
          (subst (λ (y : LaneSite). IsMovedOn (lane_of e).down y.down ⊎ IsMovedOn (filled_way (lane_of e).down.stream k.outbox (lane_of e).down) y.down) (sym fb)
          (subst (λ (m : BoardLink). IsMovedOn (lane_of e).down (lane_of new).down ⊎ IsMovedOn (filled_way (lane_of e).down.stream m.outbox (lane_of e).down) (lane_of new).down) (sym fl) rests.down))

      down_cases : (j : ℕ) (k : BoardLink) (a b : LaneSite) → link_of j s.links ≡ Some k → ((i ≡ j) × (a ≡ lane_of (get_or sites at e)) × (b ≡ lane_of new)) ⊎ ((nat_eq i j ≡ false) × (b ≡ a))
          → (b.down ≡ a.down) ⊎ (TouchesDown event j × (IsMovedOn a.down b.down ⊎ IsMovedOn (filled_way a.down.stream k.outbox a.down) b.down))
      down_cases j k a b fk (inl here) =
          let other_link : link_of i s.links ≡ Some k = ap (λ n. link_of n s.links) here.0 ∙ fk in
          let same_link : k ≡ l = cc in
          inr (subst (TouchesDown event) here.0 touches, from_site k a b (here.1 ∙ ap lane_of (sym value)) here.2 same_link)
      down_cases j k a b fk (inr other) = inl (ap (λ (x : LaneSite). x.down) other.1)

  -- # Pushes

  pub push_up_plays : (n : ℕ) (reply : BoardReply) (new : Attached) → reply ≡ push_reply (min n (length e.up.way.stream)) → bare_attached new ≡ bare_attached e
      → LanePlays (PushUp i n) s (map lane_of sites) reply s (map bare_attached (set sites at new))
  push_up_plays n reply new is same opening trace = λ k. record {
    reply = (ap (λ (o : Option LaneSite). push_reply (min n (length (there_up o)))) there ∙ sym is) k;
    star = s;
    sites = (lane_sites.messages_map sites ∙ sym (happenings.unchanged s sites ready i at e place value new same)) k;
  }

  pub push_down_plays : (n : ℕ) (t : BoardStar) (reply : BoardReply) (new : Attached) (l : BoardLink) → link_of i s.links ≡ Some l
      → reply ≡ push_reply (min n (length (filled_stream e.down.way.stream l.outbox))) → bare_attached new ≡ with_filled e.down.way.stream l (bare_attached e)
      → t ≡ star_filled i e.down.way.stream l.outbox s → LanePlays (PushDown i n) s (map lane_of sites) reply t (map bare_attached (set sites at new))
  push_down_plays n t reply new l link is made star opening trace =
      (λ k. unchanged_world board_batches (filled_for m i (link k) (there k)) (push_reply (min n (length (there_down (link k) (there k))))))
      ∙ cases e.down.way.stream l.outbox made star is
    where
      m : BoardWorld
      m = messages_of (record { opening = opening; star = s; sites = map lane_of sites; trace = trace })

      stays : bare_attached new ≡ bare_attached e → map messages_at (map lane_of sites) ≡ map bare_attached (set sites at new)
      stays same = lane_sites.messages_map sites ∙ sym (happenings.unchanged s sites ready i at e place value new same)

      cases : (stream : List ℕ) (os : List (Down BoardBatch)) → bare_attached new ≡ filled_messages stream l os (bare_attached e) → t ≡ star_filled i stream os s
          → reply ≡ push_reply (min n (length (filled_stream stream os)))
          → unchanged_world board_batches (filled_from m i l stream os) (push_reply (min n (length (filled_stream stream os))))
          ≡ record { reply = reply; star = t; sites = map bare_attached (set sites at new) }
      cases [] [] same f r = λ k. record { reply = sym r k; star = sym f k; sites = stays same k }
      cases [] (d ∷ os) fetches f r = λ k. record {
        reply = sym r k;
        star = sym f k;
        sites = (ap (λ (xs : List BoardAttached). at_site i (with_fetched board_batches 1 l) xs) (lane_sites.messages_map sites) ∙ sym (happenings.changed s sites ready i at e place value (with_fetched board_batches 1 l) new fetches)) k;
      }
      cases (b ∷ stream) os same f r = λ k. record { reply = sym r k; star = sym f k; sites = stays same k }

  -- a down stream that was filled, or not
  pub fills_spared : (t : BoardStar) (new : Attached) (l : BoardLink) → FillsAt l (bare_attached e) e.down.way.stream s (bare_attached new) t
      → Spares i l s (map bare_attached sites) t (map bare_attached (set sites at new))
  fills_spared t new l (inl same) = inl (same.1, happenings.unchanged s sites ready i at e place value new same.0)
  fills_spared t new l (inr more) = cases e.down.way.stream l.outbox more.0 (more.1 ∙ ap (λ k. star_filled k e.down.way.stream l.outbox s) (happenings.number s sites ready i at e place value))
    where
      cases : (stream : List ℕ) (os : List (Down BoardBatch)) → bare_attached new ≡ filled_messages stream l os (bare_attached e) → t ≡ star_filled i stream os s
          → Spares i l s (map bare_attached sites) t (map bare_attached (set sites at new))
      cases [] [] same f = inl (f, happenings.unchanged s sites ready i at e place value new same)
      cases [] (d ∷ os) fetches f = inr (f, happenings.changed s sites ready i at e place value (with_fetched board_batches 1 l) new fetches)
      cases (b ∷ stream) os same f = inl (f, happenings.unchanged s sites ready i at e place value new same)

  -- # What the calls of a site leave

  -- its link
  link : (l : BoardLink) × (link_of i s.links ≡ Some l)
  link = some_link (link_of i s.links) (happenings.linked s sites ready i at e place value)

  link_there : link_of e.site.number s.links ≡ Some link.0
  link_there = ap (λ n. link_of n s.links) (happenings.number s sites ready i at e place value) ∙ link.1

  only_link : (k : BoardLink) → link_of i s.links ≡ Some k → link.0 ≡ k
  only_link k there = let mine = link.1 in cc

  pub same_result : (r : Result (Reply BoardEdits EditFault) NoMemory) (new : Attached) → OnErr r (lane_of new ≡ lane_of e) → OnErr r (map lane_of (set sites at new) ≡ map lane_of sites)
  same_result (Ok reply) new same = tt
  same_result (Err fault) new same = site_same new same

  pub edit_read : (command : Commands) (r : Result (Reply BoardEdits EditFault) NoMemory) (new : Attached) → OnOk r (bare_attached new ≡ with_answer (edit_answer board_batches command e.site) (bare_attached e))
      → OnOk r (IsRead (lane_of e) (length e.up.way.read) (length e.down.way.read) (lane_of new)) → OnOk r (AreRead (Plain (MakeEdit i command)) s (map lane_of sites) (map lane_of (set sites at new)))
  edit_read command (Err fault) new made is = tt
  edit_read command (Ok reply) new made is =
      site_read (Plain (MakeEdit i command)) new _ _ (ap (λ (a : BoardAttached). a.site.number) made ∙ answer_number (edit_answer board_batches command e.site) (bare_attached e)) is refl (λ l there. refl)
      ((λ j a other. refl), (λ j l a other. refl))

  pub up_read_at : (new : Attached) → bare_attached new ≡ one_taken board_batches (bare_attached e)
      → IsRead (lane_of e) (length e.up.way.read - oldest_length ups (messages ups e.up.way)) (length e.down.way.read) (lane_of new) → AreRead (Plain (MoveUp i)) s (map lane_of sites) (map lane_of (set sites at new))
  up_read_at new made is = site_read (Plain (MoveUp i)) new _ _ (ap (λ (a : BoardAttached). a.site.number) made) is (rw (same_number i) refl) (λ l there. refl) (up_reads i)

  pub down_read_at : (r : Result (Reply BoardEdits EditFault) NoMemory) (new : Attached)
      → OnOk r ((l : BoardLink) → link_of e.site.number s.links ≡ Some l → bare_attached new ≡ handed (refilled l (bare_attached e)))
      → OnOk r ((l : BoardLink) → link_of e.site.number s.links ≡ Some l → IsRead (lane_of e) (length e.up.way.read) (length e.down.way.read - oldest_length downs (messages downs e.down.way ++ l.outbox)) (lane_of new))
      → OnOk r (AreRead (Plain (MoveDown i)) s (map lane_of sites) (map lane_of (set sites at new)))
  down_read_at (Err fault) new made is = tt
  down_read_at (Ok reply) new made is =
      site_read (Plain (MoveDown i)) new _ _ (ap (λ (a : BoardAttached). a.site.number) (made link.0 link_there) ∙ handed_number (refilled link.0 (bare_attached e)).down (refilled link.0 (bare_attached e)))
      (is link.0 link_there) refl
      (λ l there. rw (same_number i) (ap (λ (k : BoardLink). length e.down.way.read - oldest_length downs (messages downs e.down.way ++ k.outbox)) (only_link l there)))
      (down_reads i)

  pub down_result : (t : BoardStar) (r : Result (Reply BoardEdits EditFault) NoMemory) (new : Attached)
      → OnErr r ((l : BoardLink) → link_of e.site.number s.links ≡ Some l → SparesAt l (bare_attached e) s (bare_attached new) t)
      → OnErr r ((l : BoardLink) → link_of e.site.number s.links ≡ Some l → RestsDown l (lane_of e) (lane_of new))
      → OnErr r (SitesRest (Plain (MoveDown i)) s (map lane_of sites) t (map lane_of (set sites at new)))
  down_result t (Ok reply) new spared moved = tt
  down_result t (Err fault) new spared moved =
      down_rests (Plain (MoveDown i)) t link.0 new refl link.1 (happenings.down_spared s sites ready i at e place value t (Err fault) new link.0 link.1 spared) (moved link.0 link_there)

  pub push_up_result : (n : ℕ) (r : Result (Reply BoardEdits EditFault) NoMemory) (new : Attached) → IfOk r (λ reply. reply ≡ push_reply (min n (length e.up.way.stream)))
      → OnOk r (bare_attached new ≡ bare_attached e) → IfOk r (λ reply. LanePlays (PushUp i n) s (map lane_of sites) reply s (map bare_attached (set sites at new)))
  push_up_result n (Err fault) new is made = tt
  push_up_result n (Ok reply) new is made = push_up_plays n reply new is made

  pub push_up_read_at : (n : ℕ) (r : Result (Reply BoardEdits EditFault) NoMemory) (new : Attached) → OnOk r (bare_attached new ≡ bare_attached e)
      → OnOk r (IsRead (lane_of e) (length e.up.way.read + min n (length e.up.way.stream)) (length e.down.way.read) (lane_of new))
      → OnOk r (AreRead (PushUp i n) s (map lane_of sites) (map lane_of (set sites at new)))
  push_up_read_at n (Err fault) new made is = tt
  push_up_read_at n (Ok reply) new made is = site_read (PushUp i n) new _ _ (ap (λ (a : BoardAttached). a.site.number) made) is (rw (same_number i) refl) (λ l there. refl) (push_up_reads i n)

  pub push_down_result : (n : ℕ) (t : BoardStar) (r : Result (Reply BoardEdits EditFault) NoMemory) (new : Attached)
      → IfOk r (λ reply. (l : BoardLink) → link_of e.site.number s.links ≡ Some l → reply ≡ push_reply (min n (length (filled_stream e.down.way.stream l.outbox))))
      → OnOk r ((l : BoardLink) → link_of e.site.number s.links ≡ Some l → bare_attached new ≡ with_filled e.down.way.stream l (bare_attached e))
      → OnOk r ((l : BoardLink) → link_of e.site.number s.links ≡ Some l → t ≡ star_filled e.site.number e.down.way.stream l.outbox s)
      → IfOk r (λ reply. LanePlays (PushDown i n) s (map lane_of sites) reply t (map bare_attached (set sites at new)))
  push_down_result n t (Err fault) new is made star = tt
  push_down_result n t (Ok reply) new is made star =
      push_down_plays n t reply new link.0 link.1 (is link.0 link_there) (made link.0 link_there)
      (star link.0 link_there ∙ ap (λ k. star_filled k e.down.way.stream link.0.outbox s) (happenings.number s sites ready i at e place value))

  pub push_down_read_at : (n : ℕ) (r : Result (Reply BoardEdits EditFault) NoMemory) (new : Attached)
      → OnOk r ((l : BoardLink) → link_of e.site.number s.links ≡ Some l → bare_attached new ≡ with_filled e.down.way.stream l (bare_attached e))
      → OnOk r ((l : BoardLink) → link_of e.site.number s.links ≡ Some l → IsRead (lane_of e) (length e.up.way.read) (length e.down.way.read + min n (length (filled_stream e.down.way.stream l.outbox))) (lane_of new))
      → OnOk r (AreRead (PushDown i n) s (map lane_of sites) (map lane_of (set sites at new)))
  push_down_read_at n (Err fault) new made is = tt
  push_down_read_at n (Ok reply) new made is =
      site_read (PushDown i n) new _ _ (ap (λ (a : BoardAttached). a.site.number) (made link.0 link_there) ∙ filled_number e.down.way.stream link.0 link.0.outbox (bare_attached e))
      (is link.0 link_there) refl
      (λ l there. rw (same_number i) (ap (λ (k : BoardLink). length e.down.way.read + min n (length (filled_stream e.down.way.stream k.outbox))) (only_link l there)))
      (push_down_reads i n)

  pub push_down_spared : (n : ℕ) (t : BoardStar) (r : Result (Reply BoardEdits EditFault) NoMemory) (new : Attached)
      → OnErr r ((l : BoardLink) → link_of e.site.number s.links ≡ Some l → FillsAt l (bare_attached e) e.down.way.stream s (bare_attached new) t)
      → OnErr r ((l : BoardLink) → link_of e.site.number s.links ≡ Some l → RestsDown l (lane_of e) (lane_of new))
      → OnErr r (SitesRest (PushDown i n) s (map lane_of sites) t (map lane_of (set sites at new)))
  push_down_spared n t (Ok reply) new fills moved = tt
  push_down_spared n t (Err fault) new fills moved =
      down_rests (PushDown i n) t link.0 new refl link.1 (fills_spared t new link.0 (fills link.0 link_there)) (moved link.0 link_there)

-- a push at a site that is not attached
pub push_up_none : (s : BoardStar) (sites : List Attached) (i n : ℕ) → attached i (map bare_attached sites) ≡ None → LanePlays (PushUp i n) s (map lane_of sites) Nothing s (map bare_attached sites)
push_up_none s sites i n none opening trace = λ k. record {
  reply = (ap (λ (o : Option LaneSite). push_reply (min n (length (there_up o)))) (lane_none i sites none) ∙ ap push_reply (min-none n)) k;
  star = s;
  sites = lane_sites.messages_map sites k;
}

pub push_down_none : (s : BoardStar) (sites : List Attached) (i n : ℕ) → attached i (map bare_attached sites) ≡ None → LanePlays (PushDown i n) s (map lane_of sites) Nothing s (map bare_attached sites)
push_down_none s sites i n none opening trace =
    (λ k. unchanged_world board_batches (filled_for m i (link_of i s.links) (lane_none i sites none k)) (push_reply (min n (length (there_down (link_of i s.links) (lane_none i sites none k))))))
    ∙ cases (link_of i s.links)
  where
    m : BoardWorld
    m = messages_of (record { opening = opening; star = s; sites = map lane_of sites; trace = trace })

    cases : (ol : Option BoardLink) → unchanged_world board_batches (filled_for m i ol None) (push_reply (min n (length (there_down ol None)))) ≡ record { reply = Nothing; star = s; sites = map bare_attached sites }
    cases None = λ k. record { reply = ap push_reply (min-none n) k; star = s; sites = lane_sites.messages_map sites k }
    cases (Some l) = λ k. record { reply = ap push_reply (min-none n) k; star = s; sites = lane_sites.messages_map sites k }
