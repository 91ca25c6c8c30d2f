-- Each event of a world is, for each site that stays attached, a run of moves of that site.
use Rattle.std.proofs.Common.{◌≡◌, ◌⊎◌, inl, inr, ℕ, ◌+◌, ◌≤◌, Bool, true, false, cond, List, [], ◌∷◌, ◌++◌, map, take, drop, length, nat_eq, refl, ap, sym, ◌∙◌, subst, Option, Some, None, option_map, Ok, arith, append-nil, append_assoc, add-zero, take-append-drop, eqb-true, ne_eqb}
use Rattle.jup_world.specs.Prelude.{Operations, AreLawful, Up, UpOp, UpAck, UpPing, Down, DownOp, DownAck, DownPong, LinkState, StarOf, opened_link, link_of, link_fetched, link_heard, link_sent, link_acked, link_ponged, operation_at, joined, left, fetched, taken, up_fault, edit_answer, EditFault, found-map, found-map_other, found-without, found-without_other, found-end_other}
use Rattle.jup_world.specs.Worlds.{WorldOf, AttachedOf, EventOf, Outcome, attached, at_site, without_site, new_site, with_edit, one_taken, one_handed, pinged, outcome, happens}
use Rattle.jup_world.specs.Traces.{made, shown_count, edit_made, was_shown, order_of, joined_at, join_seen}
use Rattle.jup_world.specs.Events.{Happened}
use Rattle.jup_world.specs.Sound.{moment_of}
use Rattle.jup_world.proofs.EventSteps as steps
use Rattle.jup_world.proofs.Sound.Traces as trace_ends
use Rattle.jup_site.proofs.Numbers as numbers
use Rattle.jup_site.specs.Turns.{brings}
use Rattle.jup_site.specs.Moments as moments
use Rattle.jup_site.proofs.Beside.{none-stays}

-- A site with its link, and that site in a later world. It has a link there, came there by moves, and the place of its join stays
pub record ComesTo (O : Operations) (w v : WorldOf O) (j : ℕ) (l : LinkState O.Op) (a c : AttachedOf O) : Type 0 where
  pub link : LinkState O.Op
  pub linked : link_of j v.star.links ≡ Some link
  pub since : joined_at O j v.trace ≡ joined_at O j w.trace
  pub run : moments.Runs O j (moment_of O w j l a) (moment_of O v j link c)

-- A moment of a site that has no link at this star, by moves of others
pub record IsElsewhere (O : Operations) (j : ℕ) (m : moments.Moment O) (s : StarOf O) : Type 0 where
  pub at : moments.Moment O
  pub star : at.star ≡ s
  pub no_link : link_of j s.links ≡ None
  pub run : moments.Runs O j m at

module _ (O : Operations) (w : WorldOf O) (j : ℕ) (low : j ≤ w.star.given) (l : LinkState O.Op) (a : AttachedOf O) (fl : link_of j w.star.links ≡ Some l) (fa : attached j w.sites ≡ Some a) where
  -- a moment after it
  abbrev at : StarOf O → LinkState O.Op → List O.Edit → ℕ → AttachedOf O → moments.Moment O
  at star k es n c = record { star = star; link = k; mine = made j w.trace ++ es; shown = shown_count j w.trace + n; at = c }

  -- the moment before the event
  abbrev now : moments.Moment O
  now = moment_of O w j l a

  -- it came by moves to a link and a site, which the world has, or has no more
  abbrev Comes : StarOf O → List O.Edit → ℕ → Option (LinkState O.Op) → Option (AttachedOf O) → Type 0
  Comes star es n ol oa = (k : LinkState O.Op) × (c : AttachedOf O) × moments.Runs O j now (at star k es n c) × (((ol ≡ Some k) × (oa ≡ Some c)) ⊎ ((ol ≡ None) × (oa ≡ None)))

  -- by moves to a moment that says the same
  same_run : (star : StarOf O) (k : LinkState O.Op) (c : AttachedOf O) (es mine : List O.Edit) (n shown : ℕ) → mine ≡ made j w.trace ++ es → shown ≡ shown_count j w.trace + n
      → moments.Runs O j now (record { star = star; link = k; mine = mine; shown = shown; at = c }) → moments.Runs O j now (at star k es n c)
  same_run star k c es mine n shown p q run =
      let same : record { star = star; link = k; mine = mine; shown = shown; at = c } ≡ at star k es n c = cc in
      subst (moments.Runs O j now) same run

  by : (star : StarOf O) (k : LinkState O.Op) (c : AttachedOf O) (es mine : List O.Edit) (n shown : ℕ) → mine ≡ made j w.trace ++ es → shown ≡ shown_count j w.trace + n
      → moments.Runs O j now (record { star = star; link = k; mine = mine; shown = shown; at = c }) → Comes star es n (Some k) (Some c)
  by star k c es mine n shown p q run = (k, c, same_run star k c es mine n shown p q run, inl (refl, refl))

  -- which tells nothing of the trace
  quiet : (star : StarOf O) (k : LinkState O.Op) (c : AttachedOf O) → moments.Runs O j now (record { star = star; link = k; mine = made j w.trace; shown = shown_count j w.trace; at = c }) → Comes star [] 0 (Some k) (Some c)
  quiet star k c run = by star k c [] (made j w.trace) 0 (shown_count j w.trace) (sym (append-nil (made j w.trace))) (sym (add-zero (shown_count j w.trace))) run

  one : {n : moments.Moment O} → moments.Moves O j now n → moments.Runs O j now n
  one move = moments.Then _ move moments.Stays

  -- the link and the site of this number, after a change at a number
  here : (i : ℕ) (f h : LinkState O.Op → LinkState O.Op) → ((k : LinkState O.Op) → (f k).site ≡ k.site) → ((k : LinkState O.Op) → (h k).site ≡ k.site)
      → link_of j (map (λ z. cond (nat_eq z.site i) (f z) (h z)) w.star.links) ≡ Some (cond (nat_eq i j) (f l) (h l))
  here i f h kf kh = cases (nat_eq i j) refl
    where
      cases : (b : Bool) → nat_eq i j ≡ b → link_of j (map (λ z. cond (nat_eq z.site i) (f z) (h z)) w.star.links) ≡ Some (cond b (f l) (h l))
      cases true e = rw (eqb-true i j e) (found-map (λ k. k.site) j f h kf kh w.star.links ∙ ap (option_map f) fl)
      cases false e = found-map_other (λ k. k.site) i j f h kf kh w.star.links e ∙ ap (option_map h) fl

  there : (i : ℕ) (g : AttachedOf O → AttachedOf O) → ((c : AttachedOf O) → (g c).site.number ≡ c.site.number) → attached j (at_site i g w.sites) ≡ Some (cond (nat_eq i j) (g a) a)
  there i g kg = cases (nat_eq i j) refl
    where
      cases : (b : Bool) → nat_eq i j ≡ b → attached j (at_site i g w.sites) ≡ Some (cond b (g a) a)
      cases true e = rw (eqb-true i j e) (found-map (λ b. b.site.number) j g (λ z. z) kg (λ z. refl) w.sites ∙ ap (option_map g) fa)
      cases false e = found-map_other (λ b. b.site.number) i j g (λ z. z) kg (λ z. refl) w.sites e ∙ numbers.option_map-self (attached j w.sites) ∙ fa

  -- so by cases
  changed : (star : StarOf O) (i : ℕ) (f h : LinkState O.Op → LinkState O.Op) (g : AttachedOf O → AttachedOf O) (kf : (k : LinkState O.Op) → (f k).site ≡ k.site) (kh : (k : LinkState O.Op) → (h k).site ≡ k.site)
      (kg : (c : AttachedOf O) → (g c).site.number ≡ c.site.number) (es : Bool → List O.Edit) (n : Bool → ℕ)
      → (nat_eq i j ≡ true → Comes star (es true) (n true) (Some (f l)) (Some (g a))) → (nat_eq i j ≡ false → Comes star (es false) (n false) (Some (h l)) (Some a))
      → Comes star (es (nat_eq i j)) (n (nat_eq i j)) (link_of j (map (λ z. cond (nat_eq z.site i) (f z) (h z)) w.star.links)) (attached j (at_site i g w.sites))
  changed star i f h g kf kh kg es n own other =
      rw (here i f h kf kh, there i g kg) (cases (nat_eq i j) refl)
    where
      cases : (b : Bool) → nat_eq i j ≡ b → Comes star (es b) (n b) (Some (cond b (f l) (h l))) (Some (cond b (g a) a))
      cases true e = own e
      cases false e = other e

  -- # Each event

  stays : Comes w.star [] 0 (link_of j w.star.links) (attached j w.sites)
  stays = rw (fl, fa) (quiet w.star l a moments.Stays)

  joined_link : link_of j (joined w.star).links ≡ Some l
  joined_link = found-end_other (λ k. k.site) j w.star.links (opened_link (w.star.given + 1)) (ne_eqb (w.star.given + 1) j (λ e. absurd (omega (arith, low, e)))) ∙ fl

  joined_site : attached j (w.sites ++ new_site O w (w.star.given + 1) ∷ []) ≡ Some a
  joined_site = found-end_other (λ c. c.site.number) j w.sites (new_site O w (w.star.given + 1)) (ne_eqb (w.star.given + 1) j (λ e. absurd (omega (arith, low, e)))) ∙ fa

  goes : (i : ℕ) → Comes (left i w.star) [] 0 (link_of j (left i w.star).links) (attached j (without_site i w.sites))
  goes i = cases (nat_eq i j) refl
    where
      cases : (b : Bool) → nat_eq i j ≡ b → Comes (left i w.star) [] 0 (link_of j (left i w.star).links) (attached j (without_site i w.sites))
      cases true e = (
        l,
        a,
        same_run (left i w.star) l a [] (made j w.trace) 0 (shown_count j w.trace) (sym (append-nil (made j w.trace))) (sym (add-zero (shown_count j w.trace))) (one (moments.Leaves i)),
        inr (rw (sym (eqb-true i j e)) (found-without (λ k. k.site) i w.star.links, found-without (λ c. c.site.number) i w.sites)),
      )
      cases false e = rw (found-without_other (λ k. k.site) i j w.star.links e, fl, found-without_other (λ c. c.site.number) i j w.sites e, fa) (quiet (left i w.star) l a (one (moments.Leaves i)))

  -- the site alone changes
  alone : (i : ℕ) (g : AttachedOf O → AttachedOf O) → ((c : AttachedOf O) → (g c).site.number ≡ c.site.number) → (es : Bool → List O.Edit) → es false ≡ []
      → (nat_eq i j ≡ true → Comes w.star (es true) 0 (Some l) (Some (g a))) → Comes w.star (es (nat_eq i j)) 0 (link_of j w.star.links) (attached j (at_site i g w.sites))
  alone i g kg es none own = subst (λ ls. Comes w.star (es (nat_eq i j)) 0 (link_of j ls) (attached j (at_site i g w.sites))) (numbers.map_kept (λ k. k.site) i w.star.links)
      (changed w.star i (λ k. k) (λ k. k) g (λ k. refl) (λ k. refl) kg es (λ b. 0) own (λ e. rw none (quiet w.star l a moments.Stays)))

  -- the link and the site of the event are those of this number
  module _ (i : ℕ) (k : LinkState O.Op) (fk : link_of i w.star.links ≡ Some k) (e : nat_eq i j ≡ true) where
    number_is : i ≡ j
    number_is = eqb-true i j e

    link_is : k ≡ l
    link_is = (let found : link_of j w.star.links ≡ Some k = rw (sym number_is) fk in cc)

    site_is : (b : AttachedOf O) → attached i w.sites ≡ Some b → b ≡ a
    site_is b fb = (let found : attached j w.sites ≡ Some b = rw (sym number_is) fb in cc)

    not_stray : attached i w.sites ≡ None → ⊥
    not_stray none = (let found : attached j w.sites ≡ None = rw (sym number_is) none in absurd (cc))

    -- its oldest message is taken
    takes_own : (oa : Option (AttachedOf O)) → attached i w.sites ≡ oa → (up : Up O.Op) (ev : EventOf O) → steps.Brings O w i up oa ev → up_fault O w.star k up ≡ None
        → Comes (taken O i up k w.star) [] 0 (Some (moments.link_taken O up l)) (Some (one_taken O a))
    takes_own oa fo up ev (steps.Rises b us rising) none =
        let waits : a.up ≡ up ∷ us = (let same = site_is b fo in ap (λ (x : AttachedOf O). x.up) (sym same) ∙ rising) in
        let fits : up_fault O w.star l up ≡ None = rw (sym link_is) none in
        rw (number_is, link_is) (quiet (taken O j up l w.star) (moments.link_taken O up l) (one_taken O a) (one (moments.TakesOwn up us waits fl fits)))
    takes_own oa fo up ev steps.Strays none = absurd (not_stray fo)

    -- it receives the oldest message to it
    hands_own : (b : AttachedOf O) → attached i w.sites ≡ Some b → (gone : ℕ) (d : Down O.Op) (ds : List (Down O.Op)) → b.down ++ k.outbox ≡ d ∷ (ds ++ drop gone k.outbox) → (n : ℕ) → brings d ≡ n
        → Comes (fetched i gone w.star) [] n (Some (link_fetched gone l)) (Some (one_handed O d ds a))
    hands_own b fb gone d ds falls n is =
        let same = site_is b fb in
        let was : a.down ++ l.outbox ≡ d ∷ (ds ++ drop gone l.outbox) = rw (sym same, sym link_is) falls in
        let first : a.down ++ take gone l.outbox ≡ d ∷ ds = Rattle.std.proofs.lemmas.List.append_cancel_right (a.down ++ take gone l.outbox) (d ∷ ds) (drop gone l.outbox)
        (append_assoc a.down (take gone l.outbox) (drop gone l.outbox) ∙ ap (λ x. a.down ++ x) (take-append-drop gone l.outbox) ∙ was) in
        rw number_is
        (by (fetched j gone w.star) (link_fetched gone l) (one_handed O d ds a) [] (made j w.trace) n (shown_count j w.trace + brings d) (sym (append-nil (made j w.trace))) (ap (λ m. shown_count j w.trace + m) is)
        (moments.Then _ (moments.FetchesOwn gone fl) (moments.Then _ (moments.Hands d ds first) moments.Stays)))

  -- an event, by its outcome
  comes-step : (e : EventOf O) (o : Outcome O) → steps.StepOf O w e o → Comes o.star (edit_made {Operation = O.Op} {Fault = EditFault} j e o.reply) (was_shown {Command = O.Command} {Fault = EditFault} j e o.reply) (link_of j o.star.links) (attached j o.sites)
  comes-step e o (steps.Still why) = rw ((steps.still_silent O w why).no_edit j, (steps.still_silent O w why).no_shown j) stays
  comes-step e o (steps.Enters none) = rw (joined_link, joined_site) (quiet (joined w.star) l a (one moments.Joins))
  comes-step e o (steps.EntersStray none) = rw (joined_link, fa) (quiet (joined w.star) l a (one moments.Joins))
  comes-step e o (steps.Goes i k oa fk fo why) = rw ((steps.gone_silent O w why).no_edit j, (steps.gone_silent O w why).no_shown j) (goes i)
  comes-step e o (steps.Makes i command k b op fk fb ok) = alone i (with_edit O op) (λ c. refl) (λ t. cond t (O.t.edit_of op ∷ []) []) refl (λ is.
      let answer : edit_answer O command a.site ≡ Ok op = rw (sym (site_is i k fk is b fb)) ok in
      by w.star l (with_edit O op a) (O.t.edit_of op ∷ []) _ 0 (shown_count j w.trace) refl (sym (add-zero (shown_count j w.trace))) (one (moments.Edits command op answer)))
  comes-step e o (steps.Asks i n k b fk fb) = alone i (pinged O n) (λ c. refl) (λ t. []) refl (λ is. quiet w.star l (pinged O n a) (one (moments.Asks n)))
  comes-step e o (steps.Takes i k oa (UpOp m) fk fo brought none) = rw (steps.brought_made O w brought o.reply j, steps.brought_shown O w brought o.reply j)
      (changed o.star i (link_heard O m) (link_sent (operation_at O k.end m)) (one_taken O) (λ k. refl) (λ k. refl) (λ c. refl) (λ t. []) (λ t. 0)
      (λ is. takes_own i k fk is oa fo (UpOp m) e brought none) (λ apart. quiet o.star (link_sent (operation_at O k.end m) l) a (one (moments.Takes i apart k fk (UpOp m) none))))
  comes-step e o (steps.Takes i k oa (UpAck n) fk fo brought none) = rw (steps.brought_made O w brought o.reply j, steps.brought_shown O w brought o.reply j)
      (changed o.star i (link_acked n) (λ k. k) (one_taken O) (λ k. refl) (λ k. refl) (λ c. refl) (λ t. []) (λ t. 0)
      (λ is. takes_own i k fk is oa fo (UpAck n) e brought none) (λ apart. quiet o.star l a (one (moments.Takes i apart k fk (UpAck n) none))))
  comes-step e o (steps.Takes i k oa (UpPing n) fk fo brought none) = rw (steps.brought_made O w brought o.reply j, steps.brought_shown O w brought o.reply j)
      (changed o.star i (link_ponged n) (λ k. k) (one_taken O) (λ k. refl) (λ k. refl) (λ c. refl) (λ t. []) (λ t. 0)
      (λ is. takes_own i k fk is oa fo (UpPing n) e brought none) (λ apart. quiet o.star l a (one (moments.Takes i apart k fk (UpPing n) none))))
  comes-step e o (steps.Hands i gone k b (DownOp m) ds fk fb falls none) =
      changed o.star i (link_fetched gone) (λ k. k) (one_handed O (DownOp m) ds) (λ k. refl) (λ k. refl) (λ c. refl) (λ t. []) (λ t. cond t 1 0)
      (λ is. hands_own i k fk is b fb gone (DownOp m) ds falls 1 refl) (λ apart. quiet o.star l a (one (moments.Fetches i gone apart)))
  comes-step e o (steps.Hands i gone k b (DownAck n) ds fk fb falls none) =
      changed o.star i (link_fetched gone) (λ k. k) (one_handed O (DownAck n) ds) (λ k. refl) (λ k. refl) (λ c. refl) (λ t. []) (λ t. 0)
      (λ is. hands_own i k fk is b fb gone (DownAck n) ds falls 0 refl) (λ apart. quiet o.star l a (one (moments.Fetches i gone apart)))
  comes-step e o (steps.Hands i gone k b (DownPong n) ds fk fb falls none) =
      changed o.star i (link_fetched gone) (λ k. k) (one_handed O (DownPong n) ds) (λ k. refl) (λ k. refl) (λ c. refl) (λ t. []) (λ t. 0)
      (λ is. hands_own i k fk is b fb gone (DownPong n) ds falls 0 refl) (λ apart. quiet o.star l a (one (moments.Fetches i gone apart)))

  -- # In the words of the trace

  -- the place of its join stays
  same_join : (n at : ℕ) (e : EventOf O) (o : Outcome O) → steps.StepOf O w e o → join_seen {Command = O.Command} {Operation = O.Op} j n at e o.reply ≡ at
  same_join n at e o (steps.Still why) = (steps.still_silent O w why).no_join j n at
  same_join n at e o (steps.Enters none) = rw (ne_eqb (w.star.given + 1) j (λ e. absurd (omega (arith, low, e)))) refl
  same_join n at e o (steps.Goes i k oa fk fo why) = (steps.gone_silent O w why).no_join j n at
  same_join n at e o (steps.Takes i k oa up fk fo brought none) = steps.brought_join O w brought o.reply j n at
  same_join n at e o step = refl

  module _ (e : EventOf O) where
    -- the event, with what it answers
    abbrev now_happens : Happened O.Command O.Op O.Edit EditFault
    now_happens = record { event = e; reply = (outcome O w e).reply }

    -- what it makes of the site's link and of the site
    abbrev came : Comes (outcome O w e).star (edit_made {Operation = O.Op} {Fault = EditFault} j e (outcome O w e).reply) (was_shown {Command = O.Command} {Fault = EditFault} j e (outcome O w e).reply) (link_of j (outcome O w e).star.links)
        (attached j (outcome O w e).sites)
    came = comes-step e (outcome O w e) (steps.step_of O w e)

    -- it stays
    pub comes-to : (c : AttachedOf O) → attached j (outcome O w e).sites ≡ Some c → ComesTo O w (happens O w e) j l a c
    comes-to c fc = elim came.3 [
      | inl there ↦ let same : came.1 ≡ c = (let found = there.1 in cc) in
          record {
            link = came.0;
            linked = there.0;
            since = trace_ends.joined-end O j w.trace now_happens ∙ same_join (length (order_of O w.trace)) (joined_at O j w.trace) e (outcome O w e) (steps.step_of O w e);
            run = rw (trace_ends.made-end j w.trace now_happens, trace_ends.shown-end j w.trace now_happens, sym same) came.2;
          }
      | inr gone ↦ absurd (let none = gone.1 in cc)
    ]

    -- or leaves, and goes on without a link
    pub gone-to : attached j (outcome O w e).sites ≡ None → IsElsewhere O j now (outcome O w e).star
    gone-to none = elim came.3 [
      | inl there ↦ absurd (let found = there.1 in cc)
      | inr gone ↦ record { at = at (outcome O w e).star came.0 _ _ came.1; star = refl; no_link = gone.0; run = came.2 }
    ]

-- A site that left goes on without a link: each event is a move of others.

module _ (O : Operations) (L : AreLawful O) (most : ℕ) (w : WorldOf O) (since j : ℕ) (l : LinkState O.Op) (mine : List O.Edit) (shown : ℕ) (a : AttachedOf O) (none : link_of j w.star.links ≡ None) where
  abbrev left_at : moments.Moment O
  left_at = record { star = w.star; link = l; mine = mine; shown = shown; at = a }

  module _ (h : moments.IsBeside O most (O.t.content w.opening) since j left_at) where
    goes_on : {n : moments.Moment O} → moments.Moves O j left_at n → IsElsewhere O j left_at n.star
    goes_on {n} move = record { at = n; star = refl; no_link = none-stays O L most (O.t.content w.opening) since j left_at n move h none; run = moments.Then n move moments.Stays }

    -- a link is another's
    apart : (i : ℕ) (k : LinkState O.Op) → link_of i w.star.links ≡ Some k → nat_eq i j ≡ false
    apart i k fk = ne_eqb i j (λ e. let found : link_of j w.star.links ≡ Some k = rw (sym e) fk in absurd (cc))

    elsewhere-step : (e : EventOf O) (o : Outcome O) → steps.StepOf O w e o → IsElsewhere O j left_at o.star
    elsewhere-step e o (steps.Enters ok) = goes_on moments.Joins
    elsewhere-step e o (steps.EntersStray ok) = goes_on moments.Joins
    elsewhere-step e o (steps.Goes i k oa fk fo why) = goes_on (moments.Leaves i)
    elsewhere-step e o (steps.Takes i k oa up fk fo brought ok) = goes_on (moments.Takes i (apart i k fk) k fk up ok)
    elsewhere-step e o (steps.Hands i gone k b d ds fk fb falls ok) = goes_on (moments.Fetches i gone (apart i k fk))
    elsewhere-step e o step = record { at = left_at; star = refl; no_link = none; run = moments.Stays }

    pub goes-elsewhere : (e : EventOf O) → IsElsewhere O j left_at (outcome O w e).star
    goes-elsewhere e = elsewhere-step e (outcome O w e) (steps.step_of O w e)

    -- and so is a fetch
    pub fetched-elsewhere : (i n : ℕ) (k : LinkState O.Op) → link_of i w.star.links ≡ Some k → IsElsewhere O j left_at (fetched i n w.star)
    fetched-elsewhere i n k fk = goes_on (moments.Fetches i n (apart i k fk))
