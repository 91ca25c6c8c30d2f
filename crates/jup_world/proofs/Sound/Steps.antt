-- A sound world is sound after each event, since each of its sites is beside the star.
use Rattle.std.proofs.Common.{◌≡◌, ◌⊎◌, ℕ, ◌+◌, ◌<◌, inl, inr, Bool, true, false, cond, List, [], ◌∷◌, ◌++◌, length, nat_eq, refl, ap, sym, ◌∙◌, subst, Some, None, option_map, arith, append-nil, add-zero, eqb-true, ne_eqb, eq-eqb}
use Rattle.jup_world.specs.Prelude.{Operations, AreLawful, Entry, UpOp, UpAck, UpPing, DownOp, DownAck, DownPong, LinkState, opened_link, link_of, entry, EditFault, found-end, found-end_other, found-map, found-map_other, found-without, found-without_other, Joined, Taken}
use Rattle.jup_world.specs.Worlds.{WorldOf, AttachedOf, EventOf, Outcome, attached, at_site, without_site, new_site, with_edit, pinged, one_taken, one_handed, join_outcome, with_outcome, happens, outcome}
use Rattle.jup_world.specs.Traces.{made, order_of, joined_at, shown_count, edit_made, was_shown, entry_taken}
use Rattle.jup_world.specs.Sound as soundness
use Rattle.jup_world.specs.Events.{Happened, Join, Stray}
use Rattle.jup_world.proofs.EventSteps.{Rises, Strays, StepOf, Still, Enters, EntersStray, Goes, Makes, Asks, Takes, Hands, still_silent, gone_silent, brought_made, brought_shown, step_of, handed_number}
use Rattle.jup_world.proofs.Sound.Traces as trace_ends
use Rattle.jup_world.proofs.Sound.Comes.{comes-to}
use Rattle.jup_site.proofs.Numbers as numbers
use Rattle.jup_site.proofs.Stars.{Grows}
use Rattle.jup_site.proofs.Courses as courses
use Rattle.jup_site.specs.Courses as over_time
use Rattle.jup_site.proofs.Beside.{runs-beside, beside-new}
use Rattle.jup_site.specs.Moments as moments

-- # A site that joins

module _ (O : Operations) (w : WorldOf O) (j : ℕ) where
  -- a number that has no site has none after a change of one, and after a departure
  none_at : (i : ℕ) (g : AttachedOf O → AttachedOf O) → ((c : AttachedOf O) → (g c).site.number ≡ c.site.number) → attached j w.sites ≡ None → attached j (at_site i g w.sites) ≡ None
  none_at i g kg none = cases (nat_eq i j) refl
    where
      cases : (b : Bool) → nat_eq i j ≡ b → attached j (at_site i g w.sites) ≡ None
      cases true e = rw (eqb-true i j e) (found-map (λ b. b.site.number) j g (λ z. z) kg (λ z. refl) w.sites ∙ ap (option_map g) none)
      cases false e = found-map_other (λ b. b.site.number) i j g (λ z. z) kg (λ z. refl) w.sites e ∙ numbers.option_map-self (attached j w.sites) ∙ none

  none_without : (i : ℕ) → attached j w.sites ≡ None → attached j (without_site i w.sites) ≡ None
  none_without i none = cases (nat_eq i j) refl
    where
      cases : (b : Bool) → nat_eq i j ≡ b → attached j (without_site i w.sites) ≡ None
      cases true e = rw (sym (eqb-true i j e)) (found-without (λ c. c.site.number) i w.sites)
      cases false e = found-without_other (λ c. c.site.number) i j w.sites e ∙ none

  -- nobody is under a number after an event, or the site of the next number joined
  abbrev pub Arrives : EventOf O → Outcome O → Type 0
  Arrives e o = (attached j o.sites ≡ None) ⊎ ((j ≡ w.star.given + 1) × (attached j o.sites ≡ Some (new_site O w (w.star.given + 1))) × (e ≡ Join) × (o ≡ join_outcome O w None))

  joins : attached j w.sites ≡ None → Arrives Join (join_outcome O w None)
  joins none = cases (nat_eq (w.star.given + 1) j) refl
    where
      cases : (b : Bool) → nat_eq (w.star.given + 1) j ≡ b → Arrives Join (join_outcome O w None)
      cases false e = inl (found-end_other (λ x. x.site.number) j w.sites (new_site O w (w.star.given + 1)) e ∙ none)
      cases true e = inr (sym (eqb-true (w.star.given + 1) j e), found-end (λ x. x.site.number) j w.sites (new_site O w (w.star.given + 1)) none e, refl, refl)

  arrives-step : (e : EventOf O) (o : Outcome O) → StepOf O w e o → attached j w.sites ≡ None → Arrives e o
  arrives-step e o (Still why) none = inl none
  arrives-step e o (Enters ok) none = joins none
  arrives-step e o (EntersStray ok) none = inl none
  arrives-step e o (Goes i l oa fl fa why) none = inl (none_without i none)
  arrives-step e o (Makes i command l a op fl fa ok) none = inl (none_at i (with_edit O op) (λ x. refl) none)
  arrives-step e o (Asks i k l a fl fa) none = inl (none_at i (pinged O k) (λ x. refl) none)
  arrives-step e o (Takes i l oa up fl fa brought ok) none = inl (none_at i (one_taken O) (λ x. refl) none)
  arrives-step e o (Hands i gone l a d ds fl fa falls ok) none = inl (none_at i (one_handed O d ds) (handed_number O d ds) none)

  -- each event
  pub arrives : (e : EventOf O) → attached j w.sites ≡ None → Arrives e (outcome O w e)
  arrives e = arrives-step e (outcome O w e) (step_of O w e)

-- # The star

module _ (O : Operations) (w : WorldOf O) where
  becomes-step : (e : EventOf O) (o : Outcome O) → StepOf O w e o → over_time.Becomes O w.star o.star
  becomes-step e o (Enters none) = over_time.Admits
  becomes-step e o (EntersStray none) = over_time.Admits
  becomes-step e o (Goes i l oa fl fa why) = over_time.Drops i
  becomes-step e o (Takes i l oa up fl fa brought none) = over_time.Accepts i l fl up none
  becomes-step e o (Hands i gone l a d ds fl fa falls none) = over_time.Gives i gone
  becomes-step e o step = over_time.Rests

  -- what becomes of it by an event
  pub star-becomes : (e : EventOf O) → over_time.Becomes O w.star (outcome O w e).star
  star-becomes e = becomes-step e (outcome O w e) (step_of O w e)

module _ (O : Operations) (L : AreLawful O) (most : ℕ) (w : WorldOf O) (s : soundness.IsSound O most w) where
  -- each event leaves a sound star, which goes on from the one before
  pub star-grows : (e : EventOf O) → Grows O L most (O.t.content w.opening) w.star (outcome O w e).star
  star-grows e = courses.becomes-grows O L most (O.t.content w.opening) w.star (outcome O w e).star (star-becomes O w e) s.star

  -- it keeps its order
  keeps-step : (e : EventOf O) (o : Outcome O) → StepOf O w e o → o.star.keeps ≡ true
  keeps-step e o (Takes i l oa (UpOp m) fl fa brought none) = s.keeps
  keeps-step e o (Takes i l oa (UpAck n) fl fa brought none) = s.keeps
  keeps-step e o (Takes i l oa (UpPing n) fl fa brought none) = s.keeps
  keeps-step e o step = s.keeps

  -- # The order that the trace gives

  same_order : (e : EventOf O) (o : Outcome O) → entry_taken O w.trace (order_of O w.trace) e o.reply ≡ [] → order_of O (with_outcome O w e o).trace ≡ w.star.order
  same_order e o none = trace_ends.order-end O w.trace (record { event = e; reply = o.reply }) ∙ ap (λ es. order_of O w.trace ++ es) none ∙ append-nil (order_of O w.trace) ∙ s.order_is

  order-step : (e : EventOf O) (o : Outcome O) → StepOf O w e o → order_of O (with_outcome O w e o).trace ≡ o.star.order
  order-step e o (Still why) = same_order e o ((still_silent O w why).no_entry w.trace (order_of O w.trace))
  order-step e o (Enters none) = same_order e o refl
  order-step e o (EntersStray none) = same_order e o refl
  order-step e o (Goes i l oa fl fa why) = same_order e o ((gone_silent O w why).no_entry w.trace (order_of O w.trace))
  order-step e o (Makes i command l a op fl fa ok) = same_order e o refl
  order-step e o (Asks i k l a fl fa) = same_order e o refl
  order-step e o (Takes i l oa (UpOp m) fl fa (Rises a us rising) none) = trace_ends.order_told O L most w s i a fa m us rising
  order-step e o (Takes i l oa (UpOp m) fl fa Strays none) = trace_ends.order-end O w.trace (record { event = Stray i (UpOp m); reply = Taken (length w.star.order) }) ∙ ap (λ es. es ++ entry O i m ∷ []) s.order_is
  order-step e o (Takes i l oa (UpAck n) fl fa (Rises a us rising) none) = same_order e o refl
  order-step e o (Takes i l oa (UpAck n) fl fa Strays none) = same_order e o refl
  order-step e o (Takes i l oa (UpPing n) fl fa (Rises a us rising) none) = same_order e o refl
  order-step e o (Takes i l oa (UpPing n) fl fa Strays none) = same_order e o refl
  order-step e o (Hands i gone l a (DownOp m) ds fl fa falls none) = same_order e o refl
  order-step e o (Hands i gone l a (DownAck n) ds fl fa falls none) = same_order e o refl
  order-step e o (Hands i gone l a (DownPong n) ds fl fa falls none) = same_order e o refl

  -- # Numbers that were not given yet

  module _ (j : ℕ) (above : w.star.given < j) where
    -- an event under a number that has a link says nothing of them
    apart : (i : ℕ) (l : LinkState O.Op) → link_of i w.star.links ≡ Some l → nat_eq i j ≡ false
    apart i l fl = ne_eqb i j (λ e. let none : link_of i w.star.links ≡ None = rw e (s.star.star.no_link j above) in absurd (cc))

    no_edit-step : (e : EventOf O) (o : Outcome O) → StepOf O w e o → edit_made {Operation = O.Op} {Fault = EditFault} j e o.reply ≡ []
    no_edit-step e o (Still why) = (still_silent O w why).no_edit j
    no_edit-step e o (Goes i l oa fl fa why) = (gone_silent O w why).no_edit j
    no_edit-step e o (Makes i command l a op fl fa ok) = rw (apart i l fl) refl
    no_edit-step e o (Takes i l oa up fl fa brought none) = brought_made O w brought o.reply j
    no_edit-step e o step = refl

    no_shown-step : (e : EventOf O) (o : Outcome O) → StepOf O w e o → was_shown {Command = O.Command} {Fault = EditFault} j e o.reply ≡ 0
    no_shown-step e o (Still why) = (still_silent O w why).no_shown j
    no_shown-step e o (Goes i l oa fl fa why) = (gone_silent O w why).no_shown j
    no_shown-step e o (Takes i l oa up fl fa brought none) = brought_shown O w brought o.reply j
    no_shown-step e o (Hands i gone l a (DownOp m) ds fl fa falls none) = rw (apart i l fl) refl
    no_shown-step e o (Hands i gone l a (DownAck n) ds fl fa falls none) = refl
    no_shown-step e o (Hands i gone l a (DownPong n) ds fl fa falls none) = refl
    no_shown-step e o step = refl

    none_made : (e : EventOf O) → made j (happens O w e).trace ≡ []
    none_made e =
        let h : Happened O.Command O.Op O.Edit EditFault = record { event = e; reply = (outcome O w e).reply } in
        trace_ends.made-end j w.trace h ∙ ap (λ es. made j w.trace ++ es) (no_edit-step e (outcome O w e) (step_of O w e)) ∙ append-nil (made j w.trace) ∙ s.no_edit j above

    none_shown : (e : EventOf O) → shown_count j (happens O w e).trace ≡ 0
    none_shown e =
        let h : Happened O.Command O.Op O.Edit EditFault = record { event = e; reply = (outcome O w e).reply } in
        trace_ends.shown-end j w.trace h ∙ ap (λ n. shown_count j w.trace + n) (no_shown-step e (outcome O w e) (step_of O w e)) ∙ add-zero (shown_count j w.trace) ∙ s.no_shown j above

  -- # Sites

  -- one that stays
  stays : (e : EventOf O) (j : ℕ) (a c : AttachedOf O) → attached j w.sites ≡ Some a → attached j (outcome O w e).sites ≡ Some c → soundness.IsAttached O most (happens O w e) j c
  stays e j a c fa fc =
      let was = s.sites j a fa in
      let comes = comes-to O w j was.beside.given was.link a was.linked fa e c fc in
      record {
        link = comes.link;
        linked = comes.linked;
        beside = rw comes.since (runs-beside O L most (O.t.content w.opening) (joined_at O j w.trace) j (soundness.moment_of O w j was.link a) (soundness.moment_of O (happens O w e) j comes.link c) comes.run was.beside);
      }

  -- one that joins: its moment is that of its join
  abbrev next : ℕ
  next = moments.next_number O w.star

  pub record Joins (v : WorldOf O) (j : ℕ) (c : AttachedOf O) : Type 0 where
    pub number : j ≡ next
    pub since : joined_at O j v.trace ≡ length w.star.order
    pub linked : link_of j v.star.links ≡ Some (opened_link j)
    pub moment : soundness.moment_of O v j (opened_link j) c ≡ moments.newcomer O w.star

  joins-next : Joins (with_outcome O w Join (join_outcome O w None)) next (new_site O w next)
  joins-next =
      let h : Happened O.Command O.Op O.Edit EditFault = record { event = Join; reply = Joined next } in
      let mine : made next (w.trace ++ h ∷ []) ≡ [] = trace_ends.made-end next w.trace h ∙ append-nil (made next w.trace) ∙ s.no_edit next (omega arith) in
      let shown : shown_count next (w.trace ++ h ∷ []) ≡ 0 = trace_ends.shown-end next w.trace h ∙ add-zero (shown_count next w.trace) ∙ s.no_shown next (omega arith) in
      record {
        number = refl;
        since = trace_ends.joined-end O next w.trace h ∙ ap (λ b. cond b (length (order_of O w.trace)) (joined_at O next w.trace)) (eq-eqb next next refl) ∙ ap (λ (os : List (Entry O.Edit)). length os) s.order_is;
        linked = found-end (λ k. k.site) next w.star.links (opened_link next) (s.star.star.no_link next (omega arith)) (eq-eqb next next refl);
        moment = rw (mine, shown) refl;
      }

  joins-step : (e : EventOf O) (o : Outcome O) (j : ℕ) (c : AttachedOf O) → j ≡ next → c ≡ new_site O w next → e ≡ Join → o ≡ join_outcome O w None → Joins (with_outcome O w e o) j c
  joins-step e o j c number site event result = rw (number, site, event, result) joins-next

  pub joins-to : (e : EventOf O) (j : ℕ) (c : AttachedOf O) → attached j w.sites ≡ None → attached j (outcome O w e).sites ≡ Some c → Joins (happens O w e) j c
  joins-to e j c none there = elim (arrives O w j e none) [
    | inl nobody ↦ absurd (cc)
    | inr here ↦ joins-step e (outcome O w e) j c here.0 (let found = here.1 in cc) here.2 here.3
  ]

  joined-beside : (v : WorldOf O) (j : ℕ) (c : AttachedOf O) → Joins v j c → moments.IsBeside O most (O.t.content w.opening) (joined_at O j v.trace) j (soundness.moment_of O v j (opened_link j) c)
  joined-beside v j c to = subst (λ m. moments.IsBeside O most (O.t.content w.opening) (joined_at O j v.trace) j m) (sym to.moment) (rw (to.since, to.number) (beside-new O L most (O.t.content w.opening) w.star s.star))

  sites-step : (e : EventOf O) (j : ℕ) (c : AttachedOf O) → attached j (outcome O w e).sites ≡ Some c → soundness.IsAttached O most (happens O w e) j c
  sites-step e j c there = numbers.either (attached j w.sites) (λ o. soundness.IsAttached O most (happens O w e) j c)
      (λ none. (let to = joins-to e j c none there in record { link = opened_link j; linked = to.linked; beside = joined-beside (happens O w e) j c to }))
      (λ a fa. stays e j a c fa there)

  -- so the world is sound
  pub sound-step : (e : EventOf O) → soundness.IsSound O most (happens O w e)
  sound-step e =
      let grows = star-grows e in
      record {
        order_is = order-step e (outcome O w e) (step_of O w e);
        keeps = keeps-step e (outcome O w e) (step_of O w e);
        star = grows.called;
        sites = sites-step e;
        no_edit = λ j above. (let more = grows.follows.given in none_made j (omega (arith, more, above)) e);
        no_shown = λ j above. (let more = grows.follows.given in none_shown j (omega (arith, more, above)) e);
      }
