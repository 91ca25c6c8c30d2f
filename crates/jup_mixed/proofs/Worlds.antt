-- A star with one site and strangers is a world.
use Rattle.std.proofs.Common.{◌≡◌, ℕ, ◌+◌, Bool, true, false, cond, not, ◌||◌, List, [], ◌∷◌, nat_eq, refl, ap, sym, ◌∙◌, subst, Option, Some, None, option_to_list, Result, Ok, Err, arith, eq-eqb, ne_eqb, eqb-true, is_some, inl, inr, ◌≤◌, ◌++◌, map, drop, take, length, zero-add, ◌≢◌}
use Rattle.jup_mixed.specs.Prelude.{left, HomeUp, HomeDown, JoinStray}
use Rattle.jup_mixed.specs.Prelude as stars
use Rattle.jup_world.specs.declared.events.Reply.TheVariants.{Joined, Made, Detached, Nothing, Shown}
use Rattle.jup_world.specs.Events as world_events
use Rattle.jup_world.specs.Worlds.{WorldOf, AttachedOf, stray_joins as world_joins, stray_sends as world_sends, at_stray as world_stray}
use Rattle.jup_world.specs.Worlds as worlds
use Rattle.jup_world.specs.Traces.{made}
use Rattle.jup_world.specs.Traces as traces
use Rattle.jup_world.specs.Sound as soundness
use Rattle.jup_world.specs.Boards.{IsBoardWorld}
use Rattle.jup_site.proofs.Numbers.{either}
use Rattle.jup_world.proofs.EventSteps.{handed_number}
use Rattle.jup_world.proofs.Sound.Traces.{stray-end, standing_of}
use Rattle.jup_world.proofs.Sound.Runs as sound_runs
use Rattle.jup_world.proofs.Sound.Tallies.{tallied-happens, tallies}
use Rattle.jup_world.proofs.Worlds as world_laws
use Rattle.jup_world.proofs.Orders as orders
use Rattle.jup_world.proofs.Copies.Sites as copies
use Rattle.jup_world.proofs.Stars.{accepted}
use Rattle.jup_mixed.specs.Mixed.{BoardMix}
use Rattle.jup_mixed.specs.Mixed as mix

-- What happens to a star with one site and strangers happens to its world.

module _ (O : stars.Operations) where
  -- the site is found under its number, and under no other
  pub found_home : (site : Option (AttachedOf O)) → ((a : AttachedOf O) → site ≡ Some a → a.site.number ≡ 1) → worlds.attached 1 (option_to_list site) ≡ site
  found_home None number = refl
  found_home (Some a) number = ap (λ b. cond b (Some a) None) (eq-eqb a.site.number 1 (number a refl))

  pub found_other : (j : ℕ) → nat_eq j 1 ≡ false → (site : Option (AttachedOf O)) → ((a : AttachedOf O) → site ≡ Some a → a.site.number ≡ 1) → worlds.attached j (option_to_list site) ≡ None
  found_other j apart None number = refl
  found_other j apart (Some a) number = ap (λ b. cond b (Some a) None) (ne_eqb a.site.number j (λ e. Rattle.std.proofs.lemmas.Bool.eqb-false j 1 apart (sym e ∙ number a refl)))

module _ (O : stars.Operations) (most : ℕ) (m : mix.MixOf O) (h : mix.IsHomeWorld O most m) where
  -- an event of the site
  home : (f : stars.LinkState O.Op → AttachedOf O → mix.MixOutcome O) (g : stars.LinkState O.Op → AttachedOf O → worlds.Outcome O) → ((l : stars.LinkState O.Op) (a : AttachedOf O) → m.site ≡ Some a → g l a ≡ mix.world_outcome O (f l a))
      → worlds.at_number O (mix.world_of O m) 1 g ≡ mix.world_outcome O (mix.at_home O m f (stars.link_of 1 m.star.links) m.site)
  home f g same = either (stars.link_of 1 m.star.links) (λ ol. worlds.at_linked O (mix.world_of O m) 1 g ol ≡ mix.world_outcome O (mix.at_home O m f ol m.site)) (λ none. refl)
      (λ l fl. ap (λ o. worlds.at_attached O (mix.world_of O m) l g o) (found_home O m.site h.number)
      ∙ either m.site (λ o. worlds.at_attached O (mix.world_of O m) l g o ≡ mix.world_outcome O (mix.at_home O m f (Some l) o)) (λ none. refl) (λ a fa. same l a fa))

  -- it is changed, or gone
  pub changed : (g : AttachedOf O → AttachedOf O) (a : AttachedOf O) → m.site ≡ Some a → worlds.at_site 1 g (option_to_list m.site) ≡ g a ∷ []
  changed g a fa = ap (λ o. worlds.at_site 1 g (option_to_list o)) fa ∙ ap (λ b. cond b (g a) a ∷ []) (eq-eqb a.site.number 1 (h.number a fa))

  gone : (a : AttachedOf O) → m.site ≡ Some a → worlds.without_site 1 (option_to_list m.site) ≡ []
  gone a fa = ap (λ o. worlds.without_site 1 (option_to_list o)) fa ∙ ap (λ b. cond (not b) (a ∷ []) []) (eq-eqb a.site.number 1 (h.number a fa))

  edit_outcomes : (a : AttachedOf O) → m.site ≡ Some a → (r : Result O.Op stars.EditFault) → worlds.edit_outcome O (mix.world_of O m) 1 r ≡ mix.world_outcome O (mix.home_edit O m a r)
  edit_outcomes a fa (Err n) = refl
  edit_outcomes a fa (Ok op) = ap (λ sites. record { reply = Made (O.t.edit_of op); star = m.star; sites = sites }) (changed (worlds.with_edit O op) a fa)

  ups : (l : stars.LinkState O.Op) (a : AttachedOf O) → m.site ≡ Some a → (us : List (stars.Up O.Op)) → worlds.first_up O (mix.world_of O m) 1 l us ≡ mix.world_outcome O (mix.first_home_up O m l a us)
  ups l a fa [] = refl
  ups l a fa (up ∷ us) = one (stars.up_fault O m.star l up)
    where
      one : (f : Option stars.StarFault) → worlds.up_outcome O (mix.world_of O m) 1 l up f ≡ mix.world_outcome O (mix.home_up O m l a up f)
      one None = ap (λ sites. record { reply = worlds.place_reply O (stars.place_taken O m.star up); star = stars.taken O 1 up l m.star; sites = sites }) (changed (worlds.one_taken O) a fa)
      one (Some fault) = ap (λ sites. record { reply = Detached fault; star = left 1 m.star; sites = sites }) (gone a fa)

  falls : (a : AttachedOf O) → m.site ≡ Some a → (n : ℕ) (d : stars.Down O.Op) (ds : List (stars.Down O.Op)) (f : Option stars.SiteFault) → worlds.down_outcome O (mix.world_of O m) 1 n d ds f ≡ mix.world_outcome O (mix.home_down O m a n d ds f)
  falls a fa n d ds None = ap (λ sites. record { reply = worlds.down_reply O d; star = stars.fetched 1 n m.star; sites = sites }) (changed (worlds.one_handed O d ds) a fa)
  falls a fa n d ds (Some fault) = refl

  downs : (a : AttachedOf O) → m.site ≡ Some a → (ds os : List (stars.Down O.Op)) → worlds.first_down O (mix.world_of O m) 1 a ds os ≡ mix.world_outcome O (mix.first_home_down O m a ds os)
  downs a fa (d ∷ ds) os = falls a fa 0 d ds (stars.deliver_fault O d a.site)
  downs a fa [] (d ∷ os) = falls a fa 1 d [] (stars.deliver_fault O d a.site)
  downs a fa [] [] = refl

  -- if the site is gone, so is its link
  pub unlinked : m.site ≡ None → stars.link_of 1 m.star.links ≡ None
  unlinked none = cases (stars.link_of 1 m.star.links) (subst (λ oa. soundness.LinkedAt O (traces.is_stray 1 (mix.world_of O m).trace) (stars.link_of 1 m.star.links) oa) (found_home O m.site h.number ∙ none) (h.strays.links 1))
    where
      cases : (ol : Option (stars.LinkState O.Op)) → soundness.LinkedAt O (traces.is_stray 1 (mix.world_of O m).trace) ol None → ol ≡ None
      cases None k = refl
      cases (Some l) k = absurd (let no = h.home in cc)

  -- an event of a stranger
  strange : (j : ℕ) (f : stars.LinkState O.Op → mix.MixOutcome O) (g : stars.LinkState O.Op → worlds.Outcome O) → ((l : stars.LinkState O.Op) → g l ≡ mix.world_outcome O (f l))
      → world_stray O (mix.world_of O m) g (worlds.attached j (option_to_list m.site)) (stars.link_of j m.star.links) ≡ mix.world_outcome O (mix.at_stray O m j f)
  strange j f g same = cases (nat_eq j 1) refl
    where
      alone : (ol : Option (stars.LinkState O.Op)) → world_stray O (mix.world_of O m) g None ol ≡ mix.world_outcome O (mix.at_link_of O m f ol)
      alone None = refl
      alone (Some l) = same l

      own : (site : Option (AttachedOf O)) → m.site ≡ site → world_stray O (mix.world_of O m) g site (stars.link_of 1 m.star.links) ≡ mix.world_outcome O (mix.still O m Nothing)
      own (Some a) e = refl
      own None e = ap (λ ol. world_stray O (mix.world_of O m) g None ol) (unlinked e)

      cases : (b : Bool) → nat_eq j 1 ≡ b → world_stray O (mix.world_of O m) g (worlds.attached j (option_to_list m.site)) (stars.link_of j m.star.links)
          ≡ mix.world_outcome O (cond b (mix.still O m Nothing) (mix.at_link_of O m f (stars.link_of j m.star.links)))
      cases true e = ap (λ k. world_stray O (mix.world_of O m) g (worlds.attached k (option_to_list m.site)) (stars.link_of k m.star.links)) (eqb-true j 1 e)
          ∙ ap (λ oa. world_stray O (mix.world_of O m) g oa (stars.link_of 1 m.star.links)) (found_home O m.site h.number) ∙ own m.site refl
      cases false e = ap (λ oa. world_stray O (mix.world_of O m) g oa (stars.link_of j m.star.links)) (found_other O j e m.site h.number) ∙ alone (stars.link_of j m.star.links)

  -- each event
  pub outcome_is : (e : mix.MixEventOf O) → worlds.outcome O (mix.world_of O m) (mix.world_event O e) ≡ mix.world_outcome O (mix.mix_outcome O m e)
  outcome_is (stars.HomeEdit command) = home _ _ (λ l a fa. edit_outcomes a fa (stars.edit_answer O command a.site))
  outcome_is HomeUp = home _ _ (λ l a fa. ups l a fa a.up)
  outcome_is HomeDown = home _ _ (λ l a fa. downs a fa a.down l.outbox)
  outcome_is JoinStray = joins (stars.join_fault m.star)
    where
      joins : (f : Option stars.StarFault) → world_joins O (mix.world_of O m) f ≡ mix.world_outcome O (mix.stray_joins O m f)
      joins None = refl
      joins (Some fault) = refl
  outcome_is (stars.Stray j up) = strange j (λ l. mix.stray_sends O m j l up (stars.up_fault O m.star l up)) _ (λ l. sends l (stars.up_fault O m.star l up))
    where
      sends : (l : stars.LinkState O.Op) (f : Option stars.StarFault) → world_sends O (mix.world_of O m) j l up f ≡ mix.world_outcome O (mix.stray_sends O m j l up f)
      sends l None = refl
      sends l (Some fault) = refl
  outcome_is (stars.LeaveStray j) = strange j (λ l. mix.stray_leaves O m j) _ (λ l. refl)

  -- so its world goes on
  pub world_is : (e : mix.MixEventOf O) → worlds.happens O (mix.world_of O m) (mix.world_event O e) ≡ mix.world_of O (mix.mix_happens O m e)
  world_is e =
      let with_trace : List (worlds.HappenedOf O) → WorldOf O = λ hs. record { opening = m.opening; star = (mix.mix_outcome O m e).star; sites = option_to_list (mix.mix_outcome O m e).site; trace = record { event = world_events.Join; reply = Joined 1 } ∷ hs } in
      ap (worlds.with_outcome O (mix.world_of O m) (mix.world_event O e)) (outcome_is e)
      ∙ ap with_trace (sym (Rattle.std.proofs.lemmas.List.map-append (mix.world_happened O) m.trace (record { event = e; reply = (mix.mix_outcome O m e).reply } ∷ [])))

  -- the site keeps its number
  abbrev pub Numbered : Option (AttachedOf O) → Type 0
  Numbered site = (a : AttachedOf O) → site ≡ Some a → a.site.number ≡ 1

  pub one_numbered : (b : AttachedOf O) → b.site.number ≡ 1 → Numbered (Some b)
  one_numbered b is a e = let same : b ≡ a = cc in subst (λ (x : AttachedOf O). x.site.number ≡ 1) same is

  none_numbered : Numbered None
  none_numbered a e = absurd cc

  home_numbered : (f : stars.LinkState O.Op → AttachedOf O → mix.MixOutcome O) → ((l : stars.LinkState O.Op) (a : AttachedOf O) → m.site ≡ Some a → Numbered (f l a).site) → Numbered (mix.at_home O m f (stars.link_of 1 m.star.links) m.site).site
  home_numbered f there = linked (stars.link_of 1 m.star.links)
    where
      linked : (ol : Option (stars.LinkState O.Op)) → Numbered (mix.at_home O m f ol m.site).site
      linked None = h.number
      linked (Some l) = either m.site (λ o. Numbered (mix.at_home O m f (Some l) o).site) (λ none. h.number) (λ a fa. there l a fa)

  edit_numbered : (a : AttachedOf O) → m.site ≡ Some a → (r : Result O.Op stars.EditFault) → Numbered (mix.home_edit O m a r).site
  edit_numbered a fa (Err n) = h.number
  edit_numbered a fa (Ok op) = one_numbered (worlds.with_edit O op a) (h.number a fa)

  up_numbered : (l : stars.LinkState O.Op) (a : AttachedOf O) → m.site ≡ Some a → (us : List (stars.Up O.Op)) → Numbered (mix.first_home_up O m l a us).site
  up_numbered l a fa [] = h.number
  up_numbered l a fa (up ∷ us) = one (stars.up_fault O m.star l up)
    where
      one : (f : Option stars.StarFault) → Numbered (mix.home_up O m l a up f).site
      one None = one_numbered (worlds.one_taken O a) (h.number a fa)
      one (Some fault) = none_numbered

  fall_numbered : (a : AttachedOf O) → m.site ≡ Some a → (n : ℕ) (d : stars.Down O.Op) (ds : List (stars.Down O.Op)) (f : Option stars.SiteFault) → Numbered (mix.home_down O m a n d ds f).site
  fall_numbered a fa n d ds None = one_numbered (worlds.one_handed O d ds a) (handed_number O d ds a ∙ h.number a fa)
  fall_numbered a fa n d ds (Some fault) = h.number

  down_numbered : (a : AttachedOf O) → m.site ≡ Some a → (ds os : List (stars.Down O.Op)) → Numbered (mix.first_home_down O m a ds os).site
  down_numbered a fa (d ∷ ds) os = fall_numbered a fa 0 d ds (stars.deliver_fault O d a.site)
  down_numbered a fa [] (d ∷ os) = fall_numbered a fa 1 d [] (stars.deliver_fault O d a.site)
  down_numbered a fa [] [] = h.number

  -- and a stranger changes nothing at it
  pub stray_site : (j : ℕ) (f : stars.LinkState O.Op → mix.MixOutcome O) → ((l : stars.LinkState O.Op) → (f l).site ≡ m.site) → (mix.at_stray O m j f).site ≡ m.site
  stray_site j f same = cases (nat_eq j 1) (stars.link_of j m.star.links)
    where
      cases : (b : Bool) (ol : Option (stars.LinkState O.Op)) → (cond b (mix.still O m Nothing) (mix.at_link_of O m f ol)).site ≡ m.site
      cases true ol = refl
      cases false None = refl
      cases false (Some l) = same l

  sends_site : (j : ℕ) (up : stars.Up O.Op) (l : stars.LinkState O.Op) (f : Option stars.StarFault) → (mix.stray_sends O m j l up f).site ≡ m.site
  sends_site j up l None = refl
  sends_site j up l (Some fault) = refl

  joins_site : (f : Option stars.StarFault) → (mix.stray_joins O m f).site ≡ m.site
  joins_site None = refl
  joins_site (Some fault) = refl

  numbered : (e : mix.MixEventOf O) → Numbered (mix.mix_outcome O m e).site
  numbered (stars.HomeEdit command) = home_numbered _ (λ l a fa. edit_numbered a fa (stars.edit_answer O command a.site))
  numbered HomeUp = home_numbered _ (λ l a fa. up_numbered l a fa a.up)
  numbered HomeDown = home_numbered _ (λ l a fa. down_numbered a fa a.down l.outbox)
  numbered JoinStray = subst Numbered (sym (joins_site (stars.join_fault m.star))) h.number
  numbered (stars.Stray j up) = subst Numbered (sym (stray_site j _ (λ l. sends_site j up l (stars.up_fault O m.star l up)))) h.number
  numbered (stars.LeaveStray j) = subst Numbered (sym (stray_site j _ (λ l. refl))) h.number

  -- no stranger is given its number
  not_given : (e : mix.MixEventOf O) → traces.stray_seen 1 (mix.world_event O e) (mix.mix_outcome O m e).reply ≡ false
  not_given (stars.HomeEdit command) = refl
  not_given HomeUp = refl
  not_given HomeDown = refl
  not_given JoinStray = joins (stars.join_fault m.star)
    where
      joins : (f : Option stars.StarFault) → traces.stray_seen {Command = O.Command} {Operation = O.Op} 1 world_events.JoinStray (mix.stray_joins O m f).reply ≡ false
      joins None = ne_eqb (m.star.given + 1) 1 (λ e. let some = h.given in absurd (omega arith))
      joins (Some fault) = refl
  not_given (stars.Stray j up) = refl
  not_given (stars.LeaveStray j) = refl

module _ (O : stars.Operations) (L : stars.AreLawful O) where
  -- so all of it is kept
  pub home-happens : (most : ℕ) (m : mix.MixOf O) → mix.IsHomeWorld O most m → (e : mix.MixEventOf O) → mix.IsHomeWorld O most (mix.mix_happens O m e)
  home-happens most m h e = record {
    sound = subst (soundness.IsSound O most) (world_is O most m h e) (sound_runs.sound-happens O L most (mix.world_of O m) (mix.world_event O e) h.sound);
    tallied = subst (traces.IsTallied O) (world_is O most m h e) (tallied-happens O (mix.world_of O m) h.tallied (h.sound.no_edit (m.star.given + 1) (omega arith)) (mix.world_event O e));
    strays = subst (soundness.KnowsStrays O) (world_is O most m h e) (world_laws.strays-happens O L most (mix.world_of O m) h.sound h.strays (mix.world_event O e));
    given = (let more = (orders.event-follows O L most (mix.world_of O m) h.sound (mix.world_event O e)).given in
        let same : (worlds.outcome O (mix.world_of O m) (mix.world_event O e)).star.given ≡ (mix.mix_outcome O m e).star.given = ap (λ o. o.star.given) (outcome_is O most m h e) in
        let some = h.given in omega arith);
    number = numbered O most m h e;
    home = ap (λ (w : WorldOf O). traces.is_stray 1 w.trace) (sym (world_is O most m h e))
        ∙ stray-end 1 (mix.world_of O m).trace (record { event = mix.world_event O e; reply = (worlds.outcome O (mix.world_of O m) (mix.world_event O e)).reply })
        ∙ ap (λ o. traces.is_stray 1 (mix.world_of O m).trace || traces.stray_seen 1 (mix.world_event O e) o.reply) (outcome_is O most m h e)
        ∙ world_laws.or_false (traces.is_stray 1 (mix.world_of O m).trace) (traces.stray_seen 1 (mix.world_event O e) (mix.mix_outcome O m e).reply) (not_given O most m h e)
        ∙ h.home;
  }

  -- as it is opened: its site has joined a world that was
  pub home-opened : (most limit : ℕ) (board : O.State) → soundness.IsSound O most (worlds.opened_world O board limit) → mix.IsHomeWorld O most (mix.opened_mix O board limit)
  home-opened most limit board opened = record {
    sound = sound_runs.sound-happens O L most (worlds.opened_world O board limit) world_events.Join opened;
    tallied = tallied-happens O (worlds.opened_world O board limit) (record { given = refl; made = tt }) refl world_events.Join;
    strays = world_laws.strays-happens O L most (worlds.opened_world O board limit) opened (record { links = λ i. tt; new = λ i above. refl }) world_events.Join;
    given = omega arith;
    number = λ a e. (let same : mix.new_home O board limit ≡ a = cc in subst (λ (x : AttachedOf O). x.site.number ≡ 1) same refl);
    home = refl;
  }

  -- after any events
  pub home-run : (es : List (mix.MixEventOf O)) (most : ℕ) (m : mix.MixOf O) → mix.IsHomeWorld O most m → mix.IsHomeWorld O most (mix.mix_run O m es)
  home-run [] most m h = h
  home-run (e ∷ es) most m h = home-run es most (mix.mix_happens O m e) (home-happens most m h e)

-- What a star with one site and strangers promises, from what its world does.

module _ (O : stars.Operations) where
  -- an event of the site
  abbrev pub IsHomeEvent : mix.MixEventOf O → Type 0
  IsHomeEvent JoinStray = ⊥
  IsHomeEvent (stars.Stray j up) = ⊥
  IsHomeEvent (stars.LeaveStray j) = ⊥
  IsHomeEvent e = Unit {0}

  -- what is read off both traces
  made_one : (e : mix.MixEventOf O) (r : worlds.ReplyOf O) → traces.edit_made 1 (mix.world_event O e) r ≡ mix.home_made e r
  made_one (stars.HomeEdit command) (Made e) = refl
  made_one e r = refl

  shown_one : (e : mix.MixEventOf O) (r : worlds.ReplyOf O) → traces.was_shown 1 (mix.world_event O e) r ≡ mix.home_shown e r
  shown_one HomeDown Shown = refl
  shown_one e r = refl

  no_join : (e : mix.MixEventOf O) (r : worlds.ReplyOf O) (n at : ℕ) → traces.join_seen 1 n at (mix.world_event O e) r ≡ at
  no_join (stars.HomeEdit command) r n at = refl
  no_join HomeUp r n at = refl
  no_join HomeDown r n at = refl
  no_join JoinStray r n at = refl
  no_join (stars.Stray j up) r n at = refl
  no_join (stars.LeaveStray j) r n at = refl

  made_is : (hs : List (mix.MixHappenedOf O)) → made 1 (map (mix.world_happened O) hs) ≡ mix.mix_made hs
  made_is [] = refl
  made_is (h ∷ hs) = ap (λ es. es ++ made 1 (map (mix.world_happened O) hs)) (made_one h.event h.reply) ∙ ap (λ es. mix.home_made h.event h.reply ++ es) (made_is hs)

  shown_is : (hs : List (mix.MixHappenedOf O)) → traces.shown_count 1 (map (mix.world_happened O) hs) ≡ mix.mix_shown hs
  shown_is [] = refl
  shown_is (h ∷ hs) = omega (arith, shown_one h.event h.reply, shown_is hs)

  joined_is : (hs : List (mix.MixHappenedOf O)) (past : List (worlds.HappenedOf O)) (at : ℕ) → traces.over_trace (λ past at h. traces.join_seen 1 (length (traces.order_of O past)) at h.event h.reply) at past (map (mix.world_happened O) hs) ≡ at
  joined_is [] past at = refl
  joined_is (h ∷ hs) past at = joined_is hs (past ++ mix.world_happened O h ∷ []) (traces.join_seen 1 (length (traces.order_of O past)) at (mix.world_event O h.event) h.reply) ∙ no_join h.event h.reply (length (traces.order_of O past)) at

  -- what the site should show, by its place, how many it received, the order, and what it made
  abbrev seen : ℕ → ℕ → List (stars.Entry O.Edit) → List O.Edit → List O.Edit
  seen at n order mine =
      traces.edits (take (at + traces.through_others n (drop at (traces.turns 1 order))) (traces.turns 1 order))
      ++ drop (length (traces.own_edits (take (at + traces.through_others n (drop at (traces.turns 1 order))) (traces.turns 1 order)))) mine

module _ (O : stars.Operations) (L : stars.AreLawful O) (most : ℕ) (m : mix.MixOf O) (h : mix.IsHomeWorld O most m) where
  view_is : traces.view O 1 (mix.world_of O m).trace ≡ mix.mix_view m.star.order m.trace
  view_is =
      ap (λ at. seen O at (traces.shown_count 1 (mix.world_of O m).trace) (traces.order_of O (mix.world_of O m).trace) (made 1 (mix.world_of O m).trace)) (joined_is O m.trace _ 0)
      ∙ ap (λ n. seen O 0 n (traces.order_of O (mix.world_of O m).trace) (made 1 (mix.world_of O m).trace)) (zero-add (traces.shown_count 1 (map (mix.world_happened O) m.trace)) ∙ shown_is O m.trace)
      ∙ ap (λ order. seen O 0 (mix.mix_shown m.trace) order (made 1 (mix.world_of O m).trace)) h.sound.order_is
      ∙ ap (λ mine. seen O 0 (mix.mix_shown m.trace) m.star.order mine) (made_is O m.trace)
      ∙ ap (λ k. traces.edits (take k (traces.turns 1 m.star.order)) ++ drop (length (traces.own_edits (take k (traces.turns 1 m.star.order)))) (mix.mix_made m.trace)) (zero-add (traces.through_others (mix.mix_shown m.trace) (traces.turns 1 m.star.order)))

  there : (a : AttachedOf O) → m.site ≡ Some a → worlds.attached 1 (mix.world_of O m).sites ≡ Some a
  there a fa = found_home O m.site h.number ∙ fa

  -- its link
  pub home_link : (a : AttachedOf O) → m.site ≡ Some a → (l : stars.LinkState O.Op) × (stars.link_of 1 m.star.links ≡ Some l)
  home_link a fa = let st = standing_of O L most (mix.world_of O m) h.sound 1 a (there a fa) in (st.0, st.2)

  pub holds : (l : stars.LinkState O.Op) (a : AttachedOf O) → stars.link_of 1 m.star.links ≡ Some l → m.site ≡ Some a → soundness.SiteHolds O (mix.world_of O m) 1 l a
  holds l a fl fa = sound_runs.sites-hold O L most (mix.world_of O m) h.sound 1 l a fl (there a fa)

  -- at every moment
  pub home-promises : mix.MixPromises O m
  home-promises = record {
    star_content = h.sound.star.star.content_is;
    site_content = λ a fa. (let k = home_link a fa in (holds k.0 a k.1 fa).content ∙ ap (O.t.meaning (O.t.content m.opening)) view_is);
    in_step = λ l a fl fa. (holds l a fl fa).in_step;
    equal = λ q a fa. (let k = home_link a fa in (holds k.0 a k.1 fa).equal (q k.0 a k.1 fa));
    whole = λ q a fa. (let k = home_link a fa in sym (ap (λ os. traces.own_edits (traces.turns 1 os)) h.sound.order_is) ∙ (holds k.0 a k.1 fa).whole (q k.0 a k.1 fa) ∙ made_is O m.trace);
    linked = either m.site (λ o. is_some o ≡ is_some (stars.link_of 1 m.star.links)) (λ none. sym (ap is_some (unlinked O most m h none))) (λ a fa. sym (ap is_some (home_link a fa).1));
    running = λ a fa. (let k = home_link a fa in (holds k.0 a k.1 fa).running);
  }

  -- it made the edits that the trace says, and its backlog is those less the ones that it knows are taken
  pub home-made : (a : AttachedOf O) → m.site ≡ Some a → a.site.made ≡ length (mix.mix_made m.trace)
  home-made a fa = (tallies O (mix.world_of O m) h.tallied).made 1 a (there a fa) ∙ ap (λ es. length es) (made_is O m.trace)

  pub home-backlog : (a : AttachedOf O) → m.site ≡ Some a → a.site.made ≡ a.site.end.acknowledged + length a.site.end.outgoing
  home-backlog a fa = (sound_runs.sound-backlog O L most (mix.world_of O m) h.sound).backlog 1 a (there a fa)

  -- a reply is that of the world
  reply_is : (e : mix.MixEventOf O) → (worlds.outcome O (mix.world_of O m) (mix.world_event O e)).reply ≡ (mix.mix_outcome O m e).reply
  reply_is e = ap (λ o. o.reply) (outcome_is O most m h e)

  -- a full order alone detaches the site
  pub home-full : mix.OnlyFull O m
  home-full fault is = either m.site (λ o. m.site ≡ o → (fault ≡ stars.LogFull) × (m.star.limit ≤ length m.star.order))
      (λ none e. absurd (let nothing = (sound_runs.replies O L most (mix.world_of O m) h.sound (world_events.Up 1)).absent (found_home O m.site h.number ∙ none) in let same = reply_is HomeUp in cc))
      (λ a fa e. sound_runs.only-full O L most (mix.world_of O m) h.sound 1 a fault (there a fa) (reply_is HomeUp ∙ is)) refl

  -- an event of the site
  as_home : (e : mix.MixEventOf O) (P : worlds.ReplyOf O → stars.LinkState O.Op → AttachedOf O → Type 0) → soundness.SiteReplies O (mix.world_of O m) 1 (worlds.outcome O (mix.world_of O m) (mix.world_event O e)).reply (P (worlds.outcome O (mix.world_of O m) (mix.world_event O e)).reply)
      → mix.HomeReplies O m (mix.mix_outcome O m e) (P (mix.mix_outcome O m e).reply)
  as_home e P r = record {
    absent = λ none. (sym (reply_is e) ∙ r.absent (found_home O m.site h.number ∙ none));
    present = λ l a fl fa. subst (λ x. P x l a) (reply_is e) (r.present l a fl (there a fa));
  }

  pub home-replies : (e : mix.MixEventOf O) → IsHomeEvent O e → mix.MixReplies O m e (mix.mix_outcome O m e)
  home-replies (stars.HomeEdit command) home = as_home (stars.HomeEdit command) (λ r l a. r ≡ soundness.edit_reply O (stars.edit_answer O command a.site)) (sound_runs.replies O L most (mix.world_of O m) h.sound (world_events.Edit 1 command))
  home-replies HomeUp home = as_home HomeUp (λ r l a. soundness.UpReplies O m.star a.up r) (sound_runs.replies O L most (mix.world_of O m) h.sound (world_events.Up 1))
  home-replies HomeDown home = as_home HomeDown (λ r l a. soundness.DownReplies O (a.down ++ l.outbox) r) (sound_runs.replies O L most (mix.world_of O m) h.sound (world_events.Down 1))
  home-replies e home = absurd home

module _ (O : stars.Operations) (L : stars.AreLawful O) where
  -- any events
  pub run_is : (es : List (mix.MixEventOf O)) (most : ℕ) (m : mix.MixOf O) → mix.IsHomeWorld O most m → worlds.run O (mix.world_of O m) (map (mix.world_event O) es) ≡ mix.world_of O (mix.mix_run O m es)
  run_is [] most m h = refl
  run_is (e ∷ es) most m h = ap (λ w. worlds.run O w (map (mix.world_event O) es)) (world_is O most m h e) ∙ run_is es most (mix.mix_happens O m e) (home-happens O L most m h e)

  -- the star keeps the order of its items, and so does the site while it is attached
  pub home-order : (es : List (mix.MixEventOf O)) (most : ℕ) (m : mix.MixOf O) → mix.IsHomeWorld O most m → mix.MixOrderIsKept O m (mix.mix_run O m es)
  home-order es most m h =
      let is = run_is es most m h in
      let last = home-run O L es most m h in
      record {
        star = subst (λ (w : WorldOf O). O.t.keeps_order m.star.board w.star.board) is (orders.run-follows O L (map (mix.world_event O) es) most (mix.world_of O m) h.sound).order;
        site = λ a b fa fb. (orders.run_follows O L (map (mix.world_event O) es) most (mix.world_of O m) h.sound 1 a b (found_home O m.site h.number ∙ fa)
            (ap (λ (w : WorldOf O). worlds.attached 1 w.sites) is ∙ found_home O (mix.mix_run O m es).site last.number ∙ fb)).order;
      }

  -- a copy of its board is one of its world's
  copy_of : (most : ℕ) (m : mix.MixOf O) → mix.IsHomeWorld O most m → (x : O.State) → mix.IsMixCopy O m x → traces.IsCopy O (mix.world_of O m) x
  copy_of most m h x (inl star) = inl star
  copy_of most m h x (inr site) = inr (1, site.0, found_home O m.site h.number ∙ site.1, site.2)

  module _ (symmetric : (x y : O.State) → O.t.keeps_order x y → O.t.keeps_order y x) where
    -- any events leave a past star for each length of the order
    pub home-past : (es : List (mix.MixEventOf O)) (most : ℕ) (m : mix.MixOf O) → mix.IsHomeWorld O most m → copies.HasPastStars O L symmetric most (mix.world_of O m) → copies.HasPastStars O L symmetric most (mix.world_of O (mix.mix_run O m es))
    home-past es most m h past = subst (copies.HasPastStars O L symmetric most) (run_is es most m h) (copies.past_stars_run O L symmetric most (map (mix.world_event O) es) (mix.world_of O m) h.sound past)

    -- so any two copies show in one order what both show
    pub home-copies : (es : List (mix.MixEventOf O)) (most : ℕ) (m : mix.MixOf O) → mix.IsHomeWorld O most m → copies.HasPastStars O L symmetric most (mix.world_of O m) → mix.MixOrdersAgree O m (mix.mix_run O m es)
    home-copies es most m h past x y now later =
        copies.run_copies O L symmetric most (mix.world_of O m) h.sound past (map (mix.world_event O) es) x y (copy_of most m h x now)
        (subst (λ (w : WorldOf O). traces.IsCopy O w y) (sym (run_is es most m h)) (copy_of most (mix.mix_run O m es) (home-run O L es most m h) y later))

-- After any events on boards.

module _ (m : BoardMix) (r : mix.IsMixed m) where
  -- the world that it was opened over
  opened : IsBoardWorld (worlds.opened_world stars.board_batches r.board r.limit)
  opened = world_laws.opened_sound r.board r.limit r.opening r.limited

  first : mix.IsHomeWorld stars.board_batches stars.most_batches (mix.opened_mix stars.board_batches r.board r.limit)
  first = home-opened stars.board_batches stars.batch_laws stars.most_batches r.limit r.board opened.sound

  pub home-reached : mix.IsHomeWorld stars.board_batches stars.most_batches m
  home-reached = subst (mix.IsHomeWorld stars.board_batches stars.most_batches) (sym r.is) (home-run stars.board_batches stars.batch_laws r.events stars.most_batches (mix.opened_mix stars.board_batches r.board r.limit) first)

  -- for each length of its order a star that its world had then
  pub past-reached : copies.HasPastStars stars.board_batches stars.batch_laws stars.order_symmetric stars.most_batches (mix.world_of stars.board_batches m)
  past-reached = subst (λ (k : BoardMix). copies.HasPastStars stars.board_batches stars.batch_laws stars.order_symmetric stars.most_batches (mix.world_of stars.board_batches k)) (sym r.is)
      (home-past stars.board_batches stars.batch_laws stars.order_symmetric r.events stars.most_batches (mix.opened_mix stars.board_batches r.board r.limit) first
      (copies.past_stars_happens stars.board_batches stars.batch_laws stars.order_symmetric stars.most_batches (worlds.opened_world stars.board_batches r.board r.limit) opened.sound world_events.Join
      (copies.past_stars_opened stars.board_batches stars.batch_laws stars.order_symmetric stars.most_batches r.limit r.board opened.sound)))

-- What each event of a stranger answers.

module _ (O : stars.Operations) (L : stars.AreLawful O) where
  -- a stranger joins
  join_replies : (m : mix.MixOf O) → soundness.JoinReplies O m.star (mix.stray_joins O m (stars.join_fault m.star)).reply
  join_replies m =
      let faults = sound_runs.join_faults O L m.star in
      record {
        full = λ full. ap (λ f. (mix.stray_joins O m f).reply) (faults.0 full);
        spent = λ few spent. ap (λ f. (mix.stray_joins O m f).reply) (faults.1 few spent);
        joined = λ few left. ap (λ f. (mix.stray_joins O m f).reply) (faults.2 few left);
      }

  -- and leaves
  leave_replies : (m : mix.MixOf O) (j : ℕ) → mix.LeaveReplies O m j (mix.mix_outcome O m (stars.LeaveStray j))
  leave_replies m j = record {
    own = λ is. ap (λ b. cond b (mix.still O m Nothing) (mix.at_link_of O m (λ l. mix.stray_leaves O m j) (stars.link_of j m.star.links))) (eq-eqb j 1 is);
    absent = λ gone. (ap (λ o. cond (nat_eq j 1) (mix.still O m Nothing) (mix.at_link_of O m (λ l. mix.stray_leaves O m j) o)) gone ∙ either_way (nat_eq j 1));
    present = λ other l fl. (ap (λ b. cond b (mix.still O m Nothing) (mix.at_link_of O m (λ l. mix.stray_leaves O m j) (stars.link_of j m.star.links))) (ne_eqb j 1 other)
        ∙ ap (λ o. mix.at_link_of O m (λ l. mix.stray_leaves O m j) o) fl);
  }
    where
      either_way : (b : Bool) → cond b (mix.still O m Nothing) (mix.still O m Nothing) ≡ mix.still O m Nothing
      either_way true = refl
      either_way false = refl

module _ (O : stars.Operations) (L : stars.AreLawful O) (most : ℕ) (m : mix.MixOf O) (h : mix.IsHomeWorld O most m) where
  -- a stranger's message at its link
  sent_one : (j : ℕ) (l : stars.LinkState O.Op) → stars.link_of j m.star.links ≡ Some l → (up : stars.Up O.Op)
      → (let o = mix.stray_sends O m j l up (stars.up_fault O m.star l up) in soundness.IsAnswered O m.star j l up o.reply o.star)
  sent_one j l fl up = either (stars.up_fault O m.star l up) (λ f. let o = mix.stray_sends O m j l up f in soundness.IsAnswered O m.star j l up o.reply o.star)
      (λ none. inr (accepted O L most (O.t.content m.opening) m.star h.sound.star.star j l fl up none)) (λ fault is. inl (record { fault = fault; cause = is; reply = refl; star = refl }))

  -- at any number
  pub stray-replies : (j : ℕ) (up : stars.Up O.Op) → mix.StrayReplies O m j up (mix.mix_outcome O m (stars.Stray j up))
  stray-replies j up = record {
    site = keeps (nat_eq j 1) (stars.link_of j m.star.links);
    absent = λ gone. (ap (λ o. cond (nat_eq j 1) (mix.still O m Nothing) (mix.at_link_of O m (λ l. mix.stray_sends O m j l up (stars.up_fault O m.star l up)) o)) gone ∙ either_way (nat_eq j 1));
    own = λ is. ap (λ b. cond b (mix.still O m Nothing) (mix.at_link_of O m (λ l. mix.stray_sends O m j l up (stars.up_fault O m.star l up)) (stars.link_of j m.star.links))) (eq-eqb j 1 is);
    present = λ other l fl. (let now = there l other fl in subst (λ o. soundness.IsAnswered O m.star j l up o.reply o.star) (sym now) (sent_one j l fl up));
  }
    where
      sends : (l : stars.LinkState O.Op) (f : Option stars.StarFault) → (mix.stray_sends O m j l up f).site ≡ m.site
      sends l None = refl
      sends l (Some fault) = refl

      keeps : (b : Bool) (o : Option (stars.LinkState O.Op)) → (cond b (mix.still O m Nothing) (mix.at_link_of O m (λ l. mix.stray_sends O m j l up (stars.up_fault O m.star l up)) o)).site ≡ m.site
      keeps true o = refl
      keeps false None = refl
      keeps false (Some l) = sends l (stars.up_fault O m.star l up)

      either_way : (b : Bool) → cond b (mix.still O m Nothing) (mix.still O m Nothing) ≡ mix.still O m Nothing
      either_way true = refl
      either_way false = refl

      there : (l : stars.LinkState O.Op) → j ≢ 1 → stars.link_of j m.star.links ≡ Some l → mix.mix_outcome O m (stars.Stray j up) ≡ mix.stray_sends O m j l up (stars.up_fault O m.star l up)
      there l other fl =
          ap (λ b. cond b (mix.still O m Nothing) (mix.at_link_of O m (λ k. mix.stray_sends O m j k up (stars.up_fault O m.star k up)) (stars.link_of j m.star.links))) (ne_eqb j 1 other)
          ∙ ap (λ o. mix.at_link_of O m (λ k. mix.stray_sends O m j k up (stars.up_fault O m.star k up)) o) fl

  -- each event answers what it should
  pub all-replies : (e : mix.MixEventOf O) → mix.MixReplies O m e (mix.mix_outcome O m e)
  all-replies (stars.HomeEdit command) = home-replies O L most m h (stars.HomeEdit command) tt
  all-replies HomeUp = home-replies O L most m h HomeUp tt
  all-replies HomeDown = home-replies O L most m h HomeDown tt
  all-replies JoinStray = join_replies O L m
  all-replies (stars.Stray j up) = stray-replies j up
  all-replies (stars.LeaveStray j) = leave_replies O L m j
