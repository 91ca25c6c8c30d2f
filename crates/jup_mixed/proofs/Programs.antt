-- A star with one site and strangers in the program.
use Rattle.std.proofs.Common.{◌≡◌, inl, inr, refl, sym, ◌∙◌, ap, subst, ℕ, ◌+◌, true, false, cond, List, [], ◌∷◌, ◌++◌, take, length, nat_eq, Option, Some, None, is_some, option_map, Result, Ok, Err, IfOk, OnOk, OnErr, Bool, nat_le, drop, append-nil, drop_of_length-le, le_refl, ◌↔◌, IsTrue, leb-true}
use Rattle.jup_mixed.specs.Prelude.{BoardBatch, board_batches, Up, Down, Attached}
use Rattle.jup_mixed.specs.Prelude as stars
use Rattle.jup_window.specs.Entries.{EachWidget}
use Rattle.jup_batch.specs.Boards as board
use Rattle.jup_star.specs.Stars.{star_open_fault}
use Rattle.jup_star.proofs.Stars.{short_bare, distinct_bare}
use Rattle.jup_lane.specs.Lanes.{messages, ups, downs as down_codec}
use Rattle.jup_world.specs.declared.events.Reply.TheVariants.{Joined, NoJoin, Left, Detached, Nothing}
use Rattle.jup_world.specs.Worlds as world_worlds
use Rattle.jup_world.specs.Sound as soundness
use Rattle.jup_world.specs.Boards.{BoardAttached, BoardLink, BoardReply}
use Rattle.jup_world.specs.Happenings.{with_answer, Rises, IsRefused, refilled_from, refilled, fetched_for, refilled_star, handed_first, handed, reply_to, first_reply, FirstFits, FitsFirst, SparesAt, IsQuietAt}
use Rattle.jup_world.specs.Traces.{IsTallied}
use Rattle.jup_site.proofs.Numbers.{map_kept}
use Rattle.jup_world.proofs.Answers as answers
use Rattle.jup_world.proofs.Worlds.{open_held, strays-fetched}
use Rattle.jup_world.proofs.Sound.Tallies.{tallied-fetched}
use Rattle.jup_world.proofs.Sound.Runs.{sound-fetched, fall_fits}
use Rattle.jup_mixed.specs.Mixed.{MixOutcome}
use Rattle.jup_mixed.specs.Mixed as mix
use Rattle.jup_mixed.proofs.Worlds as worlds
use Rattle.jup_world.specs.Prelude.{NoMemory, only_site, is_no_memory, IsShort, test, downs}
use Rattle.jup_mixed.specs.declared.events.MixHappened.{MixHappened}
use Rattle.jup_world.specs.declared.events.Reply.{Reply}

-- What the program does is what the definitions of an event say.

-- these parts as a whole
abbrev mix_of : stars.Windows → stars.BoardStar → Option BoardAttached → List (MixHappened stars.Commands BoardBatch stars.BoardEdits stars.EditFault) → mix.BoardMix
mix_of opening s o trace = record { opening = opening; star = s; site = o; trace = trace }

-- a stranger joins
pub plays_joined : (s t : stars.BoardStar) (o : Option BoardAttached) (n : ℕ) → stars.join_fault s ≡ None → n ≡ s.given + 1 → t ≡ stars.joined s → mix.MixPlays stars.JoinStray s o (Joined n) t o
plays_joined s t o n none number e opening trace = ap (mix.stray_joins board_batches (mix_of opening s o trace)) none ∙ (λ j. record { reply = Joined (sym number j); star = sym e j; site = o })

pub plays_no_join : (s t : stars.BoardStar) (o : Option BoardAttached) (fault : stars.StarFault) → stars.join_fault s ≡ Some fault → t ≡ s → mix.MixPlays stars.JoinStray s o (NoJoin fault) t o
plays_no_join s t o fault full e opening trace = ap (mix.stray_joins board_batches (mix_of opening s o trace)) full ∙ (λ j. record { reply = NoJoin fault; star = sym e j; site = o })

-- an event of a stranger's link that is there, or is not
stray_there : (m : mix.BoardMix) (j : ℕ) (f : BoardLink → MixOutcome board_batches) (l : BoardLink) → nat_eq j 1 ≡ false → stars.link_of j m.star.links ≡ Some l → mix.at_stray board_batches m j f ≡ f l
stray_there m j f l apart fl =
    ap (λ b. cond b (mix.still board_batches m Nothing) (mix.at_link_of board_batches m f (stars.link_of j m.star.links))) apart
    ∙ ap (λ o. mix.at_link_of board_batches m f o) fl

stray_none : (m : mix.BoardMix) (j : ℕ) (f : BoardLink → MixOutcome board_batches) → nat_eq j 1 ≡ false → stars.link_of j m.star.links ≡ None → mix.at_stray board_batches m j f ≡ mix.still board_batches m Nothing
stray_none m j f apart fl =
    ap (λ b. cond b (mix.still board_batches m Nothing) (mix.at_link_of board_batches m f (stars.link_of j m.star.links))) apart
    ∙ ap (λ o. mix.at_link_of board_batches m f o) fl

-- it leaves
pub plays_left : (s t : stars.BoardStar) (o : Option BoardAttached) (j : ℕ) (l : BoardLink) → nat_eq j 1 ≡ false → stars.link_of j s.links ≡ Some l → t ≡ stars.left j s → mix.MixPlays (stars.LeaveStray j) s o Left t o
plays_left s t o j l apart fl e opening trace = stray_there (mix_of opening s o trace) j _ l apart fl ∙ (λ i. record { reply = Left; star = sym e i; site = o })

pub plays_not_left : (s t : stars.BoardStar) (o : Option BoardAttached) (j : ℕ) → nat_eq j 1 ≡ false → stars.link_of j s.links ≡ None → t ≡ s → mix.MixPlays (stars.LeaveStray j) s o Nothing t o
plays_not_left s t o j apart fl e opening trace = stray_none (mix_of opening s o trace) j _ apart fl ∙ (λ i. record { reply = Nothing; star = sym e i; site = o })

-- a link of which messages wait
pub waits_there : (o : Option BoardLink) (w : Option ℕ) → w ≡ option_map (λ l. length l.outbox) o → is_some w ≡ true → (l : BoardLink) × (o ≡ Some l)
waits_there None w e f = absurd (let none : is_some w ≡ false = ap is_some e in cc)
waits_there (Some l) w e f = (l, refl)

-- its message is taken, or refused
pub plays_stray : (s t : stars.BoardStar) (o : Option BoardAttached) (j : ℕ) (up : Up BoardBatch) (l : BoardLink) (place : Option ℕ) (reply : BoardReply) → nat_eq j 1 ≡ false → stars.link_of j s.links ≡ Some l
    → (stars.up_fault board_batches s l up ≡ None) × (place ≡ stars.place_taken board_batches s up) × (t ≡ stars.taken board_batches j up l s) → reply ≡ world_worlds.place_reply board_batches place → mix.MixPlays (stars.Stray j up) s o reply t o
plays_stray s t o j up l place reply apart fl call is opening trace =
    stray_there (mix_of opening s o trace) j _ l apart fl ∙ ap (mix.stray_sends board_batches (mix_of opening s o trace) j l up) call.0
    ∙ (λ i. record { reply = (ap (world_worlds.place_reply board_batches) (sym call.1) ∙ sym is) i; star = sym call.2 i; site = o })

pub plays_stray_refused : (s t : stars.BoardStar) (o : Option BoardAttached) (j : ℕ) (up : Up BoardBatch) (l : BoardLink) (fault refusal : stars.StarFault) → nat_eq j 1 ≡ false → stars.link_of j s.links ≡ Some l
    → (stars.up_fault board_batches s l up ≡ Some fault) × (t ≡ stars.left j s) → refusal ≡ fault → mix.MixPlays (stars.Stray j up) s o (Detached refusal) t o
plays_stray_refused s t o j up l fault refusal apart fl call same opening trace =
    stray_there (mix_of opening s o trace) j _ l apart fl ∙ ap (mix.stray_sends board_batches (mix_of opening s o trace) j l up) call.0
    ∙ (λ i. record { reply = Detached (sym same i); star = sym call.1 i; site = o })

-- the site as it is ready
module _ (s : stars.BoardStar) (a : Attached) (ready : mix.IsReady s (Some (stars.bare_attached a))) where
  number : a.site.number ≡ 1
  number = (ready (stars.bare_attached a) refl).0

  fl : stars.link_of 1 s.links ≡ Some (ready (stars.bare_attached a) refl).1.0
  fl = (ready (stars.bare_attached a) refl).1.1

  -- an event of the site
  home_there : (opening : stars.Windows) (trace : List (MixHappened stars.Commands BoardBatch stars.BoardEdits stars.EditFault)) (f : BoardLink → BoardAttached → MixOutcome board_batches)
      → mix.at_home board_batches (mix_of opening s (Some (stars.bare_attached a)) trace) f (stars.link_of 1 s.links) (Some (stars.bare_attached a)) ≡ f (ready (stars.bare_attached a) refl).1.0 (stars.bare_attached a)
  home_there opening trace f = ap (λ o. mix.at_home board_batches (mix_of opening s (Some (stars.bare_attached a)) trace) f o (Some (stars.bare_attached a))) fl

  -- it edits
  edit_is : (m : mix.BoardMix) (b : BoardAttached) → m.site ≡ Some b → (r : Result BoardBatch stars.EditFault) → mix.home_edit board_batches m b r ≡ record { reply = soundness.edit_reply board_batches r; star = m.star; site = Some (with_answer r b) }
  edit_is m b fa (Ok op) = refl
  edit_is m b fa (Err n) = λ j. record { reply = soundness.edit_reply board_batches (Err n); star = m.star; site = fa j }

  pub edit_plays : (command : stars.Commands) (r : Result (Reply stars.BoardEdits stars.EditFault) NoMemory) (new : Attached)
      → IfOk r (λ reply. reply ≡ soundness.edit_reply board_batches (stars.edit_answer board_batches command a.site))
      → OnOk r (stars.bare_attached new ≡ with_answer (stars.edit_answer board_batches command a.site) (stars.bare_attached a))
      → IfOk r (λ reply. mix.MixPlays (stars.HomeEdit command) s (Some (stars.bare_attached a)) reply s (Some (stars.bare_attached new)))
  edit_plays command (Ok reply) new is made = λ opening trace.
      home_there opening trace _ ∙ edit_is (mix_of opening s (Some (stars.bare_attached a)) trace) (stars.bare_attached a) refl (stars.edit_answer board_batches command a.site)
      ∙ (λ j. record { reply = sym is j; star = s; site = Some (sym made j) })
  edit_plays command (Err fault) new is made = tt

  -- the star takes its oldest message
  pub up_plays : (t : stars.BoardStar) (reply : Reply stars.BoardEdits stars.EditFault) (new : Attached) → Rises a.site.number (messages ups a.up.way) s t reply → stars.bare_attached new ≡ world_worlds.one_taken board_batches (stars.bare_attached a)
      → mix.MixPlays stars.HomeUp s (Some (stars.bare_attached a)) reply t (Some (stars.bare_attached new))
  up_plays t reply new rises made opening trace = home_there opening trace _ ∙ cases (messages ups a.up.way) refl (subst (λ n. Rises n (messages ups a.up.way) s t reply) number rises)
    where
      none_taken : (messages ups a.up.way) ≡ [] → stars.bare_attached a ≡ world_worlds.one_taken board_batches (stars.bare_attached a)
      none_taken empty = λ j. record { site = a.site; up = (empty ∙ sym (ap (λ (us : List (Up BoardBatch)). lib_drop us) empty)) j; down = messages down_codec a.down.way }
        where
          lib_drop : List (Up BoardBatch) → List (Up BoardBatch)
          lib_drop us = (world_worlds.one_taken board_batches (record { site = a.site; up = us; down = messages down_codec a.down.way })).up

      cases : (us : List (Up BoardBatch)) → (messages ups a.up.way) ≡ us → Rises 1 us s t reply
          → mix.first_home_up board_batches (mix_of opening s (Some (stars.bare_attached a)) trace) (ready (stars.bare_attached a) refl).1.0 (stars.bare_attached a) us ≡ record { reply = reply; star = t; site = Some (stars.bare_attached new) }
      cases [] empty told = λ j. record { reply = sym told.0 j; star = sym told.1 j; site = Some ((none_taken empty ∙ sym made) j) }
      cases (up ∷ more) first told =
          let call = answers.take_taken 1 up s t (ready (stars.bare_attached a) refl).1.0 told.0 fl told.2 in
          ap (mix.home_up board_batches (mix_of opening s (Some (stars.bare_attached a)) trace) (ready (stars.bare_attached a) refl).1.0 (stars.bare_attached a) up) call.0
          ∙ (λ j. record { reply = (ap (world_worlds.place_reply board_batches) (sym call.1) ∙ sym told.1) j; star = sym call.2 j; site = Some (sym made j) })

  pub refused_plays : (t : stars.BoardStar) (fault refusal : stars.StarFault) → IsRefused a.site.number (messages ups a.up.way) s t fault → is_no_memory fault ≡ false → refusal ≡ fault → mix.MixPlays stars.HomeUp s (Some (stars.bare_attached a)) (Detached refusal) t None
  refused_plays t fault refusal refused other same opening trace = home_there opening trace _ ∙ cases (messages ups a.up.way) (subst (λ n. IsRefused n (messages ups a.up.way) s t fault) number refused)
    where
      cases : (us : List (Up BoardBatch)) → IsRefused 1 us s t fault
          → mix.first_home_up board_batches (mix_of opening s (Some (stars.bare_attached a)) trace) (ready (stars.bare_attached a) refl).1.0 (stars.bare_attached a) us ≡ record { reply = Detached refusal; star = t; site = None }
      cases [] told = absurd told
      cases (up ∷ more) told =
          let call = answers.take_refused 1 up s t (ready (stars.bare_attached a) refl).1.0 fault other fl told in
          ap (mix.home_up board_batches (mix_of opening s (Some (stars.bare_attached a)) trace) (ready (stars.bare_attached a) refl).1.0 (stars.bare_attached a) up) call.0
          ∙ (λ j. record { reply = Detached (sym same j); star = sym call.1 j; site = None })

  pub refused_same : (t : stars.BoardStar) (fault : stars.StarFault) → IsRefused a.site.number (messages ups a.up.way) s t fault → is_no_memory fault ≡ true → t ≡ s
  refused_same t fault refused memory = cases (messages ups a.up.way) refused
    where
      cases : (us : List (Up BoardBatch)) → IsRefused a.site.number us s t fault → t ≡ s
      cases [] told = absurd told
      cases (up ∷ more) told = answers.take_wanted a.site.number up s t fault memory told

  -- it receives the oldest message
  pub linked : is_some (stars.link_of a.site.number s.links) ≡ true
  linked = ap (λ n. is_some (stars.link_of n s.links)) number ∙ ap is_some fl

  pub at_number : stars.link_of a.site.number s.links ≡ Some (ready (stars.bare_attached a) refl).1.0
  at_number = ap (λ n. stars.link_of n s.links) number ∙ fl

  fits_first : FirstFits (refilled (ready (stars.bare_attached a) refl).1.0 (stars.bare_attached a))
  fits_first = cases (messages down_codec a.down.way) (ready (stars.bare_attached a) refl).1.0.outbox refl refl
    where
      cases : (ds os : List (Down BoardBatch)) → (messages down_codec a.down.way) ≡ ds → (ready (stars.bare_attached a) refl).1.0.outbox ≡ os → FitsFirst (refilled_from ds os) a.site
      cases [] [] p q = tt
      cases [] (d ∷ os) p q = (ready (stars.bare_attached a) refl).1.2 d os (ap (λ (ds : List (Down BoardBatch)). ds ++ (ready (stars.bare_attached a) refl).1.0.outbox) p ∙ q)
      cases (d ∷ ds) os p q = (ready (stars.bare_attached a) refl).1.2 d (ds ++ (ready (stars.bare_attached a) refl).1.0.outbox) (ap (λ (xs : List (Down BoardBatch)). xs ++ (ready (stars.bare_attached a) refl).1.0.outbox) p)

  pub down_fits : (k : BoardLink) → stars.link_of a.site.number s.links ≡ Some k → FirstFits (refilled k (stars.bare_attached a))
  down_fits k there = let same : (ready (stars.bare_attached a) refl).1.0 ≡ k = (let one = at_number in cc) in subst (λ (x : BoardLink). FirstFits (refilled x (stars.bare_attached a))) same fits_first

  handed_down : (opening : stars.Windows) (trace : List (MixHappened stars.Commands BoardBatch stars.BoardEdits stars.EditFault)) (b : BoardAttached) → b.site.number ≡ 1 → (ds os : List (Down BoardBatch)) → FitsFirst (refilled_from ds os) b.site
      → mix.first_home_down board_batches (mix_of opening s (Some (record b { down = ds })) trace) (record b { down = ds }) ds os
      ≡ record { reply = reply_to (refilled_from ds os); star = fetched_for b.site.number ds os s; site = Some (handed_first (refilled_from ds os) (record b { down = refilled_from ds os })) }
  handed_down opening trace b one [] [] fit = refl
  handed_down opening trace b one [] (d ∷ os) fit =
      ap (mix.home_down board_batches (mix_of opening s (Some (record b { down = [] })) trace) (record b { down = [] }) 1 d []) fit
      ∙ (λ j. record { reply = world_worlds.down_reply board_batches d; star = stars.fetched (sym one j) 1 s; site = Some (world_worlds.one_handed board_batches d [] b) })
  handed_down opening trace b one (d ∷ ds) os fit =
      ap (mix.home_down board_batches (mix_of opening s (Some (record b { down = d ∷ ds })) trace) (record b { down = d ∷ ds }) 0 d ds) fit
      ∙ (λ j. record { reply = world_worlds.down_reply board_batches d; star = ap (λ (ls : List BoardLink). record s { links = ls }) (map_kept (λ (k : BoardLink). k.site) 1 s.links) j; site = Some (world_worlds.one_handed board_batches d ds b) })

  pub down_plays : (t : stars.BoardStar) (r : Result (Reply stars.BoardEdits stars.EditFault) NoMemory) (new : Attached)
      → IfOk r (λ reply. (k : BoardLink) → stars.link_of a.site.number s.links ≡ Some k → reply ≡ first_reply (refilled k (stars.bare_attached a)))
      → OnOk r ((k : BoardLink) → stars.link_of a.site.number s.links ≡ Some k → stars.bare_attached new ≡ handed (refilled k (stars.bare_attached a)))
      → OnOk r ((k : BoardLink) → stars.link_of a.site.number s.links ≡ Some k → t ≡ refilled_star k (stars.bare_attached a) s)
      → IfOk r (λ reply. mix.MixPlays stars.HomeDown s (Some (stars.bare_attached a)) reply t (Some (stars.bare_attached new)))
  down_plays t (Ok reply) new is site star = λ opening trace.
      home_there opening trace _ ∙ handed_down opening trace (stars.bare_attached a) number (messages down_codec a.down.way) (ready (stars.bare_attached a) refl).1.0.outbox fits_first
      ∙ (λ j. record { reply = sym (is _ at_number) j; star = sym (star _ at_number) j; site = Some (sym (site _ at_number) j) })
  down_plays t (Err fault) new is site star = tt

  pub down_spared : (t : stars.BoardStar) (r : Result (Reply stars.BoardEdits stars.EditFault) NoMemory) (new : Attached)
      → OnErr r ((k : BoardLink) → stars.link_of a.site.number s.links ≡ Some k → SparesAt k (stars.bare_attached a) s (stars.bare_attached new) t)
      → OnErr r (mix.MixSpares stars.HomeDown s (Some (stars.bare_attached a)) t (Some (stars.bare_attached new)))
  down_spared t (Ok reply) new spared = tt
  down_spared t (Err fault) new spared = choose (spared _ at_number)
    where
      too : (ds os : List (Down BoardBatch)) → (messages down_codec a.down.way) ≡ ds → (ready (stars.bare_attached a) refl).1.0.outbox ≡ os
          → stars.bare_attached new ≡ refilled (ready (stars.bare_attached a) refl).1.0 (stars.bare_attached a) → t ≡ refilled_star (ready (stars.bare_attached a) refl).1.0 (stars.bare_attached a) s
          → mix.MixSpares stars.HomeDown s (Some (stars.bare_attached a)) t (Some (stars.bare_attached new))
      too [] [] p q site star = inl (
        star ∙ (λ j. fetched_for a.site.number (p j) (q j) s),
        ap Some (site ∙ (λ j. record { site = a.site; up = messages ups a.up.way; down = ((λ i. refilled_from (p i) (q i)) ∙ sym p) j })),
      )
      too [] (d ∷ os) p q site star = inr (
        (ready (stars.bare_attached a) refl).1.0,
        stars.bare_attached a,
        fl,
        refl,
        p,
        star ∙ (λ j. fetched_for a.site.number (p j) (q j) s) ∙ ap (λ n. stars.fetched n 1 s) number,
        ap Some (site ∙ (λ j. record { site = a.site; up = messages ups a.up.way; down = (ap (λ (xs : List (Down BoardBatch)). refilled_from xs (ready (stars.bare_attached a) refl).1.0.outbox) p ∙ ap (λ (xs : List (Down BoardBatch)). xs ++ take 1 (ready (stars.bare_attached a) refl).1.0.outbox) (sym p)) j })),
      )
      too (d ∷ ds) os p q site star = inl (
        star ∙ (λ j. fetched_for a.site.number (p j) (ready (stars.bare_attached a) refl).1.0.outbox s),
        ap Some (site ∙ (λ j. record { site = a.site; up = messages ups a.up.way; down = (ap (λ (xs : List (Down BoardBatch)). refilled_from xs (ready (stars.bare_attached a) refl).1.0.outbox) p ∙ sym p) j })),
      )

      choose : SparesAt (ready (stars.bare_attached a) refl).1.0 (stars.bare_attached a) s (stars.bare_attached new) t → mix.MixSpares stars.HomeDown s (Some (stars.bare_attached a)) t (Some (stars.bare_attached new))
      choose (inl same) = inl (same.1, ap Some same.0)
      choose (inr more) = too (messages down_codec a.down.way) (ready (stars.bare_attached a) refl).1.0.outbox refl refl more.0 more.1

-- the same if the site is one that may be absent
module _ (s : stars.BoardStar) (site : Option Attached) (a : Attached) (is : site ≡ Some a) (ready : mix.IsReady s (option_map stars.bare_attached site)) where
  -- it is ready
  pub ready_there : mix.IsReady s (Some (stars.bare_attached a))
  ready_there = subst (λ (o : Option Attached). mix.IsReady s (option_map stars.bare_attached o)) is ready

  pub edit_plays_at : (command : stars.Commands) (r : Result (Reply stars.BoardEdits stars.EditFault) NoMemory) (new : Attached)
      → IfOk r (λ reply. reply ≡ soundness.edit_reply board_batches (stars.edit_answer board_batches command a.site))
      → OnOk r (stars.bare_attached new ≡ with_answer (stars.edit_answer board_batches command a.site) (stars.bare_attached a))
      → IfOk r (λ reply. mix.MixPlays (stars.HomeEdit command) s (option_map stars.bare_attached site) reply s (Some (stars.bare_attached new)))
  edit_plays_at command r new told made = subst (λ (o : Option Attached). IfOk r (λ reply. mix.MixPlays (stars.HomeEdit command) s (option_map stars.bare_attached o) reply s (Some (stars.bare_attached new)))) (sym is)
      (edit_plays s a ready_there command r new told made)

  pub up_plays_at : (t : stars.BoardStar) (reply : Reply stars.BoardEdits stars.EditFault) (new : Attached) → Rises a.site.number (messages ups a.up.way) s t reply → stars.bare_attached new ≡ world_worlds.one_taken board_batches (stars.bare_attached a)
      → mix.MixPlays stars.HomeUp s (option_map stars.bare_attached site) reply t (Some (stars.bare_attached new))
  up_plays_at t reply new rises made = subst (λ (o : Option Attached). mix.MixPlays stars.HomeUp s (option_map stars.bare_attached o) reply t (Some (stars.bare_attached new))) (sym is) (up_plays s a ready_there t reply new rises made)

  pub refused_plays_at : (t : stars.BoardStar) (fault refusal : stars.StarFault) → IsRefused a.site.number (messages ups a.up.way) s t fault → is_no_memory fault ≡ false → refusal ≡ fault
      → mix.MixPlays stars.HomeUp s (option_map stars.bare_attached site) (Detached refusal) t None
  refused_plays_at t fault refusal refused other same = subst (λ (o : Option Attached). mix.MixPlays stars.HomeUp s (option_map stars.bare_attached o) (Detached refusal) t None) (sym is) (refused_plays s a ready_there t fault refusal refused other same)

  pub down_plays_at : (t : stars.BoardStar) (r : Result (Reply stars.BoardEdits stars.EditFault) NoMemory) (new : Attached)
      → IfOk r (λ reply. (k : BoardLink) → stars.link_of a.site.number s.links ≡ Some k → reply ≡ first_reply (refilled k (stars.bare_attached a)))
      → OnOk r ((k : BoardLink) → stars.link_of a.site.number s.links ≡ Some k → stars.bare_attached new ≡ handed (refilled k (stars.bare_attached a)))
      → OnOk r ((k : BoardLink) → stars.link_of a.site.number s.links ≡ Some k → t ≡ refilled_star k (stars.bare_attached a) s)
      → IfOk r (λ reply. mix.MixPlays stars.HomeDown s (option_map stars.bare_attached site) reply t (Some (stars.bare_attached new)))
  down_plays_at t r new told made star = subst (λ (o : Option Attached). IfOk r (λ reply. mix.MixPlays stars.HomeDown s (option_map stars.bare_attached o) reply t (Some (stars.bare_attached new)))) (sym is)
      (down_plays s a ready_there t r new told made star)

  pub down_spared_at : (t : stars.BoardStar) (r : Result (Reply stars.BoardEdits stars.EditFault) NoMemory) (new : Attached)
      → OnErr r ((k : BoardLink) → stars.link_of a.site.number s.links ≡ Some k → SparesAt k (stars.bare_attached a) s (stars.bare_attached new) t)
      → OnErr r (mix.MixSpares stars.HomeDown s (option_map stars.bare_attached site) t (Some (stars.bare_attached new)))
  down_spared_at t r new spared = subst (λ (o : Option Attached). OnErr r (mix.MixSpares stars.HomeDown s (option_map stars.bare_attached o) t (Some (stars.bare_attached new)))) (sym is) (down_spared s a ready_there t r new spared)

-- What holds of every one of the program: after each event, and after a failed allocation.

module _ (O : stars.Operations) (L : stars.AreLawful O) (most : ℕ) (m : mix.MixOf O) (h : mix.IsHomeWorld O most m) (l : stars.LinkState O.Op) (a : world_worlds.AttachedOf O)
    (fl : stars.link_of 1 m.star.links ≡ Some l) (fa : m.site ≡ Some a) where
  there : world_worlds.attached 1 (mix.world_of O m).sites ≡ Some a
  there = worlds.found_home O m.site h.number ∙ fa

  -- messages were fetched, and no more
  pub mix-fetched : (n : ℕ) → mix.IsHomeWorld O most (record { opening = m.opening; star = stars.fetched 1 n m.star; site = Some (world_worlds.with_fetched O n l a); trace = m.trace })
  mix-fetched n = record {
    sound = subst (soundness.IsSound O most) fetched_is (sound-fetched O L most (mix.world_of O m) h.sound 1 n l a fl there);
    tallied = subst (IsTallied O) fetched_is (tallied-fetched O (mix.world_of O m) h.tallied 1 n l);
    strays = subst (soundness.KnowsStrays O) fetched_is (strays-fetched O L most (mix.world_of O m) h.sound h.strays 1 n l);
    given = h.given;
    number = worlds.one_numbered O most m h (world_worlds.with_fetched O n l a) (h.number a fa);
    home = h.home;
  }
    where
      fetched_is : world_worlds.only_fetched O (mix.world_of O m) 1 n l ≡ mix.world_of O (record { opening = m.opening; star = stars.fetched 1 n m.star; site = Some (world_worlds.with_fetched O n l a); trace = m.trace })
      fetched_is =
          let with_sites : List (world_worlds.AttachedOf O) → world_worlds.WorldOf O = λ sites. record { opening = m.opening; star = stars.fetched 1 n m.star; sites = sites; trace = (mix.world_of O m).trace } in
          ap with_sites (worlds.changed O most m h (world_worlds.with_fetched O n l) a fa)

  -- the oldest message on its way down is one that it takes
  pub oldest_fits : (d : Down O.Op) (ds : List (Down O.Op)) → a.down ++ l.outbox ≡ d ∷ ds → stars.deliver_fault O d a.site ≡ None
  oldest_fits d ds e =
      let all : ds ++ drop (length l.outbox) l.outbox ≡ ds = ap (λ (xs : List (Down O.Op)). ds ++ xs) (drop_of_length-le l.outbox (le_refl _)) ∙ append-nil ds in
      fall_fits O L most (mix.world_of O m) h.sound 1 l a fl there d (length l.outbox) ds (ap downs (e ∙ ap (λ (xs : List (Down O.Op)). d ∷ xs) (sym all)))

-- an event finds the site ready
pub mix_ready : (m : mix.BoardMix) → mix.IsMix m → mix.IsReady m.star m.site
mix_ready m h a fa =
    let there = worlds.home_link board_batches stars.batch_laws stars.most_batches m h a fa in (
      h.number a fa,
      (there.0, there.1, oldest_fits board_batches stars.batch_laws stars.most_batches m h there.0 a there.1 fa),
    )

-- a trace
abbrev pub MixTrace : Type 0
MixTrace = List (MixHappened stars.Commands BoardBatch stars.BoardEdits stars.EditFault)

-- after an event that was played
pub mix_played : (m : mix.BoardMix) (event : mix.BoardMixEvent) (reply : BoardReply) (t : stars.BoardStar) (next : Option BoardAttached) (trace : MixTrace) → mix.MixPlays event m.star m.site reply t next
    → trace ≡ m.trace ++ record { event = event; reply = reply } ∷ [] → ◌≡◌ {A = mix.BoardMix} (record { opening = m.opening; star = t; site = next; trace = trace }) (mix.mix_happens board_batches m event)
mix_played m event reply t next trace plays more =
    ap (λ (h : MixTrace). record { opening = m.opening; star = t; site = next; trace = h }) more
    ∙ sym (ap (mix.with_mix board_batches m event) (plays m.opening m.trace))

-- its reply
pub mix_reply : (m : mix.BoardMix) (event : mix.BoardMixEvent) (reply : BoardReply) (t : stars.BoardStar) (next : Option BoardAttached) → mix.MixPlays event m.star m.site reply t next → reply ≡ (mix.mix_outcome board_batches m event).reply
mix_reply m event reply t next plays = sym (ap (λ (o : MixOutcome board_batches). o.reply) (plays m.opening m.trace))

-- it is sound
pub mix_next : (m : mix.BoardMix) (event : mix.BoardMixEvent) → mix.IsMix m → mix.IsMix (mix.mix_happens board_batches m event)
mix_next m event h = worlds.home-happens board_batches stars.batch_laws stars.most_batches m h event

-- and keeps the order of items
pub mix_keeps : (m : mix.BoardMix) (event : mix.BoardMixEvent) → mix.IsMix m → mix.MixOrderIsKept board_batches m (mix.mix_happens board_batches m event)
mix_keeps m event h = worlds.home-order board_batches stars.batch_laws (event ∷ []) stars.most_batches m h

-- and is answered as it should be
pub mix_answered : (m : mix.BoardMix) (event : mix.BoardMixEvent) → mix.IsMix m → mix.MixReplies board_batches m event (mix.mix_outcome board_batches m event)
mix_answered m event h = worlds.all-replies board_batches stars.batch_laws stars.most_batches m h event

-- after a failed allocation
pub mix_spared : (m : mix.BoardMix) (event : mix.BoardMixEvent) (t : stars.BoardStar) (next : Option BoardAttached) (trace : MixTrace) → mix.MixSpares event m.star m.site t next → trace ≡ m.trace
    → mix.IsMixSpared m event (record { opening = m.opening; star = t; site = next; trace = trace })
mix_spared m stars.HomeDown t next trace (inl same) e = inl (λ j. record { opening = m.opening; star = same.0 j; site = same.1 j; trace = e j })
mix_spared m stars.HomeDown t next trace (inr more) e = inr (more.0, more.1, more.2, more.3, more.4, (λ j. record { opening = m.opening; star = more.5 j; site = more.6 j; trace = e j }))
mix_spared m event t next trace same e = λ j. record { opening = m.opening; star = same.0 j; site = same.1 j; trace = e j }

pub mix_still : (m k : mix.BoardMix) (event : mix.BoardMixEvent) → mix.IsMix m → mix.IsMixSpared m event k → mix.IsMix k
mix_still m k stars.HomeDown h (inl same) = subst mix.IsMix (sym same) h
mix_still m k stars.HomeDown h (inr more) = subst mix.IsMix (sym more.5) (mix-fetched board_batches stars.batch_laws stars.most_batches m h more.0 more.1 more.2 more.3 1)
mix_still m k event h same = subst mix.IsMix (sym same) h

-- as it is opened
pub mix_new : (b : board.Windows) (limit : ℕ) → star_open_fault (board.bare b) limit ≡ None → board.HasDistinctNames b → EachWidget IsShort b → mix.IsMix (mix.opened_mix board_batches (board.bare b) limit)
mix_new b limit none distinct short =
    let held = open_held (nat_le 1 limit) (nat_le limit stars.highest_limit) (only_site 0 (board.bare b)) none in
    worlds.home-reached (mix.opened_mix board_batches (board.bare b) limit) (record {
      board = board.bare b;
      limit = limit;
      events = [];
      opening = record { distinct = distinct_bare b distinct; unsigned = held.2; short = short_bare b short };
      limited = leb-true limit stars.highest_limit held.1;
      is = refl;
    })

-- whether no message is on its way from the site or to it, as the program tests it
home_quiet : (m : mix.BoardMix) → mix.IsMix m → (a : BoardAttached) → m.site ≡ Some a → IsQuietAt a m.star ↔ mix.IsHomeQuiet board_batches m
home_quiet m h a fa = (to, from)
  where
    there : (l : BoardLink) × (stars.link_of 1 m.star.links ≡ Some l)
    there = worlds.home_link board_batches stars.batch_laws stars.most_batches m h a fa

    lengths : Option BoardLink → Option ℕ
    lengths o = option_map (λ (l : BoardLink). length l.outbox) o

    number : a.site.number ≡ 1
    number = h.number a fa

    to : IsQuietAt a m.star → mix.IsHomeQuiet board_batches m
    to q l b fl fb =
        let same : a ≡ b = cc in
        let counted : lengths (Some l) ≡ Some 0 = ap lengths (sym fl) ∙ ap (λ n. lengths (stars.link_of n m.star.links)) (sym number) ∙ q.2 in
        let zero : length l.outbox ≡ 0 = cc in
        subst (λ (x : BoardAttached). (x.up ≡ []) × (x.down ≡ []) × (l.outbox ≡ [])) same (q.0, q.1, Rattle.std.proofs.lemmas.List.nil_from_length l.outbox zero)

    from : mix.IsHomeQuiet board_batches m → IsQuietAt a m.star
    from q =
        let all = q there.0 a there.1 fa in
        (all.0, all.1, ap (λ n. lengths (stars.link_of n m.star.links)) number ∙ ap lengths there.1 ∙ ap (λ (os : List (Down BoardBatch)). Some (length os)) all.2)

-- so if the site may be absent
pub some_quiet : (m : mix.BoardMix) → mix.IsMix m → (a : BoardAttached) → m.site ≡ Some a → (b : Bool) → IsTrue b ↔ IsQuietAt a m.star → IsTrue b ↔ mix.IsHomeQuiet board_batches m
some_quiet m h a fa b test = let quiet = home_quiet m h a fa in ((λ yes. quiet.0 (test.0 yes)), (λ yes. test.1 (quiet.1 yes)))

pub none_quiet : (m : mix.BoardMix) → m.site ≡ None → IsTrue true ↔ mix.IsHomeQuiet board_batches m
none_quiet m gone = ((λ yes l a fl fa. absurd (cc)), (λ yes. refl))

-- then it is level with the star
pub quiet_agrees : (m : mix.BoardMix) → mix.IsMix m → mix.IsHomeQuiet board_batches m → mix.HomeAgrees m
quiet_agrees m h q a fa =
    let kept = worlds.home-promises board_batches stars.batch_laws stars.most_batches m h in
    (kept.equal q a fa, kept.whole q a fa)
