-- What holds of every world of the program.
use Rattle.std.proofs.Common.{is_some, ◌&&◌, ◌≡◌, ℕ, ◌+◌, ◌≤◌, Bool, true, false, cond, not, ◌||◌, List, [], ◌∷◌, ◌++◌, map, nat_eq, refl, ap, sym, ◌∙◌, subst, Option, Some, None, option_map, arith, eq-eqb, ne_eqb, drop, inl, inr, length, nat_le, leb-false, append-nil, drop_of_length-le, le_refl, leb-true}
use Rattle.jup_world.specs.Prelude.{highest_limit, Command, EditFault, Operations, AreLawful, has_site, only_site, BoardBatch, Windows, board_batches, batch_laws, BoardEdits, Commands, Up, UpOp, UpAck, UpPing, Down, LinkState, opened_link, link_acked, link_ponged, link_fetched, link_heard, link_sent, operation_at, link_of, most_batches, BoardStar, IsShort, test, first_fault, downs, found-end, found-end_other, Played, Kept, Joined, Nothing}
use Rattle.jup_window.specs.Entries.{EachWidget}
use Rattle.jup_window.specs.Laws.Entries.{only_site-held}
use Rattle.jup_batch.specs.Boards as batch
use Rattle.jup_star.specs.Stars.{star_open_fault}
use Rattle.jup_star.proofs.Stars as stars
use Rattle.jup_star.proofs.FaultTests.{link_site, taken_site}
use Rattle.jup_world.specs.declared.events.Event.TheVariants as played
use Rattle.jup_world.specs.Events.{JoinStray, Happened}
use Rattle.jup_world.specs.Worlds.{WorldOf, EventOf, ReplyOf, attached, at_site, Outcome, new_site, only_fetched, outcome, with_outcome, happens, run, opened_world, AreAscending, is_number, AttachedOf, with_edit, one_taken, one_handed, pinged, with_fetched, IsOpening}
use Rattle.jup_world.specs.Traces.{stray_seen, is_stray, AreLinked}
use Rattle.jup_world.specs.Sound.{IsSound, LinkedAt, KnowsStrays, IsPlain, ArePlain, AllLinked}
use Rattle.jup_world.specs.Boards.{BoardWorld, BoardLink, BoardAttached, BoardEvent, IsBoardWorld, IsReached, BoardReply}
use Rattle.jup_world.specs.Happenings.{AreNumbered, AreReady, OldestFits, IsWorld, IsSpared}
use Rattle.jup_world.specs.Lanes as lanes
use Rattle.jup_world.specs.Insides as insides
use Rattle.jup_world.proofs.EventSteps as steps
use Rattle.jup_site.proofs.Numbers as numbers
use Rattle.jup_world.proofs.Sound.Traces.{stray-end, no_site}
use Rattle.jup_world.proofs.Sound.Runs as sound_runs
use Rattle.jup_world.proofs.Sound.Tallies as tallies
use Rattle.jup_world.proofs.Happenings as happenings
use Rattle.jup_star.specs.declared.faults.OpenFault.TheVariants.{BadLimit, BadSite}
use Rattle.jup_site.proofs.Items as items

-- The links without a site are those of strangers, by the trace.

pub or_false : (a b : Bool) → b ≡ false → (a || b) ≡ a
or_false true b e = refl
or_false false b e = e

or_true : (a b : Bool) → b ≡ true → (a || b) ≡ true
or_true true b e = refl
or_true false b e = e

module _ (O : Operations) (L : AreLawful O) where
  -- what is changed under a number stays what it was, a site's or a stranger's
  kept_at : (b : Bool) (f : LinkState O.Op → LinkState O.Op) (g : AttachedOf O → AttachedOf O) (ol : Option (LinkState O.Op)) (oa : Option (AttachedOf O)) → LinkedAt O b ol oa → LinkedAt O b (option_map f ol) (option_map g oa)
  kept_at b f g None None k = tt
  kept_at b f g None (Some a) k = k
  kept_at b f g (Some l) None k = k
  kept_at b f g (Some l) (Some a) k = k

  -- an event that gives no number to a stranger
  nothing_unseen : (j : ℕ) (e : EventOf O) → stray_seen {Edit = O.Edit} {Fault = EditFault} j e Nothing ≡ false
  nothing_unseen j JoinStray = refl
  nothing_unseen j e = refl

  still_unseen : (w : WorldOf O) (j : ℕ) (e : EventOf O) (r : ReplyOf O) → steps.WhyStill O w e r → stray_seen j e r ≡ false
  still_unseen w j e r (steps.Finds event) = nothing_unseen j event
  still_unseen w j e r (steps.NotJoined fault) = refl
  still_unseen w j e r (steps.NoStray fault) = refl
  still_unseen w j e r (steps.NotMade i command fault) = refl

  brought_unseen : (w : WorldOf O) {i : ℕ} {up : Up O.Op} {oa : Option (AttachedOf O)} {e : EventOf O} → steps.Brings O w i up oa e → (r : ReplyOf O) (j : ℕ) → stray_seen j e r ≡ false
  brought_unseen w (steps.Rises a us rising) r j = refl
  brought_unseen w steps.Strays r j = refl

  gone_unseen : (w : WorldOf O) (j i : ℕ) (l : LinkState O.Op) (oa : Option (AttachedOf O)) (e : EventOf O) (r : ReplyOf O) → steps.WhyGone O w i l oa e r → stray_seen j e r ≡ false
  gone_unseen w j i l oa e r (steps.Leaves a) = refl
  gone_unseen w j i l oa e r steps.StrayLeaves = refl
  gone_unseen w j i l oa e r (steps.IsDropped up fault brought f) = brought_unseen w brought r j

  module _ (most : ℕ) (w : WorldOf O) (s : IsSound O most w) (k : KnowsStrays O w) where
    -- an event that gives no number to a stranger
    unseen : (e : EventOf O) (o : Outcome O) → ((j : ℕ) → stray_seen j e o.reply ≡ false) → w.star.given ≤ o.star.given
        → ((j : ℕ) → LinkedAt O (is_stray j w.trace) (link_of j o.star.links) (attached j o.sites)) → KnowsStrays O (with_outcome O w e o)
    unseen e o none more links = record {
      links = λ j. subst (λ b. LinkedAt O b (link_of j o.star.links) (attached j o.sites)) (sym (same j)) (links j);
      new = λ j above. (same j ∙ k.new j (omega arith));
    }
      where
        same : (j : ℕ) → is_stray j (w.trace ++ record { event = e; reply = o.reply } ∷ []) ≡ is_stray j w.trace
        same j = stray-end j w.trace (record { event = e; reply = o.reply }) ∙ or_false (is_stray j w.trace) (stray_seen j e o.reply) (none j)

    -- one link and its site are changed, and all other links
    changed : (i : ℕ) (f h : LinkState O.Op → LinkState O.Op) (g : AttachedOf O → AttachedOf O) → ((x : LinkState O.Op) → (f x).site ≡ x.site) → ((x : LinkState O.Op) → (h x).site ≡ x.site)
        → ((y : AttachedOf O) → (g y).site.number ≡ y.site.number)
        → (j : ℕ) → LinkedAt O (is_stray j w.trace) (link_of j (map (λ z. cond (nat_eq z.site i) (f z) (h z)) w.star.links)) (attached j (map (λ z. cond (nat_eq z.site.number i) (g z) z) w.sites))
    changed i f h g kf kh kg = numbers.at_each (λ x. x.site) (λ y. y.site.number) (λ j ol oa. LinkedAt O (is_stray j w.trace) ol oa) i f h g kf kh kg w.star.links w.sites
        (kept_at (is_stray i w.trace) f g (link_of i w.star.links) (attached i w.sites) (k.links i))
        (λ j e. subst (λ oa. LinkedAt O (is_stray j w.trace) (option_map h (link_of j w.star.links)) oa) (numbers.option_map-self (attached j w.sites)) (kept_at (is_stray j w.trace) h (λ y. y) (link_of j w.star.links) (attached j w.sites) (k.links j)))

    -- a site alone
    site_changed : (i : ℕ) (g : AttachedOf O → AttachedOf O) → ((y : AttachedOf O) → (g y).site.number ≡ y.site.number) → (j : ℕ) → LinkedAt O (is_stray j w.trace) (link_of j w.star.links) (attached j (at_site i g w.sites))
    site_changed i g kg j = subst (λ ls. LinkedAt O (is_stray j w.trace) (link_of j ls) (attached j (at_site i g w.sites))) (numbers.map_kept (λ x. x.site) i w.star.links)
        (changed i (λ x. x) (λ x. x) g (λ x. refl) (λ x. refl) kg j)

    -- a site that joins
    entered : (j : ℕ) → LinkedAt O (is_stray j w.trace) (link_of j (w.star.links ++ opened_link (w.star.given + 1) ∷ [])) (attached j (w.sites ++ new_site O w (w.star.given + 1) ∷ []))
    entered = numbers.by_number (λ x. x.site) (λ y. y.site.number) (λ j ol oa. LinkedAt O (is_stray j w.trace) ol oa) (w.star.given + 1)
        (λ j. LinkedAt O (is_stray j w.trace) (link_of j (w.star.links ++ opened_link (w.star.given + 1) ∷ [])) (attached j (w.sites ++ new_site O w (w.star.given + 1) ∷ [])))
        (rw (
          found-end (λ x. x.site) (w.star.given + 1) w.star.links (opened_link (w.star.given + 1)) (s.star.star.no_link (w.star.given + 1) (omega arith)) (eq-eqb (w.star.given + 1) (w.star.given + 1) refl),
          found-end (λ y. y.site.number) (w.star.given + 1) w.sites (new_site O w (w.star.given + 1)) (no_site O L most w s (w.star.given + 1) (omega arith)) (eq-eqb (w.star.given + 1) (w.star.given + 1) refl),
        ) (k.new (w.star.given + 1) (omega arith)))
        (λ j e. rw (found-end_other (λ x. x.site) j w.star.links (opened_link (w.star.given + 1)) e, found-end_other (λ y. y.site.number) j w.sites (new_site O w (w.star.given + 1)) e) (k.links j))

    -- or a stranger
    entered_stray : (j : ℕ) → LinkedAt O (is_stray j w.trace || nat_eq (w.star.given + 1) j) (link_of j (w.star.links ++ opened_link (w.star.given + 1) ∷ [])) (attached j w.sites)
    entered_stray = numbers.by_number (λ x. x.site) (λ y. y.site.number) (λ j ol oa. LinkedAt O (is_stray j w.trace) ol oa) (w.star.given + 1)
        (λ j. LinkedAt O (is_stray j w.trace || nat_eq (w.star.given + 1) j) (link_of j (w.star.links ++ opened_link (w.star.given + 1) ∷ [])) (attached j w.sites))
        (rw (
          found-end (λ x. x.site) (w.star.given + 1) w.star.links (opened_link (w.star.given + 1)) (s.star.star.no_link (w.star.given + 1) (omega arith)) (eq-eqb (w.star.given + 1) (w.star.given + 1) refl),
          no_site O L most w s (w.star.given + 1) (omega arith),
        ) (or_true (is_stray (w.star.given + 1) w.trace) (nat_eq (w.star.given + 1) (w.star.given + 1)) (eq-eqb (w.star.given + 1) (w.star.given + 1) refl)))
        (λ j e. rw (found-end_other (λ x. x.site) j w.star.links (opened_link (w.star.given + 1)) e, or_false (is_stray j w.trace) (nat_eq (w.star.given + 1) j) e) (k.links j))

    -- an event, by its outcome
    strays-step : (e : EventOf O) (o : Outcome O) → steps.StepOf O w e o → KnowsStrays O (with_outcome O w e o)
    strays-step e o (steps.Still why) = unseen e o (λ j. still_unseen w j e _ why) (omega arith) k.links
    strays-step e o (steps.Enters none) = unseen e o (λ j. refl) (omega arith) entered
    strays-step e o (steps.EntersStray none) = record {
      links = λ j. subst (λ b. LinkedAt O b (link_of j (w.star.links ++ opened_link (w.star.given + 1) ∷ [])) (attached j w.sites)) (sym (stray-end j w.trace (record { event = JoinStray; reply = Joined (w.star.given + 1) }))) (entered_stray j);
      new = λ j above. (stray-end j w.trace (record { event = JoinStray; reply = Joined (w.star.given + 1) })
          ∙ or_false (is_stray j w.trace) (nat_eq (w.star.given + 1) j) (ne_eqb (w.star.given + 1) j (λ e. absurd (omega arith))) ∙ k.new j (omega arith));
    }
    strays-step e o (steps.Goes i l oa fl fa why) = unseen e o (λ j. gone_unseen w j i l oa e _ why) (omega arith)
        (numbers.at_removal (λ x. x.site) (λ y. y.site.number) (λ j ol oa. LinkedAt O (is_stray j w.trace) ol oa) i w.star.links w.sites tt (λ j e. k.links j))
    strays-step e o (steps.Makes i command l a op fl fa ok) = unseen e o (λ j. refl) (omega arith) (site_changed i (with_edit O op) (λ b. refl))
    strays-step e o (steps.Asks i m l a fl fa) = unseen e o (λ j. refl) (omega arith) (site_changed i (pinged O m) (λ b. refl))
    strays-step e o (steps.Takes i l oa (UpOp m) fl fa brought none) = unseen e o (brought_unseen w brought _) (omega arith)
        (changed i (link_heard O m) (link_sent (operation_at O l.end m)) (one_taken O) (λ x. refl) (λ x. refl) (λ b. refl))
    strays-step e o (steps.Takes i l oa (UpAck m) fl fa brought none) = unseen e o (brought_unseen w brought _) (omega arith) (changed i (link_acked m) (λ x. x) (one_taken O) (λ x. refl) (λ x. refl) (λ b. refl))
    strays-step e o (steps.Takes i l oa (UpPing m) fl fa brought none) = unseen e o (brought_unseen w brought _) (omega arith) (changed i (link_ponged m) (λ x. x) (one_taken O) (λ x. refl) (λ x. refl) (λ b. refl))
    strays-step e o (steps.Hands i gone l a d ds fl fa falls none) = unseen e o (λ j. refl) (omega arith) (changed i (link_fetched gone) (λ x. x) (one_handed O d ds) (λ x. refl) (λ x. refl) (steps.handed_number O d ds))

    -- each event
    pub strays-happens : (e : EventOf O) → KnowsStrays O (happens O w e)
    strays-happens e = strays-step e (outcome O w e) (steps.step_of O w e)

    -- a failed allocation
    pub strays-fetched : (i m : ℕ) (l : LinkState O.Op) → KnowsStrays O (only_fetched O w i m l)
    strays-fetched i m l = record { links = changed i (link_fetched m) (λ x. x) (with_fetched O m l) (λ x. refl) (λ x. refl) (λ b. refl); new = k.new }

  -- so an attached site is one that has a link and is no stranger
  pub are_linked : (w : WorldOf O) → KnowsStrays O w → AreLinked O w
  are_linked w k i = cases (is_stray i w.trace) (link_of i w.star.links) (attached i w.sites) (k.links i)
    where
      cases : (b : Bool) (ol : Option (LinkState O.Op)) (oa : Option (AttachedOf O)) → LinkedAt O b ol oa → is_some oa ≡ (is_some ol && not b)
      cases b None None k = refl
      cases b None (Some a) k = absurd k
      cases b (Some l) None k = sym (ap not k)
      cases b (Some l) (Some a) k = sym (ap not k)

  -- if no event was one of a stranger, no number is a stranger's
  plain_unseen : (j : ℕ) (e : EventOf O) (r : ReplyOf O) → IsPlain O e → stray_seen j e r ≡ false
  plain_unseen j JoinStray r plain = absurd plain
  plain_unseen j e r plain = refl

  pub plain_run : (es : List (EventOf O)) (w : WorldOf O) → ArePlain O es → ((i : ℕ) → is_stray i w.trace ≡ false) → (i : ℕ) → is_stray i (run O w es).trace ≡ false
  plain_run [] w plain none = none
  plain_run (e ∷ es) w plain none = plain_run es (happens O w e) plain.1 (λ i. stray-end i w.trace (record { event = e; reply = (outcome O w e).reply })
      ∙ or_false (is_stray i w.trace) (stray_seen i e (outcome O w e).reply) (plain_unseen i e (outcome O w e).reply plain.0) ∙ none i)

  -- and the attached sites are those that have links
  pub plain_linked : (w : WorldOf O) → KnowsStrays O w → ((i : ℕ) → is_stray i w.trace ≡ false) → AllLinked O w
  plain_linked w k none i = are_linked w k i ∙ ap (λ b. is_some (link_of i w.star.links) && not b) (none i) ∙ same (is_some (link_of i w.star.links))
    where
      same : (b : Bool) → (b && true) ≡ b
      same true = refl
      same false = refl

-- Worlds of boards are sound: as they are opened, after each event, and after a failed allocation.

-- a world of boards that is opened
pub opened_sound : (b : Windows) (limit : ℕ) → IsOpening b → limit ≤ highest_limit → IsBoardWorld (opened_world board_batches b limit)
opened_sound b limit opening low = record {
  sound = sound_runs.sound-opened board_batches batch_laws most_batches limit b opening.distinct (stars.board_small b opening.short) (omega arith) (omega arith)
      (λ n held. only_site-held 0 b n opening.unsigned held);
  tallied = record { given = refl; made = tt };
  strays = record { links = λ i. tt; new = λ i above. refl };
}

-- events keep it so
pub happens_sound : (w : BoardWorld) (event : BoardEvent) → IsBoardWorld w → IsBoardWorld (happens board_batches w event)
happens_sound w event is = record {
  sound = sound_runs.sound-happens board_batches batch_laws most_batches w event is.sound;
  tallied = tallies.tallied-happens board_batches w is.tallied (is.sound.no_edit (w.star.given + 1) (omega arith)) event;
  strays = strays-happens board_batches batch_laws most_batches w is.sound is.strays event;
}

-- any events
pub run_sound : (events : List BoardEvent) (w : BoardWorld) → IsBoardWorld w → IsBoardWorld (run board_batches w events)
run_sound [] w is = is
run_sound (e ∷ es) w is = run_sound es (happens board_batches w e) (happens_sound w e is)

-- and so does a failed allocation
pub fetched_sound : (w : BoardWorld) (i n : ℕ) (l : BoardLink) (a : BoardAttached) → link_of i w.star.links ≡ Some l → attached i w.sites ≡ Some a
    → IsBoardWorld w → IsBoardWorld (only_fetched board_batches w i n l)
fetched_sound w i n l a fl fa is = record {
  sound = sound_runs.sound-fetched board_batches batch_laws most_batches w is.sound i n l a fl fa;
  tallied = tallies.tallied-fetched board_batches w is.tallied i n l;
  strays = strays-fetched board_batches batch_laws most_batches w is.sound is.strays i n l;
}

-- a world that is reached is sound
pub reached_sound : (w : BoardWorld) → IsReached w → IsBoardWorld w
reached_sound w r = subst IsBoardWorld (sym r.is) (run_sound r.events (opened_world board_batches r.board r.limit) (opened_sound r.board r.limit r.opening r.limited))

-- What holds of every world of the program: as it is opened, after each event, and after a failed allocation.

-- # Numbers

-- what an outcome leaves
abbrev KeepsNumbers : Outcome board_batches → Type 0
KeepsNumbers o = AreNumbered o.star o.sites

-- the star stays, and the sites keep their numbers
sites_numbered : (s t : BoardStar) (xs ys : List BoardAttached) → AreNumbered s xs → t.given ≡ s.given → t.limit ≡ s.limit → t.board ≡ s.board → AreAscending 0 t.given ys → AreNumbered t ys
sites_numbered s t xs ys is given limit same up = record {
  ascending = up;
  positive = let low = is.positive in omega arith;
  limited = let high = is.limited in omega arith;
  named = λ i above. ap (has_site i) same ∙ is.named i (omega arith);
}

-- a link that is there has a number that was given
pub link_given : (w : BoardWorld) → IsSound board_batches most_batches w → (i : ℕ) (l : BoardLink) → link_of i w.star.links ≡ Some l → i ≤ w.star.given
link_given w s i l found = cases (nat_le i w.star.given) refl
  where
    cases : (b : Bool) → nat_le i w.star.given ≡ b → i ≤ w.star.given
    cases true e = leb-true i w.star.given e
    cases false e = absurd (let none = s.star.star.no_link i (leb-false i w.star.given e) in cc)

-- numbers may be given beyond those of the sites
ascending_above : (least most more : ℕ) (xs : List BoardAttached) → most ≤ more → AreAscending least most xs → AreAscending least more xs
ascending_above least most more [] h up = omega arith
ascending_above least most more (a ∷ xs) h up = (up.0, ascending_above a.site.number most more xs h up.1)

-- an event, by its outcome
step_numbered : (w : BoardWorld) → IsSound board_batches most_batches w → AreNumbered w.star w.sites → (e : BoardEvent) (o : Outcome board_batches) → steps.StepOf board_batches w e o → KeepsNumbers o
step_numbered w s is e o (steps.Still why) = is
step_numbered w s is e o (steps.Enters none) = record {
  ascending = happenings.ascending_end 0 w.star.given _ w.sites refl is.ascending;
  positive = is.positive;
  limited = is.limited;
  named = λ i above. is.named i (omega arith);
}
step_numbered w s is e o (steps.EntersStray none) = record {
  ascending = ascending_above 0 w.star.given (w.star.given + 1) w.sites (omega arith) is.ascending;
  positive = is.positive;
  limited = is.limited;
  named = λ i above. is.named i (omega arith);
}
step_numbered w s is e o (steps.Goes i l oa fl fa why) = sites_numbered w.star _ w.sites _ is refl refl refl (happenings.ascending_without i 0 w.star.given w.sites is.ascending)
step_numbered w s is e o (steps.Makes i command l a op fl fa ok) = sites_numbered w.star w.star w.sites _ is refl refl refl (happenings.ascending_at (with_edit board_batches op) i 0 w.star.given (λ b. refl) w.sites is.ascending)
step_numbered w s is e o (steps.Asks i k l a fl fa) = sites_numbered w.star _ w.sites _ is refl refl refl (happenings.ascending_at (pinged board_batches k) i 0 w.star.given (λ b. refl) w.sites is.ascending)
step_numbered w s is e o (steps.Takes i l oa (UpOp m) fl fa brought none) = record {
  ascending = happenings.ascending_at (one_taken board_batches) i 0 w.star.given (λ b. refl) w.sites is.ascending;
  positive = is.positive;
  limited = is.limited;
  named = λ j above. items.batch_none j (operation_at board_batches l.end m) w.star.board
      (λ n put same. let site = taken_site board_batches batch_laws w.star l m n none put in let number = link_site i l w.star.links fl in let given = link_given w s i l fl in absurd (omega arith)) (is.named j above);
}
step_numbered w s is e o (steps.Takes i l oa (UpAck k) fl fa brought none) = sites_numbered w.star _ w.sites _ is refl refl refl (happenings.ascending_at (one_taken board_batches) i 0 w.star.given (λ b. refl) w.sites is.ascending)
step_numbered w s is e o (steps.Takes i l oa (UpPing k) fl fa brought none) = sites_numbered w.star _ w.sites _ is refl refl refl (happenings.ascending_at (one_taken board_batches) i 0 w.star.given (λ b. refl) w.sites is.ascending)
step_numbered w s is e o (steps.Hands i gone l a d ds fl fa falls none) = sites_numbered w.star _ w.sites _ is refl refl refl (happenings.ascending_at (one_handed board_batches d ds) i 0 w.star.given (steps.handed_number board_batches d ds) w.sites is.ascending)

-- each event
pub numbered_outcome : (w : BoardWorld) (e : BoardEvent) → IsSound board_batches most_batches w → AreNumbered w.star w.sites → KeepsNumbers (outcome board_batches w e)
numbered_outcome w e s is = step_numbered w s is e (outcome board_batches w e) (steps.step_of board_batches w e)

-- # Worlds

pub open_held : (a b c : Bool) → first_fault (test (a && b) BadLimit ∷ test c BadSite ∷ []) ≡ None → (a ≡ true) × (b ≡ true) × (c ≡ true)
open_held true true true none = (refl, refl, refl)
open_held true true false none = absurd (cc)
open_held true false c none = absurd (cc)
open_held false b c none = absurd (cc)

-- a new world over a board that it may be opened with
pub world_new : (b : batch.Windows) (limit : ℕ) → IsOpening b → 1 ≤ limit → limit ≤ highest_limit → IsWorld (opened_world board_batches b limit)
world_new b limit opening some limited = record {
  board = opened_sound b limit opening limited;
  numbered = record {
    ascending = omega arith;
    positive = some;
    limited = limited;
    named = λ i above. items.layout_none i b above opening.unsigned;
  };
}

-- and so it is if a star refuses neither the limit nor the board
pub world_opened : (b : batch.Windows) (limit : ℕ) → star_open_fault (batch.bare b) limit ≡ None → batch.HasDistinctNames b → EachWidget IsShort b → IsWorld (opened_world board_batches (batch.bare b) limit)
world_opened b limit none distinct short =
    let held = open_held (nat_le 1 limit) (nat_le limit highest_limit) (only_site 0 (batch.bare b)) none in
    world_new (batch.bare b) limit (record { distinct = stars.distinct_bare b distinct; unsigned = held.2; short = stars.short_bare b short }) (leb-true 1 limit held.0) (leb-true limit highest_limit held.1)

pub world_happens : (w : BoardWorld) (e : BoardEvent) → IsWorld w → IsWorld (happens board_batches w e)
world_happens w e is = record { board = happens_sound w e is.board; numbered = numbered_outcome w e is.board.sound is.numbered }

pub world_spared : (w v : BoardWorld) → IsWorld w → IsSpared w v → IsWorld v
world_spared w v is (inl same) = subst IsWorld (sym same) is
world_spared w v is (inr fetched) = subst IsWorld (sym fetched.5) (still fetched.0 fetched.1 fetched.2 fetched.3 fetched.4)
  where
    still : (i : ℕ) (l : BoardLink) (a : BoardAttached) → link_of i w.star.links ≡ Some l → attached i w.sites ≡ Some a → IsWorld (only_fetched board_batches w i 1 l)
    still i l a fl fa = record {
      board = fetched_sound w i 1 l a fl fa is.board;
      numbered = sites_numbered w.star _ w.sites _ is.numbered refl refl refl (happenings.ascending_at (with_fetched board_batches 1 l) i 0 w.star.given (λ b. refl) w.sites is.numbered.ascending);
    }

-- # What an event asks

oldest_fits : (w : BoardWorld) → IsSound board_batches most_batches w → OldestFits w.star w.sites
oldest_fits w s i l a down rest fl fa e =
    let all : rest ++ drop (length l.outbox) l.outbox ≡ rest = ap (λ (ds : List (Down BoardBatch)). rest ++ ds) (drop_of_length-le l.outbox (le_refl _)) ∙ append-nil rest in
    sound_runs.fall_fits board_batches batch_laws most_batches w s i l a fl fa down (length l.outbox) rest (ap downs (e ∙ ap (λ (ds : List (Down BoardBatch)). down ∷ ds) (sym all)))

pub world_ready : (w : BoardWorld) → IsWorld w → ((i : ℕ) → is_stray i w.trace ≡ false) → AreReady w.star w.sites
world_ready w is plain = record {
  numbered = is.numbered;
  linked = plain_linked board_batches batch_laws w is.board.strays plain;
  fits = oldest_fits w is.board.sound;
}

-- A change of a list of sites that keeps each site itself.

-- a site that is found after a change that keeps each site is found before it
pub kept_site : (f : BoardAttached → BoardAttached) → ((a : BoardAttached) → (f a).site ≡ a.site) → (j : ℕ) (b : BoardAttached) (sites : List BoardAttached) → attached j (map f sites) ≡ Some b
    → (a : BoardAttached) × (attached j sites ≡ Some a) × (b.site ≡ a.site)
kept_site f same j b [] found = absurd (cc)
kept_site f same j b (x ∷ later) found = step (is_number j x) (ap (λ s. nat_eq s.number j) (same x)) (kept_site f same j b later) found
  where
    step : (c : Bool) → is_number j (f x) ≡ c → (attached j (map f later) ≡ Some b → (a : BoardAttached) × (attached j later ≡ Some a) × (b.site ≡ a.site))
        → cond (is_number j (f x)) (Some (f x)) (attached j (map f later)) ≡ Some b → (a : BoardAttached) × (cond c (Some x) (attached j later) ≡ Some a) × (b.site ≡ a.site)
    step true e rest h = let here : f x ≡ b = (let now = rw e at h in cc) in (x, refl, sym (ap (λ (a : BoardAttached). a.site) here) ∙ same x)
    step false e rest h = rest (rw e at h)

-- The program plays no stranger, so its trace has none.

-- one event
none_played : (i : ℕ) (event : Played Command) (reply : BoardReply) (later : List (Happened Commands BoardBatch BoardEdits EditFault)) → is_stray i (lanes.plain_happened (insides.lane_event event) reply ++ later) ≡ is_stray i later
none_played i played.Join reply later = refl
none_played i (played.Leave j) reply later = refl
none_played i (played.Edit j command) reply later = refl
none_played i (played.Batch j commands) reply later = refl
none_played i (played.Up j) reply later = refl
none_played i (played.Down j) reply later = refl
none_played i (played.Ping j k) reply later = refl
none_played i (played.PushUp j n) reply later = refl
none_played i (played.PushDown j n) reply later = refl

-- a trace
pub none_stray : (trace : List (Kept Command BoardEdits EditFault)) (i : ℕ) → is_stray i (lanes.plain_trace (insides.noted_trace trace)) ≡ false
none_stray [] i = refl
none_stray (h ∷ hs) i = none_played i h.event h.reply (lanes.plain_trace (insides.noted_trace hs)) ∙ none_stray hs i
