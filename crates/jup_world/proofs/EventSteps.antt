-- What each event does.
use Rattle.std.proofs.Common.{◌≡◌, ℕ, List, [], ◌∷◌, refl, ap, sym, ◌∙◌, subst, Option, Some, None, ◌++◌, drop, Ok}
use Rattle.jup_world.specs.Prelude.{Operations, Entry, Up, Down, DownOp, DownAck, DownPong, StarFault, LinkState, link_of, join_fault, up_fault, left, taken, place_taken, edit_answer, deliver_fault, EditFault, NoJoin, Left, Refused, Detached, Nothing}
use Rattle.jup_world.specs.Events.{Join, Leave, Edit as MakeEdit, Up as MoveUp, Down as MoveDown, Ping as SendPing, JoinStray, Stray, LeaveStray}
use Rattle.jup_world.specs.Worlds.{WorldOf, EventOf, ReplyOf, HappenedOf, attached, without_site, Outcome, unchanged, join_outcome, edit_outcome, place_reply, up_outcome, first_up, down_outcome, first_down, ping_outcome, stray_joins, stray_sends, at_stray, at_attached, at_linked, at_number, outcome, AttachedOf, one_taken, one_handed}
use Rattle.jup_world.specs.Traces as traces
use Rattle.jup_site.proofs.Numbers.{map_absent, filter_absent, either, result_cases}

-- What an event does: nothing, or one of few steps of a link and of the site under its number. No other file has the case analysis.

module _ (O : Operations) where
  -- a site that receives a message keeps its number
  pub handed_number : (d : Down O.Op) (ds : List (Down O.Op)) (a : AttachedOf O) → (one_handed O d ds a).site.number ≡ a.site.number
  handed_number (DownOp m) ds a = refl
  handed_number (DownAck n) ds a = refl
  handed_number (DownPong k) ds a = refl

  -- an event of which the definitions over the trace see nothing
  pub record IsSilent (event : EventOf O) (reply : ReplyOf O) : Type 0 where
    pub no_edit : (i : ℕ) → traces.edit_made i event reply ≡ []
    pub no_join : (i n at : ℕ) → traces.join_seen i n at event reply ≡ at
    pub no_shown : (i : ℕ) → traces.was_shown i event reply ≡ 0
    pub no_entry : (past : List (HappenedOf O)) (order : List (Entry O.Edit)) → traces.entry_taken O past order event reply ≡ []

  -- as is each that finds nothing
  pub nothing_silent : (e : EventOf O) → IsSilent e Nothing
  nothing_silent Join = record { no_edit = λ j. refl; no_join = λ j n k. refl; no_shown = λ j. refl; no_entry = λ p o. refl }
  nothing_silent e = record { no_edit = λ j. refl; no_join = λ j n k. refl; no_shown = λ j. refl; no_entry = λ p o. refl }

  module _ (w : WorldOf O) where
    -- what brought a message to the star: it was the oldest of a site, or a stranger sent it
    pub data Brings (i : ℕ) (up : Up O.Op) : Option (AttachedOf O) → EventOf O → Type 0 where
      Rises : (a : AttachedOf O) (us : List (Up O.Op)) → a.up ≡ up ∷ us → Brings i up (Some a) (MoveUp i)
      Strays : Brings i up None (Stray i up)

    -- why nothing changes: nothing is there, or what was asked is refused
    pub data WhyStill : EventOf O → ReplyOf O → Type 0 where
      Finds : (e : EventOf O) → WhyStill e Nothing
      NotJoined : (fault : StarFault) → WhyStill Join (NoJoin fault)
      NoStray : (fault : StarFault) → WhyStill JoinStray (NoJoin fault)
      NotMade : (i : ℕ) (command : O.Command) (fault : EditFault) → WhyStill (MakeEdit i command) (Refused fault)

    -- why a link goes, with its site if it has one: that leaves, or a message is refused
    pub data WhyGone (i : ℕ) (l : LinkState O.Op) : Option (AttachedOf O) → EventOf O → ReplyOf O → Type 0 where
      Leaves : (a : AttachedOf O) → WhyGone i l (Some a) (Leave i) Left
      StrayLeaves : WhyGone i l None (LeaveStray i) Left
      IsDropped : {oa : Option (AttachedOf O)} {e : EventOf O} (up : Up O.Op) (fault : StarFault) → Brings i up oa e → up_fault O w.star l up ≡ Some fault → WhyGone i l oa e (Detached fault)

    -- an event, what it answers and what it leaves. A link is one of a stranger if no site has its number
    pub data StepOf : EventOf O → Outcome O → Type 0 where
      -- nothing changes
      Still : {e : EventOf O} {r : ReplyOf O} → WhyStill e r → StepOf e (unchanged O w r)
      -- a site joins
      Enters : join_fault w.star ≡ None → StepOf Join (join_outcome O w None)
      -- or a stranger
      EntersStray : join_fault w.star ≡ None → StepOf JoinStray (stray_joins O w None)
      -- a link goes with its site
      Goes : {e : EventOf O} {r : ReplyOf O} (i : ℕ) (l : LinkState O.Op) (oa : Option (AttachedOf O)) → link_of i w.star.links ≡ Some l → attached i w.sites ≡ oa
          → WhyGone i l oa e r → StepOf e (record { reply = r; star = left i w.star; sites = without_site i w.sites })
      -- a site edits
      Makes : (i : ℕ) (command : O.Command) (l : LinkState O.Op) (a : AttachedOf O) (op : O.Op) → link_of i w.star.links ≡ Some l → attached i w.sites ≡ Some a
          → edit_answer O command a.site ≡ Ok op → StepOf (MakeEdit i command) (edit_outcome O w i (Ok op))
      -- or sends a ping
      Asks : (i k : ℕ) (l : LinkState O.Op) (a : AttachedOf O) → link_of i w.star.links ≡ Some l → attached i w.sites ≡ Some a → StepOf (SendPing i k) (ping_outcome O w i k)
      -- the star takes a message
      Takes : {e : EventOf O} (i : ℕ) (l : LinkState O.Op) (oa : Option (AttachedOf O)) (up : Up O.Op) → link_of i w.star.links ≡ Some l → attached i w.sites ≡ oa
          → Brings i up oa e → up_fault O w.star l up ≡ None → StepOf e (up_outcome O w i l up None)
      -- a site receives the oldest message to it
      Hands : (i gone : ℕ) (l : LinkState O.Op) (a : AttachedOf O) (d : Down O.Op) (ds : List (Down O.Op)) → link_of i w.star.links ≡ Some l → attached i w.sites ≡ Some a
          → a.down ++ l.outbox ≡ d ∷ (ds ++ drop gone l.outbox) → deliver_fault O d a.site ≡ None → StepOf (MoveDown i) (down_outcome O w i gone d ds None)

    -- an event that changes nothing, or lets a link go, adds nothing to what is read off the trace, and a message adds only its entry
    pub still_silent : {e : EventOf O} {r : ReplyOf O} → WhyStill e r → IsSilent e r
    still_silent (Finds e) = nothing_silent e
    still_silent (NotJoined fault) = record { no_edit = λ j. refl; no_join = λ j n k. refl; no_shown = λ j. refl; no_entry = λ p o. refl }
    still_silent (NoStray fault) = record { no_edit = λ j. refl; no_join = λ j n k. refl; no_shown = λ j. refl; no_entry = λ p o. refl }
    still_silent (NotMade i command fault) = record { no_edit = λ j. refl; no_join = λ j n k. refl; no_shown = λ j. refl; no_entry = λ p o. refl }

    pub gone_silent : {i : ℕ} {l : LinkState O.Op} {oa : Option (AttachedOf O)} {e : EventOf O} {r : ReplyOf O} → WhyGone i l oa e r → IsSilent e r
    gone_silent (Leaves a) = record { no_edit = λ j. refl; no_join = λ j n k. refl; no_shown = λ j. refl; no_entry = λ p o. refl }
    gone_silent StrayLeaves = record { no_edit = λ j. refl; no_join = λ j n k. refl; no_shown = λ j. refl; no_entry = λ p o. refl }
    gone_silent (IsDropped up fault (Rises a us rising) f) = record { no_edit = λ j. refl; no_join = λ j n k. refl; no_shown = λ j. refl; no_entry = λ p o. refl }
    gone_silent (IsDropped up fault Strays f) = record { no_edit = λ j. refl; no_join = λ j n k. refl; no_shown = λ j. refl; no_entry = λ p o. refl }

    pub brought_made : {i : ℕ} {up : Up O.Op} {oa : Option (AttachedOf O)} {e : EventOf O} → Brings i up oa e → (r : ReplyOf O) (j : ℕ) → traces.edit_made j e r ≡ []
    brought_made (Rises a us rising) r j = refl
    brought_made Strays r j = refl

    pub brought_join : {i : ℕ} {up : Up O.Op} {oa : Option (AttachedOf O)} {e : EventOf O} → Brings i up oa e → (r : ReplyOf O) (j n at : ℕ) → traces.join_seen j n at e r ≡ at
    brought_join (Rises a us rising) r j n at = refl
    brought_join Strays r j n at = refl

    pub brought_shown : {i : ℕ} {up : Up O.Op} {oa : Option (AttachedOf O)} {e : EventOf O} → Brings i up oa e → (r : ReplyOf O) (j : ℕ) → traces.was_shown j e r ≡ 0
    brought_shown (Rises a us rising) r j = refl
    brought_shown Strays r j = refl

    -- an event at a site
    at_place : (e : EventOf O) (i : ℕ) (f : LinkState O.Op → AttachedOf O → Outcome O)
        → ((l : LinkState O.Op) (a : AttachedOf O) → link_of i w.star.links ≡ Some l → attached i w.sites ≡ Some a → StepOf e (f l a)) → StepOf e (at_number O w i f)
    at_place e i f here =
        either (link_of i w.star.links) (λ o. StepOf e (at_linked O w i f o)) (λ none. Still (Finds e))
        (λ l fl. either (attached i w.sites) (λ o. StepOf e (at_attached O w l f o)) (λ none. Still (Finds e)) (λ a fa. here l a fl fa))

    -- or of a stranger
    at_alone : (e : EventOf O) (i : ℕ) (f : LinkState O.Op → Outcome O) → ((l : LinkState O.Op) → link_of i w.star.links ≡ Some l → attached i w.sites ≡ None → StepOf e (f l))
        → StepOf e (at_stray O w f (attached i w.sites) (link_of i w.star.links))
    at_alone e i f here =
        either (attached i w.sites) (λ oa. StepOf e (at_stray O w f oa (link_of i w.star.links)))
        (λ alone. either (link_of i w.star.links) (λ ol. StepOf e (at_stray O w f None ol)) (λ none. Still (Finds e)) (λ l fl. here l fl alone))
        (λ a fa. Still (Finds e))

    -- the star takes the oldest message of a site
    up_step : (i : ℕ) (l : LinkState O.Op) (a : AttachedOf O) → link_of i w.star.links ≡ Some l → attached i w.sites ≡ Some a → (us : List (Up O.Op)) → a.up ≡ us → StepOf (MoveUp i) (first_up O w i l us)
    up_step i l a fl fa [] rising = Still (Finds (MoveUp i))
    up_step i l a fl fa (up ∷ us) rising = either (up_fault O w.star l up) (λ f. StepOf (MoveUp i) (up_outcome O w i l up f))
        (λ none. Takes i l (Some a) up fl fa (Rises a us rising) none)
        (λ fault f. Goes i l (Some a) fl fa (IsDropped up fault (Rises a us rising) f))

    -- or that of a stranger, whose number no site has
    stray_step : (i : ℕ) (l : LinkState O.Op) → link_of i w.star.links ≡ Some l → attached i w.sites ≡ None → (up : Up O.Op) → StepOf (Stray i up) (stray_sends O w i l up (up_fault O w.star l up))
    stray_step i l fl alone up = either (up_fault O w.star l up) (λ f. StepOf (Stray i up) (stray_sends O w i l up f))
        (λ none. subst (λ sites. StepOf (Stray i up) (record { reply = place_reply O (place_taken O w.star up); star = taken O i up l w.star; sites = sites })) (map_absent (λ a. a.site.number) i (one_taken O) w.sites alone)
        (Takes i l None up fl alone Strays none))
        (λ fault f. subst (λ sites. StepOf (Stray i up) (record { reply = Detached fault; star = left i w.star; sites = sites })) (filter_absent (λ a. a.site.number) i w.sites alone)
        (Goes i l None fl alone (IsDropped up fault Strays f)))

    -- a site receives a message
    handed_step : (i gone : ℕ) (l : LinkState O.Op) (a : AttachedOf O) → link_of i w.star.links ≡ Some l → attached i w.sites ≡ Some a → (d : Down O.Op) (ds : List (Down O.Op))
        → a.down ++ l.outbox ≡ d ∷ (ds ++ drop gone l.outbox) → StepOf (MoveDown i) (down_outcome O w i gone d ds (deliver_fault O d a.site))
    handed_step i gone l a fl fa d ds falls = either (deliver_fault O d a.site) (λ f. StepOf (MoveDown i) (down_outcome O w i gone d ds f))
        (λ none. Hands i gone l a d ds fl fa falls none)
        (λ fault f. Still (Finds (MoveDown i)))

    -- the oldest to it
    down_step : (i : ℕ) (l : LinkState O.Op) (a : AttachedOf O) → link_of i w.star.links ≡ Some l → attached i w.sites ≡ Some a → (ds os : List (Down O.Op)) → a.down ≡ ds → l.outbox ≡ os → StepOf (MoveDown i) (first_down O w i a ds os)
    down_step i l a fl fa (d ∷ ds) os p q = handed_step i 0 l a fl fa d ds (ap (λ x. x ++ l.outbox) p)
    down_step i l a fl fa [] (d ∷ os) p q = handed_step i 1 l a fl fa d [] (ap (λ x. x ++ l.outbox) p ∙ (q ∙ ap (λ x. d ∷ drop 1 x) (sym q)))
    down_step i l a fl fa [] [] p q = Still (Finds (MoveDown i))

    -- each event
    pub step_of : (e : EventOf O) → StepOf e (outcome O w e)
    step_of Join = either (join_fault w.star) (λ f. StepOf Join (join_outcome O w f)) Enters (λ fault f. Still (NotJoined fault))
    step_of (Leave i) = at_place (Leave i) i _ (λ l a fl fa. Goes i l (Some a) fl fa (Leaves a))
    step_of (MakeEdit i command) = at_place (MakeEdit i command) i _ (λ l a fl fa. result_cases (edit_answer O command a.site) (λ r. StepOf (MakeEdit i command) (edit_outcome O w i r))
        (λ op ok. Makes i command l a op fl fa ok)
        (λ fault e. Still (NotMade i command fault)))
    step_of (MoveUp i) = at_place (MoveUp i) i _ (λ l a fl fa. up_step i l a fl fa a.up refl)
    step_of (MoveDown i) = at_place (MoveDown i) i _ (λ l a fl fa. down_step i l a fl fa a.down l.outbox refl refl)
    step_of (SendPing i k) = at_place (SendPing i k) i _ (λ l a fl fa. Asks i k l a fl fa)
    step_of JoinStray = either (join_fault w.star) (λ f. StepOf JoinStray (stray_joins O w f)) EntersStray (λ fault f. Still (NoStray fault))
    step_of (Stray i up) = at_alone (Stray i up) i _ (λ l fl alone. stray_step i l fl alone up)
    step_of (LeaveStray i) = at_alone (LeaveStray i) i _ (λ l fl alone.
        subst (λ sites. StepOf (LeaveStray i) (record { reply = Left; star = left i w.star; sites = sites })) (filter_absent (λ a. a.site.number) i w.sites alone) (Goes i l None fl alone StrayLeaves))
