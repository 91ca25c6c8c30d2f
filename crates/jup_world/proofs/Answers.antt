-- What sites and the star answer.
use Rattle.std.proofs.Common.{◌≡◌, ℕ, Bool, true, false, cond, length, refl, Result, Ok, Err, not, List, [], ◌∷◌, ◌++◌, ap, ◌∙◌, Some, None, sym, take, Option, is_some, eqb, option_map, OnErr, IfOk, IfSome, subst}
use Rattle.std.specs.Option.{option_eq}
use Rattle.jup_world.specs.Prelude.{Link, EditFault, BoardBatch, Commands, board_batches, UpAck, DownOp, DownAck, DownPong, Up, Down, JoinedSite, StarFault, edit_answer, deliver_fault, sent_back, end_after, owes, SiteFault, BoardSite, test, up_fault, link_of, join_fault, joined, left, fetched, taken, place_taken, BoardStar, Answers, is_no_memory, joining, bare_joined, Made as MadeReply, Refused}
use Rattle.jup_star.specs.declared.site.Made.{Made}
use Rattle.jup_star.specs.declared.calls.Call.TheVariants.{Join, Take, Fetch, Leave}
use Rattle.jup_star.specs.declared.calls.StarReply.TheVariants.{Joined as JoinedReply, Taken as TakenReply, Fetched as FetchedReply, Left as LeftReply}
use Rattle.jup_star.specs.Sites as star_sites
use Rattle.jup_star.specs.Messages.{UpRelabelsNoText}
use Rattle.jup_star.specs.Stars.{BoardLink, reply_of, star_after, take_result, after_take, fetch_result}
use Rattle.jup_world.specs.Sound.{edit_reply}
use Rattle.jup_world.specs.Boards.{BoardAttached, BoardReply}
use Rattle.jup_world.specs.Happenings as happenings

-- What the answers of a site and of the star say.

-- # A site's edit

made_same : (r : Result BoardBatch EditFault) (s : BoardSite) (made : Made) → ◌≡◌ {A = Result Made EditFault} (Ok made) (star_sites.made_result s r) → ◌≡◌ {A = BoardReply} (MadeReply made.edit) (edit_reply board_batches r)
made_same (Ok op) s made e = ap (λ (m : Made). MadeReply m.edit) (let same : made ≡ star_sites.made_by op s = cc in same)
made_same (Err n) s made e = absurd (cc)

pub edit_made : (command : Commands) (s t : BoardSite) (made : Made) → star_sites.EditAnswers command s t (Ok made) → ◌≡◌ {A = BoardReply} (MadeReply made.edit) (edit_reply board_batches (edit_answer board_batches command s))
edit_made command s t made answers = made_same (edit_answer board_batches command s) s made answers.0

sent_same : (r : Result BoardBatch EditFault) (a : BoardAttached) (t : BoardSite) (ups : List (Up BoardBatch)) (made : Made) → ◌≡◌ {A = Result Made EditFault} (Ok made) (star_sites.made_result a.site r) → t ≡ star_sites.after_edit a.site r → ups ≡ a.up ++ made.up ∷ []
    → ◌≡◌ {A = BoardAttached} (record { site = t; up = ups; down = a.down }) (happenings.with_answer r a)
sent_same (Ok op) a t ups made e f g =
    let same : made ≡ star_sites.made_by op a.site = cc in
    let all = g ∙ ap (λ (m : Made). a.up ++ m.up ∷ []) same in
    λ i. record { site = f i; up = all i; down = a.down }
sent_same (Err n) a t ups made e f g = absurd (cc)

pub edit_sent : (command : Commands) (a : BoardAttached) (t : BoardSite) (ups : List (Up BoardBatch)) (made : Made) → star_sites.EditAnswers command a.site t (Ok made) → ups ≡ a.up ++ made.up ∷ []
    → ◌≡◌ {A = BoardAttached} (record { site = t; up = ups; down = a.down }) (happenings.with_answer (edit_answer board_batches command a.site) a)
edit_sent command a t ups made answers g = sent_same (edit_answer board_batches command a.site) a t ups made answers.0 answers.1 g

refused_reply : (r : Result BoardBatch EditFault) (s : BoardSite) (n : EditFault) → ◌≡◌ {A = Result Made EditFault} (Err n) (star_sites.made_result s r) → ◌≡◌ {A = BoardReply} (Refused n) (edit_reply board_batches r)
refused_reply (Ok op) s n e = absurd (cc)
refused_reply (Err m) s n e = ap (λ (k : EditFault). Refused k) (let same : n ≡ m = cc in same)

refused_same : (r : Result BoardBatch EditFault) (a : BoardAttached) (t : BoardSite) (n : EditFault) → ◌≡◌ {A = Result Made EditFault} (Err n) (star_sites.made_result a.site r) → t ≡ star_sites.after_edit a.site r → ◌≡◌ {A = BoardAttached} (record a { site = t }) (happenings.with_answer r a)
refused_same (Ok op) a t n e f = absurd (cc)
refused_same (Err m) a t n e f = λ i. record { site = f i; up = a.up; down = a.down }

pub edit_refused : (command : Commands) (s t : BoardSite) (fault refusal : EditFault) → star_sites.is_edit_memory fault ≡ false → refusal ≡ fault → star_sites.EditAnswers command s t (Err fault)
    → ◌≡◌ {A = BoardReply} (Refused refusal) (edit_reply board_batches (edit_answer board_batches command s))
edit_refused command s t fault refusal other same answers =
    let call = rw other at answers in
    ap (λ (f : EditFault). Refused f) same ∙ refused_reply (edit_answer board_batches command s) s fault call.0

pub edit_stays : (command : Commands) (a : BoardAttached) (t : BoardSite) (ups : List (Up BoardBatch)) (fault : EditFault) → star_sites.is_edit_memory fault ≡ false → star_sites.EditAnswers command a.site t (Err fault) → ups ≡ a.up
    → ◌≡◌ {A = BoardAttached} (record { site = t; up = ups; down = a.down }) (happenings.with_answer (edit_answer board_batches command a.site) a)
edit_stays command a t ups fault other answers same =
    let call = rw other at answers in
    (λ i. record { site = t; up = same i; down = a.down }) ∙ refused_same (edit_answer board_batches command a.site) a t fault call.0 call.1

-- # The star's answers

pub leave_left : (i : ℕ) (s t : BoardStar) → Answers (Leave i) s t (LeftReply (Ok tt)) → (t ≡ left i s) × (is_some (link_of i s.links) ≡ true)
unfolding reply_of star_after
leave_left i s t answers = cases (link_of i s.links) refl
  where
    cases : (o : Option BoardLink) → link_of i s.links ≡ o → (t ≡ left i s) × (is_some (link_of i s.links) ≡ true)
    cases None e = let call = rw e at answers.0 in absurd (cc)
    cases (Some l) e = let call = rw e at answers.1 in (call, ap is_some e)

pub leave_none : (i : ℕ) (s t : BoardStar) (fault : StarFault) → is_no_memory fault ≡ false → Answers (Leave i) s t (LeftReply (Err fault)) → (t ≡ s) × (link_of i s.links ≡ None)
unfolding reply_of star_after
leave_none i s t fault other answers = cases (link_of i s.links) refl
  where
    call : (LeftReply (Err fault) ≡ reply_of (Leave i) s) × (t ≡ star_after (Leave i) s)
    call = rw other at answers

    cases : (o : Option BoardLink) → link_of i s.links ≡ o → (t ≡ s) × (link_of i s.links ≡ None)
    cases None e = (rw e at call.1, e)
    cases (Some l) e = let reply = rw e at call.0 in absurd (cc)

pub take_taken : (i : ℕ) (up : Up BoardBatch) (s t : BoardStar) (l : BoardLink) (place : Option ℕ) → link_of i s.links ≡ Some l → Answers (Take i up) s t (TakenReply (Ok place))
    → (up_fault board_batches s l up ≡ None) × (place ≡ place_taken board_batches s up) × (t ≡ taken board_batches i up l s)
unfolding reply_of star_after
take_taken i up s t l place found answers = cases (up_fault board_batches s l up) refl
  where
    reply : TakenReply (Ok place) ≡ TakenReply (take_result s up (up_fault board_batches s l up))
    reply = rw found at answers.0

    after : t ≡ after_take i up s (Some l) (up_fault board_batches s l up)
    after = rw found at answers.1

    cases : (o : Option StarFault) → up_fault board_batches s l up ≡ o → (up_fault board_batches s l up ≡ None) × (place ≡ place_taken board_batches s up) × (t ≡ taken board_batches i up l s)
    cases None e = (e, (let told = rw e at reply in cc), rw e at after)
    cases (Some fault) e = let told = rw e at reply in absurd (cc)

pub take_refused : (i : ℕ) (up : Up BoardBatch) (s t : BoardStar) (l : BoardLink) (fault : StarFault) → is_no_memory fault ≡ false → link_of i s.links ≡ Some l → Answers (Take i up) s t (TakenReply (Err fault))
    → (up_fault board_batches s l up ≡ Some fault) × (t ≡ left i s)
unfolding reply_of star_after
take_refused i up s t l fault other found answers = cases (up_fault board_batches s l up) refl
  where
    call : (TakenReply (Err fault) ≡ reply_of (Take i up) s) × (t ≡ star_after (Take i up) s)
    call = rw other at answers

    reply : TakenReply (Err fault) ≡ TakenReply (take_result s up (up_fault board_batches s l up))
    reply = rw found at call.0

    after : t ≡ after_take i up s (Some l) (up_fault board_batches s l up)
    after = rw found at call.1

    cases : (o : Option StarFault) → up_fault board_batches s l up ≡ o → (up_fault board_batches s l up ≡ Some fault) × (t ≡ left i s)
    cases None e = let told = rw e at reply in absurd (cc)
    cases (Some found_fault) e = let told = rw e at reply in (e ∙ cc, rw e at after)

pub take_wanted : (i : ℕ) (up : Up BoardBatch) (s t : BoardStar) (fault : StarFault) → is_no_memory fault ≡ true → Answers (Take i up) s t (TakenReply (Err fault)) → t ≡ s
take_wanted i up s t fault memory answers = let call = rw memory at answers in call.0

pub join_joined : (s t : BoardStar) (j : JoinedSite) → Answers Join s t (JoinedReply (bare_joined (Ok j))) → (join_fault s ≡ None) × (bare_joined (Ok j) ≡ Ok (joining s)) × (t ≡ joined s)
unfolding reply_of star_after
join_joined s t j answers = cases (join_fault s) refl
  where
    cases : (o : Option StarFault) → join_fault s ≡ o → (join_fault s ≡ None) × (bare_joined (Ok j) ≡ Ok (joining s)) × (t ≡ joined s)
    cases None e = (e, (let told = rw e at answers.0 in cc), rw e at answers.1)
    cases (Some fault) e = let told = rw e at answers.0 in absurd (cc)

pub join_refused : (s t : BoardStar) (fault : StarFault) → is_no_memory fault ≡ false → Answers Join s t (JoinedReply (bare_joined (Err fault))) → (join_fault s ≡ Some fault) × (t ≡ s)
unfolding reply_of star_after
join_refused s t fault other answers = cases (join_fault s) refl
  where
    call : (JoinedReply (Err fault) ≡ reply_of Join s) × (t ≡ star_after Join s)
    call = rw other at answers

    cases : (o : Option StarFault) → join_fault s ≡ o → (join_fault s ≡ Some fault) × (t ≡ s)
    cases None e = let told = rw e at call.0 in absurd (cc)
    cases (Some found_fault) e = let told = rw e at call.0 in (e ∙ cc, rw e at call.1)

pub fetch_fetched : (i : ℕ) (s t : BoardStar) (l : BoardLink) (downs : List (Down BoardBatch)) → link_of i s.links ≡ Some l → Answers (Fetch i 1) s t (FetchedReply (Ok downs))
    → (downs ≡ take 1 l.outbox) × (t ≡ fetched i 1 s)
unfolding reply_of star_after
fetch_fetched i s t l downs found answers = ((let told = rw found at answers.0 in cc), rw found at answers.1)

pub fetch_linked : (i : ℕ) (s t : BoardStar) (fault : StarFault) → is_some (link_of i s.links) ≡ true → is_no_memory fault ≡ false
    → Answers (Fetch i 1) s t (FetchedReply (Err fault)) → ⊥
unfolding reply_of star_after
fetch_linked i s t fault linked memory answers = let call = rw memory at answers in none (link_of i s.links) linked call.0
  where
    none : (o : Option BoardLink) → is_some o ≡ true → FetchedReply (Err fault) ≡ FetchedReply (fetch_result 1 o) → ⊥
    none None some told = absurd (cc)
    none (Some l) some told = absurd (cc)

-- # A down stream that was empty

pub filled : (a : BoardAttached) (l : BoardLink) (downs : List (Down BoardBatch)) → a.down ≡ [] → downs ≡ take 1 l.outbox
    → ◌≡◌ {A = BoardAttached} (record { site = a.site; up = a.up; down = downs }) (happenings.refilled l a)
filled a l downs empty e =
    let all = e ∙ ap (λ (ds : List (Down BoardBatch)). happenings.refilled_from ds l.outbox) (sym empty) in
    λ i. record { site = a.site; up = a.up; down = all i }

-- how many messages wait
pub some_wait : (i : ℕ) (s : BoardStar) (l : BoardLink) (n : Option ℕ) → link_of i s.links ≡ Some l → n ≡ option_map (λ k. length k.outbox) (link_of i s.links) → not (option_eq eqb n (Some 0)) ≡ true
    → l.outbox ≡ [] → ⊥
some_wait i s l n found is test empty =
    let zero : n ≡ Some 0 = is ∙ ap (option_map (λ k. length k.outbox)) found ∙ ap (λ os. Some (length os)) empty in
    let wrong : false ≡ true = sym (ap (λ m. not (option_eq eqb m (Some 0))) zero) ∙ test in
    absurd cc

-- # What a site sends back

-- it relabels no text
pub back_relabels : (down : Down BoardBatch) (s t : BoardSite) (r : Result (Option (Up BoardBatch)) SiteFault) → star_sites.DeliverAnswers down s t r → IfOk r (λ back. IfSome back UpRelabelsNoText)
back_relabels down s t (Err fault) answers = tt
back_relabels down s t (Ok back) answers = by_fault (deliver_fault board_batches down s) answers.0
  where
    of_owed : (e : Link BoardBatch) (b : Bool) → IfSome (cond {A = Option (Up BoardBatch)} b (Some (UpAck e.received)) None) UpRelabelsNoText
    of_owed e true = tt
    of_owed e false = tt

    of_message : (d : Down BoardBatch) → IfSome (sent_back board_batches d s) UpRelabelsNoText
    of_message (DownOp m) = of_owed (end_after board_batches s.end m) (owes (end_after board_batches s.end m).unanswered)
    of_message (DownAck n) = tt
    of_message (DownPong k) = tt

    by_fault : (fault : Option SiteFault) → Ok back ≡ star_sites.deliver_result down s fault → IfSome back UpRelabelsNoText
    by_fault None is =
        let same : back ≡ sent_back board_batches down s = cc in
        subst (λ (b : Option (Up BoardBatch)). IfSome b UpRelabelsNoText) (sym same) (of_message down)
    by_fault (Some fault) is = absurd (cc)

-- # Links that are there

pub some_link : (o : Option BoardLink) → is_some o ≡ true → (l : BoardLink) × (o ≡ Some l)
some_link None there = absurd (cc)
some_link (Some l) there = (l, refl)

-- # Answers that are errors

pub on_err : {T E : Type 0} {A : Type 0} (r : Result T E) → A → OnErr r A
on_err (Ok x) holds = tt
on_err (Err e) holds = holds
