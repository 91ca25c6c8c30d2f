-- What passes and threads have done.
use Rattle.std.proofs.Common.{◌≡◌, ℕ, zero, suc, ◌+◌, ◌<◌, ◌≤◌, List, [], ◌∷◌, ◌++◌, length, get_or, drop, Option, Some, Result, Ok, Err, refl, sym, ap, ◌∙◌, subst, arith, append-nil, append_assoc, length-append, add-one, drop-cons, ◌==◌, true, ◌≢◌, false, cond, set, length-set, get_or-set_same, get_or-set_other, inl, inr, take}
use Rattle.jup_app.specs.Prelude.{Command, EditFault, BoardBatch, BoardEdits, Commands, board_batches, Call, Take, Fetch, StarReply, MadeEdit, BoardSite, edit_answer, EditAnswers, is_edit_memory, made_by, BoardAttached, HubFault, HubEvent, View, Hub, most_fetched, SiteEnd, Job, AllByRecursion, Bor, eq-eqb, eqb-false, eqb, nil_from_length, append_cancel_left, map-append, take_more, nat_tests, eqb_tells, BeginsWith, BeginsWithAll, Called, with_call, Meets, having_seen, IsLegal, AllTallied, AllApart, tallies, tally}
use Rattle.jup_star.specs.declared.calls.StarReply.TheVariants as reply
use Rattle.jup_session.specs.Sessions.{HasAnswered}
use Rattle.jup_app.specs.Runs.{BoardUp, BoardDown, delivered, Made, made, Step, Edited, Took, Got, calls_of, edits_of, IsPlayed, IsAccepted, all_delivered, AcceptsAll, makes, link_with, HasSeen, Plays, Handles, IsDelivering, site_of, IsSite, with_log, calls_at, FoundNothing, AreNumbered, Drained, EndsQuiet, IsDrained, empty_fetches, EditAnswer, edited, answer_to, edit_by, answer_by, singles, Works, Answered, Played, HasMet, IsSame, IsJob, AreJobs, no_site}
use Rattle.jup_app.proofs.Calls.{makes-append, calls_of-append, played_both, edits_of-append, each_both, each_weaker, each_made, apart, calls_at-append, calls_at_own, calls_at_other, calls_own}
use Rattle.jup_app.proofs.Stars as stars
use Rattle.jup_app.proofs.Simulate.{at_each}

-- What the calls of a pass do for one site, put together.

pub delivering_none : (ds : List BoardDown) (l : BoardAttached) → IsDelivering ds 0 l l
delivering_none ds l = record { left = refl; accepts = λ h. h }

pub delivering_more : (ds : List BoardDown) (k : ℕ) (d : BoardDown) (start : BoardAttached) (s t : BoardSite) (up new : List BoardUp) → k < length ds → IsAccepted (get_or ds k d) (link_with s up)
    → delivered (get_or ds k d) (link_with s up) ≡ link_with t new → IsDelivering ds k start (link_with s up) → IsDelivering ds (k + 1) start (link_with t new)
delivering_more ds k d start s t up new within fine is so_far =
    let split : drop k ds ≡ get_or ds k d ∷ drop (k + 1) ds = rw add-one (drop-cons ds k d within) in
    record {
      left = ap (λ l. all_delivered (drop (k + 1) ds) l) (sym is) ∙ ap (λ xs. all_delivered xs (link_with s up)) (sym split) ∙ so_far.left;
      accepts = λ later. so_far.accepts (subst (λ xs. AcceptsAll xs (link_with s up)) (sym split) (fine, subst (λ l. AcceptsAll (drop (k + 1) ds) l) (sym is) later));
    }

pub begins_trans : (a b c : List HubEvent) → BeginsWith a b → BeginsWith b c → BeginsWith a c
begins_trans a b c x y = (y.0 ++ x.0, x.1 ∙ ap (λ h. h ++ x.0) y.1 ∙ append_assoc c y.0 x.0)

pub begins_more : (a xs b : List HubEvent) → BeginsWith a b → BeginsWith (a ++ xs) b
begins_more a xs b x = (x.0 ++ xs, ap (λ h. h ++ xs) x.1 ∙ append_assoc b x.0 xs)

abbrev entry_of : View → Call → StarReply → List HubEvent
entry_of v call reply = record { by = v.number; call = call; reply = reply } ∷ []

-- an edit that its gate let through, and that the hub took
pub edit_answered : {P : Type 0} (view : P → View) (site : ℕ) (up : BoardUp) (v : View) (p q : P) (answer : Result (Option ℕ) HubFault) (place : Option ℕ) → HasAnswered site up v (view p) (Some answer) → answer ≡ Ok place → q ≡ p
    → Called (Take site up) (reply.Taken (Ok place)) v (view q)
edit_answered view site up v p q answer place answered was same =
    subst (λ r. Called (Take site up) (reply.Taken (Ok place)) v (view r)) (sym same) (subst (λ (r : Result (Option ℕ) HubFault). HasAnswered site up v (view p) (Some r)) was answered)

-- a call that was made
pub called_seen : (call : Call) (reply : StarReply) (v w : View) → Called call reply v w → (h : List HubEvent) → HasSeen h v → HasSeen h w
called_seen call reply v w c h has =
    let all : BeginsWithAll c.before (has.latest ∷ has.others) = subst (λ hs. BeginsWithAll c.before hs) has.seen c.begins in
    let one = all.0 in record {
      latest = with_call c.before v call reply;
      others = [];
      seen = ap (λ (x : View). x.seen) c.view;
      begins = begins_more c.before (entry_of v call reply) h (begins_trans c.before has.latest h one has.begins);
    }

unfoldable pub called_plays : (i : ℕ) (call : Call) (reply : StarReply) (v w : View) (l m : BoardAttached) (step : Step) → Called call reply v w → calls_of i (step ∷ []) ≡ record { call = call; reply = reply } ∷ [] → IsPlayed l (step ∷ []) m → Plays i v w l m (step ∷ [])
called_plays i call reply v w l m step c calls played = record {
  calls = record { by = v.number; call = call; reply = reply } ∷ [];
  made = ap (λ (x : View). x.made) c.view;
  are = sym calls;
  number = ap (λ (x : View). x.number) c.view;
  kept = ap (λ (x : View). x.kept) c.view;
  opening = ap (λ (x : View). x.opening) c.view;
  later = called_seen call reply v w c;
  played = played;
}

unfoldable pub plays_both : (i : ℕ) (v w x : View) (l m n : BoardAttached) (xs ys : List Step) → Plays i v w l m xs → Plays i w x m n ys → Plays i v x l n (xs ++ ys)
plays_both i v w x l m n xs ys a b = record {
  calls = a.calls ++ b.calls;
  made = b.made ∙ ap (λ es. es ++ b.calls) a.made ∙ append_assoc v.made a.calls b.calls;
  are = makes-append a.calls b.calls ∙ ap (λ ms. ms ++ makes b.calls) a.are ∙ ap (λ ms. calls_of i xs ++ ms) b.are ∙ sym (calls_of-append i xs ys);
  number = b.number ∙ a.number;
  kept = b.kept ∙ a.kept;
  opening = b.opening ∙ a.opening;
  later = λ h has. b.later h (a.later h has);
  played = played_both xs ys l m n a.played b.played;
}

pub handles_none : (i : ℕ) (v : View) (n : ℕ) (l : BoardAttached) → Handles i v v n n l l
handles_none i v n l = record {
  steps = [];
  plays = record { calls = []; made = sym (append-nil v.made); are = refl; number = refl; kept = refl; opening = refl; later = λ h has. has; played = refl };
  no_edits = refl;
  count = omega arith;
}

pub handles_both : (i : ℕ) (v w x : View) (p q r : ℕ) (l m n : BoardAttached) → Handles i v w p q l m → Handles i w x q r m n → Handles i v x p r l n
unfolding plays_both
handles_both i v w x p q r l m n a b = record {
  steps = a.steps ++ b.steps;
  plays = plays_both i v w x l m n a.steps b.steps a.plays b.plays;
  no_edits = edits_of-append a.steps b.steps ∙ ap (λ es. es ++ edits_of b.steps) a.no_edits ∙ b.no_edits;
  count = omega (arith, a.count, b.count, length-append a.plays.calls b.plays.calls);
}

-- a message that the hub took
pub took_one : (i : ℕ) (u : BoardUp) (p : Option ℕ) (v w : View) (n m : ℕ) (s : BoardSite) (rest : List BoardUp) → Called (Take i u) (reply.Taken (Ok p)) v w → m ≡ n + 1
    → Handles i v w n m (link_with s (u ∷ rest)) (link_with s rest)
unfolding called_plays
took_one i u p v w n m s rest c more = record {
  steps = Took u p ∷ [];
  plays = called_plays i (Take i u) (reply.Taken (Ok p)) v w (link_with s (u ∷ rest)) (link_with s rest) (Took u p) c refl (refl, refl);
  no_edits = refl;
  count = more;
}

-- messages that a fetch gave, delivered in order
pub got_some : (i : ℕ) (k : ℕ) (ds : List BoardDown) (v w : View) (n m : ℕ) (l l' : BoardAttached) → Called (Fetch i k) (reply.Fetched (Ok ds)) v w → m ≡ n + 1 → 0 < k → AcceptsAll ds l → all_delivered ds l ≡ l'
    → Handles i v w n m l l'
unfolding called_plays
got_some i k ds v w n m l l' c more some fine is = record {
  steps = Got k ds ∷ [];
  plays = called_plays i (Fetch i k) (reply.Fetched (Ok ds)) v w l l' (Got k ds) c refl (some, fine, is);
  no_edits = refl;
  count = more;
}

drop_past : {A : Type 0} (xs : List A) (k : ℕ) → length xs ≤ k → drop k xs ≡ []
drop_past [] zero past = refl
drop_past [] (suc k) past = refl
drop_past (x ∷ xs) zero past = absurd (omega arith)
drop_past (x ∷ xs) (suc k) past = drop_past xs k (omega arith)

pub took_next : (i : ℕ) (owed : List BoardUp) (k : ℕ) (d : BoardUp) (p : Option ℕ) (u v w : View) (n m o : ℕ) (s : BoardSite) → k < length owed → d ≡ get_or owed k d
    → Handles i u v n m (link_with s owed) (link_with s (drop k owed)) → Called (Take i d) (reply.Taken (Ok p)) v w → o ≡ m + 1
    → Handles i u w n o (link_with s owed) (link_with s (drop (k + 1) owed))
took_next i owed k d p u v w n m o s within is so_far c more =
    let split : drop k owed ≡ d ∷ drop (k + 1) owed = (rw add-one (drop-cons owed k d within)) ∙ ap (λ (e : BoardUp). e ∷ drop (k + 1) owed) (sym is) in
    let here : Handles i u v n m (link_with s owed) (link_with s (d ∷ drop (k + 1) owed)) = subst (λ ups. Handles i u v n m (link_with s owed) (link_with s ups)) split so_far in
    handles_both i u v w n m o (link_with s owed) (link_with s (d ∷ drop (k + 1) owed)) (link_with s (drop (k + 1) owed)) here (took_one i d p v w m o s (drop (k + 1) owed) c more)

pub took_last : (i : ℕ) (owed : List BoardUp) (k : ℕ) (v w : View) (n m : ℕ) (s : BoardSite) → length owed ≤ k
    → Handles i v w n m (link_with s owed) (link_with s (drop k owed)) → Handles i v w n m (link_with s owed) (link_with s [])
took_last i owed k v w n m s past all = subst (λ ups. Handles i v w n m (link_with s owed) (link_with s ups)) (drop_past owed k past) all

pub got_nothing : (i : ℕ) (k : ℕ) (ds : List BoardDown) (v w : View) (n m : ℕ) (l : BoardAttached) → Called (Fetch i k) (reply.Fetched (Ok ds)) v w → m ≡ n + 1 → 0 < k → ds ≡ [] → Handles i v w n m l l
got_nothing i k ds v w n m l c more some none = got_some i k [] v w n m l l (subst (λ xs. Called (Fetch i k) (reply.Fetched (Ok xs)) v w) none c) more some tt refl

pub no_elements : (ds xs : List BoardDown) → xs ≡ ds → (length xs == 0) ≡ true → ds ≡ []
no_elements ds xs is none = let zero_long : length xs ≡ 0 = grind (arith, nat_tests) in sym is ∙ nil_from_length xs zero_long

pub got_through : (i : ℕ) (k : ℕ) (ds xs : List BoardDown) (v w : View) (n m : ℕ) (s t : BoardSite) (first after sent : List BoardUp) → Called (Fetch i k) (reply.Fetched (Ok ds)) v w → m ≡ n + 1 → 0 < k
    → xs ≡ ds → first ≡ [] → sent ≡ after → AcceptsAll xs (link_with s first) → all_delivered xs (link_with s first) ≡ link_with t after
    → Handles i v w n m (link_with s []) (link_with t sent)
got_through i k ds xs v w n m s t first after sent c more some same none end fine is =
    got_some i k ds v w n m (link_with s []) (link_with t sent) c more some
    (subst (λ zs. AcceptsAll zs (link_with s [])) same (subst (λ ups. AcceptsAll xs (link_with s ups)) none fine))
    (ap (λ zs. all_delivered zs (link_with s [])) (sym same) ∙ ap (λ ups. all_delivered xs (link_with s ups)) (sym none) ∙ is ∙ ap (λ ups. link_with t ups) (sym end))

-- What a pass has done that drains all sites, put together.

pub drained_none : (v : View) (n : ℕ) (ends : List SiteEnd) → Drained v v n n ends ends
drained_none v n ends = record {
  logs = λ i. [];
  calls = [];
  made = sym (append-nil v.made);
  own = λ numbered i. refl;
  sites = λ numbered. tt;
  no_edits = λ i. refl;
  number = refl;
  kept = refl;
  opening = refl;
  later = λ h has. has;
  count = omega arith;
  long = refl;
  played = λ k d within. refl;
  numbers = λ k d within. refl;
  replies = λ k d within. refl;
}

flip : (i j : ℕ) → eqb j i ≡ false → eqb i j ≡ false
flip i j ne = apart i j (λ e. absurd (eqb-false j i ne (sym e)))

-- the calls of one more piece of one site's log
own_more : (i j : ℕ) (logs : ℕ → List Step) (steps : List Step) → calls_of j (logs j) ++ calls_at j (calls_of i steps) ≡ calls_of j (with_log i (logs i ++ steps) logs j)
own_more i j logs steps =
    at_each (λ log (q : ℕ). calls_of j (logs j) ++ calls_at j (calls_of i steps) ≡ calls_of j log) i j (logs i ++ steps) 0 logs (λ k. 0)
    (λ e. subst (λ n. calls_of n (logs n) ++ calls_at n (calls_of i steps) ≡ calls_of n (logs i ++ steps)) (sym e) (ap (λ ms. calls_of i (logs i) ++ ms) (calls_at_own i steps) ∙ sym (calls_of-append i (logs i) steps)))
    (λ ne. ap (λ ms. calls_of j (logs j) ++ ms) (calls_at_other i j steps (flip i j ne)) ∙ append-nil (calls_of j (logs j)))

-- what holds of the new element at its place, and of the old ones elsewhere, holds of each
at_place : (P : SiteEnd → Type 0) (ends : List SiteEnd) (k j : ℕ) (e d : SiteEnd) → k < length ends → (j ≡ k → P e) → ((j ≡ k → ⊥) → P (get_or ends j d)) → P (get_or (set ends k e) j d)
at_place P ends k j e d within same other =
    elim (eqb_tells j k) as (λ _. P (get_or (set ends k e) j d)) [
      | inl is ↦ subst (λ n. P (get_or (set ends k e) n d)) (sym is.1) (rw get_or-set_same (same is.1))
      | inr ne ↦ let differ : j ≢ k = ne.1 in rw get_or-set_other (other ne.1)
    ]

with_same : {A : Type 0} (i : ℕ) (x : A) (f : ℕ → A) → with_log i x f i ≡ x
with_same i x f = ap (λ b. cond b x (f i)) (eq-eqb i i refl)

with_other : {A : Type 0} (i j : ℕ) (x : A) (f : ℕ → A) → eqb j i ≡ false → with_log i x f j ≡ f j
with_other i j x f ne = ap (λ b. cond b x (f j)) ne

pub drained_more : (v w x : View) (n m o : ℕ) (old new : List SiteEnd) (k : ℕ) (e : SiteEnd) (t : BoardSite) → k < length old → Drained v w n m old new
    → ((d : SiteEnd) → get_or new k d ≡ e)
    → Handles e.site.number w x m o (link_with e.site []) (link_with t [])
    → Drained v x n o old (set new k (record { site = t; replies = e.replies }))
drained_more v w x n m o old new k e t within a at h =
    let here : AreNumbered old → e.site.number ≡ suc k = λ numbered. ap (λ (x : SiteEnd). x.site.number) (sym (at e)) ∙ a.numbers k e within ∙ numbered k e within in
    let i = suc k in
    let now = h in
    let are : AreNumbered old → makes h.plays.calls ≡ calls_of (suc k) h.steps = λ numbered. h.plays.are ∙ ap (λ q. calls_of q h.steps) (here numbered) in
    let fresh = now.plays.calls in
    let logs' = with_log i (a.logs i ++ now.steps) a.logs in
    let e' : SiteEnd = record { site = t; replies = e.replies } in
    let long : length (set new k e') ≡ length old = length-set new k e' ∙ a.long in
    let inside : k < length new = omega (arith, a.long) in
    record {
      logs = logs';
      calls = a.calls ++ fresh;
      made = now.plays.made ∙ ap (λ es. es ++ fresh) a.made ∙ append_assoc v.made a.calls fresh;
      own = λ numbered j. ap (λ ms. calls_at j ms) (makes-append a.calls fresh) ∙ calls_at-append j (makes a.calls) (makes fresh) ∙ ap (λ ms. ms ++ calls_at j (makes fresh)) (a.own numbered j) ∙ ap (λ ms. calls_of j (a.logs j) ++ calls_at j ms) (are numbered) ∙ own_more i j a.logs now.steps;
      sites = λ numbered. each_both (λ (e : HubEvent). IsSite (length old) (site_of e.call)) a.calls fresh (a.sites numbered)
          (each_made (λ (m : Made). IsSite (length old) (site_of m.call)) fresh (subst (λ ms. AllByRecursion (λ (m : Made). IsSite (length old) (site_of m.call)) ms) (sym (are numbered))
          (each_weaker (λ (m : Made). site_of m.call ≡ i) (λ (m : Made). IsSite (length old) (site_of m.call)) (calls_of i now.steps) (λ m is. (omega (arith, is), omega (arith, is))) (calls_own i now.steps))));
      no_edits = λ j. at_each (λ log (q : ℕ). edits_of log ≡ []) i j (a.logs i ++ now.steps) 0 a.logs (λ k. 0) (λ e. edits_of-append (a.logs i) now.steps ∙ ap (λ es. es ++ edits_of now.steps) (a.no_edits i) ∙ now.no_edits) (λ ne. a.no_edits j);
      number = now.plays.number ∙ a.number;
      kept = now.plays.kept ∙ a.kept;
      opening = now.plays.opening ∙ a.opening;
      later = λ h has. now.plays.later h (a.later h has);
      count = omega (arith, a.count, now.count, length-append a.calls fresh);
      long = long;
      played = λ j d in_old. at_place (λ (z : SiteEnd). IsPlayed (link_with (get_or old j d).site []) (logs' (suc j)) (link_with z.site [])) new k j e' d inside
          (λ is. subst (λ q. IsPlayed (link_with (get_or old q d).site []) (logs' (suc q)) (link_with t [])) (sym is)
          (subst (λ log. IsPlayed (link_with (get_or old k d).site []) log (link_with t [])) (sym (with_same i (a.logs i ++ now.steps) a.logs))
          (played_both (a.logs i) now.steps (link_with (get_or old k d).site []) (link_with e.site []) (link_with t [])
          (subst (λ z. IsPlayed (link_with (get_or old k d).site []) (a.logs i) (link_with z.site [])) (at d) (a.played k d within)) now.plays.played)))
          (λ ne. subst (λ log. IsPlayed (link_with (get_or old j d).site []) log (link_with (get_or new j d).site [])) (sym (with_other i (suc j) (a.logs i ++ now.steps) a.logs (apart (suc j) i (λ e. ne (omega arith))))) (a.played j d in_old));
      numbers = λ j d in_old. at_place (λ (z : SiteEnd). z.site.number ≡ (get_or old j d).site.number) new k j e' d inside (λ is. subst (λ q. t.number ≡ (get_or old q d).site.number) (sym is) (stars.played_number now.steps (link_with e.site []) (link_with t []) now.plays.played ∙ ap (λ (z : SiteEnd). z.site.number) (sym (at d)) ∙ a.numbers k d within)) (λ ne. a.numbers j d in_old);
      replies = λ j d in_old. at_place (λ (z : SiteEnd). z.replies ≡ (get_or old j d).replies) new k j e' d inside (λ is. subst (λ q. e.replies ≡ (get_or old q d).replies) (sym is) (ap (λ (z : SiteEnd). z.replies) (sym (at d)) ∙ a.replies k d within)) (λ ne. a.replies j d in_old);
    }

pub quiet_none : (ends : List SiteEnd) (v : View) → EndsQuiet ends 0 v v
quiet_none ends v = record { empties = []; made = sym (append-nil v.made); are = λ numbered. refl }

pub quiet_more : (ends : List SiteEnd) (k number : ℕ) (v w x : View) → (AreNumbered ends → number ≡ suc k) → EndsQuiet ends k v w → FoundNothing number w x → EndsQuiet ends (k + 1) v x
quiet_more ends k number v w x is a c = record {
  empties = a.empties ++ record { by = w.number; call = Fetch number most_fetched; reply = reply.Fetched (Ok []) } ∷ [];
  made = ap (λ (z : View). z.made) c.view ∙ ap (λ es. es ++ record { by = w.number; call = Fetch number most_fetched; reply = reply.Fetched (Ok []) } ∷ []) a.made ∙ append_assoc v.made a.empties (record { by = w.number; call = Fetch number most_fetched; reply = reply.Fetched (Ok []) } ∷ []);
  are = λ numbered. makes-append a.empties (record { by = w.number; call = Fetch number most_fetched; reply = reply.Fetched (Ok []) } ∷ []) ∙ ap (λ ms. ms ++ record { call = Fetch number most_fetched; reply = reply.Fetched (Ok []) } ∷ []) (a.are numbered)
      ∙ ap (λ n. empty_fetches k ++ record { call = Fetch n most_fetched; reply = reply.Fetched (Ok []) } ∷ []) (is numbered) ∙ rw add-one refl;
}

pub number_at : (v w : View) (n m : ℕ) (old new : List SiteEnd) (k : ℕ) (d : SiteEnd) → k < length old → Drained v w n m old new → AreNumbered old → (get_or new k d).site.number ≡ suc k
number_at v w n m old new k d within a numbered = a.numbers k d within ∙ numbered k d within

pub still_numbered : (v w : View) (n m : ℕ) (old new : List SiteEnd) → Drained v w n m old new → AreNumbered old → AreNumbered new
still_numbered v w n m old new a numbered k d within = let inside : k < length old = omega (arith, a.long) in a.numbers k d inside ∙ numbered k d inside

pub drained_both : (v w x : View) (n m o : ℕ) (old mid new : List SiteEnd) → Drained v w n m old mid → Drained w x m o mid new → Drained v x n o old new
drained_both v w x n m o old mid new a b = record {
  logs = λ i. a.logs i ++ b.logs i;
  calls = a.calls ++ b.calls;
  made = b.made ∙ ap (λ es. es ++ b.calls) a.made ∙ append_assoc v.made a.calls b.calls;
  own = λ numbered i. ap (λ ms. calls_at i ms) (makes-append a.calls b.calls) ∙ calls_at-append i (makes a.calls) (makes b.calls) ∙ ap (λ ms. ms ++ calls_at i (makes b.calls)) (a.own numbered i) ∙ ap (λ ms. calls_of i (a.logs i) ++ ms) (b.own (still_numbered v w n m old mid a numbered) i) ∙ sym (calls_of-append i (a.logs i) (b.logs i));
  sites = λ numbered. each_both (λ (e : HubEvent). IsSite (length old) (site_of e.call)) a.calls b.calls (a.sites numbered) (subst (λ q. AllByRecursion (λ (e : HubEvent). IsSite q (site_of e.call)) b.calls) a.long (b.sites (still_numbered v w n m old mid a numbered)));
  no_edits = λ i. edits_of-append (a.logs i) (b.logs i) ∙ ap (λ es. es ++ edits_of (b.logs i)) (a.no_edits i) ∙ b.no_edits i;
  number = b.number ∙ a.number;
  kept = b.kept ∙ a.kept;
  opening = b.opening ∙ a.opening;
  later = λ h has. b.later h (a.later h has);
  count = omega (arith, a.count, b.count, length-append a.calls b.calls);
  long = b.long ∙ a.long;
  played = λ k d within. let inside : k < length mid = omega (arith, a.long) in
      played_both (a.logs (suc k)) (b.logs (suc k)) (link_with (get_or old k d).site []) (link_with (get_or mid k d).site []) (link_with (get_or new k d).site []) (a.played k d within) (b.played k d inside);
  numbers = λ k d within. let inside : k < length mid = omega (arith, a.long) in b.numbers k d inside ∙ a.numbers k d within;
  replies = λ k d within. let inside : k < length mid = omega (arith, a.long) in b.replies k d inside ∙ a.replies k d within;
}

pub is_drained : (v w x : View) (n m o : ℕ) (old mid new : List SiteEnd) → Drained v w n m old mid → Drained w x m o mid new → EndsQuiet mid (length mid) w x → IsDrained v x n o old new
unfolding drained_both
is_drained v w x n m o old mid new a b quiet = record {
  drained = drained_both v w x n m o old mid new a b;
  earlier = a.calls;
  empties = b.calls;
  calls = refl;
  are = λ numbered. ap makes (append_cancel_left w.made b.calls quiet.empties (sym b.made ∙ quiet.made)) ∙ quiet.are (still_numbered v w n m old mid a numbered) ∙ ap empty_fetches a.long;
}

-- What a site's thread has done, put together.

-- a look at the history
pub seen_later : (v w : View) (log : List HubEvent) → BeginsWithAll log v.seen → w ≡ having_seen log v → (h : List HubEvent) → HasSeen h v → HasSeen h w
seen_later v w log begins is h has =
    let all : BeginsWithAll log (has.latest ∷ has.others) = subst (λ hs. BeginsWithAll log hs) has.seen begins in record {
      latest = log;
      others = [];
      seen = ap (λ (x : View). x.seen) is;
      begins = begins_trans log has.latest h all.0 has.begins;
    }

pub handles_news : (i : ℕ) (v w : View) (n : ℕ) (l : BoardAttached) (log : List HubEvent) → Meets v log → w ≡ having_seen log v → Handles i v w n n l l
handles_news i v w n l log meets is = record {
  steps = [];
  plays = record {
    calls = [];
    made = ap (λ (x : View). x.made) is ∙ sym (append-nil v.made);
    are = refl;
    number = ap (λ (x : View). x.number) is;
    kept = ap (λ (x : View). x.kept) is;
    opening = ap (λ (x : View). x.opening) is;
    later = seen_later v w log meets.begins is;
    played = refl;
  };
  no_edits = refl;
  count = omega arith;
}

-- an edit before some steps
plays_edit : (i : ℕ) (v w : View) (l m : BoardAttached) (c : Commands) (r : EditAnswer) (steps : List Step) → r ≡ answer_to c l → Plays i v w (edited c l) m steps → Plays i v w l m (Edited c r ∷ steps)
plays_edit i v w l m c r steps is p = record { calls = p.calls; made = p.made; are = p.are; number = p.number; kept = p.kept; opening = p.opening; later = p.later; played = (is, p.played) }

-- the same steps, from an equal link
plays_from : (i : ℕ) (v w : View) (l k m : BoardAttached) (steps : List Step) → l ≡ k → Plays i v w l m steps → Plays i v w k m steps
plays_from i v w l k m steps is p = record { calls = p.calls; made = p.made; are = p.are; number = p.number; kept = p.kept; opening = p.opening; later = p.later; played = subst (λ l. IsPlayed l steps m) is p.played }

pub works_made : (i : ℕ) (u v w x : View) (n o p q : ℕ) (s t t' t'' z : BoardSite) (c : Commands) (m : MadeEdit) → Handles i u v n o (link_with s []) (link_with t []) → EditAnswers c t t' (Ok m)
    → Handles i v w o p (link_with t' (m.up ∷ [])) (link_with t'' []) → Handles i w x p q (link_with t'' []) (link_with z []) → Works i u x n q s z ((c, Ok m.edit) ∷ [])
unfolding plays_both plays_edit plays_from
works_made i u v w x n o p q s t t' t'' z c m before answers sent after =
    let g = stars.edit_gives c t t' m answers in
    let rest = handles_both i v w x o p q (link_with t' (m.up ∷ [])) (link_with t'' []) (link_with z []) sent after in
    let made : edited c (link_with t []) ≡ link_with t' (m.up ∷ []) =
    ap (λ (a : Result BoardBatch EditFault). edit_by a (link_with t [])) g.is ∙ ap (λ (y : BoardSite). link_with y ((made_by g.op t).up ∷ [])) (sym g.site) ∙ ap (λ (y : MadeEdit). link_with t' (y.up ∷ [])) (sym g.made) in
    let reply : answer_to c (link_with t []) ≡ Ok m.edit = ap (λ (a : Result BoardBatch EditFault). answer_by a) g.is ∙ ap (λ (y : MadeEdit). Ok y.edit) (sym g.made) in
    let moved = plays_from i v x (link_with t' (m.up ∷ [])) (edited c (link_with t [])) (link_with z []) rest.steps (sym made) rest.plays in
    let one = plays_edit i v x (link_with t []) (link_with z []) c (Ok m.edit) rest.steps (sym reply) moved in
    record {
      steps = before.steps ++ Edited c (Ok m.edit) ∷ rest.steps;
      plays = plays_both i u v x (link_with s []) (link_with t []) (link_with z []) before.steps (Edited c (Ok m.edit) ∷ rest.steps) before.plays one;
      edits_are = edits_of-append before.steps (Edited c (Ok m.edit) ∷ rest.steps) ∙ ap (λ es. es ++ (c, Ok m.edit) ∷ edits_of rest.steps) before.no_edits ∙ ap (λ es. (c, Ok m.edit) ∷ es) rest.no_edits;
      count = omega (arith, before.count, rest.count, length-append before.plays.calls moved.calls);
    }

pub works_declined : (i : ℕ) (u v : View) (n o : ℕ) (s t : BoardSite) (c : Commands) (f : EditFault) → Handles i u v n o (link_with s []) (link_with t []) → edit_answer board_batches c t ≡ Err f → Works i u v n o s t ((c, Err f) ∷ [])
unfolding plays_both plays_edit
works_declined i u v n o s t c f before is =
    let none = handles_none i v o (link_with t []) in
    let same : edited c (link_with t []) ≡ link_with t [] = ap (λ a. edit_by a (link_with t [])) is in
    let one : Plays i v v (link_with t []) (link_with t []) (Edited c (Err f) ∷ []) = record {
      calls = [];
      made = sym (append-nil v.made);
      are = refl;
      number = refl;
      kept = refl;
      opening = refl;
      later = λ h has. has;
      played = (sym (ap (λ a. answer_by a) is), same);
    } in
    record {
      steps = before.steps ++ Edited c (Err f) ∷ [];
      plays = plays_both i u v v (link_with s []) (link_with t []) (link_with t []) before.steps (Edited c (Err f) ∷ []) before.plays one;
      edits_are = edits_of-append before.steps (Edited c (Err f) ∷ []) ∙ ap (λ es. es ++ (c, Err f) ∷ []) before.no_edits;
      count = omega (arith, before.count, length-append before.plays.calls one.calls);
    }

pub played_none : (i : ℕ) (v : View) (n : ℕ) (s : BoardSite) (replies : List (Result BoardEdits EditFault)) → replies ≡ [] → Played i v v n n s s [] replies
played_none i v n s replies none = record {
  edits = [];
  commands = refl;
  answers = sym none;
  works = record {
    steps = [];
    plays = record { calls = []; made = sym (append-nil v.made); are = refl; number = refl; kept = refl; opening = refl; later = λ h has. has; played = refl };
    edits_are = refl;
    count = omega arith;
  };
}

works_both : (i : ℕ) (u v w : View) (n o p : ℕ) (s t z : BoardSite) (xs ys : List (Commands × EditAnswer)) → Works i u v n o s t xs → Works i v w o p t z ys → Works i u w n p s z (xs ++ ys)
unfolding plays_both
works_both i u v w n o p s t z xs ys a b = record {
  steps = a.steps ++ b.steps;
  plays = plays_both i u v w (link_with s []) (link_with t []) (link_with z []) a.steps b.steps a.plays b.plays;
  edits_are = edits_of-append a.steps b.steps ∙ ap (λ es. es ++ edits_of b.steps) a.edits_are ∙ ap (λ es. xs ++ es) b.edits_are;
  count = omega (arith, a.count, b.count, length-append a.plays.calls b.plays.calls);
}

pub played_more : (i : ℕ) (u v w : View) (n o p : ℕ) (s t z : BoardSite) (script : List Command) (k : ℕ) (d : Command) (old new : List (Result BoardEdits EditFault)) → k < length script → d ≡ get_or script k d
    → Played i u v n o s t (take k script) old → Answered i v w o p t z (d ∷ []) old new → Played i u w n p s z (take (k + 1) script) new
played_more i u v w n o p s t z script k d old new within is a b = record {
  edits = a.edits ++ (d ∷ [], b.reply) ∷ [];
  commands = map-append (λ (e : Commands × EditAnswer). e.0) a.edits ((d ∷ [], b.reply) ∷ []) ∙ ap (λ cs. cs ++ (d ∷ []) ∷ []) a.commands
      ∙ sym (map-append (λ (c : Command). c ∷ []) (take k script) (d ∷ [])) ∙ ap singles (ap (λ (c : Command). take k script ++ c ∷ []) is ∙ sym (take_more script k d within));
  answers = map-append (λ (e : Commands × EditAnswer). e.1) a.edits ((d ∷ [], b.reply) ∷ []) ∙ ap (λ rs. rs ++ b.reply ∷ []) a.answers ∙ sym b.replies;
  works = works_both i u v w n o p s t z a.edits ((d ∷ [], b.reply) ∷ []) a.works b.works;
}

pub handles_for : (i j : ℕ) (v w : View) (n m : ℕ) (l k : BoardAttached) → j ≡ i → Handles j v w n m l k → Handles i v w n m l k
handles_for i j v w n m l k is h = subst (λ a. Handles a v w n m l k) is h

pub answered_for : (i j : ℕ) (v w : View) (n m : ℕ) (s t : BoardSite) (c : Commands) (old new : List (Result BoardEdits EditFault)) → j ≡ i → Answered j v w n m s t c old new → Answered i v w n m s t c old new
answered_for i j v w n m s t c old new is h = subst (λ a. Answered a v w n m s t c old new) is h

take_past : {A : Type 0} (xs : List A) (k : ℕ) → length xs ≤ k → take k xs ≡ xs
take_past [] zero past = refl
take_past [] (suc k) past = refl
take_past (x ∷ xs) zero past = absurd (omega arith)
take_past (x ∷ xs) (suc k) past = ap (λ ys. x ∷ ys) (take_past xs k (omega arith))

pub played_all : (i : ℕ) (v w : View) (n m : ℕ) (s t : BoardSite) (script : List Command) (k : ℕ) (replies : List (Result BoardEdits EditFault)) → length script ≤ k
    → Played i v w n m s t (take k script) replies → Played i v w n m s t script replies
played_all i v w n m s t script k replies past p = subst (λ cs. Played i v w n m s t cs replies) (take_past script k past) p

pub declined_answer : (i : ℕ) (u v : View) (n o : ℕ) (s t t' : BoardSite) (c : Commands) (f f' : EditFault) (old new : List (Result BoardEdits EditFault)) → Handles i u v n o (link_with s []) (link_with t [])
    → EditAnswers c t t' (Err f) → (f' ≡ f) × (is_edit_memory f ≡ false) → new ≡ old ++ Err f' ∷ [] → Answered i u v n o s t' c old new
declined_answer i u v n o s t t' c f f' old new before answers fault replies =
    let both = stars.edit_refused c t t' f fault.1 answers in
    let refusal : ◌≡◌ {A = EditAnswer} (Err f) (Err f') = ap (λ (g : EditFault). Err g) (sym fault.0) in
    record {
      reply = Err f';
      replies = replies;
      works = subst (λ (x : BoardSite). Works i u v n o s x ((c, Err f') ∷ [])) (sym both.1)
          (subst (λ (r : EditAnswer). Works i u v n o s t ((c, r) ∷ [])) refusal (works_declined i u v n o s t c f before both.0));
    }

-- Each site with its player and its script, put together.

tallies_same : (v w : View) → IsSame v w → tallies v ≡ tallies w
tallies_same v w s = ap (λ n. tally n v.made ∷ v.kept) (sym s.number) ∙ ap (λ es. tally w.number es ∷ v.kept) (sym s.made) ∙ ap (λ ts. tally w.number w.made ∷ ts) (sym s.kept)

pub meets_same : (v w : View) (h : List HubEvent) → IsSame v w → Meets v h → Meets w h
meets_same v w h s m = record {
  legal = subst (λ o. IsLegal o h) (sym s.opening) m.legal;
  begins = subst (λ hs. BeginsWithAll h hs) (sym s.seen) m.begins;
  tallied = subst (λ ts. AllTallied h ts) (tallies_same v w s) m.tallied;
  apart = subst (λ ts. AllApart ts) (tallies_same v w s) m.apart;
}

pub met_same : (v w : View) (h : List HubEvent) → IsSame v w → HasMet v h → HasMet w h
met_same v w h s m = record { seen = s.seen ∙ m.seen; meets = meets_same v w h s m.meets }

pub same_both : (v w x : View) → IsSame v w → IsSame w x → IsSame v x
same_both v w x a b = record { number = b.number ∙ a.number; seen = b.seen ∙ a.seen; made = b.made ∙ a.made; kept = b.kept ∙ a.kept; opening = b.opening ∙ a.opening }

-- the element after some
at_end : {A : Type 0} (xs : List A) (x : A) (ys : List A) (d : A) → get_or (xs ++ x ∷ ys) (length xs) d ≡ x
at_end [] x ys d = refl
at_end (z ∷ xs) x ys d = at_end xs x ys d

-- an element of a list with one more at its end
pub at_snoc : {A : Type 0} (P : ℕ → A → Type 0) (xs : List A) (x : A) (d : A) → ((k : ℕ) → k < length xs → P k (get_or xs k d)) → P (length xs) x → (k : ℕ) → k < length (xs ++ x ∷ []) → P k (get_or (xs ++ x ∷ []) k d)
at_snoc P [] x d old new zero within = new
at_snoc P [] x d old new (suc k) within = absurd (omega arith)
at_snoc P (y ∷ xs) x d old new zero within = old zero (omega arith)
at_snoc P (y ∷ xs) x d old new (suc k) within = at_snoc (λ n. P (suc n)) xs x d (λ n low. old (suc n) (omega arith)) new k (omega arith)

pub jobs_more : (hub : Hub) (h : List HubEvent) (done rest : List BoardSite) (site : BoardSite) (scripts : List (Bor (List Command))) (old new : List Job) (job : Job) → length old ≡ length done → AreJobs hub h (done ++ site ∷ rest) scripts old
    → new ≡ old ++ job ∷ [] → ((s : Bor (List Command)) → IsJob hub h site (get_or scripts (length old) s).now job) → AreJobs hub h (done ++ site ∷ rest) scripts new
jobs_more hub h done rest site scripts old new job long a is one n d s within =
    let sites = done ++ site ∷ rest in
    let P : ℕ → Job → Type 0 = λ n j. IsJob hub h (get_or sites n no_site) (get_or scripts n s).now j in
    let here : get_or sites (length old) no_site ≡ site = ap (λ q. get_or sites q no_site) long ∙ at_end done site rest no_site in
    let last : P (length old) job = subst (λ (q : BoardSite). IsJob hub h q (get_or scripts (length old) s).now job) (sym here) (one s) in
    let inside : n < length (old ++ job ∷ []) = subst (λ js. n < length js) is within in
    subst (λ js. IsJob hub h (get_or sites n no_site) (get_or scripts n s).now (get_or js n d)) (sym is) (at_snoc P old job d (λ k low. a k d s low) last n inside)

pub jobs_none : (hub : Hub) (h : List HubEvent) (sites : List BoardSite) (scripts : List (Bor (List Command))) (jobs : List Job) → jobs ≡ [] → AreJobs hub h sites scripts jobs
jobs_none hub h sites scripts jobs none k d s within = let inside : k < length {A = Job} [] = subst (λ (js : List Job). k < length js) none within in absurd (omega (arith, inside))

pub length_last : {A : Type 0} (xs : List A) (x : A) → length (xs ++ x ∷ []) ≡ length xs + 1
length_last xs x = length-append xs (x ∷ [])

pub script_fits : (sites done rest : List BoardSite) (site : BoardSite) (scripts : List (Bor (List Command))) (jobs : List Job) → sites ≡ done ++ site ∷ rest → length sites ≡ length scripts → length jobs ≡ length done → length jobs < length scripts
script_fits sites done rest site scripts jobs is many long = omega (arith, ap (λ (xs : List BoardSite). length xs) is, length-append done (site ∷ rest))
