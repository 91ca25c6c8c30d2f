-- The run of the core, from its joins to its end.
use Rattle.std.proofs.Common.{◌≡◌, ℕ, zero, suc, ◌+◌, ◌<◌, ◌≤◌, true, false, List, [], ◌∷◌, ◌++◌, map, length, get_or, Option, Some, None, Ok, Err, refl, sym, ap, ◌∙◌, subst, arith, append-nil, ◌-◌, Bool, cond, inl, inr, append_assoc}
use Rattle.jup_app.specs.Prelude.{highest_limit, Command, EditFault, board_batches, Windows, BoardBatch, BoardEdits, Commands, content, meaning, batch_laws, StarFault, Joined, Join, Take, Fetch, Leave, Call, OrderEntry, opened_site, BoardSite, turns, edits, own_edits, BoardWorld, BoardAttached, BoardEvent, IsReached, BoardReply, attached, happens, IsOpening, opened_world, run, Happened, HubEvent, Tally, SiteEnd, AllByRecursion, eq-eqb, eqb, IsLegal, star_through, calls_by, BeginsWith, AllTallied, IsNew, AllApart}
use Rattle.jup_star.specs.declared.calls.StarReply.TheVariants as reply
use Rattle.jup_star.specs.declared.messages.Up.TheVariants as up
use Rattle.jup_star.specs.Stars.{reply_of, star_after, BoardLink, take_fault, after_join, after_take, after_fetch, after_leave}
use Rattle.jup_world.specs.Traces as traces
use Rattle.jup_world.specs.Boards as boards
use Rattle.jup_world.specs.Worlds as worlds
use Rattle.jup_world.specs.Sound.{IsSound}
use Rattle.jup_world.specs.Events as event
use Rattle.jup_world.proofs.Worlds.{are_linked, reached_sound}
use Rattle.jup_world.proofs.Sound.Runs.{sound-promises}
use Rattle.jup_app.specs.Runs.{Made, made, joins, edits_at, makes, link_with, told_to, IsFresh, joined_call, Step, calls_of, edits_of, IsPlayed, site_of, made_at, IsSite, assembled, calls_at, no_site, BoardUp, EditAnswer, edit_at, IsRunOf, assembled_world, AllAgree, accepted}
use Rattle.jup_app.proofs.Calls.{apart, IsKnown, total, known, each_append, each_both, each_weaker, made_since, only_one, none_first, all_of_one, each_tallied, each_made, Parted, made_at_is, sited, made_at_makes, made_at-append, calls_own, calls_of-append, played_both}
use Rattle.jup_app.proofs.Simulate as simulate
use Rattle.jup_app.proofs.Stars as stars
use Rattle.jup_world.specs.Prelude.{join_fault, joined, BoardStar, joining, opened_star, link_of, taken, most_batches, found-end, found-end_other}
use Rattle.jup_world.specs.declared.events.Reply.TheVariants as answer

-- The joins at the head of a history, and those of the core.

-- the world after a list of joins: each site has its number, and is as it opened
pub record HasJoined (w : BoardWorld) (js : List BoardSite) (h : List HubEvent) : Type 0 where
  pub star : (simulate.after w (joins (length js))).star ≡ star_through w.star h
  pub sites : (k : ℕ) (d : BoardSite) → k < length js → attached (w.star.given + suc k) (simulate.after w (joins (length js))).sites ≡ Some (link_with (get_or js k d) [])
  pub before : (i : ℕ) → i ≤ w.star.given → attached i (simulate.after w (joins (length js))).sites ≡ attached i w.sites
  pub numbers : (k : ℕ) (d : BoardSite) → k < length js → (get_or js k d).number ≡ w.star.given + suc k
  pub silent : (i : ℕ) → edits_at i (simulate.after w (joins (length js))).trace ≡ edits_at i w.trace

-- the world after one join
joined_world : BoardWorld → BoardWorld
joined_world w = worlds.with_outcome board_batches w event.Join (worlds.join_outcome board_batches w None)

join_is : (w : BoardWorld) → join_fault w.star ≡ None → happens board_batches w event.Join ≡ joined_world w
unfolding joined_world
join_is w fine = ap (λ (o : Option StarFault). worlds.with_outcome board_batches w event.Join (worlds.join_outcome board_batches w o)) fine

-- a site that got what the star gives is the one that the core opens
site_is : (w : BoardWorld) (j : BoardSite) → IsFresh j → told_to j ≡ joining w.star → j ≡ opened_site (w.star.given + 1) w.star.limit w.star.board
site_is w j fresh told = fresh ∙ ap (λ (t : Joined). opened_site t.site t.limit t.board) told

-- no site has a number that was not given
abbrev pub IsClear : BoardWorld → Type 0
IsClear w = (i : ℕ) → w.star.given < i → attached i w.sites ≡ None

one_here : (w : BoardWorld) (j : BoardSite) → IsClear w → j ≡ opened_site (w.star.given + 1) w.star.limit w.star.board → attached (w.star.given + 1) (joined_world w).sites ≡ Some (link_with j [])
unfolding joined_world
one_here w j clear is =
    found-end (λ (a : BoardAttached). a.site.number) (w.star.given + 1) w.sites (worlds.new_site board_batches w (w.star.given + 1)) (clear (w.star.given + 1) (omega arith)) (eq-eqb (w.star.given + 1) (w.star.given + 1) refl)
    ∙ ap (λ (s : BoardSite). Some (link_with s [])) (sym is)

one_other : (w : BoardWorld) (i : ℕ) → (w.star.given + 1 ≡ i → ⊥) → attached i (joined_world w).sites ≡ attached i w.sites
unfolding joined_world
one_other w i ne = found-end_other (λ (a : BoardAttached). a.site.number) i w.sites (worlds.new_site board_batches w (w.star.given + 1)) (apart (w.star.given + 1) i ne)

still_clear : (w : BoardWorld) → IsClear w → IsClear (joined_world w)
unfolding joined_world
still_clear w clear i above = one_other w i (λ e. omega (arith, e, above)) ∙ clear i (omega (arith, above))

grown : (w : BoardWorld) → (joined_world w).star ≡ joined w.star
unfolding joined_world
grown w = refl

quiet_join : (w : BoardWorld) (i : ℕ) → edits_at i (joined_world w).trace ≡ edits_at i w.trace
unfolding joined_world
quiet_join w i = simulate.edits_at_last i w.trace (record { event = event.Join; reply = (worlds.join_outcome board_batches w None).reply }) ∙ append-nil (edits_at i w.trace)

number_at : (w : BoardWorld) (j : BoardSite) (js : List BoardSite) (g : ℕ) → g ≡ w.star.given + 1 → j.number ≡ w.star.given + 1
    → ((k : ℕ) (d : BoardSite) → k < length js → (get_or js k d).number ≡ g + suc k)
    → (k : ℕ) (d : BoardSite) → k < length (j ∷ js) → (get_or (j ∷ js) k d).number ≡ w.star.given + suc k
number_at w j js g grew first others zero d within = first
number_at w j js g grew first others (suc k) d within = omega (arith, others k d (omega arith), grew)

site_at : (w v : BoardWorld) (j : BoardSite) (js : List BoardSite) (g : ℕ) → g ≡ w.star.given + 1
    → attached (w.star.given + 1) v.sites ≡ Some (link_with j [])
    → ((k : ℕ) (d : BoardSite) → k < length js → attached (g + suc k) v.sites ≡ Some (link_with (get_or js k d) []))
    → (k : ℕ) (d : BoardSite) → k < length (j ∷ js) → attached (w.star.given + suc k) v.sites ≡ Some (link_with (get_or (j ∷ js) k d) [])
site_at w v j js g grew first others zero d within = first
site_at w v j js g grew first others (suc k) d within =
    let at : w.star.given + suc (suc k) ≡ g + suc k = omega (arith, grew) in
    ap (λ n. attached n v.sites) at ∙ others k d (omega arith)

pub has_joined : (js : List BoardSite) (w : BoardWorld) (h : List HubEvent) → makes h ≡ map joined_call js → AllByRecursion IsFresh js → IsClear w → IsLegal w.star h → HasJoined w js h
has_joined [] w [] are fresh clear legal = record { star = refl; sites = λ k d within. absurd (omega arith); before = λ i within. refl; numbers = λ k d within. absurd (omega arith); silent = λ i. refl }
has_joined [] w (e ∷ h) are fresh clear legal = absurd cc
has_joined (j ∷ js) w [] are fresh clear legal = absurd cc
has_joined (j ∷ js) w (e ∷ h) are fresh clear legal =
    let this : ◌≡◌ {A = Made} (made e) (joined_call j) = cc in
    let call : e.call ≡ Join = ap (λ (m : Made). m.call) this in
    let replied : reply_of Join w.star ≡ reply.Joined (Ok (told_to j)) = ap (λ c. reply_of c w.star) (sym call) ∙ sym legal.0 ∙ ap (λ (m : Made). m.reply) this in
    let next = stars.join_gives w.star (told_to j) replied in
    let opened = site_is w j fresh.0 next.1 in
    let v = joined_world w in
    let calls : makes h ≡ map joined_call js = cc in
    let moved : star_after e.call w.star ≡ v.star = ap (λ c. star_after c w.star) call ∙ next.2 ∙ sym (grown w) in
    let rest = has_joined js v h calls fresh.1 (still_clear w clear) (subst (λ (s : BoardStar). IsLegal s h) moved legal.1) in
    let grew : v.star.given ≡ w.star.given + 1 = ap (λ (s : BoardStar). s.given) (grown w) in
    let last : BoardWorld = simulate.after v (joins (length js)) in
    let same : simulate.after w (joins (length (j ∷ js))) ≡ last = ap (λ (x : BoardWorld). simulate.after x (joins (length js))) (join_is w next.0) in
    let number : j.number ≡ w.star.given + 1 = ap (λ (s : BoardSite). s.number) opened in
    record {
      star = ap (λ (x : BoardWorld). x.star) same ∙ rest.star ∙ ap (λ (s : BoardStar). star_through s h) (sym moved);
      sites = λ k d within. ap (λ (x : BoardWorld). attached (w.star.given + suc k) x.sites) same
          ∙ site_at w last j js v.star.given grew (rest.before (w.star.given + 1) (omega (arith, grew)) ∙ one_here w j clear opened) rest.sites k d within;
      before = λ i within. ap (λ (x : BoardWorld). attached i x.sites) same ∙ rest.before i (omega (arith, grew)) ∙ one_other w i (λ e. omega (arith, e));
      numbers = number_at w j js v.star.given grew number rest.numbers;
      silent = λ i. ap (λ (x : BoardWorld). edits_at i x.trace) same ∙ rest.silent i ∙ quiet_join w i;
    }

-- What the passes of a run know makes an assembled run of the core.

pub each_at : {A : Type 0} (P : A → Type 0) (xs : List A) (k : ℕ) (d : A) → AllByRecursion P xs → k < length xs → P (get_or xs k d)
each_at P [] k d all within = absurd (omega arith)
each_at P (x ∷ xs) zero d all within = all.0
each_at P (x ∷ xs) (suc k) d all within = each_at P xs k d all.1 (omega arith)

known_at : (n : List ℕ) (ks : List Tally) (d : Tally) → IsKnown n ks → (k : ℕ) × (k < length ks) × ((get_or ks k d).number ≡ n)
known_at n [] d is = absurd is
known_at n (k ∷ ks) d is = elim is [ inl same ↦ (0, omega arith, same) | inr more ↦ let rest = known_at n ks d more in (suc rest.0, omega (arith, rest.1), rest.2) ]

new_at : (n : List ℕ) (ks : List Tally) (j : ℕ) (d : Tally) → IsNew n ks → j < length ks → n ≡ (get_or ks j d).number → ⊥
new_at n [] j d new within same = omega arith
new_at n (k ∷ ks) zero d new within same = new.0 same
new_at n (k ∷ ks) (suc j) d new within same = new_at n ks j d new.1 (omega arith) same

distinct_at : (ks : List Tally) (i j : ℕ) (d : Tally) → AllApart ks → i < length ks → j < length ks → (get_or ks i d).number ≡ (get_or ks j d).number → i ≡ j
distinct_at [] i j d apart a b same = absurd (omega arith)
distinct_at (k ∷ ks) zero zero d apart a b same = refl
distinct_at (k ∷ ks) zero (suc j) d apart a b same = absurd (new_at k.number ks j d apart.0 (omega arith) same)
distinct_at (k ∷ ks) (suc i) zero d apart a b same = absurd (new_at k.number ks i d apart.0 (omega arith) (sym same))
distinct_at (k ∷ ks) (suc i) (suc j) d apart a b same = ap suc (distinct_at ks i j d apart.1 (omega arith) (omega arith) same)

pub legal_append : (s : BoardStar) (h k : List HubEvent) → IsLegal s (h ++ k) → IsLegal s h × IsLegal (star_through s h) k
legal_append s [] k legal = (tt, legal)
legal_append s (e ∷ h) k legal = let rest = legal_append (star_after e.call s) h k legal.1 in ((legal.0, rest.0), rest.1)

pub star_through-append : (s : BoardStar) (h k : List HubEvent) → star_through s (h ++ k) ≡ star_through (star_through s h) k
star_through-append s [] k = refl
star_through-append s (e ∷ h) k = star_through-append (star_after e.call s) h k

-- the pass of each site
pub pass_of : List Tally → ℕ → List ℕ
pass_of hands i = (get_or hands (i - 1) (record { number = []; calls = [] })).number

-- what the passes know of the history when the hub is closed: one pass joined the sites, took in the others, and drained them all
pub record Known (opening : BoardStar) (js : List BoardSite) (hands : List Tally) (firsts drains : List HubEvent) : Type 0 where
  pub main : List ℕ
  pub joined : List HubEvent
  pub played : List HubEvent
  pub history : List HubEvent
  pub first : BeginsWith played joined
  pub next : BeginsWith history played
  pub legal : IsLegal opening history
  pub firsts_are : makes firsts ≡ map joined_call js
  pub joins_made : calls_by main joined ≡ firsts
  pub joins_still : calls_by main played ≡ firsts
  pub drains_made : calls_by main history ≡ firsts ++ drains
  pub not_yet : AllByRecursion (λ (k : Tally). calls_by k.number joined ≡ []) hands
  pub all_made : AllTallied played hands
  pub all_still : AllTallied history hands
  pub distinct : AllApart (record { number = main; calls = firsts ++ drains } ∷ hands)
  pub count : length history ≡ length (firsts ++ drains) + total hands

-- and what was done for each site
pub record Whole (opening : BoardStar) (js : List BoardSite) (hands : List Tally) (firsts drains : List HubEvent) (logs drained : ℕ → List Step) (mids ends : ℕ → BoardAttached) : Type 0 where
  pub known : Known opening js hands firsts drains
  pub as_many : length hands ≡ length js
  pub own_log : (i : ℕ) (d : Tally) → IsSite (length js) i → makes (get_or hands (i - 1) d).calls ≡ calls_of i (logs i)
  pub own_played : (i : ℕ) (d : BoardSite) → IsSite (length js) i → IsPlayed (link_with (get_or js (i - 1) d) []) (logs i) (mids i)
  pub drain_log : (i : ℕ) → IsSite (length js) i → calls_at i (makes drains) ≡ calls_of i (drained i)
  pub drain_played : (i : ℕ) → IsSite (length js) i → IsPlayed (mids i) (drained i) (ends i)
  pub drain_sites : AllByRecursion (λ (e : HubEvent). IsSite (length js) (site_of e.call)) drains

-- a history in its three parts
pub record Parts (opening : BoardStar) (js : List BoardSite) (hands : List Tally) (history drains : List HubEvent) : Type 0 where
  pub joined : List HubEvent
  pub between : List HubEvent
  pub rest : List HubEvent
  pub history_is : history ≡ joined ++ (between ++ rest)
  pub legal : IsLegal opening (joined ++ (between ++ rest))
  pub joins_are : makes joined ≡ map joined_call js
  pub drains_are : rest ≡ drains
  pub by_hands : AllByRecursion (λ (e : HubEvent). IsKnown e.by hands) between
  pub hands_made : AllByRecursion (λ (k : Tally). calls_by k.number between ≡ k.calls) hands

each_two : {A : Type 0} (P Q R : A → Type 0) (xs : List A) → ((x : A) → P x → Q x → R x) → AllByRecursion P xs → AllByRecursion Q xs → AllByRecursion R xs
each_two P Q R [] f p q = tt
each_two P Q R (x ∷ xs) f p q = (f x p.0 q.0, each_two P Q R xs f p.1 q.1)

pub parts : {opening : BoardStar} {js : List BoardSite} {hands : List Tally} {firsts drains : List HubEvent} → (w : Known opening js hands firsts drains) → Parts opening js hands w.history drains
parts {opening} {js} {hands} {firsts} {drains} w =
    let between = w.first.0 in let rest = w.next.0 in
    let played_is : w.played ≡ w.joined ++ between = w.first.1 in
    let history_is : w.history ≡ w.joined ++ (between ++ rest) = w.next.1 ∙ ap (λ h. h ++ rest) played_is ∙ append_assoc w.joined between rest in
    let me : Tally = record { number = w.main; calls = firsts ++ drains } in
    let all : AllByRecursion (λ (e : HubEvent). IsKnown e.by (me ∷ hands)) w.history = known (me ∷ hands) w.history w.distinct (w.drains_made, w.all_still) w.count in
    let all' : AllByRecursion (λ (e : HubEvent). IsKnown e.by (me ∷ hands)) (w.joined ++ (between ++ rest)) = subst (λ h. AllByRecursion (λ (e : HubEvent). IsKnown e.by (me ∷ hands)) h) history_is all in
    let in_joined = each_append (λ (e : HubEvent). IsKnown e.by (me ∷ hands)) w.joined (between ++ rest) all' in
    let in_rest = each_append (λ (e : HubEvent). IsKnown e.by (me ∷ hands)) between rest in_joined.1 in
    let main_between : calls_by w.main between ≡ [] =
    made_since w.main w.joined between firsts [] w.joins_made (ap (λ h. calls_by w.main h) (sym played_is) ∙ w.joins_still ∙ sym (append-nil firsts)) in
    let main_rest : calls_by w.main rest ≡ drains =
    made_since w.main w.played rest firsts drains w.joins_still (ap (λ h. calls_by w.main h) (sym w.next.1) ∙ w.drains_made) in
    let hands_rest : AllByRecursion (λ (k : Tally). calls_by k.number rest ≡ []) hands =
    each_two (λ (k : Tally). calls_by k.number w.played ≡ k.calls) (λ (k : Tally). calls_by k.number w.history ≡ k.calls) (λ (k : Tally). calls_by k.number rest ≡ []) hands
    (λ k a b. made_since k.number w.played rest k.calls [] a (ap (λ h. calls_by k.number h) (sym w.next.1) ∙ b ∙ sym (append-nil k.calls))) w.all_made w.all_still in
    record {
      joined = w.joined;
      between = between;
      rest = rest;
      legal = subst (λ h. IsLegal opening h) history_is w.legal;
      joins_are = ap makes (all_of_one w.main w.joined (only_one me hands w.joined in_joined.0 w.not_yet) ∙ w.joins_made) ∙ w.firsts_are;
      drains_are = all_of_one w.main rest (only_one me hands rest in_rest.1 hands_rest) ∙ main_rest;
      by_hands = none_first me hands between in_rest.0 main_between;
      hands_made = each_two (λ (k : Tally). calls_by k.number w.joined ≡ []) (λ (k : Tally). calls_by k.number w.played ≡ k.calls) (λ (k : Tally). calls_by k.number between ≡ k.calls) hands
          (λ k a b. made_since k.number w.joined between [] k.calls a (ap (λ h. calls_by k.number h) (sym played_is) ∙ b)) w.not_yet (each_tallied hands w.played w.all_made);
      history_is = history_is;
    }

sub_suc : (k : ℕ) → suc k - 1 ≡ k
sub_suc k = omega arith

parted : {opening : BoardStar} {js : List BoardSite} {hands : List Tally} {firsts drains : List HubEvent} {logs drained : ℕ → List Step} {mids ends : ℕ → BoardAttached} → Whole opening js hands firsts drains logs drained mids ends
    → (h : List HubEvent) → AllByRecursion (λ (e : HubEvent). IsKnown e.by hands) h → AllByRecursion (λ (k : Tally). calls_by k.number h ≡ k.calls) hands → Parted (length js) (pass_of hands) h
unfolding pass_of
parted {opening} {js} {hands} {firsts} {drains} {logs} w h by by_each =
    let d : Tally = record { number = []; calls = [] } in record {
      own = λ j site. let same : calls_by (pass_of hands j) h ≡ (get_or hands (j - 1) d).calls = each_at (λ (k : Tally). calls_by k.number h ≡ k.calls) hands (j - 1) d by_each (omega (arith, w.as_many)) in
          each_made (λ (m : Made). site_of m.call ≡ j) (calls_by (pass_of hands j) h) (subst (λ ms. AllByRecursion (λ (m : Made). site_of m.call ≡ j) ms) (sym (ap makes same ∙ w.own_log j d site)) (calls_own j (logs j)));
      known = each_weaker (λ (e : HubEvent). IsKnown e.by hands) (λ (e : HubEvent). (j : ℕ) × IsSite (length js) j × (pass_of hands j ≡ e.by)) h
          (λ e is. let k = known_at e.by hands d is in (suc k.0, (omega arith, omega (arith, k.1, w.as_many)), ap (λ i. (get_or hands i d).number) (sub_suc k.0) ∙ k.2)) by;
      apart = λ i j site site' same. let e : i - 1 ≡ j - 1 = distinct_at hands (i - 1) (j - 1) d w.known.distinct.1 (omega (arith, w.as_many)) (omega (arith, w.as_many)) same in omega arith;
    }

-- the whole log of each site
abbrev pub both_logs : (ℕ → List Step) → (ℕ → List Step) → ℕ → List Step
both_logs logs drained i = logs i ++ drained i

-- a site as it opened
abbrev pub first_link : List BoardSite → ℕ → BoardAttached
first_link js i = link_with (get_or js (i - 1) no_site) []

own_calls : {opening : BoardStar} {js : List BoardSite} {hands : List Tally} {firsts drains : List HubEvent} {logs drained : ℕ → List Step} {mids ends : ℕ → BoardAttached}
    → (w : Whole opening js hands firsts drains logs drained mids ends) (p : Parts opening js hands w.known.history drains) → Parted (length js) (pass_of hands) p.between
    → (i : ℕ) → IsSite (length js) i → made_at i p.between ≡ calls_of i (logs i)
unfolding pass_of
own_calls {opening} {js} {hands} w p q i site =
    let d : Tally = record { number = []; calls = [] } in
    made_at_is (length js) (pass_of hands) p.between q i site
    ∙ ap makes (each_at (λ (k : Tally). calls_by k.number p.between ≡ k.calls) hands (i - 1) d p.hands_made (omega (arith, w.as_many)))
    ∙ w.own_log i d site

-- a world that was opened is reached
pub opened_reached : (board : Windows) (limit : ℕ) → IsOpening board → limit ≤ highest_limit → IsReached (opened_world board_batches board limit)
opened_reached board limit opening low = record { board = board; limit = limit; events = []; opening = opening; limited = low; is = refl }

module _ (board : Windows) (limit : ℕ) (opening : IsOpening board) (low : limit ≤ highest_limit) where
  pub tracks : {js : List BoardSite} {hands : List Tally} {firsts drains : List HubEvent} {logs drained : ℕ → List Step} {mids ends : ℕ → BoardAttached}
      → (w : Whole (opened_star board limit) js hands firsts drains logs drained mids ends) (p : Parts (opened_star board limit) js hands w.known.history drains)
      → HasJoined (opened_world board_batches board limit) js p.joined
      → simulate.Tracks (length js) (simulate.after (opened_world board_batches board limit) (joins (length js))) (p.between ++ p.rest) (first_link js) (both_logs logs drained) ends
  tracks {js} {hands} {firsts} {drains} {logs} {drained} {mids} {ends} w p j =
      let n = length js in
      let first = opened_world board_batches board limit in
      let tidy : stars.IsTidy (opened_star board limit) = record { apart = tt; within = tt } in
      let q : Parted n (pass_of hands) p.between = parted w p.between p.by_hands p.hands_made in record {
        reached = simulate.reached_more first (joins n) (opened_reached board limit opening low);
        tidy = subst stars.IsTidy (sym j.star) (stars.tidy_through p.joined (opened_star board limit) tidy);
        legal = subst (λ (s : BoardStar). IsLegal s (p.between ++ p.rest)) (sym j.star) ((legal_append (opened_star board limit) p.joined (p.between ++ p.rest) p.legal).1);
        is = λ i site. let at : 0 + suc (i - 1) ≡ i = omega arith in
            subst (λ k. attached k (simulate.after first (joins n)).sites ≡ Some (link_with (get_or js (i - 1) no_site) [])) at (j.sites (i - 1) no_site (omega arith));
        idle = λ i site. refl;
        played = λ i site. played_both (logs i) (drained i) (link_with (get_or js (i - 1) no_site) []) (mids i) (ends i) (w.own_played i no_site site) (w.drain_played i site);
        calls = λ i site.
            calls_of-append i (logs i) (drained i)
            ∙ ap (λ ms. ms ++ calls_of i (drained i)) (sym (own_calls w p q i site))
            ∙ ap (λ ms. made_at i p.between ++ ms) (sym (made_at_makes i p.rest ∙ ap (λ h. calls_at i (makes h)) p.drains_are ∙ w.drain_log i site))
            ∙ sym (made_at-append i p.between p.rest);
        sited = each_both (λ (e : HubEvent). IsSite n (site_of e.call)) p.between p.rest (sited n (pass_of hands) p.between q)
            (subst (λ h. AllByRecursion (λ (e : HubEvent). IsSite n (site_of e.call)) h) (sym p.drains_are) w.drain_sites);
      }

  -- the run of the core has the star, the sites and the replies
  pub assembled_run : {js : List BoardSite} {hands : List Tally} {firsts drains : List HubEvent} {logs drained : ℕ → List Step} {mids ends : ℕ → BoardAttached}
      → (w : Whole (opened_star board limit) js hands firsts drains logs drained mids ends)
      → (p : Parts (opened_star board limit) js hands w.known.history drains)
      → HasJoined (opened_world board_batches board limit) js p.joined
      → simulate.Ends (length js) (opened_world board_batches board limit) (joins (length js) ++ assembled (length js) (both_logs logs drained) (p.between ++ p.rest)) (star_through (opened_star board limit) (p.joined ++ (p.between ++ p.rest))) (both_logs logs drained) ends
  assembled_run {js} {hands} {firsts} {drains} {logs} {drained} {mids} {ends} w p j =
      let n = length js in
      let first = opened_world board_batches board limit in
      let w1 = simulate.after first (joins n) in
      let es = assembled n (both_logs logs drained) (p.between ++ p.rest) in
      let rest = simulate.assembled_ends (p.between ++ p.rest) n w1 (first_link js) (both_logs logs drained) ends (tracks w p j) in
      let both = simulate.run_append (joins n) es first in
      record {
        star = ap (λ (x : BoardWorld). x.star) both ∙ rest.star ∙ ap (λ (s : BoardStar). star_through s (p.between ++ p.rest)) j.star ∙ sym (star_through-append (opened_star board limit) p.joined (p.between ++ p.rest));
        sites = λ i site. ap (λ (x : BoardWorld). attached i x.sites) both ∙ rest.sites i site;
        replied = λ i site. ap (λ (x : BoardWorld). edits_at i x.trace) both ∙ rest.replied i site ∙ ap (λ xs. xs ++ edits_of (both_logs logs drained i)) (j.silent i);
      }

-- A run that has ended: all boards are equal, and the order has each site's edits.

-- # What a site made_in_trace

abbrev pub made_of : List (Commands × EditAnswer) → List BoardEdits
made_of [] = []
made_of ((c, Ok e) ∷ es) = e ∷ made_of es
made_of ((c, Err n) ∷ es) = made_of es

made_of-append : (xs ys : List (Commands × EditAnswer)) → made_of (xs ++ ys) ≡ made_of xs ++ made_of ys
made_of-append [] ys = refl
made_of-append ((c, Ok e) ∷ xs) ys = ap (λ es. e ∷ es) (made_of-append xs ys)
made_of-append ((c, Err n) ∷ xs) ys = made_of-append xs ys

made_one : (b : Bool) (c : Commands) (e : BoardEdits) → cond b (e ∷ []) [] ≡ made_of (cond b ((c, Ok e) ∷ []) [])
made_one true c e = refl
made_one false c e = refl

refused_one : (b : Bool) (c : Commands) (fault : EditFault) → [] ≡ made_of (cond b ((c, Err fault) ∷ []) [])
refused_one true c fault = refl
refused_one false c fault = refl

made_there : (i : ℕ) (e : BoardEvent) (r : BoardReply) → traces.edit_made i e r ≡ made_of (edit_at i e r)
made_there i event.Join r = refl
made_there i (event.Leave j) r = refl
made_there i (event.Edit j c) (answer.Joined n) = refl
made_there i (event.Edit j c) (answer.NoJoin f) = refl
made_there i (event.Edit j c) answer.Left = refl
made_there i (event.Edit j c) (answer.Made e) = made_one (eqb j i) c e
made_there i (event.Edit j c) (answer.Refused n) = refused_one (eqb j i) c n
made_there i (event.Edit j c) (answer.Taken p) = refl
made_there i (event.Edit j c) answer.Heard = refl
made_there i (event.Edit j c) (answer.Detached f) = refl
made_there i (event.Edit j c) answer.Shown = refl
made_there i (event.Edit j c) answer.Asked = refl
made_there i (event.Edit j c) (answer.Moved k) = refl
made_there i (event.Edit j c) answer.Nothing = refl
made_there i (event.Up j) r = refl
made_there i (event.Down j) r = refl
made_there i (event.Ping j k) r = refl
made_there i event.JoinStray r = refl
made_there i (event.Stray j u) r = refl
made_there i (event.LeaveStray j) r = refl

made_is : (i : ℕ) (hs : List (Happened Commands BoardBatch BoardEdits EditFault)) → traces.made i hs ≡ made_of (edits_at i hs)
made_is i [] = refl
made_is i (h ∷ hs) = ap (λ es. es ++ traces.made i hs) (made_there i h.event h.reply) ∙ ap (λ es. made_of (edit_at i h.event h.reply) ++ es) (made_is i hs) ∙ sym (made_of-append (edit_at i h.event h.reply) (edits_at i hs))

made_of-answers : (es : List (Commands × EditAnswer)) → made_of es ≡ accepted (map (λ (e : Commands × EditAnswer). e.1) es)
made_of-answers [] = refl
made_of-answers ((c, Ok e) ∷ es) = ap (λ ks. e ∷ ks) (made_of-answers es)
made_of-answers ((c, Err n) ∷ es) = made_of-answers es

-- # The order and the numbers given

-- each entry is of one of the first n sites
abbrev pub OrderWithin : ℕ → BoardStar → Type 0
OrderWithin n s = AllByRecursion (λ (e : OrderEntry BoardEdits). IsSite n e.site) s.order

order_snoc : (n : ℕ) (xs : List (OrderEntry BoardEdits)) (x : OrderEntry BoardEdits) → AllByRecursion (λ (e : OrderEntry BoardEdits). IsSite n e.site) xs → IsSite n x.site → AllByRecursion (λ (e : OrderEntry BoardEdits). IsSite n e.site) (xs ++ x ∷ [])
order_snoc n [] x all one = (one, tt)
order_snoc n (y ∷ xs) x all one = (all.0, order_snoc n xs x all.1 one)

taken_order : (n i : ℕ) (u : BoardUp) (l : BoardLink) (s : BoardStar) → IsSite n i → OrderWithin n s → OrderWithin n (taken board_batches i u l s)
taken_order n i (up.Op m) l s site all = order_snoc n s.order _ all site
taken_order n i (up.Ack k) l s site all = all
taken_order n i (up.Ping k) l s site all = all

-- a call of one of these sites keeps it so, and gives no number
one_call : (n : ℕ) (c : Call) (s : BoardStar) → IsSite n (site_of c) → OrderWithin n s → OrderWithin n (star_after c s) × ((star_after c s).given ≡ s.given)
unfolding star_after
one_call n Join s site all = absurd (omega arith)
one_call n (Take i u) s site all = go (link_of i s.links) (take_fault board_batches s u (link_of i s.links))
  where
    same : (u : BoardUp) (l : BoardLink) → (taken board_batches i u l s).given ≡ s.given
    same (up.Op m) l = refl
    same (up.Ack k) l = refl
    same (up.Ping k) l = refl

    go : (o : Option BoardLink) (f : Option StarFault) → OrderWithin n (after_take i u s o f) × ((after_take i u s o f).given ≡ s.given)
    go None f = (all, refl)
    go (Some l) None = (taken_order n i u l s site all, same u l)
    go (Some l) (Some e) = (all, refl)
one_call n (Fetch i m) s site all = go (link_of i s.links)
  where
    go : (o : Option BoardLink) → OrderWithin n (after_fetch i m s o) × ((after_fetch i m s o).given ≡ s.given)
    go None = (all, refl)
    go (Some l) = (all, refl)
one_call n (Leave i) s site all = go (link_of i s.links)
  where
    go : (o : Option BoardLink) → OrderWithin n (after_leave i s o) × ((after_leave i s o).given ≡ s.given)
    go None = (all, refl)
    go (Some l) = (all, refl)

all_calls : (n : ℕ) (h : List HubEvent) (s : BoardStar) → AllByRecursion (λ (e : HubEvent). IsSite n (site_of e.call)) h → OrderWithin n s → OrderWithin n (star_through s h) × ((star_through s h).given ≡ s.given)
all_calls n [] s sited all = (all, refl)
all_calls n (e ∷ h) s sited all =
    let one = one_call n e.call s sited.0 all in
    let rest = all_calls n h (star_after e.call s) sited.1 one.0 in
    (rest.0, rest.1 ∙ one.1)

join_call : (s : BoardStar) → ((star_after Join s).order ≡ s.order) × ((star_after Join s).given ≤ s.given + 1)
unfolding star_after
join_call s = go (join_fault s)
  where
    go : (o : Option StarFault) → ((after_join s o).order ≡ s.order) × ((after_join s o).given ≤ s.given + 1)
    go None = (refl, omega arith)
    go (Some e) = (refl, omega arith)

all_joins : (h : List HubEvent) (s : BoardStar) → AllByRecursion (λ (e : HubEvent). e.call ≡ Join) h → ((star_through s h).order ≡ s.order) × ((star_through s h).given ≤ s.given + length h)
all_joins [] s joined = (refl, omega arith)
all_joins (e ∷ h) s joined =
    let here : star_after e.call s ≡ star_after Join s = ap (λ c. star_after c s) joined.0 in
    let one = join_call s in
    let rest = all_joins h (star_after e.call s) joined.1 in
    let given : (star_after e.call s).given ≡ (star_after Join s).given = ap (λ (t : BoardStar). t.given) here in
    (rest.0 ∙ ap (λ (t : BoardStar). t.order) here ∙ one.0, omega (arith, rest.1, given, one.1))

-- # The end

one_of : {A : Type 0} (xs : List A) → 0 < length xs → A
one_of [] some = absurd (omega arith)
one_of (x ∷ xs) some = x

module _ (board : Windows) (limit n : ℕ) (scripts : List (List Command)) (star : BoardStar) (ends : List SiteEnd) (fit : IsOpening board) (low : limit ≤ highest_limit) (is : IsRunOf board limit n scripts star ends) where
  reached : IsReached (assembled_world board limit n is.logs is.later)
  reached = simulate.reached_more (opened_world board_batches board limit) (joins n ++ assembled n is.logs is.later) (opened_reached board limit fit low)

  kept : boards.IsBoardWorld (assembled_world board limit n is.logs is.later)
  kept = reached_sound (assembled_world board limit n is.logs is.later) reached

  sound : IsSound board_batches most_batches (assembled_world board limit n is.logs is.later)
  sound = kept.sound

  promised : traces.Promises board_batches (assembled_world board limit n is.logs is.later)
  promised = sound-promises board_batches batch_laws most_batches (assembled_world board limit n is.logs is.later) sound (are_linked board_batches batch_laws (assembled_world board limit n is.logs is.later) kept.strays)

  numbers : (OrderWithin n star) × (star.given ≤ n)
  numbers =
      let s0 : BoardStar = opened_star board limit in
      let first = all_joins is.joined s0 is.all_join in
      let none : OrderWithin n (star_through s0 is.joined) = subst (λ (es : List (OrderEntry BoardEdits)). AllByRecursion (λ (e : OrderEntry BoardEdits). IsSite n e.site) es) (sym first.0) tt in
      let both = all_calls n is.later (star_through s0 is.joined) is.sited none in
      let whole : star_through (star_through s0 is.joined) is.later ≡ star = sym (star_through-append s0 is.joined is.later) ∙ is.after in
      let given : star.given ≡ (star_through s0 is.joined).given = ap (λ (t : BoardStar). t.given) (sym whole) ∙ both.1 in
      (subst (λ (t : BoardStar). OrderWithin n t) whole both.0, omega (arith, given, first.1, is.as_many))

  -- an attached site is one of the n
  is_one : (i : ℕ) (a : BoardAttached) → attached i (assembled_world board limit n is.logs is.later).sites ≡ Some a → IsSite n i
  is_one i a fa =
      let here = (sound.sites i a fa).beside in
      let low = here.given in
      let given : (assembled_world board limit n is.logs is.later).star.given ≡ star.given = ap (λ (t : BoardStar). t.given) is.star_is in
      (here.stands.pair.positive, omega (arith, low, given, numbers.1))

  -- the site at a place
  found : (k : ℕ) → k < n → (d : SiteEnd) × (attached (suc k) (assembled_world board limit n is.logs is.later).sites ≡ Some (link_with (get_or ends k d).site []))
  found k within = let d = one_of ends (omega (arith, within, is.count)) in (d, is.sites k d within)

  quiet : worlds.IsQuiet board_batches (assembled_world board limit n is.logs is.later)
  quiet i l a fl fa =
      let w : BoardWorld = assembled_world board limit n is.logs is.later in
      let site = is_one i a fa in
      let at : suc (i - 1) ≡ i = omega (arith, site.0) in
      let within : i - 1 < n = omega (arith, site.0, site.1) in
      let f = found (i - 1) within in
      let both : Some a ≡ Some (link_with (get_or ends (i - 1) f.0).site []) = sym fa ∙ ap (λ k. attached k w.sites) (sym at) ∙ f.1 in
      let same : a ≡ link_with (get_or ends (i - 1) f.0).site [] = cc in
      let link : link_of (suc (i - 1)) star.links ≡ Some l = ap (λ k. link_of k star.links) at ∙ ap (λ (t : BoardStar). link_of i t.links) (sym is.star_is) ∙ fl in
      (ap (λ (x : BoardAttached). x.up) same, ap (λ (x : BoardAttached). x.down) same, is.quiet (i - 1) l within link)

  order_is : boards.order_of (assembled_world board limit n is.logs is.later).trace ≡ star.order
  order_is = sym promised.order ∙ ap (λ (t : BoardStar). t.order) is.star_is

  opening_is : (es : List BoardEvent) (w : BoardWorld) → (run board_batches w es).opening ≡ w.opening
  opening_is [] w = refl
  opening_is (e ∷ es) w = opening_is es (happens board_batches w e)

  pub agrees : AllAgree board star ends
  agrees =
      let w : BoardWorld = assembled_world board limit n is.logs is.later in
      record {
        keeps = ap (λ (t : BoardStar). t.keeps) (sym is.star_is) ∙ promised.keeps;
        equal = λ k d within. let inside : k < n = omega (arith, within, is.count) in
            promised.equal quiet (suc k) (link_with (get_or ends k d).site []) (is.sites k d inside) ∙ ap (λ (t : BoardStar). t.board) is.star_is;
        content = ap (λ (t : BoardStar). content t.board) (sym is.star_is) ∙ promised.star_content
            ∙ ap (λ (b : Windows). meaning (content b) (edits (turns 0 (boards.order_of w.trace)))) (opening_is (joins n ++ assembled n is.logs is.later) (opened_world board_batches board limit))
            ∙ ap (λ o. meaning (content board) (edits (turns 0 o))) order_is;
        own = λ k d within. let inside : k < n = omega (arith, within, is.count) in
            ap (λ o. own_edits (turns (suc k) o)) (sym order_is)
            ∙ promised.whole quiet (suc k) (link_with (get_or ends k d).site []) (is.sites k d inside)
            ∙ made_is (suc k) w.trace ∙ ap made_of (is.edits k inside) ∙ made_of-answers (edits_of (is.logs (suc k)))
            ∙ ap accepted (is.replies k d inside);
        no_other = subst (λ m. AllByRecursion (λ (e : OrderEntry BoardEdits). IsSite m e.site) star.order) (sym is.count) numbers.0;
      }
