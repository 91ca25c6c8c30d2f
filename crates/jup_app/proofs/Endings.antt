-- A whole run, put together.
use Rattle.std.proofs.Common.{◌≡◌, ℕ, zero, suc, ◌+◌, ◌-◌, ◌<◌, ◌≤◌, List, [], ◌∷◌, ◌++◌, length, take, map, get_or, Some, Result, Ok, Err, IfOk, refl, sym, ap, ◌∙◌, subst, arith, append-nil, length-append, append_assoc, lit<, inl, inr, ◌⊎◌}
use Rattle.jup_app.specs.Prelude.{highest_limit, Command, Commands, Windows, board_batches, Join, Fetch, BoardSite, IsOpening, opened_world, BoardAttached, Hub, HubEvent, Tally, View, view_of, IsPassOf, most_fetched, Job, Player, Halt, SiteEnd, AllByRecursion, Bor, get_or_default, dec_le, calls_by, tally, IsLegal, star_through, BeginsWith, BeginsWithAll, AllTallied, AllApart, Meets, having_seen}
use Rattle.jup_star.specs.declared.calls.StarReply.TheVariants as reply
use Rattle.jup_star.specs.Stars.{BoardStar, reply_of, star_after, opened_star}
use Rattle.jup_app.specs.Runs.{EditAnswer, Made, made, Step, calls_of, edits_of, singles, IsPlayed, makes, link_with, all_tallies, all_calls, end_of, IsJob, Ran, AllRan, IsSite, site_of, joins, assembled, HasSeen, joined_call, HasJoinedAll, HasMet, IsSame, HasTaken, AreJobs, no_site, IsDrained, AreNumbered, empty_fetches, IsRun, IsRunOf}
use Rattle.jup_app.proofs.Calls as calls
use Rattle.jup_app.proofs.Stars as stars
use Rattle.jup_app.proofs.WholeRuns.{HasJoined, has_joined, Known, Whole, Parts, parts, tracks, both_logs, assembled_run, legal_append, star_through-append}
use Rattle.jup_app.proofs.Passes.{begins_trans}
use Rattle.jup_app.proofs.Simulate.{Ends}

-- What the calls of a run say, put together.

-- what a site's thread has done, from its opening on
pub record RanBy (joined : List HubEvent) (site : BoardSite) (script : List Command) (p : Player) (steps : List Step) : Type 0 where
  pub are : makes (view_of p.caller.pass).made ≡ calls_of site.number steps
  pub kept : (view_of p.caller.pass).kept ≡ []
  pub not_yet : calls_by (view_of p.caller.pass).number joined ≡ []
  pub count : p.caller.calls ≡ length (view_of p.caller.pass).made
  pub commands : map (λ e. e.0) (edits_of steps) ≡ singles script
  pub answers : map (λ e. e.1) (edits_of steps) ≡ p.replies.items
  pub played : IsPlayed (link_with site []) steps (link_with p.site [])
  pub number_is : p.site.number ≡ site.number

plus_zero : (n : ℕ) → 0 + n ≡ n
plus_zero n = omega arith

pub ran_by : (hub : Hub) (joined : List HubEvent) (site : BoardSite) (script : List Command) (job : Job) (p : Player) → IsJob hub joined site script job → Ran hub job p → (steps : List Step) × RanBy joined site script p steps
ran_by hub joined site script job p j r =
    let seat = j.seated in
    let w = r.played.works in
    let made_is : (view_of p.caller.pass).made ≡ w.plays.calls = w.plays.made ∙ ap (λ es. es ++ w.plays.calls) seat.made in (
      w.steps,
      record {
        are = ap makes made_is ∙ w.plays.are ∙ ap (λ n. calls_of n w.steps) seat.number_is;
        kept = w.plays.kept ∙ seat.kept;
        not_yet = ap (λ n. calls_by n joined) w.plays.number ∙ seat.not_yet;
        count = w.count ∙ ap (λ n. n + length w.plays.calls) seat.count ∙ plus_zero (length w.plays.calls) ∙ ap (λ (es : List HubEvent). length es) (sym made_is);
        commands = ap (λ es. map (λ (e : Commands × EditAnswer). e.0) es) w.edits_are ∙ r.played.commands ∙ ap singles j.script_is;
        answers = ap (λ es. map (λ (e : Commands × EditAnswer). e.1) es) w.edits_are ∙ r.played.answers;
        played = subst (λ s. IsPlayed (link_with s []) w.steps (link_with p.site [])) seat.site_is w.plays.played;
        number_is = stars.played_number w.steps (link_with job.player.site []) (link_with p.site []) w.plays.played ∙ ap (λ (x : BoardSite). x.number) seat.site_is;
      },
    )

abbrev pub ok_player : Player → Result Player Halt
ok_player q = Ok q

pub get_or_map : {A B : Type 0} (f : A → B) (xs : List A) (k : ℕ) (d : A) (e : B) → k < length xs → get_or (map f xs) k e ≡ f (get_or xs k d)
get_or_map f [] k d e within = absurd (omega arith)
get_or_map f (x ∷ xs) zero d e within = refl
get_or_map f (x ∷ xs) (suc k) d e within = get_or_map f xs k d e (omega arith)

pub ran_at : (hub : Hub) (jobs : List Job) (results : List (Result Player Halt)) (ps : List Player) → AllRan hub jobs results → results ≡ map ok_player ps → length jobs ≡ length ps
    → (k : ℕ) (dj : Job) (dp : Player) → k < length ps → Ran hub (get_or jobs k dj) (get_or ps k dp)
ran_at hub jobs results ps all is long k dj dp within =
    let inside : k < length jobs = omega (arith, long) in
    let read : get_or jobs k dj ≡ get_or jobs k (get_or jobs k dj) = get_or_default jobs k dj (get_or jobs k dj) inside in
    let got : ok_player (get_or ps k dp) ≡ get_or results k (ok_player (get_or ps k dp)) = sym (ap (λ rs. get_or rs k (ok_player (get_or ps k dp))) is ∙ get_or_map ok_player ps k dp (ok_player (get_or ps k dp)) within) in
    all k (get_or jobs k dj) (ok_player (get_or ps k dp)) inside read got

cons_at : {A : Type 0} → A → (ℕ → A) → ℕ → A
cons_at x f zero = x
cons_at x f (suc k) = f k

cons_each : (ps : List Player) (p : Player) (P : ℕ → Player → List Step → Type 0) (x : List Step) (f : ℕ → List Step) → P 0 p x → ((k : ℕ) (d : Player) → k < length ps → P (suc k) (get_or ps k d) (f k))
    → (k : ℕ) (d : Player) → k < length (p ∷ ps) → P k (get_or (p ∷ ps) k d) (cons_at x f k)
unfolding cons_at
cons_each ps p P x f one rest zero d within = one
cons_each ps p P x f one rest (suc k) d within = rest k d (omega arith)

-- one log for each player
pub logs_of : (ps : List Player) (P : ℕ → Player → List Step → Type 0) → ((k : ℕ) (d : Player) → k < length ps → (steps : List Step) × P k (get_or ps k d) steps)
    → (f : ℕ → List Step) × ((k : ℕ) (d : Player) → k < length ps → P k (get_or ps k d) (f k))
unfolding cons_at
logs_of [] P all = (λ k. [], λ k d within. absurd (omega arith))
logs_of (p ∷ ps) P all =
    let one = all 0 p (omega arith) in
    let rest = logs_of ps (λ k. P (suc k)) (λ k d within. all (suc k) d (omega arith)) in
    (cons_at one.0 rest.0, cons_each ps p P one.0 rest.0 one.1 rest.1)

abbrev pub tally_of : Player → Tally
tally_of p = tally (view_of p.caller.pass).number (view_of p.caller.pass).made

-- the tallies of players that took in nobody
pub tallies_are : (ps : List Player) → ((k : ℕ) (d : Player) → k < length ps → (view_of (get_or ps k d).caller.pass).kept ≡ []) → all_tallies ps ≡ map tally_of ps
tallies_are [] none = refl
tallies_are (p ∷ ps) none =
    ap (λ ks. (tally_of p ∷ ks) ++ all_tallies ps) (none 0 p (omega arith)) ∙ ap (λ ts. tally_of p ∷ ts) (tallies_are ps (λ k d within. none (suc k) d (omega arith)))

pub each_player : (P : Tally → Type 0) (ps : List Player) → ((k : ℕ) (d : Player) → k < length ps → P (tally_of (get_or ps k d))) → AllByRecursion P (map tally_of ps)
each_player P [] all = tt
each_player P (p ∷ ps) all = (all 0 p (omega arith), each_player P ps (λ k d within. all (suc k) d (omega arith)))

pub calls_total : (ps : List Player) → ((k : ℕ) (d : Player) → k < length ps → (get_or ps k d).caller.calls ≡ length (view_of (get_or ps k d).caller.pass).made) → all_calls ps ≡ calls.total (map tally_of ps)
calls_total [] all = refl
calls_total (p ∷ ps) all = let one = all 0 p (omega arith) in omega (arith, one, calls_total ps (λ k d within. all (suc k) d (omega arith)))

pub map_length : {A B : Type 0} (f : A → B) (xs : List A) → length (map f xs) ≡ length xs
map_length f [] = refl
map_length f (x ∷ xs) = ap suc (map_length f xs)

if_ok_weaker : (r : Result Player Halt) (P Q : Player → Type 0) → ((p : Player) → P p → Q p) → IfOk r P → IfOk r Q
if_ok_weaker (Ok p) P Q f is = f p is
if_ok_weaker (Err e) P Q f is = tt

one_job : (xs : List Job) → 0 < length xs → Job
one_job [] some = absurd (omega arith)
one_job (x ∷ xs) some = x

pub ran_passes : (hub : Hub) (jobs : List Job) (results : List (Result Player Halt)) → AllRan hub jobs results → length results ≡ length jobs
    → (k : ℕ) (d : Result Player Halt) → k < length results → IfOk (get_or results k d) (λ (p : Player). IsPassOf hub p.caller.pass)
ran_passes hub jobs results all long k d within =
    let inside : k < length jobs = omega (arith, long) in
    let dj = one_job jobs (omega (arith, inside)) in
    if_ok_weaker (get_or results k d) (λ p. Ran hub (get_or jobs k dj) p) (λ p. IsPassOf hub p.caller.pass) (λ p r. r.pass)
    (all k (get_or jobs k dj) (get_or results k d) inside (get_or_default jobs k dj (get_or jobs k dj) inside) (get_or_default results k d (get_or results k d) within))

pub take_whole : {A : Type 0} (n : ℕ) (xs ys : List A) → n ≡ length xs → take n (xs ++ ys) ≡ xs
take_whole zero [] ys is = refl
take_whole zero (x ∷ xs) ys is = absurd (omega arith)
take_whole (suc n) [] ys is = absurd (omega arith)
take_whole (suc n) (x ∷ xs) ys is = ap (λ zs. x ∷ zs) (take_whole n xs ys (omega arith))

-- A whole run.

-- what is known at the close of a run
pub record Facts (board : Windows) (limit : ℕ) (hub : Hub) (a b c d e : View) (n1 n2 n3 : ℕ) (js : List BoardSite) (jobs : List Job) (results : List (Result Player Halt)) (before after : List SiteEnd) (scripts : List (List Command)) (h0 h : List HubEvent) : Type 0 where
  pub opening : a.opening ≡ opened_star board limit
  pub joined : HasJoinedAll a n1 js
  pub as_many : length js ≡ length scripts
  pub same : IsSame a b
  pub seated : (k : ℕ) (j : Job) → k < length jobs → IsJob hub joined.history (get_or js k no_site) (get_or scripts k []) (get_or jobs k j)
  pub many_jobs : length jobs ≡ length js
  pub ran : AllRan hub jobs results
  pub many_results : length results ≡ length jobs
  pub taken : HasTaken b c n1 n2 results before
  pub met : Meets c h0
  pub look : d ≡ having_seen h0 c
  pub drained : IsDrained d e n2 n3 before after
  pub closed : Meets e h
  pub count : length h ≡ n3

abbrev pub site_at : List SiteEnd → ℕ → BoardSite
site_at [] k = no_site
site_at (e ∷ es) zero = e.site
site_at (e ∷ es) (suc k) = site_at es k

site_at_is : (es : List SiteEnd) (k : ℕ) (d : SiteEnd) → k < length es → site_at es k ≡ (get_or es k d).site
site_at_is [] k d within = absurd (omega arith)
site_at_is (e ∷ es) zero d within = refl
site_at_is (e ∷ es) (suc k) d within = site_at_is es k d (omega arith)

one_of : {A : Type 0} (xs : List A) → 0 < length xs → A
one_of [] some = absurd (omega arith)
one_of (x ∷ xs) some = x

up_down : (i : ℕ) → 0 < i → suc (i - 1) ≡ i
up_down i some = omega arith

down_up : (k : ℕ) → suc k - 1 ≡ k
down_up k = omega arith

-- a history whose calls are two lists is two histories
makes_split : (h : List HubEvent) (xs ys : List Made) → makes h ≡ xs ++ ys → (one : List HubEvent) × (two : List HubEvent) × (h ≡ one ++ two) × (makes one ≡ xs) × (makes two ≡ ys)
makes_split h [] ys is = ([], h, refl, refl, is)
makes_split [] (x ∷ xs) ys is = absurd cc
makes_split (e ∷ h) (x ∷ xs) ys is =
    let tail : makes h ≡ xs ++ ys = cc in
    let head : made e ≡ x = cc in
    let rest = makes_split h xs ys tail in
    (e ∷ rest.0, rest.1, ap (λ k. e ∷ k) rest.2, ap (λ ms. made e ∷ ms) rest.3 ∙ ap (λ m. m ∷ xs) head, rest.4)

last_quiet : (i : ℕ) (s : BoardStar) (h : List HubEvent) → stars.IsTidy s → makes h ≡ record { call = Fetch i most_fetched; reply = reply.Fetched (Ok []) } ∷ [] → IsLegal s h → (star_through s h ≡ s) × (stars.IsIdle s i)
last_quiet i s [] tidy are legal = absurd cc
last_quiet i s (e ∷ f ∷ h) tidy are legal = absurd cc
last_quiet i s (e ∷ []) tidy are legal =
    let head : made e ≡ record { call = Fetch i most_fetched; reply = reply.Fetched (Ok []) } = cc in
    let call : e.call ≡ Fetch i most_fetched = ap (λ (m : Made). m.call) head in
    let told : reply_of (Fetch i most_fetched) s ≡ reply.Fetched (Ok []) = ap (λ k. reply_of k s) (sym call) ∙ sym legal.0 ∙ ap (λ (m : Made). m.reply) head in
    (ap (λ k. star_after k s) call ∙ stars.fetch_nothing s i most_fetched tidy told, stars.fetch_empty s i most_fetched (lit< tt) told)

le_cases : (i n : ℕ) → (i ≤ n) ⊎ (n < i)
le_cases i n = elim (dec_le i n) [ yes low ↦ inl low | no high ↦ inr (omega arith) ]

-- after fetches that gave nothing, of the first n sites, these have nothing in their outboxes
quiet_after : (n : ℕ) (s : BoardStar) (h : List HubEvent) → stars.IsTidy s → makes h ≡ empty_fetches n → IsLegal s h → (star_through s h ≡ s) × ((i : ℕ) → IsSite n i → stars.IsIdle s i)
quiet_after zero s [] tidy are legal = (refl, λ i site. absurd (omega arith))
quiet_after zero s (e ∷ h) tidy are legal = absurd cc
quiet_after (suc n) s h tidy are legal =
    let p = makes_split h (empty_fetches n) (record { call = Fetch (suc n) most_fetched; reply = reply.Fetched (Ok []) } ∷ []) are in
    let both = legal_append s p.0 p.1 (subst (λ k. IsLegal s k) p.2 legal) in
    let rest = quiet_after n s p.0 tidy p.3 both.0 in
    let last = last_quiet (suc n) s p.1 tidy p.4 (subst (λ t. IsLegal t p.1) rest.0 both.1) in (
      ap (λ k. star_through s k) p.2 ∙ star_through-append s p.0 p.1 ∙ ap (λ t. star_through t p.1) rest.0 ∙ last.0,
      λ i site. elim (le_cases i n) [ inl low ↦ rest.1 i (site.0, low) | inr high ↦ let same : suc n ≡ i = omega (arith, site.1, high) in subst (λ j. stars.IsIdle s j) same last.1 ],
    )

-- at the end of a history too
quiet_end : (n : ℕ) (s : BoardStar) (front tail : List HubEvent) (i : ℕ) → stars.IsTidy s → makes tail ≡ empty_fetches n → IsLegal s (front ++ tail) → IsSite n i → stars.IsIdle (star_through s (front ++ tail)) i
quiet_end n s front tail i tidy are legal site =
    let both = legal_append s front tail legal in
    let q = quiet_after n (star_through s front) tail (stars.tidy_through front s tidy) are both.1 in
    subst (λ t. stars.IsIdle t i) (sym (star_through-append s front tail ∙ q.0)) (q.1 i site)

all_joins : (h : List HubEvent) (js : List BoardSite) → makes h ≡ map joined_call js → AllByRecursion (λ (e : HubEvent). e.call ≡ Join) h
all_joins [] js are = tt
all_joins (e ∷ h) [] are = absurd cc
all_joins (e ∷ h) (j ∷ js) are = let head : made e ≡ joined_call j = cc in let tail : makes h ≡ map joined_call js = cc in (ap (λ (m : Made). m.call) head, all_joins h js tail)

makes_length : (h : List HubEvent) → length (makes h) ≡ length h
makes_length [] = refl
makes_length (e ∷ h) = ap suc (makes_length h)

module _ (board : Windows) (limit : ℕ) (opened : IsOpening board) (low : limit ≤ highest_limit) (hub : Hub) (a b c d e : View) (n1 n2 n3 : ℕ) (js : List BoardSite) (jobs : List Job) (results : List (Result Player Halt)) (before after : List SiteEnd) (scripts : List (List Command)) (h0 h : List HubEvent)
    (facts : Facts board limit hub a b c d e n1 n2 n3 js jobs results before after scripts h0 h) where
  many_players : length facts.taken.players ≡ length js
  many_players = sym (ap (λ (rs : List (Result Player Halt)). length rs) facts.taken.all_ok ∙ map_length ok_player facts.taken.players) ∙ facts.many_results ∙ facts.many_jobs

  some_job : (xs : List Job) → 0 < length xs → Job
  some_job [] some = absurd (omega arith)
  some_job (x ∷ xs) some = x

  one_ran : (k : ℕ) (p : Player) → k < length facts.taken.players → (steps : List Step) × RanBy facts.joined.history (get_or js k no_site) (get_or scripts k []) (get_or facts.taken.players k p) steps
  one_ran k p within =
      let inside : k < length jobs = omega (arith, many_players, facts.many_jobs) in
      let job = some_job jobs (omega (arith, inside)) in
      ran_by hub facts.joined.history (get_or js k no_site) (get_or scripts k []) (get_or jobs k job) (get_or facts.taken.players k p) (facts.seated k job inside)
      (ran_at hub jobs results facts.taken.players facts.ran facts.taken.all_ok (facts.many_jobs ∙ sym many_players) k job p within)

  all_logs : (f : ℕ → List Step) × ((k : ℕ) (p : Player) → k < length facts.taken.players → RanBy facts.joined.history (get_or js k no_site) (get_or scripts k []) (get_or facts.taken.players k p) (f k))
  all_logs = logs_of facts.taken.players (λ k p steps. RanBy facts.joined.history (get_or js k no_site) (get_or scripts k []) p steps) one_ran

  hands : List Tally
  hands = map tally_of facts.taken.players

  kept_is : c.kept ≡ map tally_of facts.taken.players
  kept_is = facts.taken.kept ∙ ap (λ ks. ks ++ all_tallies facts.taken.players) (facts.same.kept ∙ facts.joined.kept) ∙ tallies_are facts.taken.players (λ k p within. (all_logs.1 k p within).kept)

  number_is : c.number ≡ a.number
  number_is = facts.taken.number ∙ facts.same.number

  made_is : c.made ≡ a.made
  made_is = facts.taken.made ∙ facts.same.made

  last_kept : e.kept ≡ map tally_of facts.taken.players
  last_kept = facts.drained.drained.kept ∙ ap (λ (v : View). v.kept) facts.look ∙ kept_is

  last_number : e.number ≡ a.number
  last_number = facts.drained.drained.number ∙ ap (λ (v : View). v.number) facts.look ∙ number_is

  last_made : e.made ≡ a.made ++ facts.drained.drained.calls
  last_made = facts.drained.drained.made ∙ ap (λ es. es ++ facts.drained.drained.calls) (ap (λ (v : View). v.made) facts.look ∙ made_is)

  last_opening : e.opening ≡ (opened_star board limit)
  last_opening = facts.drained.drained.opening ∙ ap (λ (v : View). v.opening) facts.look ∙ facts.taken.opening ∙ facts.same.opening ∙ facts.opening

  first_begins : BeginsWith h0 facts.joined.history
  first_begins =
      let seen : c.seen ≡ facts.joined.history ∷ facts.taken.others = facts.taken.seen ∙ ap (λ hs. hs ++ facts.taken.others) (facts.same.seen ∙ facts.joined.met.seen) in
      let all = subst (λ hs. BeginsWithAll h0 hs) seen facts.met.begins in all.0

  next_begins : BeginsWith h h0
  next_begins =
      let at : HasSeen h0 d = record { latest = h0; others = []; seen = ap (λ (v : View). v.seen) facts.look; begins = ([], sym (append-nil h0)) } in
      let last = facts.drained.drained.later h0 at in
      let all = subst (λ hs. BeginsWithAll h hs) last.seen facts.closed.begins in
      begins_trans h last.latest h0 all.0 last.begins

  known : Known (opened_star board limit) js (map tally_of facts.taken.players) a.made facts.drained.drained.calls
  known = record {
    main = a.number;
    joined = facts.joined.history;
    played = h0;
    history = h;
    first = first_begins;
    next = next_begins;
    legal = subst (λ s. IsLegal s h) last_opening facts.closed.legal;
    firsts_are = facts.joined.made;
    joins_made = facts.joined.met.meets.tallied.0;
    joins_still = ap (λ n. calls_by n h0) (sym number_is) ∙ facts.met.tallied.0 ∙ made_is;
    drains_made = ap (λ n. calls_by n h) (sym last_number) ∙ facts.closed.tallied.0 ∙ last_made;
    not_yet = each_player (λ (t : Tally). calls_by t.number facts.joined.history ≡ []) facts.taken.players (λ k p within. (all_logs.1 k p within).not_yet);
    all_made = subst (λ ts. AllTallied h0 ts) kept_is facts.met.tallied.1;
    all_still = subst (λ ts. AllTallied h ts) last_kept facts.closed.tallied.1;
    distinct = subst (λ ts. AllApart ts) (ap (λ n. tally n e.made ∷ e.kept) last_number ∙ ap (λ es. tally a.number es ∷ e.kept) last_made ∙ ap (λ ts. tally a.number (a.made ++ facts.drained.drained.calls) ∷ ts) last_kept) facts.closed.apart;
    count = omega (arith, facts.count, facts.drained.drained.count, facts.taken.count, facts.joined.count, length-append a.made facts.drained.drained.calls, calls_total facts.taken.players (λ k p within. (all_logs.1 k p within).count));
  }

  all_joined : HasJoined (opened_world board_batches board limit) js (parts known).joined
  all_joined = has_joined js (opened_world board_batches board limit) (parts known).joined (parts known).joins_are facts.joined.fresh (λ i above. refl) ((legal_append (opened_star board limit) (parts known).joined ((parts known).between ++ (parts known).rest) (parts known).legal).0)

  site_number : (k : ℕ) → k < length js → (get_or js k no_site).number ≡ suc k
  site_number k within = all_joined.numbers k no_site within ∙ omega arith

  players_before : (k : ℕ) (x : SiteEnd) (p : Player) → k < length js → get_or before k x ≡ end_of (get_or facts.taken.players k p)
  players_before k x p within = ap (λ es. get_or es k x) facts.taken.ends_are ∙ get_or_map end_of facts.taken.players k p x (omega (arith, many_players))

  many_before : length before ≡ length js
  many_before = ap (λ (es : List SiteEnd). length es) facts.taken.ends_are ∙ map_length end_of facts.taken.players ∙ many_players

  numbered : AreNumbered before
  numbered k x within =
      let inside : k < length js = omega (arith, many_before) in
      let p = one_of facts.taken.players (omega (arith, inside, many_players)) in
      ap (λ (z : SiteEnd). z.site.number) (players_before k x p inside) ∙ (all_logs.1 k p (omega (arith, many_players))).number_is ∙ site_number k inside

  mids : ℕ → BoardAttached
  mids i = link_with (site_at before (i - 1)) []

  lasts : ℕ → BoardAttached
  lasts i = link_with (site_at after (i - 1)) []

  logs : ℕ → List Step
  logs i = all_logs.0 (i - 1)

  whole : Whole (opened_star board limit) js (map tally_of facts.taken.players) a.made facts.drained.drained.calls logs facts.drained.drained.logs mids lasts
  unfolding logs mids lasts
  whole = record {
    known = known;
    as_many = map_length tally_of facts.taken.players ∙ many_players;
    own_log = λ i t site.
        let inside : i - 1 < length js = omega (arith, site.0, site.1) in
        let p = one_of facts.taken.players (omega (arith, inside, many_players)) in
        let number : (get_or js (i - 1) no_site).number ≡ i = site_number (i - 1) inside ∙ up_down i site.0 in
        ap (λ (z : Tally). makes z.calls) (get_or_map tally_of facts.taken.players (i - 1) p t (omega (arith, inside, many_players))) ∙ (all_logs.1 (i - 1) p (omega (arith, inside, many_players))).are ∙ ap (λ n. calls_of n (all_logs.0 (i - 1))) number;
    own_played = λ i n site.
        let inside : i - 1 < length js = omega (arith, site.0, site.1) in
        let p = one_of facts.taken.players (omega (arith, inside, many_players)) in
        let r = all_logs.1 (i - 1) p (omega (arith, inside, many_players)) in
        let end = players_before (i - 1) (end_of p) p inside in
        let at : site_at before (i - 1) ≡ (get_or facts.taken.players (i - 1) p).site = site_at_is before (i - 1) (end_of p) (omega (arith, inside, many_before)) ∙ ap (λ (z : SiteEnd). z.site) end in
        subst (λ (q : BoardSite). IsPlayed (link_with q []) (all_logs.0 (i - 1)) (link_with (site_at before (i - 1)) [])) (get_or_default js (i - 1) no_site n inside)
        (subst (λ (q : BoardSite). IsPlayed (link_with (get_or js (i - 1) no_site) []) (all_logs.0 (i - 1)) (link_with q [])) (sym at) r.played);
    drain_log = λ i site. facts.drained.drained.own numbered i;
    drain_played = λ i site.
        let inside : i - 1 < length before = omega (arith, site.0, site.1, many_before) in
        let x = one_of before (omega (arith, inside)) in
        let end_in : i - 1 < length after = omega (arith, inside, facts.drained.drained.long) in
        subst (λ j. IsPlayed (link_with (site_at before (i - 1)) []) (facts.drained.drained.logs j) (link_with (site_at after (i - 1)) [])) (up_down i site.0)
        (subst (λ q. IsPlayed (link_with (site_at before (i - 1)) []) (facts.drained.drained.logs (suc (i - 1))) (link_with q [])) (sym (site_at_is after (i - 1) x end_in))
        (subst (λ q. IsPlayed (link_with q []) (facts.drained.drained.logs (suc (i - 1))) (link_with (get_or after (i - 1) x).site [])) (sym (site_at_is before (i - 1) x inside)) (facts.drained.drained.played (i - 1) x inside)));
    drain_sites = subst (λ n. AllByRecursion (λ (z : HubEvent). IsSite n (site_of z.call)) facts.drained.drained.calls) many_before (facts.drained.drained.sites numbered);
  }

  pieces : Parts (opened_star board limit) js (map tally_of facts.taken.players) h facts.drained.drained.calls
  unfolding known
  pieces = parts known

  is_ends : Ends (length js) (opened_world board_batches board limit) (joins (length js) ++ assembled (length js) (both_logs logs facts.drained.drained.logs) ((parts known).between ++ (parts known).rest)) (star_through (opened_star board limit) ((parts known).joined ++ ((parts known).between ++ (parts known).rest))) (both_logs logs facts.drained.drained.logs) lasts
  unfolding whole known
  is_ends = assembled_run board limit opened low whole (parts known) all_joined

  edits_are : (k : ℕ) → edits_of (both_logs logs facts.drained.drained.logs (suc k)) ≡ edits_of (all_logs.0 k)
  unfolding logs
  edits_are k = calls.edits_of-append (all_logs.0 (suc k - 1)) (facts.drained.drained.logs (suc k)) ∙ ap (λ es. edits_of (all_logs.0 (suc k - 1)) ++ es) (facts.drained.drained.no_edits (suc k)) ∙ append-nil (edits_of (all_logs.0 (suc k - 1))) ∙ ap (λ j. edits_of (all_logs.0 j)) (down_up k)

  quiet_there : (i : ℕ) → IsSite (length js) i → stars.IsIdle (star_through (opened_star board limit) h) i
  unfolding known
  quiet_there i site =
      let quiet = facts.drained in
      let tail_is : (parts known).rest ≡ quiet.earlier ++ quiet.empties = (parts known).drains_are ∙ quiet.calls in
      let shape : h ≡ ((parts known).joined ++ ((parts known).between ++ quiet.earlier)) ++ quiet.empties =
      (parts known).history_is ∙ ap (λ r. (parts known).joined ++ ((parts known).between ++ r)) tail_is
      ∙ ap (λ r. (parts known).joined ++ r) (sym (append_assoc (parts known).between quiet.earlier quiet.empties))
      ∙ sym (append_assoc (parts known).joined ((parts known).between ++ quiet.earlier) quiet.empties) in
      let numbers : makes quiet.empties ≡ empty_fetches (length js) = quiet.are numbered ∙ ap empty_fetches many_before in
      subst (λ k. stars.IsIdle (star_through (opened_star board limit) k) i) (sym shape)
      (quiet_end (length js) (opened_star board limit) ((parts known).joined ++ ((parts known).between ++ quiet.earlier)) quiet.empties i (record { apart = tt; within = tt }) numbers (subst (λ k. IsLegal (opened_star board limit) k) shape known.legal) site)

  run_of_js : IsRunOf board limit (length js) scripts (star_through (opened_star board limit) h) after
  unfolding lasts whole known
  run_of_js = record {
    joined = (parts known).joined;
    later = (parts known).between ++ (parts known).rest;
    logs = both_logs logs facts.drained.drained.logs;
    legal = (parts known).legal;
    all_join = all_joins (parts known).joined js (parts known).joins_are;
    as_many = sym (makes_length (parts known).joined) ∙ ap (λ (ms : List Made). length ms) (parts known).joins_are ∙ map_length joined_call js;
    sited = (tracks board limit opened low whole (parts known) all_joined).sited;
    after = ap (λ k. star_through (opened_star board limit) k) (sym (parts known).history_is);
    own = λ i site. (tracks board limit opened low whole (parts known) all_joined).calls i site;
    star_is = is_ends.star ∙ ap (λ k. star_through (opened_star board limit) k) (sym (parts known).history_is);
    count = facts.drained.drained.long ∙ many_before;
    sites = λ k x within. is_ends.sites (suc k) (omega arith, within) ∙ ap (λ s. Some (link_with s [])) (ap (λ j. site_at after j) (down_up k) ∙ site_at_is after k x (omega (arith, within, many_before, facts.drained.drained.long)));
    edits = λ k within. is_ends.replied (suc k) (omega arith, within);
    commands = λ k within.
        let p = one_of facts.taken.players (omega (arith, within, many_players)) in
        ap (λ es. map (λ (z : Commands × EditAnswer). z.0) es) (edits_are k) ∙ (all_logs.1 k p (omega (arith, within, many_players))).commands;
    replies = λ k x within.
        let p = one_of facts.taken.players (omega (arith, within, many_players)) in
        ap (λ es. map (λ (z : Commands × EditAnswer). z.1) es) (edits_are k) ∙ (all_logs.1 k p (omega (arith, within, many_players))).answers
        ∙ sym (ap (λ v. v.items) (facts.drained.drained.replies k x (omega (arith, within, many_before)) ∙ ap (λ (z : SiteEnd). z.replies) (players_before k x p within)));
    quiet = λ k l within at. quiet_there (suc k) (omega arith, within) l at;
  }

  pub is_run : (star : BoardStar) → star ≡ star_through (opened_star board limit) h → IsRun board limit scripts star after
  is_run star is = subst (λ n. IsRunOf board limit n scripts star after) facts.as_many (subst (λ s. IsRunOf board limit (length js) scripts s after) (sym is) run_of_js)

-- a run, from what each of its calls says
pub run_ends : (board : Windows) (limit : ℕ) (hub : Hub) (a b c d e : View) (opening star : BoardStar) (n1 m1 n2 n3 events : ℕ) (js : List BoardSite) (scripts : List (Bor (List Command))) (jobs : List Job) (results : List (Result Player Halt)) (before after shown : List SiteEnd) (h0 h : List HubEvent)
    → IsOpening board → limit ≤ highest_limit → a.opening ≡ opening → opening ≡ opened_star board limit → (joined : HasJoinedAll a n1 js) → length js ≡ length scripts → IsSame a b → m1 ≡ n1
    → ((k : List HubEvent) → HasMet a k → AreJobs hub k js scripts jobs) → length jobs ≡ length js → AllRan hub jobs results → length results ≡ length jobs
    → HasTaken b c m1 n2 results before → Meets c h0 → d ≡ having_seen h0 c → IsDrained d e n2 n3 before after
    → Meets e h → star ≡ star_through opening h → events ≡ length h → events ≡ n3 → shown ≡ after → IsRun board limit (map (λ s. s.now) scripts) star shown
run_ends board limit hub a b c d e opening star n1 m1 n2 n3 events js scripts jobs results before after shown h0 h fit low at_first opened joined many same same_calls seated many_jobs ran many_results taken met look drained closed star_is long counted whole =
    let facts : Facts board limit hub a b c d e n1 n2 n3 js jobs results before after (map (λ (s : Bor (List Command)). s.now) scripts) h0 h = record {
      opening = at_first ∙ opened;
      joined = joined;
      as_many = many ∙ sym (map_length (λ (s : Bor (List Command)). s.now) scripts);
      same = same;
      seated = λ k j inside.
          let s : Bor (List Command) = record { ref_ptr = (0, 0); now = [] } in
          let within : k < length scripts = omega (arith, inside, many_jobs, many) in
          let job = seated joined.history joined.met k j s inside in
          let script : (get_or scripts k s).now ≡ get_or (map (λ (s : Bor (List Command)). s.now) scripts) k [] = sym (get_or_map (λ (s : Bor (List Command)). s.now) scripts k s [] within) in
          subst (λ cs. IsJob hub joined.history (get_or js k no_site) cs (get_or jobs k j)) script job;
      many_jobs = many_jobs;
      ran = ran;
      many_results = many_results;
      taken = subst (λ n. HasTaken b c n n2 results before) same_calls taken;
      met = met;
      look = look;
      drained = drained;
      closed = closed;
      count = sym long ∙ counted;
    } in
    subst (λ ends. IsRun board limit (map (λ (s : Bor (List Command)). s.now) scripts) star ends) (sym whole)
    (is_run board limit fit low hub a b c d e n1 n2 n3 js jobs results before after (map (λ (s : Bor (List Command)). s.now) scripts) h0 h facts star (star_is ∙ ap (λ s. star_through s h) opened))
