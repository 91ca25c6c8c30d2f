-- Each site of a hub is its session's own.
use Rattle.std.proofs.Common.{◌≡◌, inl, inr, ℕ, ◌+◌, ◌<◌, ◌≤◌, Bool, true, false, cond, List, [], ◌∷◌, ◌++◌, nat_eq, None, Ok, refl, sym, ap, subst, ◌∙◌, eqb-true, arith, ◌⊎◌, length, IsTrue, Err}
use Rattle.jup_served.specs.Prelude.{Joined, Join, HubEvent}
use Rattle.jup_served.specs.Prelude as served
use Rattle.jup_star.specs.Stars.{link_of, joined, BoardStar, fetch_result, reply_of, star_after, new_star}
use Rattle.jup_hub.specs.Histories.{star_through, IsLegal, calls_by, AllTallied, IsNew, AllApart, is_among, calls_in, Meets, tally, tallies}
use Rattle.jup_hub.proofs.Histories.{no_others}
use Rattle.jup_honest.specs.Sites as sites
use Rattle.jup_honest.proofs.Steps.{CalledStar, call-grows, called-opened}
use Rattle.jup_honest.proofs.Runs.{join_gives}
use Rattle.jup_session.specs.Sessions.{IsCallFor, AreCallsFor, AreTalliesFor, FollowsJoin, IsOneSite, HasMadeNone}
use Rattle.jup_served.specs.Sessions.{Ended, ServesSite, answer_of, IsOwnedBy, all_tallies, IsOneOf, IsSessionHub}
use Rattle.jup_served.proofs.Calls.{IsIn, all_in, in_all, by_in, in_by, none_other, among_is, among_first, new_later, apart_later, tallied_first, tallied_later, join, made_is}

-- A star gives each site that joins a new number, so no call before that is for it.

-- an entry is a join, and the answer gives this number
pub record IsJoin (e : HubEvent) (n : ℕ) : Type 0 where
  pub answer : Joined
  pub call : e.call ≡ Join
  pub reply : e.reply ≡ served.JoinedReply (Ok answer)
  pub site : answer.site ≡ n

-- numbers are given on
pub given_through : (board : served.Windows) (es : List HubEvent) (s : BoardStar) → CalledStar board s → s.given ≤ (star_through s es).given
given_through board [] s h = omega arith
given_through board (e ∷ es) s h =
    let one = call-grows board e.call s h in
    let later = given_through board es (star_after e.call s) one.called in
    omega (arith, one.follows.given, later)

-- a join is answered with the next number
join_next : (s : BoardStar) (e : HubEvent) (n : ℕ) → e.reply ≡ reply_of e.call s → IsJoin e n → (n ≡ s.given + 1) × (star_after e.call s ≡ joined s)
join_next s e n legal is =
    let gives = join_gives s is.answer (sym is.reply ∙ legal ∙ ap (λ c. reply_of c s) is.call) in
    (sym is.site ∙ ap (λ (j : Joined). j.site) gives.0, ap (λ c. star_after c s) is.call ∙ gives.1)

-- so later joins have higher numbers
later_join : (board : served.Windows) (es : List HubEvent) (s : BoardStar) → CalledStar board s → IsLegal s es → (e : HubEvent) (n : ℕ) → IsIn e es → IsJoin e n → s.given < n
later_join board [] s h legal e n is join = absurd is
later_join board (x ∷ xs) s h legal e n (inl same) join =
    let next = join_next s x n legal.0 (subst (λ k. IsJoin k n) (sym same) join) in omega (arith, next.0)
later_join board (x ∷ xs) s h legal e n (inr is) join =
    let one = call-grows board x.call s h in
    let later = later_join board xs (star_after x.call s) one.called legal.1 e n is join in
    omega (arith, one.follows.given, later)

-- and earlier ones none that was not given yet
pub early_join : (board : served.Windows) (es : List HubEvent) (s : BoardStar) → CalledStar board s → IsLegal s es → (e : HubEvent) (n : ℕ) → IsIn e es → IsJoin e n → n ≤ (star_through s es).given
early_join board [] s h legal e n is join = absurd is
early_join board (x ∷ xs) s h legal e n (inl same) join =
    let next = join_next s x n legal.0 (subst (λ k. IsJoin k n) (sym same) join) in
    let one = call-grows board x.call s h in
    let later = given_through board xs (star_after x.call s) one.called in
    omega (arith, next.0, ap (λ (t : BoardStar). t.given) next.1, later)
early_join board (x ∷ xs) s h legal e n (inr is) join =
    let one = call-grows board x.call s h in early_join board xs (star_after x.call s) one.called legal.1 e n is join

-- a history has one join of a site
pub one_join : (board : served.Windows) (es : List HubEvent) (s : BoardStar) → CalledStar board s → IsLegal s es → (e f : HubEvent) (n : ℕ) → IsIn e es → IsIn f es → IsJoin e n → IsJoin f n → e ≡ f
one_join board [] s h legal e f n is so one two = absurd is
one_join board (x ∷ xs) s h legal e f n (inl is) (inl so) one two = sym is ∙ so
one_join board (x ∷ xs) s h legal e f n (inl is) (inr so) one two =
    let next = join_next s x n legal.0 (subst (λ k. IsJoin k n) (sym is) one) in
    let grows = call-grows board x.call s h in
    let later = later_join board xs (star_after x.call s) grows.called legal.1 f n so two in
    absurd (omega (arith, next.0, ap (λ (t : BoardStar). t.given) next.1, later))
one_join board (x ∷ xs) s h legal e f n (inr is) (inl so) one two =
    let next = join_next s x n legal.0 (subst (λ k. IsJoin k n) (sym so) two) in
    let grows = call-grows board x.call s h in
    let later = later_join board xs (star_after x.call s) grows.called legal.1 e n is one in
    absurd (omega (arith, next.0, ap (λ (t : BoardStar). t.given) next.1, later))
one_join board (x ∷ xs) s h legal e f n (inr is) (inr so) one two =
    let grows = call-grows board x.call s h in one_join board xs (star_after x.call s) grows.called legal.1 e f n is so one two

-- a fetch for a number that was not given brings nothing
fetch_none : (board : served.Windows) (i : ℕ) (s : BoardStar) → CalledStar board s → s.given < i → (c : served.Call) → sites.fetched_with i c (reply_of c s) [] ≡ []
unfolding reply_of
fetch_none board i s h above Join = refl
fetch_none board i s h above (served.Take j u) = refl
fetch_none board i s h above (served.Fetch j max) = cases (nat_eq j i) refl
  where
    cases : (b : Bool) → nat_eq j i ≡ b → cond b (sites.fetched_in (served.Fetched (fetch_result max (link_of j s.links)))) [] ≡ []
    cases true is = ap (λ o. sites.fetched_in (served.Fetched (fetch_result max o))) (subst (λ k. link_of k s.links ≡ None) (sym (eqb-true j i is)) (h.star.no_link i above))
    cases false is = refl
fetch_none board i s h above (served.Leave j) = refl

pub early_fetches : (board : served.Windows) (i : ℕ) (es : List HubEvent) (s : BoardStar) → CalledStar board s → IsLegal s es → (star_through s es).given < i → sites.fetches_of i es ≡ []
early_fetches board i [] s h legal above = refl
early_fetches board i (e ∷ es) s h legal above =
    let one = call-grows board e.call s h in
    let later = given_through board es (star_after e.call s) one.called in
    ap (λ ds. ds ++ sites.fetches_of i es) (ap (λ r. sites.fetched_with i e.call r []) legal.0 ∙ fetch_none board i s h (omega (arith, one.follows.given, later, above)) e.call)
    ∙ early_fetches board i es (star_after e.call s) one.called legal.1 above

-- In a hub that sessions alone call, the site of each session is its own.

-- # The calls of one session

-- a call is for one site
one_site : (i j : ℕ) (c : served.Call) → IsCallFor i c → IsCallFor j c → i ≡ j
one_site i j Join one two = absurd one
one_site i j (served.Take k up) one two = sym one ∙ two
one_site i j (served.Fetch k max) one two = sym one ∙ two
one_site i j (served.Leave k) one two = sym one ∙ two

-- an entry under one of these numbers is one of its calls
under_for : (site : ℕ) (log : List HubEvent) (ts : List served.Tally) → AllTallied log ts → AreTalliesFor site ts → (e : HubEvent) → IsIn e log → is_among e.by ts ≡ true → IsCallFor site e.call
under_for site log [] tallied asks e is among = absurd (cc)
under_for site log (t ∷ ts) tallied asks e is among =
    elim (among_is e.by t ts among) [
      | inl here ↦ in_all (λ x. IsCallFor site x.call) t.calls asks.0 e (subst (IsIn e) tallied.0 (in_by t.number log e is here))
      | inr later ↦ under_for site log ts tallied.1 asks.1 e is later
    ]

-- the join of a session by which a call for a site is under one of its numbers
record JoinsFor (number : List ℕ) (site : ℕ) (log : List HubEvent) : Type 0 where
  join : HubEvent
  is_in : IsIn join log
  by : join.by ≡ number
  is_join : IsJoin join site

-- if one of the session's calls is for a site, the session has joined it
first_join : (w : served.View) (number : List ℕ) (calls : List HubEvent) (others : List served.Tally) (log : List HubEvent) → IsOneSite w calls others → calls_by number log ≡ calls → AllTallied log others
    → (e : HubEvent) (site : ℕ) → IsIn e log → (e.by ≡ number) ⊎ (is_among e.by others ≡ true) → IsCallFor site e.call → JoinsFor number site log
first_join w number [] others log one tallied all e site is (inl here) asks = absurd (subst (IsIn e) tallied (in_by number log e is here))
first_join w number [] others log one tallied all e site is (inr among) asks =
    absurd (let none : is_among e.by [] ≡ true = subst (λ ts. is_among e.by ts ≡ true) one among in cc)
first_join w number (first ∷ later) others log one tallied all e site is where_is asks = cases first.call first.reply refl refl one
  where
    is_first : IsIn first (calls_by number log)
    is_first = subst (IsIn first) (sym tallied) (inl refl)

    here : IsIn first log × (first.by ≡ number)
    here = by_in number log first is_first

    joined : (j : Joined) → first.call ≡ Join → first.reply ≡ served.JoinedReply (Ok j) → AreCallsFor j.site later → AreTalliesFor j.site others → JoinsFor number site log
    joined j call reply mine theirs = record { join = first; is_in = here.0; by = here.1; is_join = record { answer = j; call = call; reply = reply; site = site_is where_is } }
      where
        of_later : IsIn e (first ∷ later) → j.site ≡ site
        of_later (inl same) = absurd (subst (IsCallFor site) (ap (λ (k : HubEvent). k.call) (sym same) ∙ call) asks)
        of_later (inr l) = one_site j.site site e.call (in_all (λ x. IsCallFor j.site x.call) later mine e l) asks

        site_is : (e.by ≡ number) ⊎ (is_among e.by others ≡ true) → j.site ≡ site
        site_is (inl by) = of_later (subst (IsIn e) tallied (in_by number log e is by))
        site_is (inr among) = one_site j.site site e.call (under_for j.site log others all theirs e is among) asks

    cases : (c : served.Call) (r : served.StarReply) → first.call ≡ c → first.reply ≡ r → FollowsJoin w c r later others → JoinsFor number site log
    cases Join (served.JoinedReply (Ok j)) call reply follows = joined j call reply follows.0 follows.1
    cases Join (served.JoinedReply (Err fault)) call reply follows = absurd (refused where_is)
      where
        refused : (e.by ≡ number) ⊎ (is_among e.by others ≡ true) → ⊥
        refused (inl by) = only_first (subst (IsIn e) tallied (in_by number log e is by))
          where
            only_first : IsIn e (first ∷ later) → ⊥
            only_first (inl same) = subst (IsCallFor site) (ap (λ (k : HubEvent). k.call) (sym same) ∙ call) asks
            only_first (inr l) = subst (IsIn e) follows.0 l
        refused (inr among) = (let none : is_among e.by [] ≡ true = subst (λ ts. is_among e.by ts ≡ true) follows.1 among in cc)
    cases Join (served.Taken x) call reply follows = absurd follows
    cases Join (served.Fetched x) call reply follows = absurd follows
    cases Join (served.Left x) call reply follows = absurd follows
    cases (served.Take i up) r call reply follows = absurd follows
    cases (served.Fetch i max) r call reply follows = absurd follows
    cases (served.Leave i) r call reply follows = absurd follows

-- of a session whose pass had made no call
session_join : (s : Ended) (log : List HubEvent) → HasMadeNone s.given → AllTallied log (tallies s.back) → (e : HubEvent) (site : ℕ) → IsIn e log → is_among e.by (tallies s.back) ≡ true
    → IsCallFor site e.call → JoinsFor s.back.number site log
session_join s log new tallied e site is among asks =
    first_join s.back s.back.number s.calls.calls s.calls.others log s.calls.one_site
    (tallied.0 ∙ s.calls.made ∙ ap (λ es. es ++ s.calls.calls) new.0)
    (subst (AllTallied log) kept_is tallied.1) e site is
    (subst (λ ts. (e.by ≡ s.back.number) ⊎ (is_among e.by ts ≡ true)) kept_is (among_is e.by (tally s.back.number s.back.made) s.back.kept among)) asks
  where
    kept_is : s.back.kept ≡ s.calls.others
    kept_is = s.calls.kept ∙ ap (λ ts. ts ++ s.calls.others) new.1

-- # Several sessions

-- under whose number a call is
record Found (e : HubEvent) (sessions : List Ended) : Type 0 where
  session : Ended
  is_one : IsOneOf session sessions
  among : is_among e.by (tallies session.back) ≡ true

found_in : (e : HubEvent) (sessions : List Ended) → is_among e.by (all_tallies sessions) ≡ true → Found e sessions
found_in e [] among = absurd (cc)
found_in e (s ∷ sessions) among =
    elim (among_first e.by (tallies s.back) (all_tallies sessions) among) [
      | inl here ↦ record { session = s; is_one = inl refl; among = here }
      | inr later ↦ (let rest = found_in e sessions later in record { session = rest.session; is_one = inr rest.is_one; among = rest.among })
    ]

new_one : (s : Ended) (sessions : List Ended) → IsOneOf s sessions → served.AllByRecursion (λ (t : Ended). HasMadeNone t.given) sessions → HasMadeNone s.given
new_one s [] one all = absurd one
new_one s (t ∷ sessions) (inl same) all = subst (λ (u : Ended). HasMadeNone u.given) same all.0
new_one s (t ∷ sessions) (inr later) all = new_one s sessions later all.1

tallied_one : (log : List HubEvent) (s : Ended) (sessions : List Ended) → IsOneOf s sessions → AllTallied log (all_tallies sessions) → AllTallied log (tallies s.back)
tallied_one log s [] one all = absurd one
tallied_one log s (t ∷ sessions) (inl same) all = subst (λ (u : Ended). AllTallied log (tallies u.back)) same (tallied_first log (tallies t.back) (all_tallies sessions) all)
tallied_one log s (t ∷ sessions) (inr later) all = tallied_one log s sessions later (tallied_later log (tallies t.back) (all_tallies sessions) all)

-- a number that is none of theirs is not that of a session
not_its : (n : List ℕ) (s : Ended) (sessions : List Ended) → IsOneOf s sessions → IsNew n (all_tallies sessions) → n ≡ s.back.number → ⊥
not_its n s [] one new same = one
not_its n s (t ∷ sessions) (inl is) new same = new.0 (same ∙ ap (λ (u : Ended). u.back.number) (sym is))
not_its n s (t ∷ sessions) (inr later) new same = not_its n s sessions later (new_later n (tallies t.back) (all_tallies sessions) new) same

-- so two sessions of one number are one
one_session : (s t : Ended) (sessions : List Ended) → AllApart (all_tallies sessions) → IsOneOf s sessions → IsOneOf t sessions → s.back.number ≡ t.back.number → s ≡ t
one_session s t [] apart one two same = absurd one
one_session s t (u ∷ sessions) apart (inl one) (inl two) same = sym one ∙ two
one_session s t (u ∷ sessions) apart (inl one) (inr two) same =
    absurd (not_its u.back.number t sessions two (new_later u.back.number u.back.kept (all_tallies sessions) apart.0) (ap (λ (k : Ended). k.back.number) one ∙ same))
one_session s t (u ∷ sessions) apart (inr one) (inl two) same =
    absurd (not_its u.back.number s sessions one (new_later u.back.number u.back.kept (all_tallies sessions) apart.0) (ap (λ (k : Ended). k.back.number) two ∙ sym same))
one_session s t (u ∷ sessions) apart (inr one) (inr two) same = one_session s t sessions (apart_later (tallies u.back) (all_tallies sessions) apart) one two same

-- # The site of a session

-- a session that serves a site has joined it
served_join : (s : Ended) (log : List HubEvent) (serves : ServesSite s) → HasMadeNone s.given → AllTallied log (tallies s.back) → JoinsFor s.back.number (answer_of serves).site log
served_join s log serves new tallied = record {
  join = join s serves;
  is_in = found.0;
  by = found.1;
  is_join = record { answer = answer_of serves; call = refl; reply = refl; site = refl };
}
  where
    found : IsIn (join s serves) log × ((join s serves).by ≡ s.back.number)
    found = by_in s.back.number log (join s serves) (subst (IsIn (join s serves)) (sym (tallied.0 ∙ made_is s serves new)) (inl refl))

pub owned : (keeps : Bool) (board : served.Windows) (limit : ℕ) (sessions : List Ended) (log : List HubEvent) → IsSessionHub keeps board limit sessions log → (s : Ended) → IsOneOf s sessions → (serves : ServesSite s)
    → IsOwnedBy s (answer_of serves).site log
owned keeps board limit sessions log hub s one serves = all_in (λ e. IsCallFor (answer_of serves).site e.call → IsTrue (is_among e.by (tallies s.back))) log each
  where
    mine : JoinsFor s.back.number (answer_of serves).site log
    mine = served_join s log serves (new_one s sessions one hub.new) (tallied_one log s sessions one hub.tallied)

    each : (e : HubEvent) → IsIn e log → IsCallFor (answer_of serves).site e.call → IsTrue (is_among e.by (tallies s.back))
    each e is asks =
        let found = found_in e sessions (none_other (all_tallies sessions) log hub.alone e is) in
        let theirs = session_join found.session log (new_one found.session sessions found.is_one hub.new) (tallied_one log found.session sessions found.is_one hub.tallied) e (answer_of serves).site is
        found.among asks in
        let same = one_join board log (new_star keeps board limit) (called-opened keeps board limit hub.opens hub.limited) hub.legal theirs.join mine.join (answer_of serves).site theirs.is_in mine.is_in
        theirs.is_join mine.is_join in
        let number : found.session.back.number ≡ s.back.number = sym theirs.by ∙ ap (λ (x : HubEvent). x.by) same ∙ mine.by in
        subst (λ (t : Ended). IsTrue (is_among e.by (tallies t.back))) (one_session found.session s sessions hub.apart found.is_one one number) found.among

-- the pass that took in the passes of all sessions, and met a history of no further call
pub closed : (keeps : Bool) (board : served.Windows) (limit : ℕ) (sessions : List Ended) (v : served.View) (log : List HubEvent) → served.IsOpening board → limit ≤ served.highest_limit → v.opening ≡ new_star keeps board limit
    → v.kept ≡ all_tallies sessions → served.AllByRecursion (λ (s : Ended). HasMadeNone s.given) sessions → Meets v log → length log ≡ calls_in (all_tallies sessions)
    → IsSessionHub keeps board limit sessions log
closed keeps board limit sessions v log opens limited opening kept new meets long =
    let tallied = subst (AllTallied log) kept meets.tallied.1 in
    let apart = subst AllApart kept meets.apart.1 in
    record {
      opens = opens;
      limited = limited;
      legal = subst (λ o. IsLegal o log) opening meets.legal;
      new = new;
      tallied = tallied;
      apart = apart;
      alone = no_others (all_tallies sessions) log apart tallied long;
    }
