-- The calls of the passes of a run.
use Rattle.std.proofs.Common.{◌≡◌, ℕ, suc, ◌+◌, ◌<◌, ◌≤◌, Bool, true, false, cond, List, [], ◌∷◌, ◌++◌, map, length, refl, sym, ap, ◌∙◌, subst, arith, append-nil, append_assoc, inl, inr, ◌⊎◌, length-append, bytes_eq, ◌-◌, Result, Ok, ◌&&◌, nat_le, Option, Some, None, if◌then◌else◌, All}
use Rattle.std.proofs.lemmas.Slice.Eq.{bytes_eq-Decides}
use Rattle.jup_app.specs.Prelude.{highest_limit, board_batches, Fetch, Join, Fetched, OpenFault, BoardSite, BoardAttached, one_taken, IsOpening, HubEvent, Tally, View, view_of, most_fetched, Player, SiteEnd, Halt, AllByRecursion, eq-eqb, eqb, append_cancel_left, map-append, eqb_tells, calls_by, AllTallied, IsNew, AllApart, entry, longest, having_seen, Called, Meets, BeginsWith, BeginsWithAll, split_from, with_call, tallies, joined_with}
use Rattle.jup_window.specs.Boards as boards
use Rattle.jup_window.specs.Entries.{EachWidget}
use Rattle.jup_star.specs.declared.calls.StarReply.TheVariants as reply
use Rattle.jup_star.specs.Stars.{opened_star, BoardStar, star_open_fault, IsShort}
use Rattle.jup_star.proofs.Stars as stars
use Rattle.jup_app.specs.Runs.{Made, made, makes, Step, Edited, Took, Got, calls_of, site_of, made_at, IsSite, calls_at, edits_of, IsPlayed, edited, all_delivered, BoardDown, Handles, Fetches, CatchesUp, told_to, IsFresh, joined_call, HasMet, HasJoinedAll, HasTaken, end_of, all_tallies, all_calls}
use Rattle.jup_star.specs.declared.faults.OpenFault.TheVariants.{BadLimit, BadSite}

-- A history that is as long as the calls of some passes together has their calls alone.

pub bytes_tell : (a b : List ℕ) → ((bytes_eq a b ≡ true) × (a ≡ b)) ⊎ ((bytes_eq a b ≡ false) × (a ≡ b → ⊥))
bytes_tell a b =
    elim (bytes_eq a b) as (λ t. bytes_eq a b ≡ t → ((t ≡ true) × (a ≡ b)) ⊎ ((t ≡ false) × (a ≡ b → ⊥))) [
      | true ↦ λ e. inl (refl, (bytes_eq-Decides a b).0 e)
      | false ↦ λ e. inr (refl, λ is. let yes : bytes_eq a b ≡ true = (bytes_eq-Decides a b).1 is in let no : true ≡ false = sym yes ∙ e in absurd cc)
    ] refl

pub same_bytes : (a b : List ℕ) → a ≡ b → bytes_eq a b ≡ true
same_bytes a b is = (bytes_eq-Decides a b).1 is

pub other_bytes : (a b : List ℕ) → (a ≡ b → ⊥) → bytes_eq a b ≡ false
other_bytes a b ne = elim (bytes_tell a b) [ inl same ↦ absurd (ne same.1) | inr other ↦ other.0 ]

-- the number is that of one of the hands
abbrev pub IsKnown : List ℕ → List Tally → Type 0
IsKnown n [] = ⊥
IsKnown n (k ∷ ks) = (k.number ≡ n) ⊎ IsKnown n ks

-- how many calls the hands made
abbrev pub total : List Tally → ℕ
total [] = 0
total (k ∷ ks) = length k.calls + total ks

-- how many entries of a history are the hands'
total_by : List Tally → List HubEvent → ℕ
total_by [] h = 0
total_by (k ∷ ks) h = length (calls_by k.number h) + total_by ks h

hits : List ℕ → List Tally → ℕ
hits n [] = 0
hits n (k ∷ ks) = cond (bytes_eq n k.number) 1 0 + hits n ks

hits_none : (n : List ℕ) (ks : List Tally) → IsNew n ks → hits n ks ≡ 0
unfolding hits
hits_none n [] new = refl
hits_none n (k ∷ ks) new =
    elim (bytes_tell n k.number) as (λ _. cond (bytes_eq n k.number) 1 0 + hits n ks ≡ 0) [
      | inl same ↦ absurd (new.0 same.1)
      | inr other ↦ rw (other.0, hits_none n ks new.1) refl
    ]

hits_cases : (n : List ℕ) (ks : List Tally) → AllApart ks → (hits n ks ≡ 0) ⊎ ((hits n ks ≡ 1) × IsKnown n ks)
unfolding hits
hits_cases n [] apart = inl refl
hits_cases n (k ∷ ks) apart =
    elim (bytes_tell n k.number) as (λ _. (cond (bytes_eq n k.number) 1 0 + hits n ks ≡ 0) ⊎ ((cond (bytes_eq n k.number) 1 0 + hits n ks ≡ 1) × IsKnown n (k ∷ ks))) [
      | inl same ↦ inr (rw (same.0, hits_none n ks (subst (λ m. IsNew m ks) (sym same.1) apart.0)) refl, inl (sym same.1))
      | inr other ↦ elim (hits_cases n ks apart.1) [
        | inl none ↦ inl (rw (other.0, none) refl)
        | inr one ↦ inr (rw (other.0, one.0) refl, inr one.1)
      ]
    ]

length_more : (n : List ℕ) (e : HubEvent) (h : List HubEvent) → length (calls_by n (e ∷ h)) ≡ cond (bytes_eq e.by n) 1 0 + length (calls_by n h)
length_more n e h = elim (bytes_eq e.by n) as (λ b. length (cond b (e ∷ calls_by n h) (calls_by n h)) ≡ cond b 1 0 + length (calls_by n h)) [ true ↦ omega arith | false ↦ omega arith ]

total_more : (ks : List Tally) (e : HubEvent) (h : List HubEvent) → total_by ks (e ∷ h) ≡ hits e.by ks + total_by ks h
unfolding hits total_by
total_more [] e h = refl
total_more (k ∷ ks) e h = omega (arith, length_more k.number e h, total_more ks e h)

none_by : (ks : List Tally) → total_by ks [] ≡ 0
unfolding total_by
none_by [] = refl
none_by (k ∷ ks) = omega (arith, none_by ks)

all_known : (ks : List Tally) (h : List HubEvent) → AllApart ks → (total_by ks h ≤ length h) × (total_by ks h ≡ length h → AllByRecursion (λ (e : HubEvent). IsKnown e.by ks) h)
all_known ks [] apart = (omega (arith, none_by ks), λ _. tt)
all_known ks (e ∷ h) apart =
    let rest = all_known ks h apart in
    elim (hits_cases e.by ks apart) [
      | inl none ↦ (omega (arith, total_more ks e h), λ whole. absurd (omega (arith, total_more ks e h)))
      | inr one ↦ (omega (arith, total_more ks e h), λ whole. (one.1, rest.1 (omega (arith, total_more ks e h))))
    ]

total_is : (ks : List Tally) (h : List HubEvent) → AllTallied h ks → total_by ks h ≡ total ks
unfolding total_by
total_is [] h own = refl
total_is (k ∷ ks) h own = omega (arith, ap length own.0, total_is ks h own.1)

-- each entry is by one of the hands
pub known : (ks : List Tally) (h : List HubEvent) → AllApart ks → AllTallied h ks → length h ≡ total ks → AllByRecursion (λ (e : HubEvent). IsKnown e.by ks) h
known ks h apart own whole = (all_known ks h apart).1 (total_is ks h own ∙ sym whole)

pub each_append : {A : Type 0} (P : A → Type 0) (xs ys : List A) → AllByRecursion P (xs ++ ys) → AllByRecursion P xs × AllByRecursion P ys
each_append P [] ys all = (tt, all)
each_append P (x ∷ xs) ys all = let rest = each_append P xs ys all.1 in ((all.0, rest.0), rest.1)

pub each_both : {A : Type 0} (P : A → Type 0) (xs ys : List A) → AllByRecursion P xs → AllByRecursion P ys → AllByRecursion P (xs ++ ys)
each_both P [] ys a b = b
each_both P (x ∷ xs) ys a b = (a.0, each_both P xs ys a.1 b)

pub each_weaker : {A : Type 0} (P Q : A → Type 0) (xs : List A) → ((x : A) → P x → Q x) → AllByRecursion P xs → AllByRecursion Q xs
each_weaker P Q [] f all = tt
each_weaker P Q (x ∷ xs) f all = (f x all.0, each_weaker P Q xs f all.1)

pub calls_by-append : (n : List ℕ) (h k : List HubEvent) → calls_by n (h ++ k) ≡ calls_by n h ++ calls_by n k
calls_by-append n [] k = refl
calls_by-append n (e ∷ h) k =
    ap (λ ms. cond (bytes_eq e.by n) (e ∷ ms) ms) (calls_by-append n h k)
    ∙ elim (bytes_eq e.by n) as (λ b. cond b (e ∷ (calls_by n h ++ calls_by n k)) (calls_by n h ++ calls_by n k) ≡ cond b (e ∷ calls_by n h) (calls_by n h) ++ calls_by n k) [ true ↦ refl | false ↦ refl ]

pub each_made : (P : Made → Type 0) (h : List HubEvent) → AllByRecursion P (makes h) → AllByRecursion (λ (e : HubEvent). P (made e)) h
each_made P [] all = tt
each_made P (e ∷ h) all = (all.0, each_made P h all.1)

-- what a pass has made since
pub made_since : (n : List ℕ) (h k : List HubEvent) (before later : List HubEvent) → calls_by n h ≡ before → calls_by n (h ++ k) ≡ before ++ later → calls_by n k ≡ later
made_since n h k before later a b = append_cancel_left before (calls_by n k) later (ap (λ ms. ms ++ calls_by n k) (sym a) ∙ sym (calls_by-append n h k) ∙ b)

tail_silent : (n : List ℕ) (e : HubEvent) (h : List HubEvent) → calls_by n (e ∷ h) ≡ [] → calls_by n h ≡ []
tail_silent n e h none = elim (bytes_eq e.by n) as (λ b. cond b (e ∷ calls_by n h) (calls_by n h) ≡ [] → calls_by n h ≡ []) [ true ↦ λ e. absurd cc | false ↦ λ e. e ] none

not_silent : (n : List ℕ) (e : HubEvent) (h : List HubEvent) → e.by ≡ n → calls_by n (e ∷ h) ≡ [] → ⊥
not_silent n e h is none = let b : bytes_eq e.by n ≡ true = same_bytes e.by n is in let one : e ∷ calls_by n h ≡ [] = rw b at none in absurd cc

silent_known : (ks : List Tally) (e : HubEvent) (h : List HubEvent) → IsKnown e.by ks → AllByRecursion (λ (k : Tally). calls_by k.number (e ∷ h) ≡ []) ks → ⊥
silent_known [] e h is none = is
silent_known (k ∷ ks) e h is none = elim is [ inl same ↦ not_silent k.number e h (sym same) none.0 | inr more ↦ silent_known ks e h more none.1 ]

-- if the others have no entry, all are by the first
pub only_one : (k : Tally) (ks : List Tally) (h : List HubEvent) → AllByRecursion (λ (e : HubEvent). IsKnown e.by (k ∷ ks)) h → AllByRecursion (λ (j : Tally). calls_by j.number h ≡ []) ks → AllByRecursion (λ (e : HubEvent). e.by ≡ k.number) h
only_one k ks [] all none = tt
only_one k ks (e ∷ h) all none = (
  elim all.0 [ inl same ↦ sym same | inr more ↦ absurd (silent_known ks e h more none) ],
  only_one k ks h all.1 (each_weaker (λ (j : Tally). calls_by j.number (e ∷ h) ≡ []) (λ (j : Tally). calls_by j.number h ≡ []) ks (λ j none. tail_silent j.number e h none) none),
)

-- if the first has no entry, all are by the others
pub none_first : (k : Tally) (ks : List Tally) (h : List HubEvent) → AllByRecursion (λ (e : HubEvent). IsKnown e.by (k ∷ ks)) h → calls_by k.number h ≡ [] → AllByRecursion (λ (e : HubEvent). IsKnown e.by ks) h
none_first k ks [] all none = tt
none_first k ks (e ∷ h) all none = (
  elim all.0 [ inl same ↦ absurd (not_silent k.number e h (sym same) none) | inr more ↦ more ],
  none_first k ks h all.1 (tail_silent k.number e h none),
)

pub makes-append : (h k : List HubEvent) → makes (h ++ k) ≡ makes h ++ makes k
makes-append [] k = refl
makes-append (e ∷ h) k = ap (λ ms. made e ∷ ms) (makes-append h k)

-- a history that is all of one pass is its calls
pub all_of_one : (n : List ℕ) (h : List HubEvent) → AllByRecursion (λ (e : HubEvent). e.by ≡ n) h → h ≡ calls_by n h
all_of_one n [] all = refl
all_of_one n (e ∷ h) all = ap (λ es. e ∷ es) (all_of_one n h all.1) ∙ ap (λ b. cond b (e ∷ calls_by n h) (calls_by n h)) (sym (same_bytes e.by n all.0))

pub each_tallied : (ks : List Tally) (h : List HubEvent) → AllTallied h ks → AllByRecursion (λ (k : Tally). calls_by k.number h ≡ k.calls) ks
each_tallied [] h all = tt
each_tallied (k ∷ ks) h all = (all.0, each_tallied ks h all.1)

-- The calls of a site are the calls of its pass, and then those that drained it.

pub apart : (i j : ℕ) → (i ≡ j → ⊥) → eqb i j ≡ false
apart i j ne = elim (eqb_tells i j) [ inl same ↦ absurd (ne same.1) | inr other ↦ other.0 ]

each_later : (Q : HubEvent → Type 0) (n : List ℕ) (e : HubEvent) (h : List HubEvent) → AllByRecursion Q (calls_by n (e ∷ h)) → AllByRecursion Q (calls_by n h)
each_later Q n e h all = elim (bytes_eq e.by n) as (λ b. AllByRecursion Q (cond b (e ∷ calls_by n h) (calls_by n h)) → AllByRecursion Q (calls_by n h)) [ true ↦ λ all. all.1 | false ↦ λ all. all ] all

each_now : (Q : HubEvent → Type 0) (n : List ℕ) (e : HubEvent) (h : List HubEvent) → e.by ≡ n → AllByRecursion Q (calls_by n (e ∷ h)) → Q e
each_now Q n e h is all = let b : bytes_eq e.by n ≡ true = same_bytes e.by n is in let all' : AllByRecursion Q (e ∷ calls_by n h) = rw b at all in all'.0

-- the entries of n passes, one for each site, which calls for its own site alone
pub record Parted (n : ℕ) (pass : ℕ → List ℕ) (h : List HubEvent) : Type 0 where
  pub own : (j : ℕ) → IsSite n j → AllByRecursion (λ (e : HubEvent). site_of e.call ≡ j) (calls_by (pass j) h)
  pub known : AllByRecursion (λ (e : HubEvent). (j : ℕ) × IsSite n j × (pass j ≡ e.by)) h
  pub apart : (i j : ℕ) → IsSite n i → IsSite n j → pass i ≡ pass j → i ≡ j

later : (n : ℕ) (pass : ℕ → List ℕ) (e : HubEvent) (h : List HubEvent) → Parted n pass (e ∷ h) → Parted n pass h
later n pass e h p = record { own = λ j site. each_later (λ (e : HubEvent). site_of e.call ≡ j) (pass j) e h (p.own j site); known = p.known.1; apart = p.apart }

site_of_entry : (n : ℕ) (pass : ℕ → List ℕ) (e : HubEvent) (h : List HubEvent) (p : Parted n pass (e ∷ h)) → site_of e.call ≡ p.known.0.0
site_of_entry n pass e h p = let k = p.known.0 in each_now (λ (e : HubEvent). site_of e.call ≡ k.0) (pass k.0) e h (sym k.2) (p.own k.0 k.1)

same_test : (n : ℕ) (pass : ℕ → List ℕ) (e : HubEvent) (h : List HubEvent) (p : Parted n pass (e ∷ h)) (i : ℕ) → IsSite n i → eqb (site_of e.call) i ≡ bytes_eq e.by (pass i)
same_test n pass e h p i site =
    let k = p.known.0 in
    let at : site_of e.call ≡ k.0 = site_of_entry n pass e h p in
    elim (eqb_tells k.0 i) as (λ _. eqb (site_of e.call) i ≡ bytes_eq e.by (pass i)) [
      | inl same ↦ eq-eqb (site_of e.call) i (at ∙ same.1) ∙ sym (same_bytes e.by (pass i) (sym k.2 ∙ ap pass same.1))
      | inr other ↦ apart (site_of e.call) i (λ is. other.1 (sym at ∙ is)) ∙ sym (other_bytes e.by (pass i) (λ is. other.1 (p.apart k.0 i k.1 site (k.2 ∙ is))))
    ]

pub made_at_is : (n : ℕ) (pass : ℕ → List ℕ) (h : List HubEvent) → Parted n pass h → (i : ℕ) → IsSite n i → made_at i h ≡ makes (calls_by (pass i) h)
made_at_is n pass [] p i site = refl
made_at_is n pass (e ∷ h) p i site =
    ap (λ b. cond b (made e ∷ made_at i h) (made_at i h)) (same_test n pass e h p i site)
    ∙ ap (λ ms. cond (bytes_eq e.by (pass i)) (made e ∷ ms) ms) (made_at_is n pass h (later n pass e h p) i site)
    ∙ elim (bytes_eq e.by (pass i)) as (λ b. cond b (made e ∷ makes (calls_by (pass i) h)) (makes (calls_by (pass i) h)) ≡ makes (cond b (e ∷ calls_by (pass i) h) (calls_by (pass i) h))) [ true ↦ refl | false ↦ refl ]

pub sited : (n : ℕ) (pass : ℕ → List ℕ) (h : List HubEvent) → Parted n pass h → AllByRecursion (λ (e : HubEvent). IsSite n (site_of e.call)) h
sited n pass [] p = tt
sited n pass (e ∷ h) p = (subst (λ i. IsSite n i) (sym (site_of_entry n pass e h p)) p.known.0.1, sited n pass h (later n pass e h p))

pub made_at_makes : (i : ℕ) (h : List HubEvent) → made_at i h ≡ calls_at i (makes h)
made_at_makes i [] = refl
made_at_makes i (e ∷ h) = ap (λ ms. cond (eqb (site_of e.call) i) (made e ∷ ms) ms) (made_at_makes i h)

pub made_at-append : (i : ℕ) (h k : List HubEvent) → made_at i (h ++ k) ≡ made_at i h ++ made_at i k
made_at-append i [] k = refl
made_at-append i (e ∷ h) k =
    ap (λ ms. cond (eqb (site_of e.call) i) (made e ∷ ms) ms) (made_at-append i h k)
    ∙ elim (eqb (site_of e.call) i) as (λ b. cond b (made e ∷ (made_at i h ++ made_at i k)) (made_at i h ++ made_at i k) ≡ cond b (made e ∷ made_at i h) (made_at i h) ++ made_at i k) [ true ↦ refl | false ↦ refl ]

pub calls_at-append : (i : ℕ) (xs ys : List Made) → calls_at i (xs ++ ys) ≡ calls_at i xs ++ calls_at i ys
calls_at-append i [] ys = refl
calls_at-append i (m ∷ xs) ys =
    ap (λ ms. cond (eqb (site_of m.call) i) (m ∷ ms) ms) (calls_at-append i xs ys)
    ∙ elim (eqb (site_of m.call) i) as (λ b. cond b (m ∷ (calls_at i xs ++ calls_at i ys)) (calls_at i xs ++ calls_at i ys) ≡ cond b (m ∷ calls_at i xs) (calls_at i xs) ++ calls_at i ys) [ true ↦ refl | false ↦ refl ]

-- the calls of a log are all of its site
pub calls_at_own : (i : ℕ) (log : List Step) → calls_at i (calls_of i log) ≡ calls_of i log
calls_at_own i [] = refl
calls_at_own i (Edited c r ∷ log) = calls_at_own i log
calls_at_own i (Took u p ∷ log) = rw (eq-eqb i i refl, calls_at_own i log) refl
calls_at_own i (Got m ds ∷ log) = rw (eq-eqb i i refl, calls_at_own i log) refl

pub calls_at_other : (i j : ℕ) (log : List Step) → eqb i j ≡ false → calls_at j (calls_of i log) ≡ []
calls_at_other i j [] ne = refl
calls_at_other i j (Edited c r ∷ log) ne = calls_at_other i j log ne
calls_at_other i j (Took u p ∷ log) ne = rw ne (calls_at_other i j log ne)
calls_at_other i j (Got m ds ∷ log) ne = rw ne (calls_at_other i j log ne)

pub calls_own : (i : ℕ) (log : List Step) → AllByRecursion (λ (m : Made). site_of m.call ≡ i) (calls_of i log)
calls_own i [] = tt
calls_own i (Edited c r ∷ log) = calls_own i log
calls_own i (Took u p ∷ log) = (refl, calls_own i log)
calls_own i (Got m ds ∷ log) = (refl, calls_own i log)

pub calls_of-append : (i : ℕ) (xs ys : List Step) → calls_of i (xs ++ ys) ≡ calls_of i xs ++ calls_of i ys
calls_of-append i [] ys = refl
calls_of-append i (Edited c r ∷ xs) ys = calls_of-append i xs ys
calls_of-append i (Took u p ∷ xs) ys = rw (calls_of-append i xs ys) refl
calls_of-append i (Got m ds ∷ xs) ys = rw (calls_of-append i xs ys) refl

-- Logs that are put together.

pub played_both : (xs ys : List Step) (l m n : BoardAttached) → IsPlayed l xs m → IsPlayed m ys n → IsPlayed l (xs ++ ys) n
played_both [] ys l m n a b = subst (λ k. IsPlayed k ys n) (sym a) b
played_both (Edited c r ∷ xs) ys l m n a b = (a.0, played_both xs ys (edited c l) m n a.1 b)
played_both (Took u p ∷ xs) ys l m n a b = (a.0, played_both xs ys (one_taken board_batches l) m n a.1 b)
played_both (Got k ds ∷ xs) ys l m n a b = (a.0, a.1, played_both xs ys (all_delivered ds l) m n a.2 b)

pub edits_of-append : (xs ys : List Step) → edits_of (xs ++ ys) ≡ edits_of xs ++ edits_of ys
edits_of-append [] ys = refl
edits_of-append (Edited c r ∷ xs) ys = ap (λ es. (c, r) ∷ es) (edits_of-append xs ys)
edits_of-append (Took u p ∷ xs) ys = edits_of-append xs ys
edits_of-append (Got k ds ∷ xs) ys = edits_of-append xs ys

-- The next call of a pass is a fetch, whatever it calls after that.

pub fetches_first : (i : ℕ) (v u w : View) (ds : List BoardDown) (calls : List HubEvent) → Called (Fetch i most_fetched) (Fetched (Ok ds)) v u → w.made ≡ u.made ++ calls → Fetches i v w
fetches_first i v u w ds calls c more =
    let e : HubEvent = entry v.number (Fetch i most_fetched) (Fetched (Ok ds)) in
    let one : u.made ≡ v.made ++ e ∷ [] = ap (λ (x : View). x.made) c.view in record {
      reply = Fetched (Ok ds);
      later = calls;
      made = more ∙ ap (λ (l : List HubEvent). l ++ calls) one ∙ append_assoc v.made (e ∷ []) calls;
    }

fetches_more : (i : ℕ) (v u w : View) (calls : List HubEvent) → Fetches i v u → w.made ≡ u.made ++ calls → Fetches i v w
fetches_more i v u w calls f more =
    let e : HubEvent = entry v.number (Fetch i most_fetched) f.reply in record {
      reply = f.reply;
      later = f.later ++ calls;
      made = more ∙ ap (λ (l : List HubEvent). l ++ calls) f.made ∙ append_assoc v.made (e ∷ f.later) calls;
    }

-- there was news, and it was fetched
pub caught : (i : ℕ) (v u w : View) (log : List HubEvent) → Meets v log → u ≡ having_seen log v → Fetches i u w → CatchesUp i v w
caught i v u w log meets is f = record {
  history = log;
  met = meets;
  fetched = λ later. let same : Fetches i (having_seen log v) w = subst (λ (x : View). Fetches i x w) is f in record { reply = same.reply; later = same.later; made = same.made };
}

-- there was none
pub caught_none : (i : ℕ) (v w : View) (log : List HubEvent) → Meets v log → (longest v.seen < length log → ⊥) → CatchesUp i v w
caught_none i v w log meets none = record { history = log; met = meets; fetched = λ later. absurd (none later) }

-- and then the pass made other calls, for whatever site
pub caught_handles : (i j : ℕ) (v u w : View) (n m : ℕ) (l k : BoardAttached) → CatchesUp i v u → Handles j u w n m l k → CatchesUp i v w
caught_handles i j v u w n m l k c h = record { history = c.history; met = c.met; fetched = λ later. fetches_more i v u w h.plays.calls (c.fetched later) h.plays.made }

-- The board of a star that was opened.

open_fits : (b : boards.Windows) (limit : ℕ) → ◌≡◌ {A = Option OpenFault} None (star_open_fault b limit) → boards.only_site 0 b ≡ true
open_fits b limit fine = go (nat_le 1 limit && nat_le limit highest_limit) (boards.only_site 0 b) refl fine
  where
    go : (x y : Bool) → boards.only_site 0 b ≡ y → ◌≡◌ {A = Option OpenFault} None (if x then (if y then None else Some BadSite) else Some BadLimit) → boards.only_site 0 b ≡ true
    go true true e f = e
    go true false e f = absurd cc
    go false y e f = absurd cc

pub opens : (b : boards.Windows) (limit : ℕ) (star : BoardStar) → EachWidget IsShort b → boards.HasDistinctNames b → ◌≡◌ {A = Option OpenFault} None (star_open_fault (boards.bare b) limit) → star ≡ opened_star (boards.bare b) limit → IsOpening star.board
opens b limit star short distinct fine is = subst (λ (s : BoardStar). IsOpening s.board) (sym is) (record { distinct = stars.distinct_bare b distinct; unsigned = open_fits (boards.bare b) limit fine; short = stars.short_bare b short })

-- What the first pass of a run knows, put together.

each_snoc : (P : BoardSite → Type 0) (xs : List BoardSite) (x : BoardSite) → AllByRecursion P xs → P x → AllByRecursion P (xs ++ x ∷ [])
each_snoc P [] x all one = (one, tt)
each_snoc P (y ∷ xs) x all one = (all.0, each_snoc P xs x all.1 one)

pub joined_more : (v w : View) (n m : ℕ) (j : BoardSite) (js all : List BoardSite) → HasJoinedAll v n js → Called Join (reply.Joined (Ok (told_to j))) v w → IsFresh j → m ≡ n + 1 → all ≡ js ++ j ∷ [] → HasJoinedAll w m all
joined_more v w n m j js all a c fresh more is =
    let e : HubEvent = record { by = v.number; call = Join; reply = reply.Joined (Ok (told_to j)) } in
    let made_is : w.made ≡ v.made ++ e ∷ [] = ap (λ (x : View). x.made) c.view in
    record {
      history = with_call c.before v Join (reply.Joined (Ok (told_to j)));
      met = record { seen = ap (λ (x : View). x.seen) c.view; meets = c.meets };
      made = ap makes made_is ∙ makes-append v.made (e ∷ []) ∙ ap (λ ms. ms ++ joined_call j ∷ []) a.made ∙ sym (map-append joined_call js (j ∷ [])) ∙ ap (λ ns. map joined_call ns) (sym is);
      fresh = subst (λ xs. AllByRecursion IsFresh xs) (sym is) (each_snoc IsFresh js j a.fresh fresh);
      kept = ap (λ (x : View). x.kept) c.view ∙ a.kept;
      count = omega (arith, a.count, ap (λ (es : List HubEvent). length es) made_is, length-append v.made (e ∷ []));
    }

pub joined_none : (v : View) (n : ℕ) (ns : List BoardSite) → ns ≡ [] → HasJoinedAll v n [] → HasJoinedAll v n ns
joined_none v n ns is a = subst (λ xs. HasJoinedAll v n xs) (sym is) a

nothing_before : (xs ys : List HubEvent) → xs ++ ys ≡ [] → xs ≡ []
nothing_before [] ys e = refl
nothing_before (x ∷ xs) ys e = absurd cc

-- a pass that was split off, and has had a look, has no call in what was seen before
pub not_yet_made : (v s w : View) (log h : List HubEvent) → HasMet v h → s ≡ split_from v → Meets s log → w ≡ having_seen log s → calls_by w.number h ≡ []
not_yet_made v s w log h has split meets is =
    let none : calls_by s.number log ≡ [] = meets.tallied.0 ∙ ap (λ (x : View). x.made) split in
    let seen : s.seen ≡ h ∷ [] = ap (λ (x : View). x.seen) split ∙ has.seen in
    let begins = subst (λ hs. BeginsWithAll log hs) seen meets.begins in
    let pre : BeginsWith log h = begins.0 in
    let all : calls_by s.number h ++ calls_by s.number pre.0 ≡ [] = sym (calls_by-append s.number h pre.0) ∙ ap (λ es. calls_by s.number es) (sym pre.1) ∙ none in
    ap (λ n. calls_by n h) (ap (λ (x : View). x.number) is) ∙ nothing_before (calls_by s.number h) (calls_by s.number pre.0) all

pub seated_made : (v s w : View) (log : List HubEvent) → s ≡ split_from v → w ≡ having_seen log s → (w.made ≡ []) × (w.kept ≡ [])
seated_made v s w log split is = (ap (λ (x : View). x.made) is ∙ ap (λ (x : View). x.made) split, ap (λ (x : View). x.kept) is ∙ ap (λ (x : View). x.kept) split)

abbrev ok_player : Player → Result Player Halt
ok_player q = Ok q

pub taken_none : (v : View) (n : ℕ) (ends : List SiteEnd) → ends ≡ [] → HasTaken v v n n [] ends
taken_none v n ends none = record { players = []; all_ok = refl; ends_are = none; kept = sym (append-nil v.kept); others = []; seen = sym (append-nil v.seen); made = refl; number = refl; opening = refl; count = omega arith }

tallies_more : (ps : List Player) (p : Player) → all_tallies (ps ++ p ∷ []) ≡ all_tallies ps ++ tallies (view_of p.caller.pass)
tallies_more [] p = append-nil (tallies (view_of p.caller.pass))
tallies_more (q ∷ ps) p = ap (λ ts. tallies (view_of q.caller.pass) ++ ts) (tallies_more ps p) ∙ sym (append_assoc (tallies (view_of q.caller.pass)) (all_tallies ps) (tallies (view_of p.caller.pass)))

calls_more : (ps : List Player) (p : Player) → all_calls (ps ++ p ∷ []) ≡ all_calls ps + p.caller.calls
calls_more [] p = omega arith
calls_more (q ∷ ps) p = omega (arith, calls_more ps p)

pub taken_more : (v w x : View) (n m o : ℕ) (results : List (Result Player Halt)) (r : Result Player Halt) (p : Player) (e : SiteEnd) (ends all : List SiteEnd) → HasTaken v w n m results ends
    → r ≡ Ok p → e ≡ end_of p → o ≡ m + p.caller.calls → x ≡ joined_with w (view_of p.caller.pass) → all ≡ ends ++ e ∷ []
    → HasTaken v x n o (results ++ r ∷ []) all
taken_more v w x n m o results r p e ends all a ok end more view grown = record {
  players = a.players ++ p ∷ [];
  all_ok = ap (λ rs. rs ++ r ∷ []) a.all_ok ∙ ap (λ z. map ok_player a.players ++ z ∷ []) ok ∙ sym (map-append ok_player a.players (p ∷ []));
  ends_are = grown ∙ ap (λ es. es ++ e ∷ []) a.ends_are ∙ ap (λ z. map end_of a.players ++ z ∷ []) end ∙ sym (map-append end_of a.players (p ∷ []));
  kept = ap (λ (z : View). z.kept) view ∙ ap (λ ts. ts ++ tallies (view_of p.caller.pass)) a.kept ∙ append_assoc v.kept (all_tallies a.players) (tallies (view_of p.caller.pass)) ∙ ap (λ ts. v.kept ++ ts) (sym (tallies_more a.players p));
  others = a.others ++ (view_of p.caller.pass).seen;
  seen = ap (λ (z : View). z.seen) view ∙ ap (λ hs. hs ++ (view_of p.caller.pass).seen) a.seen ∙ append_assoc v.seen a.others (view_of p.caller.pass).seen;
  made = ap (λ (z : View). z.made) view ∙ a.made;
  number = ap (λ (z : View). z.number) view ∙ a.number;
  opening = ap (λ (z : View). z.opening) view ∙ a.opening;
  count = omega (arith, a.count, more, calls_more a.players p);
}

pub all_tail : {A : Type 0} (P : A → Type 0) (xs : List A) (x : A) (ys : List A) → xs ≡ x ∷ ys → All P xs → All P ys
all_tail P xs x ys is all = let here : All P (x ∷ ys) = subst (λ zs. All P zs) is all in λ k d within. here (suc k) d (omega arith)
