-- What the program does at an event.
use Rattle.std.proofs.Common.{◌≡◌, refl, sym, ◌∙◌, ap, subst, ℕ, zero, suc, ◌+◌, ◌<◌, ◌≤◌, Bool, true, false, cond, not, List, [], ◌∷◌, ◌++◌, length, map, filter, get_or, nat_eq, nat_lt, Option, Some, None, arith, position, MatchOption, eqb-true, ne_eqb, ◌&&◌, nat_le, is_some, Result, Ok, Err, IsOk, inl, inr, take, drop, IfOk, OnOk, OnErr}
use Rattle.std.proofs.Math.ListN.{set}
use Rattle.std.proofs.lemmas.Bool.{ltb-true, lt-ltb, eq-eqb, and_from, le-leb}
use Rattle.jup_world.specs.Prelude.{NoMemory, highest_limit, last_site, EditFault, has_site, BoardBatch, BoardEdits, Commands, Windows, bare, board_batches, Up, Down, JoinedSite, StarFault, Full, SitesSpent, test, first_fault, link_of, join_fault, joined, left, fetched, up_fault, taken, place_taken, BoardStar, joining, bare_joined, is_no_memory, opened_site, edit_answer, BoardSite, Attached, Reply, position_or_len, Joined, NoJoin, Left, Detached, Asked, Nothing}
use Rattle.jup_star.specs.declared.site.Site.{Site}
use Rattle.jup_star.specs.Faults.{fault_of}
use Rattle.jup_star.specs.Sites.{site_open_fault}
use Rattle.jup_lane.specs.Lanes.{messages, ups, downs}
use Rattle.jup_world.specs.Worlds.{is_number, attached, at_site, without_site, AreAscending, IsSiteAt, Outcome, join_outcome, edit_outcome, up_outcome, first_up, down_outcome, first_down, at_linked, place_reply, down_reply, one_taken, one_handed, pinged, with_fetched}
use Rattle.jup_world.specs.Boards.{BoardAttached, BoardWorld, BoardLink, BoardReply}
use Rattle.jup_world.specs.Insides.{bare_attached}
use Rattle.jup_world.specs.Events as event
use Rattle.jup_world.specs.Sound.{edit_reply}
use Rattle.jup_world.specs.Happenings.{Plays, with_answer, refilled_from, refilled, fetched_for, refilled_star, handed_first, handed, reply_to, first_reply, FirstFits, FitsFirst, Spares, AreReady, Rises, IsRefused, SparesAt}
use Rattle.jup_site.proofs.Numbers.{map_kept}
use Rattle.jup_world.proofs.Answers as world_answers
use Rattle.jup_star.specs.declared.faults.OpenFault.{OpenFault}

-- Where the site of a number is, and what a change of one site does to the list of sites.

abbrev has_number : ℕ → Attached → Bool
has_number i a = nat_eq a.site.number i

-- # The first place of a number

place_cons : (i : ℕ) (a : Attached) (later : List Attached) (n : ℕ) (b : Bool) → has_number i a ≡ b → (nat_lt n (length later) ≡ true → IsSiteAt i (map bare_attached later) n)
    → nat_lt (cond (not b) (1 + n) 0) (suc (length later)) ≡ true → IsSiteAt i (bare_attached a ∷ map bare_attached later) (cond (not b) (1 + n) 0)
place_cons i a later n true e rest h = e
place_cons i a later n false e rest h = let below : 1 + n < suc (length later) = ltb-true _ _ h in let P : ℕ → Type 0 = λ k. IsSiteAt i (bare_attached a ∷ map bare_attached later) k in let one : suc n ≡ 1 + n = omega arith in subst P one (e, rest (lt-ltb _ _ (omega arith)))

place_if : (i : ℕ) (sites : List Attached) → nat_lt (position_or_len (has_number i) sites) (length sites) ≡ true → IsSiteAt i (map bare_attached sites) (position_or_len (has_number i) sites)
place_if i [] h = cc
place_if i (a ∷ later) h = place_cons i a later (position_or_len (has_number i) later) (has_number i a) refl (place_if i later) h

none_cons : (i : ℕ) (a : Attached) (later : List Attached) (n : ℕ) (b : Bool) → has_number i a ≡ b → (nat_lt n (length later) ≡ false → attached i (map bare_attached later) ≡ None)
    → nat_lt (cond (not b) (1 + n) 0) (suc (length later)) ≡ false → cond b (Some (bare_attached a)) (attached i (map bare_attached later)) ≡ None
none_cons i a later n true e rest h = let positive : nat_lt 0 (suc (length later)) ≡ true = lt-ltb _ _ (omega arith) in cc
none_cons i a later n false e rest h = rest (below (nat_lt n (length later)) refl) where
  below : (b : Bool) → nat_lt n (length later) ≡ b → nat_lt n (length later) ≡ false
  below false e2 = e2
  below true e2 = let less : n < length later = ltb-true _ _ e2 in let more : nat_lt (1 + n) (suc (length later)) ≡ true = lt-ltb _ _ (omega arith) in cc

none_if : (i : ℕ) (sites : List Attached) → nat_lt (position_or_len (has_number i) sites) (length sites) ≡ false → attached i (map bare_attached sites) ≡ None
none_if i [] h = refl
none_if i (a ∷ later) h = none_cons i a later (position_or_len (has_number i) later) (has_number i a) refl (none_if i later) h

found_cases : (i : ℕ) (sites : List Attached) (n at : ℕ) (b : Bool) → (b ≡ true → IsSiteAt i (map bare_attached sites) n) → cond {A = Option ℕ} b (Some n) None ≡ Some at → IsSiteAt i (map bare_attached sites) at
found_cases i sites n at true place e = let same : n ≡ at = cc in let P : ℕ → Type 0 = λ k. IsSiteAt i (map bare_attached sites) k in subst P same (place refl)
found_cases i sites n at false place e = cc

none_cases : (i : ℕ) (sites : List Attached) (n : ℕ) (b : Bool) → (b ≡ false → attached i (map bare_attached sites) ≡ None) → cond {A = Option ℕ} b (Some n) None ≡ None → attached i (map bare_attached sites) ≡ None
none_cases i sites n true new e = cc
none_cases i sites n false new e = new refl

pub placed : (i : ℕ) (sites : List Attached) (r : Option ℕ) → r ≡ position (λ a. nat_eq a.site.number i) sites
    → MatchOption r (attached i (map bare_attached sites) ≡ None) (λ at. IsSiteAt i (map bare_attached sites) at)
placed i sites None e = none_cases i sites (position_or_len (has_number i) sites) (nat_lt (position_or_len (has_number i) sites) (length sites)) (none_if i sites) (sym e)
placed i sites (Some at) e = found_cases i sites (position_or_len (has_number i) sites) at (nat_lt (position_or_len (has_number i) sites) (length sites)) (place_if i sites) (sym e)

pub below_at : (i : ℕ) (sites : List Attached) (at : ℕ) → IsSiteAt i (map bare_attached sites) at → at < length sites
below_at i [] at place = absurd place
below_at i (a ∷ later) zero place = omega arith
below_at i (a ∷ later) (suc at) place = omega (arith, below_at i later at place.1)

pub found_at : (i : ℕ) (sites : List Attached) (at : ℕ) (d : Attached) → IsSiteAt i (map bare_attached sites) at → attached i (map bare_attached sites) ≡ Some (bare_attached (get_or sites at d))
found_at i [] at d place = absurd place
found_at i (a ∷ later) zero d place = rw place refl
found_at i (a ∷ later) (suc at) d place = rw place.0 (found_at i later at d place.1)

-- and has that number
pub number_at : (i : ℕ) (sites : List Attached) (at : ℕ) (d : Attached) → IsSiteAt i (map bare_attached sites) at → (get_or sites at d).site.number ≡ i
number_at i [] at d place = absurd place
number_at i (a ∷ later) zero d place = eqb-true _ _ place
number_at i (a ∷ later) (suc at) d place = number_at i later at d place.1

-- # Ascending numbers

-- no site of a number is among those above it
above_none : (f : BoardAttached → BoardAttached) (i least most : ℕ) (sites : List BoardAttached) → i ≤ least → AreAscending least most sites → at_site i f sites ≡ sites
above_none f i least most [] low up = refl
above_none f i least most (a ∷ later) low up =
    let other : nat_eq a.site.number i ≡ false = ne_eqb a.site.number i (λ e. let above = up.0 in absurd (omega arith)) in
    rw other (ap (λ (xs : List BoardAttached). a ∷ xs) (above_none f i a.site.number most later (let above = up.0 in omega arith) up.1))

-- the one site of a number is ascending_changed
pub set_at_site : (f : BoardAttached → BoardAttached) (i least most : ℕ) (sites : List Attached) (at : ℕ) (d new : Attached) → AreAscending least most (map bare_attached sites)
    → IsSiteAt i (map bare_attached sites) at → bare_attached new ≡ f (bare_attached (get_or sites at d)) → map bare_attached (set sites at new) ≡ at_site i f (map bare_attached sites)
set_at_site f i least most [] at d new up place made = absurd place
set_at_site f i least most (a ∷ later) zero d new up place made =
    let same : a.site.number ≡ i = eqb-true _ _ place in
    rw place (ap (λ (x : BoardAttached). x ∷ map bare_attached later) made
    ∙ ap (λ (xs : List BoardAttached). f (bare_attached a) ∷ xs) (sym (above_none f i a.site.number most (map bare_attached later) (omega arith) up.1)))
set_at_site f i least most (a ∷ later) (suc at) d new up place made =
    rw place.0 (ap (λ (xs : List BoardAttached). bare_attached a ∷ xs) (set_at_site f i a.site.number most later at d new up.1 place.1 made))

-- none is ascending_changed
pub same_set : (sites : List Attached) (at : ℕ) (d new : Attached) → bare_attached new ≡ bare_attached (get_or sites at d) → map bare_attached (set sites at new) ≡ map bare_attached sites
same_set [] at d new same = refl
same_set (a ∷ later) zero d new same = ap (λ (x : BoardAttached). x ∷ map bare_attached later) same
same_set (a ∷ later) (suc at) d new same = ap (λ (xs : List BoardAttached). bare_attached a ∷ xs) (same_set later at d new same)

-- sites that are dropped
map-cond : (a : Attached) (later : List Attached) (rest : List BoardAttached) (b : Bool) → map bare_attached later ≡ rest → map bare_attached (cond b (a ∷ later) later) ≡ cond b (bare_attached a ∷ rest) rest
map-cond a later rest true same = ap (λ (xs : List BoardAttached). bare_attached a ∷ xs) same
map-cond a later rest false same = same

pub dropped : (i : ℕ) (sites : List Attached) → map bare_attached (filter (λ a. not (nat_eq a.site.number i)) sites) ≡ without_site i (map bare_attached sites)
dropped i [] = refl
dropped i (a ∷ later) = map-cond a (filter (λ x. not (nat_eq x.site.number i)) later) (without_site i (map bare_attached later)) (not (nat_eq a.site.number i)) (dropped i later)

-- the numbers still ascend from a lower bound
weaker : (low least most : ℕ) (sites : List BoardAttached) → low ≤ least → AreAscending least most sites → AreAscending low most sites
weaker low least most [] less up = omega arith
weaker low least most (a ∷ later) less up = ((let above = up.0 in omega arith), up.1)

-- once a site is gone
kept : (least most : ℕ) (a : BoardAttached) (later : List BoardAttached) (b : Bool) → least < a.site.number → AreAscending a.site.number most later → AreAscending least most (cond (not b) (a ∷ later) later)
kept least most a later true above up = weaker least a.site.number most later (omega arith) up
kept least most a later false above up = (above, up)

pub ascending_without : (i least most : ℕ) (sites : List BoardAttached) → AreAscending least most sites → AreAscending least most (without_site i sites)
ascending_without i least most [] up = up
ascending_without i least most (a ∷ later) up = kept least most a (without_site i later) (is_number i a) up.0 (ascending_without i a.site.number most later up.1)

-- once a site has ascending_changed
ascending_changed : (f : BoardAttached → BoardAttached) (least most : ℕ) (a : BoardAttached) (later : List BoardAttached) (b : Bool) → (f a).site.number ≡ a.site.number → least < a.site.number
    → AreAscending a.site.number most later → AreAscending least most (cond b (f a) a ∷ later)
ascending_changed f least most a later true same above up = ((omega arith), subst (λ n. AreAscending n most later) (sym same) up)
ascending_changed f least most a later false same above up = (above, up)

pub ascending_at : (f : BoardAttached → BoardAttached) (i least most : ℕ) → ((a : BoardAttached) → (f a).site.number ≡ a.site.number) → (sites : List BoardAttached) → AreAscending least most sites → AreAscending least most (at_site i f sites)
ascending_at f i least most same [] up = up
ascending_at f i least most same (a ∷ later) up = ascending_changed f least most a (at_site i f later) (is_number i a) (same a) up.0 (ascending_at f i a.site.number most same later up.1)

-- and once one has joined
pub ascending_end : (least most : ℕ) (new : BoardAttached) (sites : List BoardAttached) → new.site.number ≡ most + 1 → AreAscending least most sites → AreAscending least (most + 1) (sites ++ new ∷ [])
ascending_end least most new [] is up = ((omega arith), omega arith)
ascending_end least most new (a ∷ later) is up = (up.0, ascending_end a.site.number most new later is up.1)

-- a site that is found has a number between the bounds
within : (low most : ℕ) (sites : List BoardAttached) → AreAscending low most sites → low ≤ most
within low most [] up = up
within low most (a ∷ later) up = let more = within a.site.number most later up.1 in let above = up.0 in omega arith

bounds : (i least most : ℕ) (a x : BoardAttached) (later : List BoardAttached) (b : Bool) → is_number i x ≡ b → least < x.site.number → x.site.number ≤ most
    → (attached i later ≡ Some a → (x.site.number < i) × (i ≤ most)) → cond b (Some x) (attached i later) ≡ Some a → (least < i) × (i ≤ most)
bounds i least most a x later true e above low rest h = let same : x.site.number ≡ i = eqb-true _ _ e in (omega arith, omega arith)
bounds i least most a x later false e above low rest h = let both = rest h in let under = both.0 in (omega arith, both.1)

pub found_bounds : (i least most : ℕ) (a : BoardAttached) (sites : List BoardAttached) → AreAscending least most sites → attached i sites ≡ Some a → (least < i) × (i ≤ most)
found_bounds i least most a [] up found = absurd cc
found_bounds i least most a (x ∷ later) up found =
    bounds i least most a x later (is_number i x) refl up.0 (within x.site.number most later up.1) (λ h. found_bounds i x.site.number most a later up.1 h) found

-- each site is above those before it
above_at : (n most : ℕ) (sites : List Attached) (at : ℕ) (d : Attached) → AreAscending n most (map bare_attached sites) → at < length sites → n < (get_or sites at d).site.number
above_at n most [] at d up below = absurd (omega arith)
above_at n most (a ∷ later) zero d up below = up.0
above_at n most (a ∷ later) (suc at) d up below = let over = above_at a.site.number most later at d up.1 (omega arith) in let above = up.0 in omega arith

-- so each is the first of its number
pub ascending_place : (i least most : ℕ) (sites : List Attached) (at : ℕ) (d : Attached) → AreAscending least most (map bare_attached sites)
    → at < length sites → (get_or sites at d).site.number ≡ i → IsSiteAt i (map bare_attached sites) at
ascending_place i least most [] at d up below same = absurd (omega arith)
ascending_place i least most (a ∷ later) zero d up below same = eq-eqb a.site.number i same
ascending_place i least most (a ∷ later) (suc at) d up below same =
    (ne_eqb a.site.number i (λ e. let over = above_at a.site.number most later at d up.1 (omega arith) in absurd (omega arith)), ascending_place i a.site.number most later at d up.1 (omega arith) same)

-- What each event does to a star and its sites, by what the calls of the two answered.

-- what an event answers and leaves
abbrev answers : BoardReply → BoardStar → List BoardAttached → Outcome board_batches
answers reply star sites = record { reply = reply; star = star; sites = sites }

-- a world of this star and these sites
abbrev world_of : Windows → BoardStar → List BoardAttached → List (event.Happened Commands BoardBatch BoardEdits EditFault) → BoardWorld
world_of opening star sites trace = record { opening = opening; star = star; sites = sites; trace = trace }

all_same : (r : BoardReply) (s t : BoardStar) (xs ys : List BoardAttached) → t ≡ s → ys ≡ xs → answers r s xs ≡ answers r t ys
all_same r s t xs ys e f = λ i. record { reply = r; star = sym e i; sites = sym f i }

-- what is there
there : {A : Type 0} (o : Option A) → is_some o ≡ true → (x : A) × (o ≡ Some x)
there None is = absurd (cc)
there (Some x) is = (x, refl)

-- an event at a site that is attached
found_both : (w : BoardWorld) (i : ℕ) (f : BoardLink → BoardAttached → Outcome board_batches) (l : BoardLink) (a : BoardAttached) → link_of i w.star.links ≡ Some l → attached i w.sites ≡ Some a
    → at_linked board_batches w i f (link_of i w.star.links) ≡ f l a
found_both w i f l a fl fa = rw (fl, fa) refl

-- a site that receives the oldest message of its stream, or of its outbox
abbrev pub handed_as : List (Down BoardBatch) → List (Down BoardBatch) → BoardAttached → BoardAttached
handed_as [] [] b = b
handed_as [] (d ∷ os) b = one_handed board_batches d [] b
handed_as (d ∷ ds) os b = one_handed board_batches d ds b

-- # Joins and departures

pub plays_joined : (s t : BoardStar) (sites next : List BoardAttached) (number : ℕ) → join_fault s ≡ None → number ≡ s.given + 1 → t ≡ joined s
    → next ≡ sites ++ record { site = opened_site (s.given + 1) s.limit s.board; up = []; down = [] } ∷ [] → Plays event.Join s sites (Joined number) t next
plays_joined s t sites next number fault is e f opening trace =
    ap (join_outcome board_batches (world_of opening s sites trace)) fault ∙ (λ i. record { reply = Joined (sym is i); star = sym e i; sites = sym f i })

pub plays_no_join : (s t : BoardStar) (sites next : List BoardAttached) (fault : StarFault) → join_fault s ≡ Some fault → t ≡ s → next ≡ sites → Plays event.Join s sites (NoJoin fault) t next
plays_no_join s t sites next fault is e f opening trace =
    ap (join_outcome board_batches (world_of opening s sites trace)) is ∙ all_same _ s t sites next e f

-- what is not refused opens a site
pub site_opens : (r : Result Site OpenFault) (s : BoardStar) (j : JoinedSite) → fault_of r ≡ site_open_fault j.site j.limit (bare j.board) → bare_joined (Ok j) ≡ Ok (joining s)
    → join_fault s ≡ None → 1 ≤ s.limit → s.limit ≤ highest_limit → has_site (s.given + 1) s.board ≡ false → IsOk r
site_opens r s j is told fault low high named = ok r (is ∙ none)
  where
    ok : (x : Result Site OpenFault) → fault_of x ≡ None → IsOk x
    ok (Ok site) e = refl
    ok (Err e) f = absurd (cc)

    join : joining s ≡ record j { board = bare j.board }
    join = cc

    spent : (b c : Bool) → first_fault (test b Full ∷ test c SitesSpent ∷ []) ≡ None → c ≡ true
    spent true true e = refl
    spent true false e = absurd (cc)
    spent false c e = absurd (cc)

    few : s.given + 1 ≤ last_site
    few = let below = ltb-true s.given last_site (spent _ _ fault) in omega arith

    within : (first last n : ℕ) → first ≤ n → n ≤ last → (nat_le first n && nat_le n last) ≡ true
    within first last n above below = and_from (nat_le first n) (nat_le n last) (le-leb first n above) (le-leb n last below)

    opens : site_open_fault (s.given + 1) s.limit s.board ≡ None
    opens = rw (within 1 highest_limit s.limit low high, within 1 last_site (s.given + 1) (omega arith) few, named) refl

    none : site_open_fault j.site j.limit (bare j.board) ≡ None
    none = subst (λ (k : JoinedSite). site_open_fault k.site k.limit k.board ≡ None) join opens

-- and opens it as the world does
pub site_is : (s : BoardStar) (j : JoinedSite) → bare_joined (Ok j) ≡ Ok (joining s) → opened_site {Operation = BoardBatch} j.site j.limit (bare j.board) ≡ opened_site {Operation = BoardBatch} (s.given + 1) s.limit s.board
site_is s j told = let join : record j { board = bare j.board } ≡ joining s = cc in ap (λ (k : JoinedSite). opened_site {Operation = BoardBatch} k.site k.limit k.board) join

-- a site that has just joined
abbrev pub with_nothing : BoardSite → BoardAttached
with_nothing site = record { site = site; up = []; down = [] }

pub number_is : (s : BoardStar) (j : JoinedSite) → bare_joined (Ok j) ≡ Ok (joining s) → j.site ≡ s.given + 1
number_is s j told = let join : record j { board = bare j.board } ≡ joining s = cc in ap (λ (k : JoinedSite). k.site) join

pub plays_left : (s t : BoardStar) (sites next : List BoardAttached) (i : ℕ) → is_some (link_of i s.links) ≡ true → is_some (attached i sites) ≡ is_some (link_of i s.links)
    → t ≡ left i s → next ≡ without_site i sites → Plays (event.Leave i) s sites Left t next
plays_left s t sites next i linked alike e f opening trace =
    let l = there (link_of i s.links) linked in
    let a = there (attached i sites) (alike ∙ linked) in
    found_both (world_of opening s sites trace) i _ l.0 a.0 l.1 a.1 ∙ (λ j. record { reply = Left; star = sym e j; sites = sym f j })

pub plays_no_link : (s t : BoardStar) (sites next : List BoardAttached) (i : ℕ) → link_of i s.links ≡ None → t ≡ s → next ≡ sites → Plays (event.Leave i) s sites Nothing t next
plays_no_link s t sites next i none e f opening trace = rw none (all_same Nothing s t sites next e f)

-- # Edits and pings

-- a list of which one site is changed into itself
same_at : (i : ℕ) (r : Result BoardBatch EditFault) (fault : EditFault) → r ≡ Err fault → (sites : List BoardAttached) → at_site i (with_answer r) sites ≡ sites
same_at i r fault is sites = ap (λ (x : Result BoardBatch EditFault). at_site i (with_answer x) sites) is ∙ map_kept (λ a. a.site.number) i sites

edit_same : (w : BoardWorld) (i : ℕ) (r : Result BoardBatch EditFault) → edit_outcome board_batches w i r ≡ answers (edit_reply board_batches r) w.star (at_site i (with_answer r) w.sites)
edit_same w i (Ok op) = refl
edit_same w i (Err fault) = λ j. record { reply = edit_reply board_batches (Err fault); star = w.star; sites = sym (same_at i (Err fault) fault refl w.sites) j }

pub plays_edit : (s t : BoardStar) (sites next : List BoardAttached) (i : ℕ) (command : Commands) (reply : BoardReply) (l : BoardLink) (a : BoardAttached) → link_of i s.links ≡ Some l → attached i sites ≡ Some a
    → reply ≡ edit_reply board_batches (edit_answer board_batches command a.site) → t ≡ s → next ≡ at_site i (with_answer (edit_answer board_batches command a.site)) sites
    → Plays (event.Edit i command) s sites reply t next
plays_edit s t sites next i command reply l a fl fa is e f opening trace =
    found_both (world_of opening s sites trace) i _ l a fl fa
    ∙ edit_same (world_of opening s sites trace) i (edit_answer board_batches command a.site)
    ∙ (λ j. record { reply = sym is j; star = sym e j; sites = sym f j })

pub plays_ping : (s t : BoardStar) (sites next : List BoardAttached) (i k : ℕ) (l : BoardLink) (a : BoardAttached) → link_of i s.links ≡ Some l → attached i sites ≡ Some a
    → t ≡ s → next ≡ at_site i (pinged board_batches k) sites → Plays (event.Ping i k) s sites Asked t next
plays_ping s t sites next i k l a fl fa e f opening trace =
    found_both (world_of opening s sites trace) i _ l a fl fa ∙ (λ j. record { reply = Asked; star = sym e j; sites = sym f j })

-- # Messages up

up_there : (w : BoardWorld) (i : ℕ) (l : BoardLink) (a : BoardAttached) (ups : List (Up BoardBatch)) → link_of i w.star.links ≡ Some l → attached i w.sites ≡ Some a → a.up ≡ ups
    → at_linked board_batches w i (λ k b. first_up board_batches w i k b.up) (link_of i w.star.links) ≡ first_up board_batches w i l ups
up_there w i l a ups fl fa e = found_both w i _ l a fl fa ∙ ap (first_up board_batches w i l) e

pub plays_no_up : (s t : BoardStar) (sites next : List BoardAttached) (i : ℕ) (l : BoardLink) (a : BoardAttached) → link_of i s.links ≡ Some l → attached i sites ≡ Some a → a.up ≡ []
    → t ≡ s → next ≡ sites → Plays (event.Up i) s sites Nothing t next
plays_no_up s t sites next i l a fl fa empty e f opening trace = up_there (world_of opening s sites trace) i l a [] fl fa empty ∙ all_same Nothing s t sites next e f

pub plays_taken : (s t : BoardStar) (sites next : List BoardAttached) (i : ℕ) (l : BoardLink) (a : BoardAttached) (up : Up BoardBatch) (ups : List (Up BoardBatch)) (place : Option ℕ) → link_of i s.links ≡ Some l → attached i sites ≡ Some a
    → a.up ≡ up ∷ ups → (up_fault board_batches s l up ≡ None) × (place ≡ place_taken board_batches s up) × (t ≡ taken board_batches i up l s) → next ≡ at_site i (one_taken board_batches) sites
    → Plays (event.Up i) s sites (place_reply board_batches place) t next
plays_taken s t sites next i l a up ups place fl fa first call f opening trace =
    up_there (world_of opening s sites trace) i l a (up ∷ ups) fl fa first
    ∙ ap (up_outcome board_batches (world_of opening s sites trace) i l up) call.0
    ∙ (λ j. record { reply = place_reply board_batches (sym call.1 j); star = sym call.2 j; sites = sym f j })

pub plays_detached : (s t : BoardStar) (sites next : List BoardAttached) (i : ℕ) (l : BoardLink) (a : BoardAttached) (up : Up BoardBatch) (ups : List (Up BoardBatch)) (fault refusal : StarFault) → link_of i s.links ≡ Some l → attached i sites ≡ Some a
    → a.up ≡ up ∷ ups → (up_fault board_batches s l up ≡ Some fault) × (t ≡ left i s) → refusal ≡ fault → next ≡ without_site i sites
    → Plays (event.Up i) s sites (Detached refusal) t next
plays_detached s t sites next i l a up ups fault refusal fl fa first call same f opening trace =
    up_there (world_of opening s sites trace) i l a (up ∷ ups) fl fa first
    ∙ ap (up_outcome board_batches (world_of opening s sites trace) i l up) call.0
    ∙ (λ j. record { reply = Detached (sym same j); star = sym call.1 j; sites = sym f j })

-- # Messages down

-- nothing is fetched
fetched_none : (i : ℕ) (s : BoardStar) → fetched i 0 s ≡ s
fetched_none i s = ap (λ (ls : List BoardLink). record s { links = ls }) (map_kept (λ l. l.site) i s.links)

-- what a site receives, by what its stream and its outbox have
handed_down : (w : BoardWorld) (i : ℕ) (l : BoardLink) (a : BoardAttached) → a.site.number ≡ i → FirstFits (refilled l a)
    → first_down board_batches w i a a.down l.outbox
    ≡ answers (first_reply (refilled l a)) (refilled_star l a w.star) (at_site i (λ b. handed_as a.down l.outbox b) w.sites)
handed_down w i l a number fits = cases a.down l.outbox fits
  where
    cases : (ds os : List (Down BoardBatch)) → FitsFirst (refilled_from ds os) a.site
        → first_down board_batches w i a ds os ≡ answers (reply_to (refilled_from ds os)) (fetched_for a.site.number ds os w.star) (at_site i (λ b. handed_as ds os b) w.sites)
    cases [] [] fit = λ j. record { reply = Nothing; star = w.star; sites = sym (map_kept (λ b. b.site.number) i w.sites) j }
    cases [] (d ∷ os) fit = ap (down_outcome board_batches w i 1 d []) fit ∙ (λ j. record { reply = down_reply board_batches d; star = fetched (sym number j) 1 w.star; sites = at_site i (one_handed board_batches d []) w.sites })
    cases (d ∷ ds) os fit = ap (down_outcome board_batches w i 0 d ds) fit ∙ (λ j. record { reply = down_reply board_batches d; star = fetched_none i w.star j; sites = at_site i (one_handed board_batches d ds) w.sites })

pub plays_down : (s t : BoardStar) (sites next : List BoardAttached) (i : ℕ) (reply : BoardReply) (l : BoardLink) (a : BoardAttached) → link_of i s.links ≡ Some l → attached i sites ≡ Some a → a.site.number ≡ i
    → FirstFits (refilled l a) → reply ≡ first_reply (refilled l a) → t ≡ refilled_star l a s → next ≡ at_site i (λ b. handed_as a.down l.outbox b) sites → Plays (event.Down i) s sites reply t next
plays_down s t sites next i reply l a fl fa number fits is e f opening trace =
    found_both (world_of opening s sites trace) i _ l a fl fa
    ∙ handed_down (world_of opening s sites trace) i l a number fits
    ∙ (λ j. record { reply = sym is j; star = sym e j; sites = sym f j })

-- the site that received it
pub handed_site : (l : BoardLink) (a : BoardAttached) → handed (refilled l a) ≡ handed_as a.down l.outbox a
handed_site l a = cases a.down l.outbox refl
  where
    cases : (ds os : List (Down BoardBatch)) → a.down ≡ ds → handed_first (refilled_from ds os) (record a { down = refilled_from ds os }) ≡ handed_as ds os a
    cases [] [] e = λ i. record { site = a.site; up = a.up; down = sym e i }
    cases [] (d ∷ os) e = refl
    cases (d ∷ ds) os e = refl

-- What the program does at an attached site is what the world's definitions say.

-- a site that is found has its number
found_number : (i : ℕ) (a : BoardAttached) (sites : List BoardAttached) → attached i sites ≡ Some a → a.site.number ≡ i
found_number i a [] found = absurd (cc)
found_number i a (x ∷ later) found = step (is_number i x) refl (found_number i a later) found
  where
    step : (b : Bool) → is_number i x ≡ b → (attached i later ≡ Some a → a.site.number ≡ i) → cond b (Some x) (attached i later) ≡ Some a → a.site.number ≡ i
    step true e rest h = let same : x ≡ a = cc in subst (λ (y : BoardAttached). y.site.number ≡ i) same (eqb-true _ _ e)
    step false e rest h = rest h

module _ (s : BoardStar) (sites : List Attached) (ready : AreReady s (map bare_attached sites)) (i at : ℕ) (e : Attached)
    (place : IsSiteAt i (map bare_attached sites) at) (value : e ≡ get_or sites at e) where
  -- the site, its link, and its number
  pub found : attached i (map bare_attached sites) ≡ Some (bare_attached e)
  found = found_at i sites at e place ∙ ap (λ (a : Attached). Some (bare_attached a)) (sym value)

  pub linked : is_some (link_of i s.links) ≡ true
  linked = sym (ready.linked i) ∙ ap is_some found

  pub number : e.site.number ≡ i
  number = found_number i (bare_attached e) (map bare_attached sites) found

  pub linked_there : is_some (link_of e.site.number s.links) ≡ true
  linked_there = ap (λ n. is_some (link_of n s.links)) number ∙ linked

  -- the site is changed, or stays as it was
  pub changed : (f : BoardAttached → BoardAttached) (new : Attached) → bare_attached new ≡ f (bare_attached e) → map bare_attached (set sites at new) ≡ at_site i f (map bare_attached sites)
  changed f new made = set_at_site f i 0 s.given sites at e new ready.numbered.ascending place (made ∙ ap (λ (a : Attached). f (bare_attached a)) value)

  pub unchanged : (new : Attached) → bare_attached new ≡ bare_attached e → map bare_attached (set sites at new) ≡ map bare_attached sites
  unchanged new made = same_set sites at e new (made ∙ ap bare_attached value)

  -- an edit
  pub edit_plays : (command : Commands) (r : Result (Reply BoardEdits EditFault) NoMemory) (new : Attached)
      → IfOk r (λ reply. reply ≡ edit_reply board_batches (edit_answer board_batches command e.site))
      → OnOk r (bare_attached new ≡ with_answer (edit_answer board_batches command e.site) (bare_attached e))
      → IfOk r (λ reply. Plays (event.Edit i command) s (map bare_attached sites) reply s (map bare_attached (set sites at new)))
  edit_plays command (Ok reply) new is made =
      let l = world_answers.some_link (link_of i s.links) linked in
      plays_edit s s (map bare_attached sites) _ i command reply l.0 (bare_attached e) l.1 found is refl (changed (with_answer (edit_answer board_batches command e.site)) new made)
  edit_plays command (Err fault) new is made = tt

  pub stays : (r : Result (Reply BoardEdits EditFault) NoMemory) (new : Attached) → OnErr r (bare_attached new ≡ bare_attached e) → OnErr r (map bare_attached (set sites at new) ≡ map bare_attached sites)
  stays (Ok reply) new same = tt
  stays (Err fault) new same = unchanged new same

  -- a ping
  pub ping_plays : (k : ℕ) (new : Attached) → bare_attached new ≡ pinged board_batches k (bare_attached e) → Plays (event.Ping i k) s (map bare_attached sites) Asked s (map bare_attached (set sites at new))
  ping_plays k new made =
      let l = world_answers.some_link (link_of i s.links) linked in
      plays_ping s s (map bare_attached sites) _ i k l.0 (bare_attached e) l.1 found refl (changed (pinged board_batches k) new made)

  -- messages up
  pub up_plays : (t : BoardStar) (reply : Reply BoardEdits EditFault) (new : Attached) → Rises e.site.number (messages ups e.up.way) s t reply → bare_attached new ≡ one_taken board_batches (bare_attached e)
      → Plays (event.Up i) s (map bare_attached sites) reply t (map bare_attached (set sites at new))
  up_plays t reply new rises made = cases (messages ups e.up.way) refl (subst (λ n. Rises n (messages ups e.up.way) s t reply) number rises)
    where
      l : (k : BoardLink) × (link_of i s.links ≡ Some k)
      l = world_answers.some_link (link_of i s.links) linked

      none_taken : (messages ups e.up.way) ≡ [] → one_taken board_batches (bare_attached e) ≡ bare_attached e
      none_taken empty = λ j. record { site = e.site; up = (ap (drop 1) empty ∙ sym empty) j; down = (messages downs e.down.way) }

      cases : (us : List (Up BoardBatch)) → (messages ups e.up.way) ≡ us → Rises i us s t reply → Plays (event.Up i) s (map bare_attached sites) reply t (map bare_attached (set sites at new))
      cases [] empty told =
          subst (λ r. Plays (event.Up i) s (map bare_attached sites) r t (map bare_attached (set sites at new))) (sym told.0)
          (plays_no_up s t (map bare_attached sites) _ i l.0 (bare_attached e) l.1 found empty told.1 (unchanged new (made ∙ none_taken empty)))
      cases (up ∷ ups) first told =
          subst (λ r. Plays (event.Up i) s (map bare_attached sites) r t (map bare_attached (set sites at new))) (sym told.1)
          (plays_taken s t (map bare_attached sites) _ i l.0 (bare_attached e) up ups told.0 l.1 found first (world_answers.take_taken i up s t l.0 told.0 l.1 told.2) (changed (one_taken board_batches) new made))

  pub refused_plays : (t : BoardStar) (fault refusal : StarFault) (new : Attached) (next : List BoardAttached) → IsRefused e.site.number (messages ups e.up.way) s t fault → is_no_memory fault ≡ false → refusal ≡ fault
      → bare_attached new ≡ bare_attached e → next ≡ without_site i (map bare_attached (set sites at new)) → Plays (event.Up i) s (map bare_attached sites) (Detached refusal) t next
  refused_plays t fault refusal new next refused other same made gone = cases (messages ups e.up.way) refl (subst (λ n. IsRefused n (messages ups e.up.way) s t fault) number refused)
    where
      l : (k : BoardLink) × (link_of i s.links ≡ Some k)
      l = world_answers.some_link (link_of i s.links) linked

      cases : (us : List (Up BoardBatch)) → (messages ups e.up.way) ≡ us → IsRefused i us s t fault → Plays (event.Up i) s (map bare_attached sites) (Detached refusal) t next
      cases [] empty told = absurd told
      cases (up ∷ ups) first told =
          plays_detached s t (map bare_attached sites) next i l.0 (bare_attached e) up ups fault refusal l.1 found first (world_answers.take_refused i up s t l.0 fault other l.1 told) same (gone ∙ ap (without_site i) (unchanged new made))

  -- an allocation failed
  pub refused_same : (t : BoardStar) (fault : StarFault) → IsRefused e.site.number (messages ups e.up.way) s t fault → is_no_memory fault ≡ true → t ≡ s
  refused_same t fault refused memory = cases (messages ups e.up.way) refused
    where
      cases : (us : List (Up BoardBatch)) → IsRefused e.site.number us s t fault → t ≡ s
      cases [] told = absurd told
      cases (up ∷ more) told = world_answers.take_wanted e.site.number up s t fault memory told

  -- messages down: the oldest is one that the site takes
  pub oldest_fits : (l : BoardLink) → link_of e.site.number s.links ≡ Some l → FirstFits (refilled l (bare_attached e))
  oldest_fits l there = cases (messages downs e.down.way) l.outbox refl refl
    where
      link : link_of i s.links ≡ Some l
      link = ap (λ n. link_of n s.links) (sym number) ∙ there

      cases : (ds os : List (Down BoardBatch)) → (messages downs e.down.way) ≡ ds → l.outbox ≡ os → FitsFirst (refilled_from ds os) e.site
      cases [] [] p q = tt
      cases [] (d ∷ os) p q = ready.fits i l (bare_attached e) d os link found (ap (λ (ds : List (Down BoardBatch)). ds ++ l.outbox) p ∙ q)
      cases (d ∷ ds) os p q = ready.fits i l (bare_attached e) d (ds ++ l.outbox) link found (ap (λ (xs : List (Down BoardBatch)). xs ++ l.outbox) p)

  pub down_plays : (t : BoardStar) (r : Result (Reply BoardEdits EditFault) NoMemory) (new : Attached)
      → IfOk r (λ reply. (l : BoardLink) → link_of e.site.number s.links ≡ Some l → reply ≡ first_reply (refilled l (bare_attached e)))
      → OnOk r ((l : BoardLink) → link_of e.site.number s.links ≡ Some l → bare_attached new ≡ handed (refilled l (bare_attached e)))
      → OnOk r ((l : BoardLink) → link_of e.site.number s.links ≡ Some l → t ≡ refilled_star l (bare_attached e) s)
      → IfOk r (λ reply. Plays (event.Down i) s (map bare_attached sites) reply t (map bare_attached (set sites at new)))
  down_plays t (Ok reply) new is site star =
      let l = world_answers.some_link (link_of e.site.number s.links) linked_there in
      let link : link_of i s.links ≡ Some l.0 = ap (λ n. link_of n s.links) (sym number) ∙ l.1 in
      plays_down s t (map bare_attached sites) _ i reply l.0 (bare_attached e) link found number (oldest_fits l.0 l.1) (is l.0 l.1) (star l.0 l.1)
      (changed (λ b. handed_as (messages downs e.down.way) l.0.outbox b) new (site l.0 l.1 ∙ handed_site l.0 (bare_attached e)))
  down_plays t (Err fault) new is site star = tt

  pub down_spared : (t : BoardStar) (r : Result (Reply BoardEdits EditFault) NoMemory) (new : Attached) (l : BoardLink) → link_of i s.links ≡ Some l
      → OnErr r ((k : BoardLink) → link_of e.site.number s.links ≡ Some k → SparesAt k (bare_attached e) s (bare_attached new) t)
      → OnErr r (Spares i l s (map bare_attached sites) t (map bare_attached (set sites at new)))
  down_spared t (Ok reply) new l link spared = tt
  down_spared t (Err fault) new l link spared = choose (spared l there)
    where
      there : link_of e.site.number s.links ≡ Some l
      there = ap (λ n. link_of n s.links) number ∙ link

      ds : List (Down BoardBatch)
      ds = messages downs e.down.way

      same_star : ds ≡ [] → l.outbox ≡ [] → refilled_star l (bare_attached e) s ≡ s
      same_star p q = λ j. fetched_for e.site.number (p j) (q j) s

      same_down : ds ≡ [] → l.outbox ≡ [] → refilled_from ds l.outbox ≡ ds
      same_down p q = (λ j. refilled_from (p j) (q j)) ∙ sym p

      taken_down : ds ≡ [] → refilled_from ds l.outbox ≡ ds ++ take 1 l.outbox
      taken_down p = ap (λ (xs : List (Down BoardBatch)). refilled_from xs l.outbox) p ∙ ap (λ (xs : List (Down BoardBatch)). xs ++ take 1 l.outbox) (sym p)

      -- either nothing could be fetched, or a message was
      fetched_too : (xs os : List (Down BoardBatch)) → ds ≡ xs → l.outbox ≡ os → bare_attached new ≡ refilled l (bare_attached e) → t ≡ refilled_star l (bare_attached e) s
          → Spares i l s (map bare_attached sites) t (map bare_attached (set sites at new))
      fetched_too [] [] p q site star =
          inl (star ∙ same_star p q, unchanged new (site ∙ (λ j. record { site = e.site; up = messages ups e.up.way; down = same_down p q j })))
      fetched_too [] (d ∷ os) p q site star =
          inr (
            star ∙ (λ j. fetched_for e.site.number (p j) (q j) s) ∙ ap (λ n. fetched n 1 s) number,
            changed (with_fetched board_batches 1 l) new (site ∙ (λ j. record { site = e.site; up = messages ups e.up.way; down = taken_down p j })),
          )
      fetched_too (d ∷ xs) os p q site star =
          inl (star ∙ (λ j. fetched_for e.site.number (p j) l.outbox s), unchanged new (site ∙ (λ j. record { site = e.site; up = messages ups e.up.way; down = (ap (λ (xs : List (Down BoardBatch)). refilled_from xs l.outbox) p ∙ sym p) j })))

      choose : SparesAt l (bare_attached e) s (bare_attached new) t → Spares i l s (map bare_attached sites) t (map bare_attached (set sites at new))
      choose (inl same) = inl (same.1, unchanged new same.0)
      choose (inr more) = fetched_too ds l.outbox refl refl more.0 more.1
