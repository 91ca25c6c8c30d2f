-- Lists of links, and a change of one.
use Rattle.std.proofs.Common.{◌≡◌, refl, sym, ◌∙◌, ap, subst, ℕ, zero, suc, ◌+◌, ◌-◌, ◌<◌, ◌≤◌, Bool, true, false, cond, not, List, [], ◌∷◌, length, map, get_or, nat_eq, Some, None, arith, eqb-true, ◌++◌, filter, find, Option, option_map, take, drop, nat_lt, position, MatchOption, ne_eqb}
use Rattle.std.proofs.Math.ListN.{set}
use Rattle.std.proofs.lemmas.List.{length-drop, length-append}
use Rattle.std.proofs.Math.Seq.{map-set_same}
use Rattle.std.proofs.lemmas.Bool.{ltb-true, lt-ltb, eqb-false, eq-eqb}
use Rattle.std.specs.List.{position_or_len}
use Rattle.jup_star.specs.Prelude.{most_operations, past, opposite, Msg, EndLink, generated, IsCount, owes, unheard, BoardBatch, boards, board_batches, insertions_few, Shape}
use Rattle.jup_xform.specs.Laws.Grids.{length-row_entries}
use Rattle.jup_link.specs.Links.{after_ack}
use Rattle.jup_star.specs.declared.link.Link.{Link}
use Rattle.jup_star.specs.Stars.{is_of, link_sent, link_heard, end_after, link_of, without, at_link, IsNew, AreApart, IsBounded, AreBounded, BoardLink, IsPlace, bare_link, HasRoom, AllHaveRoom, OthersHaveRoom, AllCount}

-- What a change of one link, or of all, does to the list of links.

pub found_new : (i : ℕ) (ls : List BoardLink) → IsNew i ls → link_of i ls ≡ None
found_new i [] new = refl
found_new i (l ∷ ls) new = rw new.0 (found_new i ls new.1)

pub found_at : (i : ℕ) (ls : List BoardLink) (at : ℕ) (d : BoardLink) → IsPlace i ls at → link_of i ls ≡ Some (get_or ls at d)
found_at i [] at d place = absurd place
found_at i (l ∷ ls) zero d place = rw place refl
found_at i (l ∷ ls) (suc at) d place = rw place.0 (found_at i ls at d place.1)

pub found_some : (i : ℕ) (ls : List BoardLink) (at : ℕ) → IsPlace i ls at → (l : BoardLink) × (link_of i ls ≡ Some l)
found_some i [] at place = absurd place
found_some i (l ∷ ls) zero place = (l, rw place refl)
found_some i (l ∷ ls) (suc at) place = let rest = found_some i ls at place.1 in (rest.0, rw place.0 rest.1)

pub below_at : (i : ℕ) (ls : List BoardLink) (at : ℕ) → IsPlace i ls at → at < length ls
below_at i [] at place = absurd place
below_at i (l ∷ ls) zero place = omega arith
below_at i (l ∷ ls) (suc at) place = omega (arith, below_at i ls at place.1)

pub of_at : (i : ℕ) (ls : List BoardLink) (at : ℕ) (d : BoardLink) → IsPlace i ls at → is_of i (get_or ls at d) ≡ true
of_at i [] at d place = absurd place
of_at i (l ∷ ls) zero d place = place
of_at i (l ∷ ls) (suc at) d place = of_at i ls at d place.1

map_new : (f g : BoardLink → BoardLink) (i : ℕ) (ls : List BoardLink) → IsNew i ls → map (λ k. cond (is_of i k) (f k) (g k)) ls ≡ map g ls
map_new f g i [] new = refl
map_new f g i (l ∷ ls) new = rw new.0 (ap (λ (xs : List BoardLink). g l ∷ xs) (map_new f g i ls new.1))

map_self : (ls : List BoardLink) → map (λ k. k) ls ≡ ls
map_self [] = refl
map_self (l ∷ ls) = ap (λ (xs : List BoardLink). l ∷ xs) (map_self ls)

new_of : (i : ℕ) (l : BoardLink) (ls : List BoardLink) → is_of i l ≡ true → IsNew l.site ls → IsNew i ls
new_of i l ls e new = let P : ℕ → Type 0 = λ j. IsNew j ls in subst P (eqb-true _ _ e) new

-- one link is changed by f, and then all others by g
pub set_place : (f g : BoardLink → BoardLink) (i : ℕ) (ls : List BoardLink) (at : ℕ) (d new : BoardLink) → AreApart ls → IsPlace i ls at
    → new ≡ f (get_or ls at d) → is_of i new ≡ true
    → map (λ k. cond (is_of i k) k (g k)) (set ls at new) ≡ map (λ k. cond (is_of i k) (f k) (g k)) ls
set_place f g i [] at d new apart place made of = absurd place
set_place f g i (l ∷ ls) zero d new apart place made of =
    let same = map_new (λ k. k) g i ls (new_of i l ls place apart.0) ∙ sym (map_new f g i ls (new_of i l ls place apart.0)) in
    rw (of, place) (ap (λ (x : BoardLink). x ∷ map (λ k. cond (is_of i k) k (g k)) ls) made ∙ ap (λ (xs : List BoardLink). f l ∷ xs) same)
set_place f g i (l ∷ ls) (suc at) d new apart place made of = rw place.0 (ap (λ (xs : List BoardLink). g l ∷ xs) (set_place f g i ls at d new apart.1 place.1 made of))

pub set_at_link : (f : BoardLink → BoardLink) (i : ℕ) (ls : List BoardLink) (at : ℕ) (d new : BoardLink) → AreApart ls → IsPlace i ls at
    → new ≡ f (get_or ls at d) → set ls at new ≡ at_link i f ls
set_at_link f i [] at d new apart place made = absurd place
set_at_link f i (l ∷ ls) zero d new apart place made =
    rw place (ap (λ (x : BoardLink). x ∷ ls) made ∙ ap (λ (xs : List BoardLink). f l ∷ xs) (sym (map_new f (λ k. k) i ls (new_of i l ls place apart.0) ∙ map_self ls)))
set_at_link f i (l ∷ ls) (suc at) d new apart place made = rw place.0 (ap (λ (xs : List BoardLink). l ∷ xs) (set_at_link f i ls at d new apart.1 place.1 made))

pub without_set : (i : ℕ) (ls : List BoardLink) (at : ℕ) (new : BoardLink) → IsPlace i ls at → is_of i new ≡ true → without i (set ls at new) ≡ without i ls
without_set i [] at new place of = absurd place
without_set i (l ∷ ls) zero new place of = rw (of, place) refl
without_set i (l ∷ ls) (suc at) new place of = rw place.0 (ap (λ (xs : List BoardLink). l ∷ xs) (without_set i ls at new place.1 of))

-- sites differ
new_map : (f : BoardLink → BoardLink) → ((k : BoardLink) → (f k).site ≡ k.site) → (j : ℕ) (ls : List BoardLink) → IsNew j ls → IsNew j (map f ls)
new_map f same j [] new = tt
new_map f same j (l ∷ ls) new = (ap (λ (n : ℕ). nat_eq n j) (same l) ∙ new.0, new_map f same j ls new.1)

pub apart_map : (f : BoardLink → BoardLink) → ((k : BoardLink) → (f k).site ≡ k.site) → (ls : List BoardLink) → AreApart ls → AreApart (map f ls)
apart_map f same [] apart = tt
apart_map f same (l ∷ ls) apart =
    let P : ℕ → Type 0 = λ j. IsNew j (map f ls) in
    (subst P (sym (same l)) (new_map f same l.site ls apart.0), apart_map f same ls apart.1)

new_kept : (j : ℕ) (l : BoardLink) (ls : List BoardLink) (b : Bool) → is_of j l ≡ false → IsNew j ls → IsNew j (cond (not b) (l ∷ ls) ls)
new_kept j l ls true other new = new
new_kept j l ls false other new = (other, new)

new_without : (i j : ℕ) (ls : List BoardLink) → IsNew j ls → IsNew j (without i ls)
new_without i j [] new = tt
new_without i j (l ∷ ls) new = new_kept j l (without i ls) (is_of i l) new.0 (new_without i j ls new.1)

apart_kept : (l : BoardLink) (ls : List BoardLink) (b : Bool) → IsNew l.site ls → AreApart ls → AreApart (cond (not b) (l ∷ ls) ls)
apart_kept l ls true new apart = apart
apart_kept l ls false new apart = (new, apart)

pub apart_without : (i : ℕ) (ls : List BoardLink) → AreApart ls → AreApart (without i ls)
apart_without i [] apart = tt
apart_without i (l ∷ ls) apart = apart_kept l (without i ls) (is_of i l) (new_without i l.site ls apart.0) (apart_without i ls apart.1)

new_set : (ls : List BoardLink) (at : ℕ) (d new : BoardLink) (j : ℕ) → at < length ls → new.site ≡ (get_or ls at d).site → IsNew j ls → IsNew j (set ls at new)
new_set [] at d new j below same fresh = tt
new_set (l ∷ ls) zero d new j below same fresh = (ap (λ (n : ℕ). nat_eq n j) same ∙ fresh.0, fresh.1)
new_set (l ∷ ls) (suc at) d new j below same fresh = (fresh.0, new_set ls at d new j (omega arith) same fresh.1)

pub apart_set : (ls : List BoardLink) (at : ℕ) (d new : BoardLink) → at < length ls → new.site ≡ (get_or ls at d).site → AreApart ls → AreApart (set ls at new)
apart_set [] at d new below same apart = tt
apart_set (l ∷ ls) zero d new below same apart = let P : ℕ → Type 0 = λ j. IsNew j ls in (subst P (sym same) apart.0, apart.1)
apart_set (l ∷ ls) (suc at) d new below same apart = (new_set ls at d new l.site (omega arith) same apart.0, apart_set ls at d new (omega arith) same apart.1)

-- bounds
pub bounded_map : (f : BoardLink → BoardLink) (a n b m : ℕ) → ((k : BoardLink) → IsBounded a n k → IsBounded b m (f k)) → (ls : List BoardLink) → AreBounded a n ls → AreBounded b m (map f ls)
bounded_map f a n b m each [] all = tt
bounded_map f a n b m each (l ∷ ls) all = (each l all.0, bounded_map f a n b m each ls all.1)

bounded_kept : (a n : ℕ) (l : BoardLink) (ls : List BoardLink) (b : Bool) → IsBounded a n l → AreBounded a n ls → AreBounded a n (cond (not b) (l ∷ ls) ls)
bounded_kept a n l ls true one all = all
bounded_kept a n l ls false one all = (one, all)

pub bounded_without : (i a n : ℕ) (ls : List BoardLink) → AreBounded a n ls → AreBounded a n (without i ls)
bounded_without i a n [] all = tt
bounded_without i a n (l ∷ ls) all = bounded_kept a n l (without i ls) (is_of i l) all.0 (bounded_without i a n ls all.1)

pub bounded_set : (a n : ℕ) (ls : List BoardLink) (at : ℕ) (new : BoardLink) → IsBounded a n new → AreBounded a n ls → AreBounded a n (set ls at new)
bounded_set a n [] at new one all = tt
bounded_set a n (l ∷ ls) zero new one all = (one, all.1)
bounded_set a n (l ∷ ls) (suc at) new one all = (all.0, bounded_set a n ls at new one all.1)

pub bounded_at : (a n : ℕ) (ls : List BoardLink) (at : ℕ) (d : BoardLink) → at < length ls → AreBounded a n ls → IsBounded a n (get_or ls at d)
bounded_at a n [] at d below all = absurd (omega arith)
bounded_at a n (l ∷ ls) zero d below all = all.0
bounded_at a n (l ∷ ls) (suc at) d below all = bounded_at a n ls at d (omega arith) all.1

length_kept : (l : BoardLink) (ls : List BoardLink) (n : ℕ) (b : Bool) → length ls ≤ n → length (cond (not b) (l ∷ ls) ls) ≤ suc n
length_kept l ls n true short = omega arith
length_kept l ls n false short = omega arith

pub length_without : (i : ℕ) (ls : List BoardLink) → length (without i ls) ≤ length ls
length_without i [] = omega arith
length_without i (l ∷ ls) = length_kept l (without i ls) (length ls) (is_of i l) (length_without i ls)

pub paid_generated : (e : EndLink BoardBatch) (b : Bool) → generated (cond b (after_ack e) e) ≡ generated e
paid_generated e true = refl
paid_generated e false = refl

pub received_generated : (e : EndLink BoardBatch) (m : Msg BoardBatch) → IsCount e m.heard → generated (end_after board_batches e m) ≤ generated e
received_generated e m count =
    let low = count.low in let high = count.high in
    omega (arith, length-row_entries (past boards (opposite e.side)) (past boards e.side) m.op (unheard e m.heard), length-drop (m.heard - e.acknowledged) e.outgoing)

pub heard_bounded : (a n : ℕ) (m : Msg BoardBatch) (l : BoardLink) → IsCount l.end m.heard → length m.op ≤ most_operations → IsBounded a n l → IsBounded a (n + 1) (link_heard board_batches m l)
heard_bounded a n m l count few bounded = record {
  given = bounded.given;
  sent = let sum = paid_generated (end_after board_batches l.end m) (owes (end_after board_batches l.end m).unanswered) in let less = received_generated l.end m count in let sent = bounded.sent in omega arith;
  insertions = let each = insertions_few m.op in let before = bounded.insertions in omega arith;
}

pub more_bounded : (a n : ℕ) (l : BoardLink) → IsBounded a n l → IsBounded a (n + 1) l
more_bounded a n l bounded = record { given = bounded.given; sent = let h = bounded.sent in omega arith; insertions = let h = bounded.insertions in omega arith }

cond_bounded : (a n : ℕ) (k l : BoardLink) (b : Bool) → IsBounded a n k → IsBounded a n l → IsBounded a n (cond b k l)
cond_bounded a n k l true one two = one
cond_bounded a n k l false one two = two

sent_bounded : (a n : ℕ) (op : BoardBatch) (l : BoardLink) → IsBounded a n l → IsBounded a (n + 1) (link_sent op l)
sent_bounded a n op l bounded = record { given = bounded.given; sent = let h = bounded.sent in simp length-append (omega arith); insertions = let h = bounded.insertions in omega arith }

each_bounded : (i a n : ℕ) (op : BoardBatch) (k : BoardLink) → IsBounded a n k → IsBounded a (n + 1) (cond (is_of i k) k (link_sent op k))
each_bounded i a n op k bounded = cond_bounded a (n + 1) k (link_sent op k) (is_of i k) (more_bounded a n k bounded) (sent_bounded a n op k bounded)

pub send_bounded : (i a n : ℕ) (op : BoardBatch) (ls : List BoardLink) (at : ℕ) (new : BoardLink) → IsPlace i ls at → is_of i new ≡ true
    → IsBounded a (n + 1) new → AreBounded a n ls → AreBounded a (n + 1) (map (λ k. cond (is_of i k) k (link_sent op k)) (set ls at new))
send_bounded i a n op [] at new place of one all = absurd place
send_bounded i a n op (l ∷ ls) zero new place of one all = (rw of one, bounded_map (λ k. cond (is_of i k) k (link_sent op k)) a n a (n + 1) (each_bounded i a n op) ls all.1)
send_bounded i a n op (l ∷ ls) (suc at) new place of one all = (each_bounded i a n op l all.0, send_bounded i a n op ls at new place.1 of one all.1)

pub cond_site : (k l : BoardLink) (b : Bool) → k.site ≡ l.site → (cond b k l).site ≡ l.site
cond_site k l true same = same
cond_site k l false same = refl

-- Look-ups by number, after a change of a list.

-- found first, before the change and after it
both_here : {A : Type 0} (f : A → A) → (x y : A) (r q : Option A) (c d : Bool) → c ≡ true → d ≡ true → y ≡ f x → cond c (Some y) r ≡ option_map f (cond d (Some x) q)
both_here f x y r q true true e g h = ap Some h
both_here f x y r q false d e g h = absurd (cc)
both_here f x y r q true false e g h = absurd (cc)

-- found later
both_later : {A : Type 0} (f : A → A) → (x y : A) (r q : Option A) (c d : Bool) → c ≡ false → d ≡ false → r ≡ option_map f q → cond c (Some y) r ≡ option_map f (cond d (Some x) q)
both_later f x y r q false false e g h = h
both_later f x y r q true d e g h = absurd (cc)
both_later f x y r q false true e g h = absurd (cc)

module _ {A : Type 0} (key : A → ℕ) where
  -- the first element of a number
  abbrev pub found : ℕ → List A → Option A
  found i xs = find (λ x. nat_eq (key x) i) xs

  -- elements changed by their key, which they keep: the one of this key, and another
  pub found-map : (i : ℕ) (f g : A → A) → ((x : A) → key (f x) ≡ key x) → ((x : A) → key (g x) ≡ key x) → (xs : List A)
      → found i (map (λ x. cond (nat_eq (key x) i) (f x) (g x)) xs) ≡ option_map f (found i xs)
  found-map i f g kf kg [] = refl
  found-map i f g kf kg (x ∷ xs) = step (nat_eq (key x) i) refl (found-map i f g kf kg xs)
    where
      step : (b : Bool) → nat_eq (key x) i ≡ b → found i (map (λ y. cond (nat_eq (key y) i) (f y) (g y)) xs) ≡ option_map f (found i xs)
          → cond (nat_eq (key (cond b (f x) (g x))) i) (Some (cond b (f x) (g x))) (found i (map (λ y. cond (nat_eq (key y) i) (f y) (g y)) xs))
          ≡ option_map f (cond (nat_eq (key x) i) (Some x) (found i xs))
      step true e ih = both_here f x (f x) _ _ (nat_eq (key (f x)) i) (nat_eq (key x) i) (ap (λ k. nat_eq k i) (kf x) ∙ e) e refl
      step false e ih = both_later f x (g x) _ _ (nat_eq (key (g x)) i) (nat_eq (key x) i) (ap (λ k. nat_eq k i) (kg x) ∙ e) e ih

  -- if another number is changed
  pub found-map_other : (i j : ℕ) (f g : A → A) → ((x : A) → key (f x) ≡ key x) → ((x : A) → key (g x) ≡ key x) → (xs : List A) → nat_eq i j ≡ false
      → found j (map (λ x. cond (nat_eq (key x) i) (f x) (g x)) xs) ≡ option_map g (found j xs)
  found-map_other i j f g kf kg [] e = refl
  found-map_other i j f g kf kg (x ∷ xs) e = step (nat_eq (key x) i) refl (nat_eq (key x) j) refl (found-map_other i j f g kf kg xs e)
    where
      step : (b : Bool) → nat_eq (key x) i ≡ b → (d : Bool) → nat_eq (key x) j ≡ d → found j (map (λ y. cond (nat_eq (key y) i) (f y) (g y)) xs) ≡ option_map g (found j xs)
          → cond (nat_eq (key (cond b (f x) (g x))) j) (Some (cond b (f x) (g x))) (found j (map (λ y. cond (nat_eq (key y) i) (f y) (g y)) xs))
          ≡ option_map g (cond (nat_eq (key x) j) (Some x) (found j xs))
      step true h d k ih =
          let apart : nat_eq (key x) j ≡ false = ap (λ m. nat_eq m j) (eqb-true (key x) i h) ∙ e in
          both_later g x (f x) _ _ (nat_eq (key (f x)) j) (nat_eq (key x) j) (ap (λ m. nat_eq m j) (kf x) ∙ apart) apart ih
      step false h true k ih = both_here g x (g x) _ _ (nat_eq (key (g x)) j) (nat_eq (key x) j) (ap (λ m. nat_eq m j) (kg x) ∙ k) k refl
      step false h false k ih = both_later g x (g x) _ _ (nat_eq (key (g x)) j) (nat_eq (key x) j) (ap (λ m. nat_eq m j) (kg x) ∙ k) k ih

  -- if the number is taken away
  pub found-without : (i : ℕ) (xs : List A) → found i (filter (λ x. not (nat_eq (key x) i)) xs) ≡ None
  found-without i [] = refl
  found-without i (x ∷ xs) = step (nat_eq (key x) i) refl (found-without i xs)
    where
      later : (b : Bool) (q : Option A) → b ≡ false → q ≡ None → cond b (Some x) q ≡ None
      later false q e h = h
      later true q e h = absurd (cc)

      step : (b : Bool) → nat_eq (key x) i ≡ b → found i (filter (λ y. not (nat_eq (key y) i)) xs) ≡ None → found i (cond (not b) (x ∷ filter (λ y. not (nat_eq (key y) i)) xs) (filter (λ y. not (nat_eq (key y) i)) xs)) ≡ None
      step true e ih = ih
      step false e ih = later (nat_eq (key x) i) _ e ih

  -- if another is
  pub found-without_other : (i j : ℕ) (xs : List A) → nat_eq i j ≡ false → found j (filter (λ x. not (nat_eq (key x) i)) xs) ≡ found j xs
  found-without_other i j [] e = refl
  found-without_other i j (x ∷ xs) e = step (nat_eq (key x) i) refl (found-without_other i j xs e)
    where
      later : (b : Bool) (q r : Option A) → b ≡ false → q ≡ r → q ≡ cond b (Some x) r
      later false q r f h = h
      later true q r f h = absurd (cc)

      step : (b : Bool) → nat_eq (key x) i ≡ b → found j (filter (λ y. not (nat_eq (key y) i)) xs) ≡ found j xs
          → found j (cond (not b) (x ∷ filter (λ y. not (nat_eq (key y) i)) xs) (filter (λ y. not (nat_eq (key y) i)) xs)) ≡ cond (nat_eq (key x) j) (Some x) (found j xs)
      step true h ih = later (nat_eq (key x) j) _ _ (ap (λ m. nat_eq m j) (eqb-true (key x) i h) ∙ e) ih
      step false h ih = ap (λ r. cond (nat_eq (key x) j) (Some x) r) ih

  -- an element at the end
  pub found-end : (i : ℕ) (xs : List A) (x : A) → found i xs ≡ None → nat_eq (key x) i ≡ true → found i (xs ++ x ∷ []) ≡ Some x
  found-end i [] x h e = here (nat_eq (key x) i) e
    where
      here : (b : Bool) → b ≡ true → cond b (Some x) None ≡ Some x
      here true e = refl
      here false e = absurd (cc)
  found-end i (y ∷ ys) x h e = step (nat_eq (key y) i) h (λ k. found-end i ys x k e)
    where
      step : (b : Bool) → cond b (Some y) (found i ys) ≡ None → (found i ys ≡ None → found i (ys ++ x ∷ []) ≡ Some x) → cond b (Some y) (found i (ys ++ x ∷ [])) ≡ Some x
      step true k ih = absurd (cc)
      step false k ih = ih k

  -- under another number
  pub found-end_other : (i : ℕ) (xs : List A) (x : A) → nat_eq (key x) i ≡ false → found i (xs ++ x ∷ []) ≡ found i xs
  found-end_other i [] x e = here (nat_eq (key x) i) e
    where
      here : (b : Bool) → b ≡ false → cond b (Some x) None ≡ None
      here false e = refl
      here true e = absurd (cc)
  found-end_other i (y ∷ ys) x e = ap (λ r. cond (nat_eq (key y) i) (Some y) r) (found-end_other i ys x e)

-- Lists of links: one is changed, and the others stay.

-- a link that was given room
pub same_set : (ls : List Link) (i : ℕ) (d new : Link) → bare_link new ≡ bare_link (get_or ls i d) → map bare_link (set ls i new) ≡ map bare_link ls
same_set ls i d new same = map-set_same bare_link ls i new d same

pub room_set : {u : Shape} (ls : List Link) (i : ℕ) (new : Link) → i < length ls → HasRoom u new → AllHaveRoom u (take i ls) → AllHaveRoom u (take (suc i) (set ls i new))
room_set [] i new below room all = absurd (omega arith)
room_set (l ∷ ls) zero new below room all = (room, tt)
room_set (l ∷ ls) (suc i) new below room all = (all.0, room_set ls i new (omega arith) room all.1)

-- what is known of each link from a place on
pub room_at : {u : Shape} (ls : List Link) (i : ℕ) (d : Link) → i < length ls → AllHaveRoom u (drop i ls) → HasRoom u (get_or ls i d)
room_at [] i d below all = absurd (omega arith)
room_at (k ∷ ls) zero d below all = all.0
room_at (k ∷ ls) (suc i) d below all = room_at ls i d (omega arith) all

pub room_after : (u : Shape) (ls : List Link) (i : ℕ) (new : Link) → AllHaveRoom u (drop i ls) → AllHaveRoom u (drop (suc i) (set ls i new))
room_after u [] i new all = tt
room_after u (k ∷ ls) zero new all = all.1
room_after u (k ∷ ls) (suc i) new all = room_after u ls i new all

pub counted_at : (ls : List Link) (i : ℕ) (d : Link) → i < length ls → AllCount (map bare_link (drop i ls)) → generated (get_or ls i d).end.link < 4294967295
counted_at [] i d below all = absurd (omega arith)
counted_at (k ∷ ls) zero d below all = all.0
counted_at (k ∷ ls) (suc i) d below all = counted_at ls i d (omega arith) all

pub counted_after : (ls : List Link) (i : ℕ) (new : Link) → AllCount (map bare_link (drop i ls)) → AllCount (map bare_link (drop (suc i) (set ls i new)))
counted_after [] i new all = tt
counted_after (k ∷ ls) zero new all = all.1
counted_after (k ∷ ls) (suc i) new all = counted_after ls i new all

-- one more link was passed, and is what f makes of it
pub passed : (f : BoardLink → BoardLink) (ls : List Link) (i : ℕ) (d new : Link) → i < length ls → bare_link new ≡ f (bare_link (get_or ls i d))
    → map bare_link (take (suc i) (set ls i new)) ++ map f (map bare_link (drop (suc i) (set ls i new))) ≡ map bare_link (take i ls) ++ map f (map bare_link (drop i ls))
passed f [] i d new below made = absurd (omega arith)
passed f (k ∷ ls) zero d new below made = ap (λ (x : BoardLink). x ∷ map f (map bare_link ls)) made
passed f (k ∷ ls) (suc i) d new below made = ap (λ (xs : List BoardLink). bare_link k ∷ xs) (passed f ls i d new (omega arith) made)

-- the same if f leaves it
pub not_passed : (f : BoardLink → BoardLink) (ls : List Link) (i : ℕ) (d : Link) → i < length ls → f (bare_link (get_or ls i d)) ≡ bare_link (get_or ls i d)
    → map bare_link (take (suc i) ls) ++ map f (map bare_link (drop (suc i) ls)) ≡ map bare_link (take i ls) ++ map f (map bare_link (drop i ls))
not_passed f [] i d below made = absurd (omega arith)
not_passed f (k ∷ ls) zero d below made = ap (λ (x : BoardLink). x ∷ map f (map bare_link ls)) (sym made)
not_passed f (k ∷ ls) (suc i) d below made = ap (λ (xs : List BoardLink). bare_link k ∷ xs) (not_passed f ls i d (omega arith) made)

pub other_at : {u : Shape} (j : ℕ) (ls : List Link) (i : ℕ) (d : Link) → i < length ls → OthersHaveRoom u j (drop i ls) → is_of j (bare_link (get_or ls i d)) ≡ false → HasRoom u (get_or ls i d)
other_at j [] i d below all = absurd (omega arith)
other_at j (k ∷ ls) zero d below all = all.0
other_at j (k ∷ ls) (suc i) d below all = other_at j ls i d (omega arith) all

others : (u : Shape) (j : ℕ) (ls : List Link) → AllHaveRoom u ls → OthersHaveRoom u j ls
others u j [] all = tt
others u j (k ∷ ls) all = ((λ other. all.0), others u j ls all.1)

-- the link of the site may have used its room
pub others_set : (u : Shape) (j : ℕ) (ls : List Link) (at : ℕ) (new : Link) → is_of j (bare_link new) ≡ true → AllHaveRoom u ls → OthersHaveRoom u j (set ls at new)
others_set u j [] at new of all = tt
others_set u j (k ∷ ls) zero new of all = ((λ other. cc), others u j ls all.1)
others_set u j (k ∷ ls) (suc at) new of all = ((λ other. all.0), others_set u j ls at new of all.1)

pub has_room_at : {u : Shape} (ls : List Link) (i : ℕ) (d : Link) → i < length ls → AllHaveRoom u ls → HasRoom u (get_or ls i d)
has_room_at [] i d below all = absurd (omega arith)
has_room_at (k ∷ ls) zero d below all = all.0
has_room_at (k ∷ ls) (suc i) d below all = has_room_at ls i d (omega arith) all.1

-- a `Vec` whose items were lent as a slice has what the slice was left with
pub lent_back : (n : ℕ) (new old : List Link) → length new ≡ n → take n (new ++ drop (length new) old) ≡ new
lent_back n new old same = let P : ℕ → Type 0 = λ k. take k (new ++ drop (length new) old) ≡ new in subst P same (take_all new (drop (length new) old)) where
  take_all : (xs ys : List Link) → take (length xs) (xs ++ ys) ≡ xs
  take_all [] ys = refl
  take_all (x ∷ xs) ys = ap (λ (zs : List Link). x ∷ zs) (take_all xs ys)

-- Where the link of a site is.

abbrev of_site : ℕ → Link → Bool
of_site i l = nat_eq l.site i

place_cons : (i : ℕ) (l : Link) (ls : List Link) (n : ℕ) (b : Bool) → of_site i l ≡ b → (nat_lt n (length ls) ≡ true → IsPlace i (map bare_link ls) n)
    → nat_lt (cond (not b) (1 + n) 0) (suc (length ls)) ≡ true → IsPlace i (bare_link l ∷ map bare_link ls) (cond (not b) (1 + n) 0)
place_cons i l ls n true e rest h = e
place_cons i l ls n false e rest h = let below : 1 + n < suc (length ls) = ltb-true _ _ h in let P : ℕ → Type 0 = λ k. IsPlace i (bare_link l ∷ map bare_link ls) k in let one : suc n ≡ 1 + n = omega arith in subst P one (e, rest (lt-ltb _ _ (omega arith)))

place_if : (i : ℕ) (ls : List Link) → nat_lt (position_or_len (of_site i) ls) (length ls) ≡ true → IsPlace i (map bare_link ls) (position_or_len (of_site i) ls)
place_if i [] h = cc
place_if i (l ∷ ls) h = place_cons i l ls (position_or_len (of_site i) ls) (of_site i l) refl (place_if i ls) h

new_cons : (i : ℕ) (l : Link) (ls : List Link) (n : ℕ) (b : Bool) → of_site i l ≡ b → (nat_lt n (length ls) ≡ false → IsNew i (map bare_link ls))
    → nat_lt (cond (not b) (1 + n) 0) (suc (length ls)) ≡ false → IsNew i (bare_link l ∷ map bare_link ls)
new_cons i l ls n true e rest h = let positive : nat_lt 0 (suc (length ls)) ≡ true = lt-ltb _ _ (omega arith) in cc
new_cons i l ls n false e rest h = (e, rest (below (nat_lt n (length ls)) refl)) where
  below : (b : Bool) → nat_lt n (length ls) ≡ b → nat_lt n (length ls) ≡ false
  below false e2 = e2
  below true e2 = let less : n < length ls = ltb-true _ _ e2 in let more : nat_lt (1 + n) (suc (length ls)) ≡ true = lt-ltb _ _ (omega arith) in cc

new_if : (i : ℕ) (ls : List Link) → nat_lt (position_or_len (of_site i) ls) (length ls) ≡ false → IsNew i (map bare_link ls)
new_if i [] h = tt
new_if i (l ∷ ls) h = new_cons i l ls (position_or_len (of_site i) ls) (of_site i l) refl (new_if i ls) h

found_cases : (i : ℕ) (ls : List Link) (n at : ℕ) (b : Bool) → (b ≡ true → IsPlace i (map bare_link ls) n) → cond {A = Option ℕ} b (Some n) None ≡ Some at → IsPlace i (map bare_link ls) at
found_cases i ls n at true place e = let same : n ≡ at = cc in let P : ℕ → Type 0 = λ k. IsPlace i (map bare_link ls) k in subst P same (place refl)
found_cases i ls n at false place e = cc

none_cases : (i : ℕ) (ls : List Link) (n : ℕ) (b : Bool) → (b ≡ false → IsNew i (map bare_link ls)) → cond {A = Option ℕ} b (Some n) None ≡ None → IsNew i (map bare_link ls)
none_cases i ls n true new e = cc
none_cases i ls n false new e = new refl

pub is_place : (i : ℕ) (ls : List Link) (at : ℕ) → position (λ l. nat_eq l.site i) ls ≡ Some at → IsPlace i (map bare_link ls) at
is_place i ls at e = found_cases i ls (position_or_len (of_site i) ls) at (nat_lt (position_or_len (of_site i) ls) (length ls)) (place_if i ls) e

pub is_new : (i : ℕ) (ls : List Link) → position (λ l. nat_eq l.site i) ls ≡ None → IsNew i (map bare_link ls)
is_new i ls e = none_cases i ls (position_or_len (of_site i) ls) (nat_lt (position_or_len (of_site i) ls) (length ls)) (new_if i ls) e

map_kept : (l : Link) (ls : List Link) (ks : List BoardLink) (b : Bool) → map bare_link ls ≡ ks → map bare_link (cond b (l ∷ ls) ls) ≡ cond b (bare_link l ∷ ks) ks
map_kept l ls ks true same = ap (λ (xs : List BoardLink). bare_link l ∷ xs) same
map_kept l ls ks false same = same

pub detached : (i : ℕ) (ls : List Link) → map bare_link (filter (λ l. not (nat_eq l.site i)) ls) ≡ without i (map bare_link ls)
detached i [] = refl
detached i (l ∷ ls) = map_kept l (filter (λ l. not (nat_eq l.site i)) ls) (without i (map bare_link ls)) (not (nat_eq l.site i)) (detached i ls)

pub placed : (i : ℕ) (ls : List Link) (r : Option ℕ) → r ≡ position (λ l. nat_eq l.site i) ls → MatchOption r (IsNew i (map bare_link ls)) (λ at. IsPlace i (map bare_link ls) at)
placed i ls None e = is_new i ls (sym e)
placed i ls (Some at) e = is_place i ls at (sym e)

-- # Links of different sites

-- none of them is of another's site
other_number_at : (j : ℕ) (ls : List Link) (at : ℕ) (d : Link) → IsNew j (map bare_link ls) → at < length ls → nat_eq (get_or ls at d).site j ≡ false
other_number_at j [] at d new below = absurd (omega arith)
other_number_at j (k ∷ ls) zero d new below = new.0
other_number_at j (k ∷ ls) (suc at) d new below = other_number_at j ls at d new.1 (omega arith)

-- so each is the first of its site
pub apart_place : (i : ℕ) (ls : List Link) (at : ℕ) (d : Link) → AreApart (map bare_link ls) → at < length ls → (get_or ls at d).site ≡ i → IsPlace i (map bare_link ls) at
apart_place i [] at d apart below same = absurd (omega arith)
apart_place i (k ∷ ls) zero d apart below same = eq-eqb k.site i same
apart_place i (k ∷ ls) (suc at) d apart below same =
    (ne_eqb k.site i (λ e. eqb-false (get_or ls at d).site k.site (other_number_at k.site ls at d apart.0 (omega arith)) (same ∙ sym e)), apart_place i ls at d apart.1 (omega arith) same)
