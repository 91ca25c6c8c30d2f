-- Items in blocks.
use Rattle.std.proofs.Common.{◌≡◌, ℕ, zero, suc, ◌+◌, ◌-◌, ◌≤◌, List, [], ◌∷◌, take, drop, sum, refl, arith, ◌*◌, ◌<◌, ◌++◌, length, get_or, set, map, sym, ap, ◌∙◌, append_assoc, append-nil, add-one, zero-add, Bool, true, false, cond, Option, Some, None, inl, inr, length-append, insert, remove, slice_get, nat_le}
use Rattle.std.proofs.lemmas.List.Sums.{sum_by-cons, sum_by_more}
use Rattle.std.proofs.lemmas.Bool.{cases_Bool, leb-true, leb-false, lt-ltb, le-ltb, le-leb, lt-leb}
use Rattle.std.proofs.lemmas.List.{get_or_default, take-append-drop, length-take-le, length-drop, length-map, take-map, get_or-map, nil_from_length, drop_more}
use Rattle.std.specs.List.{position_from}
use Rattle.std.proofs.lemmas.List.Edits.{length-insert, length-remove, insert-append_left, insert-append_right, remove-append_left, remove-append_right}
use Rattle.jup_value.specs.declared.names.Name.{Name}
use Rattle.jup_value.specs.declared.names.Item.{Item}
use Rattle.jup_value.specs.Items.{name_eq, with_value, joined, put_in, left_half, right_half, split_with, take_in, with_item_at, without_item_at, AreBlocks}
use Rattle.jup_value.proofs.Items.{length-with_value}

-- Sums over the table of the blocks' lengths.

sum_none : (k : ℕ) → sum (take k []) ≡ 0
sum_none zero = refl
sum_none (suc k) = refl

-- the sum before a place, and that between it and a later one
pub sum_between : (ns : List ℕ) (i j : ℕ) → i ≤ j → sum (take j ns) ≡ sum (take i ns) + sum (take (j - i) (drop i ns))
sum_between ns zero j l = let all : j - 0 ≡ j = omega arith in rw all (omega arith)
sum_between [] (suc i) j l = omega (arith, sum_none j, sum_none (j - suc i))
sum_between (n ∷ ns) (suc i) zero l = absurd (omega arith)
sum_between (n ∷ ns) (suc i) (suc j) l =
    let width : suc j - suc i ≡ j - i = omega arith in
    rw width (omega (arith, sum_by-cons (λ m. m) n (take j ns), sum_by-cons (λ m. m) n (take i ns), sum_between ns i j (omega arith)))

-- a part of the table has no greater sum
pub sum_front : (ns : List ℕ) (i : ℕ) → sum (take i ns) ≤ sum ns
sum_front [] zero = omega arith
sum_front [] (suc i) = omega arith
sum_front (n ∷ ns) zero = omega arith
sum_front (n ∷ ns) (suc i) = omega (arith, sum_by-cons (λ m. m) n (take i ns), sum_by-cons (λ m. m) n ns, sum_front ns i)

-- Items in blocks, and the table of their lengths.

pub set-put_in : {X : Type 0} → (bs : List (List X)) (i p : ℕ) (y : X) (b : List X) → b ≡ get_or bs i b → set bs i (insert b p y) ≡ put_in bs i p y
set-put_in [] i p y b h = refl
set-put_in (b ∷ bs) zero p y d h = ap (λ c. insert c p y ∷ bs) h
set-put_in (b ∷ bs) (suc i) p y d h = ap (λ cs. b ∷ cs) (set-put_in bs i p y d h)

-- one more item in a block is one more item in the whole, after those of the blocks before it
pub joined-put_in : {X : Type 0} → (bs : List (List X)) (i p at : ℕ) (y : X) → i < length bs → p ≤ length (get_or bs i []) → at ≡ length (joined (take i bs)) + p → joined (put_in bs i p y) ≡ insert (joined bs) at y
joined-put_in [] i p at y l h e = absurd (omega arith)
joined-put_in (b ∷ bs) zero p at y l h e =
    let here : at ≡ p = omega arith in
    rw here (sym (insert-append_left b (joined bs) p y h))
joined-put_in (b ∷ bs) (suc i) p at y l h e =
    let sizes = length-append b (joined (take i bs)) in
    let rest = joined-put_in bs i p (at - length b) y (omega arith) h (omega arith) in
    ap (λ c. b ++ c) rest ∙ sym (insert-append_right b (joined bs) (length b) at y refl (omega arith))

-- the table adds up to the items
pub sum_lengths : {X : Type 0} → (bs : List (List X)) → sum (map length bs) ≡ length (joined bs)
sum_lengths [] = refl
sum_lengths (b ∷ bs) = sum_by-cons (λ n. n) (length b) (map length bs) ∙ ap (λ n. length b + n) (sum_lengths bs) ∙ sym (length-append b (joined bs))

pub AreBlocks-put_in : {X : Type 0} → (bs : List (List X)) (i p : ℕ) (y : X) → AreBlocks bs → i < length bs → p ≤ length (get_or bs i []) → length (get_or bs i []) < 128 → AreBlocks (put_in bs i p y)
AreBlocks-put_in [] i p y a l h m = absurd (omega arith)
AreBlocks-put_in (b ∷ bs) zero p y a l h m = let longer = length-insert b p y h in (omega arith, omega arith, a.2)
AreBlocks-put_in (b ∷ bs) (suc i) p y a l h m = (a.0, a.1, AreBlocks-put_in bs i p y a.2 (omega arith) h m)

pub AreBlocks-at : {X : Type 0} → (bs : List (List X)) (i : ℕ) → AreBlocks bs → i < length bs → length (get_or bs i []) ≤ 128
AreBlocks-at [] i a l = absurd (omega arith)
AreBlocks-at (b ∷ bs) zero a l = a.1
AreBlocks-at (b ∷ bs) (suc i) a l = AreBlocks-at bs i a.2 (omega arith)

-- # A full block in two halves, with one more item

-- the halves together are the block with the item
joined_halves : {X : Type 0} → (b rest : List X) (p : ℕ) (y : X) → p ≤ length b → length b ≡ 128 → left_half b p y ++ (right_half b p y ++ rest) ≡ insert b p y ++ rest
joined_halves b rest p y h full =
    let left = length-take-le 64 b (omega arith) in
    let whole = take-append-drop 64 b in
    elim (cases_Bool (nat_le p 64)) [
      | inl small ↦ rw small (let low = leb-true p 64 small in
          sym (append_assoc (insert (take 64 b) p y) (drop 64 b) rest)
          ∙ ap (λ c. c ++ rest) (sym (insert-append_left (take 64 b) (drop 64 b) p y (omega arith)) ∙ ap (λ c. insert c p y) whole))
      | inr large ↦ rw large (let high = leb-false p 64 large in
          sym (append_assoc (take 64 b) (insert (drop 64 b) (p - 64) y) rest)
          ∙ ap (λ c. c ++ rest) (sym (insert-append_right (take 64 b) (drop 64 b) 64 p y left (omega arith)) ∙ ap (λ c. insert c p y) whole))
    ]

pub joined-split_with : {X : Type 0} → (bs : List (List X)) (i p at : ℕ) (y : X) → i < length bs → p ≤ length (get_or bs i []) → length (get_or bs i []) ≡ 128 → at ≡ length (joined (take i bs)) + p
    → joined (split_with bs i p y) ≡ insert (joined bs) at y
joined-split_with [] i p at y l h full e = absurd (omega arith)
joined-split_with (b ∷ bs) zero p at y l h full e =
    let here : at ≡ p = omega arith in
    rw here (joined_halves b (joined bs) p y h full ∙ sym (insert-append_left b (joined bs) p y h))
joined-split_with (b ∷ bs) (suc i) p at y l h full e =
    let sizes = length-append b (joined (take i bs)) in
    let rest = joined-split_with bs i p (at - length b) y (omega arith) h full (omega arith) in
    ap (λ c. b ++ c) rest ∙ sym (insert-append_right b (joined bs) (length b) at y refl (omega arith))

-- neither half is empty or too long
length-halves : {X : Type 0} → (b : List X) (p : ℕ) (y : X) → p ≤ length b → length b ≡ 128 → (0 < length (left_half b p y)) × (length (left_half b p y) ≤ 128) × (0 < length (right_half b p y)) × (length (right_half b p y) ≤ 128)
length-halves b p y h full =
    let left = length-take-le 64 b (omega arith) in
    let right = length-drop 64 b in
    elim (cases_Bool (nat_le p 64)) [
      | inl small ↦ rw small (let low = leb-true p 64 small in let more = length-insert (take 64 b) p y (omega arith) in (omega arith, omega arith, omega arith, omega arith))
      | inr large ↦ rw large (let high = leb-false p 64 large in let more = length-insert (drop 64 b) (p - 64) y (omega arith) in (omega arith, omega arith, omega arith, omega arith))
    ]

pub AreBlocks-split_with : {X : Type 0} → (bs : List (List X)) (i p : ℕ) (y : X) → AreBlocks bs → i < length bs → p ≤ length (get_or bs i []) → length (get_or bs i []) ≡ 128 → AreBlocks (split_with bs i p y)
AreBlocks-split_with [] i p y a l h full = absurd (omega arith)
AreBlocks-split_with (b ∷ bs) zero p y a l h full = let halves = length-halves b p y h full in (halves.0, halves.1, (halves.2, halves.3, a.2))
AreBlocks-split_with (b ∷ bs) (suc i) p y a l h full = (a.0, a.1, AreBlocks-split_with bs i p y a.2 (omega arith) h full)

-- what a split makes of the list of blocks, and of their table
split_made : {X : Type 0} → (bs : List (List X)) (i p : ℕ) (y : X) (b : List X) → b ≡ get_or bs i b → i < length bs → insert (set bs i (left_half b p y)) (suc i) (right_half b p y) ≡ split_with bs i p y
split_made [] i p y b h l = absurd (omega arith)
split_made (c ∷ bs) zero p y b h l = ap (λ d. left_half d p y ∷ right_half d p y ∷ bs) h
split_made (c ∷ bs) (suc i) p y b h l = ap (λ cs. c ∷ cs) (split_made bs i p y b h (omega arith))

map_placed : {X : Type 0} → (bs : List (List X)) (i : ℕ) (left right : List X) → i < length bs → insert (set (map length bs) i (length left)) (suc i) (length right) ≡ map length (insert (set bs i left) (suc i) right)
map_placed [] i left right l = absurd (omega arith)
map_placed (b ∷ bs) zero left right l = refl
map_placed (b ∷ bs) (suc i) left right l = ap (λ ns. length b ∷ ns) (map_placed bs i left right (omega arith))

pub split_placed : {X : Type 0} → (ok : Bool) (new old bs : List (List X)) (i p : ℕ) (y : X) (b left right : List X) → new ≡ cond ok (insert (set bs i left) (i + 1) right) old → ok ≡ true
    → left ≡ left_half b p y → right ≡ right_half b p y → b ≡ get_or bs i b → i < length bs → new ≡ split_with bs i p y
split_placed ok new old bs i p y b left right is went l r at within = is ∙ rw (went, l, r, add-one) (split_made bs i p y b at within)

pub split_counted : {X : Type 0} → (ok placed : Bool) (new old ns : List ℕ) (made was bs : List (List X)) (i m n : ℕ) (left right : List X) → new ≡ cond ok (insert (set ns i m) (i + 1) n) old → ok ≡ true
    → made ≡ cond placed (insert (set bs i left) (i + 1) right) was → placed ≡ true → m ≡ length left → n ≡ length right → ns ≡ map length bs → i < length bs → new ≡ map length made
split_counted ok placed new old ns made was bs i m n left right is went there put few many table within =
    let all : made ≡ insert (set bs i left) (suc i) right = there ∙ rw (put, add-one) refl in
    is ∙ rw (went, few, many, table, add-one, all) (map_placed bs i left right within)

-- the sum before a block, and the block
pub sum_before : (ns : List ℕ) (i j : ℕ) → i < length ns → j ≡ i + 1 → sum (take j ns) ≡ sum (take i ns) + get_or ns i 0
sum_before ns i j l e = rw e (sum_by_more (λ n. n) ns i 0 l)

-- what `find` says of a table, for its blocks

pub place_in_table : {X : Type 0} → (bs : List (List X)) (ns : List ℕ) (at : ℕ) → ns ≡ map length bs → at ≤ length (joined bs) → at ≤ sum ns
place_in_table bs ns at table h = omega (arith, ap sum table ∙ sum_lengths bs)

pub place_in_blocks : {X : Type 0} → (bs : List (List X)) (ns : List ℕ) (i off at : ℕ) → ns ≡ map length bs → at ≡ sum (take i ns) + off → at ≡ length (joined (take i bs)) + off
place_in_blocks bs ns i off at table h = omega (arith, ap (λ ms. sum (take i ms)) table ∙ ap sum (take-map length i bs) ∙ sum_lengths (take i bs))

pub count_in_blocks : {X : Type 0} → (bs : List (List X)) (ns : List ℕ) (i : ℕ) → ns ≡ map length bs → i < length bs → get_or ns i 0 ≡ length (get_or bs i [])
count_in_blocks bs ns i table l = ap (λ ms. get_or ms i 0) table ∙ get_or-map length bs i [] 0 l

pub table_length : {X : Type 0} → (bs : List (List X)) (ns : List ℕ) → ns ≡ map length bs → length ns ≡ length bs
table_length bs ns table = ap length table ∙ length-map bs length

-- what `find` says of the block that it found
pub record Found {X : Type 0} (bs : List (List X)) (i off at : ℕ) : Type 0 where
  pub within : i < length bs
  pub offset : off ≤ length (get_or bs i [])
  pub place : at ≡ length (joined (take i bs)) + off

pub found : {X : Type 0} → (bs : List (List X)) (ns : List ℕ) (i off at : ℕ) → ns ≡ map length bs → i < length ns → at ≡ sum (take i ns) + off → (i < length ns → off ≤ get_or ns i 0) → Found bs i off at
found bs ns i off at table l place offset =
    let same = table_length bs ns table in
    let in_bs : i < length bs = omega arith in
    let count = count_in_blocks bs ns i table in_bs in
    let below = offset l in
    record { within = in_bs; offset = omega arith; place = place_in_blocks bs ns i off at table place }

-- what it says of an item
pub record FoundItem {X : Type 0} (bs : List (List X)) (i off at : ℕ) : Type 0 where
  pub within : i < length bs
  pub offset : off < length (get_or bs i [])
  pub place : at ≡ length (joined (take i bs)) + off

pub found_item : {X : Type 0} → (bs : List (List X)) (ns : List ℕ) (i off at : ℕ) → ns ≡ map length bs → i < length ns → at ≡ sum (take i ns) + off → off < get_or ns i 0 → FoundItem bs i off at
found_item bs ns i off at table l place below =
    let same = table_length bs ns table in
    let in_bs : i < length bs = omega arith in
    let count = count_in_blocks bs ns i table in_bs in
    record { within = in_bs; offset = omega arith; place = place_in_blocks bs ns i off at table place }

-- another value for an item

with_value-append_left : {V : Type 0} (xs ys : List (Item V)) (i : ℕ) (v : V) → i < length xs → with_value (xs ++ ys) i v ≡ with_value xs i v ++ ys
with_value-append_left [] ys i v l = absurd (omega arith)
with_value-append_left (x ∷ xs) ys zero v l = refl
with_value-append_left (x ∷ xs) ys (suc i) v l = ap (λ zs. x ∷ zs) (with_value-append_left xs ys i v (omega arith))

with_value-append_right : {V : Type 0} (xs ys : List (Item V)) (i k : ℕ) (v : V) → k ≡ length xs + i → with_value (xs ++ ys) k v ≡ xs ++ with_value ys i v
with_value-append_right [] ys i k v e = let here : k ≡ i = omega arith in rw here refl
with_value-append_right (x ∷ xs) ys i zero v e = absurd (omega arith)
with_value-append_right (x ∷ xs) ys i (suc k) v e = ap (λ zs. x ∷ zs) (with_value-append_right xs ys i k v (omega arith))

pub joined-set_value : {V : Type 0} → (bs : List (List (Item V))) (i p at : ℕ) (b : List (Item V)) (v : V) → i < length bs → b ≡ get_or bs i b → p < length b → at ≡ length (joined (take i bs)) + p
    → joined (set bs i (with_value b p v)) ≡ with_value (joined bs) at v
joined-set_value [] i p at b v l e h place = absurd (omega arith)
joined-set_value (c ∷ cs) zero p at b v l e h place =
    let here : at ≡ p = omega arith in
    rw (here, ← e) (sym (with_value-append_left b (joined cs) p v h))
joined-set_value (c ∷ cs) (suc i) p at b v l e h place =
    let sizes = length-append c (joined (take i cs)) in
    ap (λ d. c ++ d) (joined-set_value cs i p (at - length c) b v (omega arith) e h (omega arith)) ∙ sym (with_value-append_right c (joined cs) (at - length c) at v (omega arith))

-- the item that was found gets another value
pub found-set_value : {V : Type 0} → (bs : List (List (Item V))) (i off at : ℕ) (b : List (Item V)) (v : V) → FoundItem bs i off at → b ≡ get_or bs i b → joined (set bs i (with_value b off v)) ≡ with_value (joined bs) at v
found-set_value bs i off at b v item here =
    let long = ap length (here ∙ get_or_default bs i b [] item.within) in
    let offset = item.offset in
    joined-set_value bs i off at b v item.within here (omega arith) item.place

pub table-set_value : {V : Type 0} → (bs : List (List (Item V))) (i p : ℕ) (b : List (Item V)) (v : V) → b ≡ get_or bs i b → map length bs ≡ map length (set bs i (with_value b p v))
table-set_value [] i p b v e = refl
table-set_value (c ∷ cs) zero p b v e = rw (length-with_value b p v, ← e) refl
table-set_value (c ∷ cs) (suc i) p b v e = ap (λ ns. length c ∷ ns) (table-set_value cs i p b v e)

pub AreBlocks-set_value : {V : Type 0} → (bs : List (List (Item V))) (i p : ℕ) (b : List (Item V)) (v : V) → b ≡ get_or bs i b → AreBlocks bs → AreBlocks (set bs i (with_value b p v))
AreBlocks-set_value [] i p b v e a = tt
AreBlocks-set_value (c ∷ cs) zero p b v e a = let same = length-with_value b p v in let here = ap length e in (omega arith, omega arith, a.2)
AreBlocks-set_value (c ∷ cs) (suc i) p b v e a = (a.0, a.1, AreBlocks-set_value cs i p b v e a.2)

-- a removal

pub set-take_in : {X : Type 0} → (bs : List (List X)) (i p : ℕ) (b : List X) → b ≡ get_or bs i b → set bs i (remove b p) ≡ take_in bs i p
set-take_in [] i p b h = refl
set-take_in (b ∷ bs) zero p d h = ap (λ c. remove c p ∷ bs) h
set-take_in (b ∷ bs) (suc i) p d h = ap (λ cs. b ∷ cs) (set-take_in bs i p d h)

pub joined-take_in : {X : Type 0} → (bs : List (List X)) (i p at : ℕ) → i < length bs → p < length (get_or bs i []) → at ≡ length (joined (take i bs)) + p → joined (take_in bs i p) ≡ remove (joined bs) at
joined-take_in [] i p at l h e = absurd (omega arith)
joined-take_in (b ∷ bs) zero p at l h e =
    let here : at ≡ p = omega arith in
    rw here (sym (remove-append_left b (joined bs) p h))
joined-take_in (b ∷ bs) (suc i) p at l h e =
    let sizes = length-append b (joined (take i bs)) in
    let rest = joined-take_in bs i p (at - length b) (omega arith) h (omega arith) in
    ap (λ c. b ++ c) rest ∙ sym (remove-append_right b (joined bs) (length b) at refl (omega arith))

pub slice_get-append_left : {X : Type 0} → (xs ys : List X) (i : ℕ) → i < length xs → slice_get (xs ++ ys) i ≡ slice_get xs i
slice_get-append_left [] ys i l = absurd (omega arith)
slice_get-append_left (x ∷ xs) ys zero l = refl
slice_get-append_left (x ∷ xs) ys (suc i) l = slice_get-append_left xs ys i (omega arith)

pub slice_get-append_right : {X : Type 0} → (xs ys : List X) (i k : ℕ) → k ≡ length xs + i → slice_get (xs ++ ys) k ≡ slice_get ys i
slice_get-append_right [] ys i k e = let here : k ≡ i = omega arith in rw here refl
slice_get-append_right (x ∷ xs) ys i zero e = absurd (omega arith)
slice_get-append_right (x ∷ xs) ys i (suc k) e = slice_get-append_right xs ys i k (omega arith)

pub slice_get-joined : {X : Type 0} → (bs : List (List X)) (i p at : ℕ) → i < length bs → p < length (get_or bs i []) → at ≡ length (joined (take i bs)) + p → slice_get (joined bs) at ≡ slice_get (get_or bs i []) p
slice_get-joined [] i p at l h e = absurd (omega arith)
slice_get-joined (b ∷ bs) zero p at l h e =
    let here : at ≡ p = omega arith in
    rw here (slice_get-append_left b (joined bs) p h)
slice_get-joined (b ∷ bs) (suc i) p at l h e =
    let sizes = length-append b (joined (take i bs)) in
    slice_get-append_right b (joined bs) (at - length b) at (omega arith) ∙ slice_get-joined bs i p (at - length b) (omega arith) h (omega arith)

pub AreBlocks-take_in : {X : Type 0} → (bs : List (List X)) (i p : ℕ) → AreBlocks bs → i < length bs → p < length (get_or bs i []) → 0 < length (remove (get_or bs i []) p) → AreBlocks (take_in bs i p)
AreBlocks-take_in [] i p a l h m = absurd (omega arith)
AreBlocks-take_in (b ∷ bs) zero p a l h m = let shorter = length-remove b p h in (m, omega arith, a.2)
AreBlocks-take_in (b ∷ bs) (suc i) p a l h m = (a.0, a.1, AreBlocks-take_in bs i p a.2 (omega arith) h m)

-- an emptied block is taken away

pub AreBlocks-emptied : {X : Type 0} → (bs : List (List X)) (i p : ℕ) → AreBlocks bs → AreBlocks (remove (take_in bs i p) i)
AreBlocks-emptied [] zero p a = tt
AreBlocks-emptied [] (suc i) p a = tt
AreBlocks-emptied (b ∷ bs) zero p a = a.2
AreBlocks-emptied (b ∷ bs) (suc i) p a = (a.0, a.1, AreBlocks-emptied bs i p a.2)

pub joined-emptied : {X : Type 0} → (bs : List (List X)) (i p : ℕ) → length (remove (get_or bs i []) p) ≡ 0 → joined (remove (take_in bs i p) i) ≡ joined (take_in bs i p)
joined-emptied [] zero p h = refl
joined-emptied [] (suc i) p h = refl
joined-emptied (b ∷ bs) zero p h = ap (λ c. c ++ joined bs) (sym (nil_from_length (remove b p) h))
joined-emptied (b ∷ bs) (suc i) p h = ap (λ c. b ++ c) (joined-emptied bs i p h)

pub table-emptied : {X : Type 0} → (bs : List (List X)) (i p : ℕ) → remove (map length bs) i ≡ map length (remove (take_in bs i p) i)
table-emptied [] zero p = refl
table-emptied [] (suc i) p = refl
table-emptied (b ∷ bs) zero p = refl
table-emptied (b ∷ bs) (suc i) p = ap (λ ns. length b ∷ ns) (table-emptied bs i p)

pub blocks_few : {X : Type 0} → (bs : List (List X)) → AreBlocks bs → length bs ≤ length (joined bs)
blocks_few [] a = omega arith
blocks_few (b ∷ bs) a = omega (arith, length-append b (joined bs), blocks_few bs a.2)

pub blocks_enough : {X : Type 0} → (bs : List (List X)) → AreBlocks bs → length (joined bs) ≤ 128 * length bs
blocks_enough [] a = omega arith
blocks_enough (b ∷ bs) a = omega (arith, a.1, length-append b (joined bs), blocks_enough bs a.2)

within_first : (s : Bool) (j a : ℕ) (o : Option ℕ) (k : ℕ) → cond s (Some j) o ≡ Some a → (o ≡ Some a → a < j + suc k) → a < j + suc k
within_first true j a o k h f = let e : j ≡ a = cc in omega arith
within_first false j a o k h f = f h

here_first : (s : Bool) (k j m a : ℕ) (o p : Option ℕ) → m ≡ k + j → cond s (Some j) o ≡ Some a → (o ≡ Some a → p ≡ Some (k + a)) → cond s (Some m) p ≡ Some (k + a)
here_first true k j m a o p e h f = let same : j ≡ a = cc in rw (e, same) refl
here_first false k j m a o p e h f = f h

beyond_first : (s : Bool) (j m : ℕ) (o p q : Option ℕ) → cond s (Some j) o ≡ None → (o ≡ None → p ≡ q) → cond s (Some m) p ≡ q
beyond_first true j m o p q h f = absurd cc
beyond_first false j m o p q h f = f h

-- a name is looked for in one block after another

-- the place of a name, if the first item has the number k
abbrev pub place_from : {V : Type 0} → ℕ → Name → List (Item V) → Option ℕ
place_from k n xs = position_from (λ x. name_eq x.name n) k xs

pub place_from_within : {V : Type 0} → (j a : ℕ) (n : Name) (xs : List (Item V)) → place_from j n xs ≡ Some a → a < j + length xs
place_from_within j a n [] h = absurd cc
place_from_within j a n (x ∷ xs) h = within_first (name_eq x.name n) j a (place_from (j + 1) n xs) (length xs) h (λ g. let l = place_from_within (j + 1) a n xs g in omega arith)

pub place_from_here : {V : Type 0} → (k j m a : ℕ) (n : Name) (xs ys : List (Item V)) → m ≡ k + j → place_from j n xs ≡ Some a → place_from m n (xs ++ ys) ≡ Some (k + a)
place_from_here k j m a n [] ys e h = absurd cc
place_from_here k j m a n (x ∷ xs) ys e h = here_first (name_eq x.name n) k j m a (place_from (j + 1) n xs) (place_from (m + 1) n (xs ++ ys)) e h (place_from_here k (j + 1) (m + 1) a n xs ys (omega arith))

pub place_from_beyond : {V : Type 0} → (j m r : ℕ) (n : Name) (xs ys : List (Item V)) → r ≡ m + length xs → place_from j n xs ≡ None → place_from m n (xs ++ ys) ≡ place_from r n ys
place_from_beyond j m r n [] ys e h = let same : m ≡ r = omega arith in rw same refl
place_from_beyond j m r n (x ∷ xs) ys e h = beyond_first (name_eq x.name n) j m (place_from (j + 1) n xs) (place_from (m + 1) n (xs ++ ys)) (place_from r n ys) h (place_from_beyond (j + 1) (m + 1) r n xs ys (omega arith))

pub joined_rest : {X : Type 0} → (bs : List (List X)) (i : ℕ) (b : List X) → i < length bs → b ≡ get_or bs i b → joined (drop i bs) ≡ b ++ joined (drop (i + 1) bs)
joined_rest bs i b l e = ap joined (drop_more bs i b l) ∙ ap (λ c. c ++ joined (drop (i + 1) bs)) (sym e)

front_suc : {X : Type 0} → (bs : List (List X)) (i : ℕ) (b : List X) → i < length bs → b ≡ get_or bs i b → length (joined (take (suc i) bs)) ≡ length (joined (take i bs)) + length b
front_suc [] i b l e = absurd (omega arith)
front_suc (c ∷ cs) zero b l e = ap (λ d. length (d ++ [])) (sym e) ∙ ap length (append-nil b) ∙ sym (zero-add (length b))
front_suc (c ∷ cs) (suc i) b l e =
    let rest = front_suc cs i b (omega arith) e in
    let more = length-append c (joined (take (suc i) cs)) in
    let less = length-append c (joined (take i cs)) in
    omega arith

pub joined_front : {X : Type 0} → (bs : List (List X)) (i : ℕ) (b : List X) → i < length bs → b ≡ get_or bs i b → length (joined (take (i + 1) bs)) ≡ length (joined (take i bs)) + length b
joined_front bs i b l e = rw add-one (front_suc bs i b l e)

pub joined_within : {X : Type 0} → (bs : List (List X)) (i : ℕ) → length (joined (take i bs)) ≤ length (joined bs)
joined_within [] zero = omega arith
joined_within [] (suc i) = omega arith
joined_within (b ∷ bs) zero = omega arith
joined_within (b ∷ bs) (suc i) = omega (arith, joined_within bs i, length-append b (joined (take i bs)), length-append b (joined bs))

-- the rules of an insertion

-- a block that is not full takes the item
pub put_in_rule : {X : Type 0} → (bs : List (List X)) (i p at : ℕ) (y : X) → AreBlocks bs → i < length bs → p ≤ length (get_or bs i []) → at ≡ length (joined (take i bs)) + p → (0 < at → 0 < p) → length (get_or bs i []) < 128
    → put_in bs i p y ≡ with_item_at bs at y
put_in_rule [] i p at y a l h e first room = absurd (omega arith)
put_in_rule (b ∷ bs) zero p at y a l h e first room =
    let here : at ≡ p = omega arith in
    rw (here, le-leb p (length b) h, lt-ltb (length b) 128 room) refl
put_in_rule (b ∷ bs) (suc i) p at y a l h e first room =
    let sizes = length-append b (joined (take i bs)) in
    let some = a.0 in
    let past : 0 < p = first (omega arith) in
    rw (lt-leb at (length b) (omega arith)) (ap (λ cs. b ∷ cs) (put_in_rule bs i p (at - length b) y a.2 (omega arith) h (omega arith) (λ _. past) room))

-- a full block is split
pub split_rule : {X : Type 0} → (bs : List (List X)) (i p at : ℕ) (y : X) → AreBlocks bs → i < length bs → p ≤ length (get_or bs i []) → at ≡ length (joined (take i bs)) + p → (0 < at → 0 < p) → length (get_or bs i []) ≡ 128
    → split_with bs i p y ≡ with_item_at bs at y
split_rule [] i p at y a l h e first full = absurd (omega arith)
split_rule (b ∷ bs) zero p at y a l h e first full =
    let here : at ≡ p = omega arith in
    rw (here, le-leb p (length b) h, le-ltb (length b) 128 (omega arith)) refl
split_rule (b ∷ bs) (suc i) p at y a l h e first full =
    let sizes = length-append b (joined (take i bs)) in
    let some = a.0 in
    let past : 0 < p = first (omega arith) in
    rw (lt-leb at (length b) (omega arith)) (ap (λ cs. b ∷ cs) (split_rule bs i p (at - length b) y a.2 (omega arith) h (omega arith) (λ _. past) full))

-- the rules of a removal

-- a block of more items stays
pub take_in_rule : {X : Type 0} → (bs : List (List X)) (i p at : ℕ) → i < length bs → p < length (get_or bs i []) → at ≡ length (joined (take i bs)) + p → 0 < length (remove (get_or bs i []) p) → take_in bs i p ≡ without_item_at bs at
take_in_rule [] i p at l h e some = absurd (omega arith)
take_in_rule (b ∷ bs) zero p at l h e some =
    let here : at ≡ p = omega arith in
    let shorter = length-remove b p h in
    rw (here, lt-ltb p (length b) h, lt-ltb 1 (length b) (omega arith)) refl
take_in_rule (b ∷ bs) (suc i) p at l h e some =
    let sizes = length-append b (joined (take i bs)) in
    rw (le-ltb at (length b) (omega arith)) (ap (λ cs. b ∷ cs) (take_in_rule bs i p (at - length b) (omega arith) h (omega arith) some))

-- an emptied block is taken out
pub emptied_rule : {X : Type 0} → (bs : List (List X)) (i p at : ℕ) → i < length bs → p < length (get_or bs i []) → at ≡ length (joined (take i bs)) + p → length (remove (get_or bs i []) p) ≡ 0 → remove (take_in bs i p) i ≡ without_item_at bs at
emptied_rule [] i p at l h e none = absurd (omega arith)
emptied_rule (b ∷ bs) zero p at l h e none =
    let here : at ≡ p = omega arith in
    let shorter = length-remove b p h in
    rw (here, lt-ltb p (length b) h, le-ltb 1 (length b) (omega arith)) refl
emptied_rule (b ∷ bs) (suc i) p at l h e none =
    let sizes = length-append b (joined (take i bs)) in
    rw (le-ltb at (length b) (omega arith)) (ap (λ cs. b ∷ cs) (emptied_rule bs i p (at - length b) (omega arith) h (omega arith) none))
