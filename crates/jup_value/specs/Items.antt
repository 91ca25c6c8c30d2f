-- Items of sequences: their names, blocks and marks.
use Rattle.std.specs.Prelude.{◌≡◌, ℕ, zero, suc, Bool, false, ◌&&◌, ◌||◌, ◌==◌, List, [], ◌∷◌, Option, Some, None, if◌then◌else◌, refl, slice_get, ◌-◌, ◌<◌, ◌≤◌, nat_lt, nat_le, length, map, ◌++◌, insert, remove, take, drop, true}
use Rattle.std.specs.Option.{option_map}
use Rattle.std.specs.List.{position_from, flat_map, list_any}
use Rattle.std.specs.Coded.{Coded, code_by, coded×, coded_ℕ, coded_list}
use Rattle.jup_value.specs.declared.names.Name.{Name}
use Rattle.jup_value.specs.declared.names.Item.{Item}

-- Names and items of sequences.

-- whether two names are the same
abbrev pub name_eq : Name → Name → Bool
name_eq a b = (a.site == b.site) && (a.number == b.number)

-- whether one of the items has the name
abbrev pub has_name : {V : Type 0} → Name → List (Item V) → Bool
has_name n [] = false
has_name n (x ∷ xs) = name_eq x.name n || has_name n xs

-- no two of the items have one name
abbrev pub AreDistinct : {V : Type 0} → List (Item V) → Type 0
AreDistinct [] = Unit {0}
AreDistinct (x ∷ xs) = (has_name x.name xs ≡ false) × AreDistinct xs

-- the name of the item at a place
abbrev pub name_at : {V : Type 0} → ℕ → List (Item V) → Option Name
name_at p xs = option_map (λ x. x.name) (slice_get xs p)

-- the place of the first item that has the name
abbrev pub place_of : {V : Type 0} → Name → List (Item V) → Option ℕ
place_of n xs = position_from (λ x. name_eq x.name n) 0 xs

-- the value under the name
abbrev pub value_of : {V : Type 0} → Name → List (Item V) → Option V
value_of n [] = None
value_of n (x ∷ xs) = if name_eq x.name n then Some x.value else value_of n xs

-- whether an item with the name m comes before one with the name n
abbrev pub stands_before : {V : Type 0} → Name → Name → List (Item V) → Bool
stands_before m n [] = false
stands_before m n (x ∷ xs) = if name_eq x.name m then has_name n xs else stands_before m n xs

-- the items, of which that at a place has another value
abbrev pub with_value : {V : Type 0} → List (Item V) → ℕ → V → List (Item V)
with_value [] p v = []
with_value (x ∷ xs) zero v = record x { value = v } ∷ xs
with_value (x ∷ xs) (suc p) v = x ∷ with_value xs p v

-- what a contract sees of a sequence: its items, and for how many insertions it has room
pub record Items (V : Type 0) : Type 0 where
  pub items : List (Item V)
  pub spare : ℕ

-- how a proof distinguishes names: by site and number
abbrev pub name_code : Coded Name
name_code = code_by (ℕ × ℕ) (coded× coded_ℕ coded_ℕ) (λ n. (n.site, n.number)) (λ p. record { site = p.0; number = p.1 }) (λ _. refl)

-- an item by its name and its value
abbrev pub item_code : {V : Type 0} → Coded V → Coded (Item V)
item_code {V} code = code_by (Name × V) (coded× name_code code) (λ x. (x.name, x.value)) (λ p. record { name = p.0; value = p.1 }) (λ _. refl)

-- a sequence by its items and its room
abbrev pub items_code : {V : Type 0} → Coded V → Coded (Items V)
items_code {V} code = code_by (List (Item V) × ℕ) (coded× (coded_list (item_code code)) coded_ℕ) (λ s. (s.items, s.spare)) (λ p. record { items = p.0; spare = p.1 }) (λ _. refl)

-- Items in blocks: what an insertion and a removal make of the blocks, and the table of their lengths.

-- the items of the blocks, in order
abbrev pub joined : {X : Type 0} → List (List X) → List X
joined bs = flat_map (λ b. b) bs

-- how many items come before a block
abbrev pub items_before : {X : Type 0} → List (List X) → ℕ → ℕ
items_before bs i = length (joined (take i bs))

-- one more item in the block at a place
abbrev pub put_in : {X : Type 0} → List (List X) → ℕ → ℕ → X → List (List X)
put_in [] i p y = []
put_in (b ∷ bs) zero p y = insert b p y ∷ bs
put_in (b ∷ bs) (suc i) p y = b ∷ put_in bs i p y

-- the block at a place with one item fewer
abbrev pub take_in : {X : Type 0} → List (List X) → ℕ → ℕ → List (List X)
take_in [] i p = []
take_in (b ∷ bs) zero p = remove b p ∷ bs
take_in (b ∷ bs) (suc i) p = b ∷ take_in bs i p

-- a full block in two halves of 64, and one more item: up to 64 it goes into the left half
abbrev pub left_half : {X : Type 0} → List X → ℕ → X → List X
left_half b p y = if nat_le p 64 then insert (take 64 b) p y else take 64 b

abbrev pub right_half : {X : Type 0} → List X → ℕ → X → List X
right_half b p y = if nat_le p 64 then drop 64 b else insert (drop 64 b) (p - 64) y

-- the block at a place in its halves
abbrev pub split_with : {X : Type 0} → List (List X) → ℕ → ℕ → X → List (List X)
split_with [] i p y = []
split_with (b ∷ bs) zero p y = left_half b p y ∷ right_half b p y ∷ bs
split_with (b ∷ bs) (suc i) p y = b ∷ split_with bs i p y

-- one more item in a block, which is first split in two if it is full
abbrev pub with_item : {X : Type 0} → List X → ℕ → X → List (List X)
with_item b p y = if nat_lt (length b) 128 then insert b p y ∷ [] else left_half b p y ∷ right_half b p y ∷ []

-- one more item among all: it goes into the first block that ends at its place or after it, or into a new one if there is no block
abbrev pub with_item_at : {X : Type 0} → List (List X) → ℕ → X → List (List X)
with_item_at [] p y = (y ∷ []) ∷ []
with_item_at (b ∷ bs) p y = if nat_le p (length b) then with_item b p y ++ bs else b ∷ with_item_at bs (p - length b) y

-- one item fewer among all: a block that loses its last item is taken out, and no other block changes
abbrev pub without_item_at : {X : Type 0} → List (List X) → ℕ → List (List X)
without_item_at [] p = []
without_item_at (b ∷ bs) p = if nat_lt p (length b) then (if nat_lt 1 (length b) then remove b p ∷ bs else bs) else b ∷ without_item_at bs (p - length b)

-- no block is empty, and none has more than 128 items
abbrev pub AreBlocks : {X : Type 0} → List (List X) → Type 0
AreBlocks [] = Unit {0}
AreBlocks (b ∷ bs) = (0 < length b) × (length b ≤ 128) × AreBlocks bs

-- blocks, and the table of their lengths
abbrev pub IsLaidOut : {X : Type 0} → List (List X) → List ℕ → Type 0
IsLaidOut blocks lengths = AreBlocks blocks × (lengths ≡ map length blocks)

-- The highest number that the items of each site had in a sequence, which distinguishes a new name from one that may be held.

-- a mark is a name: a site, and the highest number that its items had

-- whether the mark of the name's site is at or above its number
abbrev pub is_marked : Name → List Name → Bool
is_marked n ms = list_any (λ m. (m.site == n.site) && nat_le n.number m.number) ms

-- every item's name is marked
abbrev pub AreMarked : {V : Type 0} → List Name → List (Item V) → Type 0
AreMarked ms [] = Unit {0}
AreMarked ms (x ∷ xs) = (is_marked x.name ms ≡ true) × AreMarked ms xs

-- how many marks come before that of a site
abbrev pub marks_below : ℕ → List Name → ℕ
marks_below site [] = 0
marks_below site (m ∷ ms) = if nat_lt m.site site then suc (marks_below site ms) else 0

-- the marks, that of the name's site raised to its number
abbrev pub raised : Name → List Name → List Name
raised n [] = n ∷ []
raised n (m ∷ ms) = if nat_lt m.site n.site then m ∷ raised n ms else (if m.site == n.site then (if nat_lt m.number n.number then n ∷ ms else m ∷ ms) else n ∷ m ∷ ms)

-- the first mark is of a later site
abbrev pub AreAbove : ℕ → List Name → Type 0
AreAbove site [] = Unit {0}
AreAbove site (m ∷ ms) = site < m.site

-- the marks ascend by their sites, each of which has one
abbrev pub AreAscending : List Name → Type 0
AreAscending [] = Unit {0}
AreAscending (m ∷ ms) = AreAbove m.site ms × AreAscending ms
