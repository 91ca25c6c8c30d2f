-- What the ends of a link know.
use Rattle.std.proofs.Common.{◌≡◌, ℕ, ◌+◌, ◌≤◌, false, List, [], ◌∷◌, ◌++◌, refl, ap, sym, arith, ◌∙◌, ne_eqb, suc, ◌<◌, length, get_or, insert, take}
use Rattle.std.proofs.lemmas.List.{length-take-le, take_more}
use Rattle.jup_world.specs.Prelude.{Side, Client, Server, past, opposite, row_operation, Item, Items, has_name, name_eq, SeqOp, Link, received_operation, unheard}
use Rattle.jup_value.specs.Items.{AreDistinct}
use Rattle.jup_seq.specs.Operations as operations
use Rattle.jup_seq.specs.Laws.Squares as squares
use Rattle.jup_seq.specs.Names as names
use Rattle.jup_world.specs.Twos.{texts, InsertsUnder, named_from}

-- What was received.

-- what both pasts keep of an operation, an end keeps of each that it receives
module _ (P : SeqOp ℕ → Type 0)
    (client : (c s : SeqOp ℕ) → P c → P (operations.client_past c s)) (server : (s c : SeqOp ℕ) → P s → P (operations.server_past s c)) where
  kept_past : (side : Side) (o e : SeqOp ℕ) → P o → P (past texts side o e)
  kept_past Client o e h = client o e h
  kept_past Server o e h = server o e h

  kept_row : (side : Side) (o : SeqOp ℕ) (es : List (SeqOp ℕ)) → P o → P (row_operation (past texts side) o es)
  kept_row side o [] h = h
  kept_row side o (e ∷ es) h = kept_row side (past texts side o e) es (kept_past side o e h)

  pub kept_received : (l : Link (SeqOp ℕ)) (heard : ℕ) (o : SeqOp ℕ) → P o → P (received_operation texts l heard o)
  kept_received l heard o h = kept_row (opposite l.side) o (unheard l heard) h

-- room for the operation as it was sent is room for it as it is received
pub received_room : (l : Link (SeqOp ℕ)) (heard : ℕ) (o : SeqOp ℕ) (x : Items ℕ) → operations.HasRoom o 0 x → operations.HasRoom (received_operation texts l heard o) 0 x
received_room l heard o x = kept_received (λ p. operations.HasRoom p 0 x) (squares.room_client 0 x) (squares.room_server 0 x) l heard o

-- it inserts names of the same site
pub received_names : (site : ℕ) (l : Link (SeqOp ℕ)) (heard : ℕ) (o : SeqOp ℕ) → InsertsUnder site o → InsertsUnder site (received_operation texts l heard o)
received_names site l heard o =
    kept_received (InsertsUnder site) (λ c s h n i. h n (names.inserts_client c s n i)) (λ s c h n i. h n (names.inserts_server s c n i)) l heard o

-- Texts whose items are named in order.

-- an item of the opening text
abbrev pub opening_item : ℕ → ℕ → Item ℕ
opening_item k c = record { name = record { site = 0; number = k }; value = c }

pub length-named_from : (k : ℕ) (cs : List ℕ) → length (named_from k cs) ≡ length cs
length-named_from k [] = refl
length-named_from k (c ∷ cs) = ap (λ n. suc n) (length-named_from (k + 1) cs)

-- one more character is the item of the next number
pub named_from-push : (k n : ℕ) (cs : List ℕ) (c : ℕ) → n ≡ k + length cs → named_from k (cs ++ c ∷ []) ≡ named_from k cs ++ opening_item n c ∷ []
named_from-push k n [] c e = ap (λ m. opening_item m c ∷ []) (let same : k ≡ n = omega (arith, e) in same)
named_from-push k n (x ∷ xs) c e = ap (λ items. opening_item k x ∷ items) (named_from-push (k + 1) n xs c (omega (arith, e)))

-- a number before the first is no item's
named_from-below : (k n : ℕ) (cs : List ℕ) → n < k → has_name (record { site = 0; number = n }) (named_from k cs) ≡ false
named_from-below k n [] below = refl
named_from-below k n (c ∷ cs) below =
    let other : name_eq (record { site = 0; number = k }) (record { site = 0; number = n }) ≡ false = ne_eqb k n (λ e. omega (arith, below, e)) in
    rw other (named_from-below (k + 1) n cs (omega (arith, below)))

-- so the names are distinct
pub AreDistinct-named_from : (k : ℕ) (cs : List ℕ) → AreDistinct (named_from k cs)
AreDistinct-named_from k [] = tt
AreDistinct-named_from k (c ∷ cs) = (named_from-below (k + 1) k cs (omega arith), AreDistinct-named_from (k + 1) cs)

-- a number past the last is no item's
pub named_from-new : (k n : ℕ) (cs : List ℕ) → k + length cs ≤ n → has_name (record { site = 0; number = n }) (named_from k cs) ≡ false
named_from-new k n [] past = refl
named_from-new k n (c ∷ cs) past =
    let other : name_eq (record { site = 0; number = k }) (record { site = 0; number = n }) ≡ false = ne_eqb k n (λ e. omega (arith, past, e)) in
    rw other (named_from-new (k + 1) n cs (omega (arith, past)))

-- # A text that has the first characters of a list

pub length_so_far : (start : List ℕ) (at : ℕ) (items : List (Item ℕ)) → items ≡ named_from 1 (take at start) → at < length start → length items ≡ at
length_so_far start at items is before = ap length is ∙ length-named_from 1 (take at start) ∙ length-take-le at start (omega (arith, before))

-- the name of the next is new
pub new_so_far : (start : List ℕ) (at : ℕ) (items : List (Item ℕ)) → items ≡ named_from 1 (take at start) → at < length start
    → has_name (record { site = 0; number = at + 1 }) items ≡ false
new_so_far start at items is before =
    rw is (named_from-new 1 (at + 1) (take at start) (omega (arith, before, length-take-le at start)))

-- one more character at its end
pub pushed_item : (start : List ℕ) (at value : ℕ) (items longer : List (Item ℕ)) → items ≡ named_from 1 (take at start) → at < length start
    → value ≡ get_or start at value → longer ≡ insert items at (opening_item (at + 1) value) → longer ≡ named_from 1 (take (at + 1) start)
pushed_item start at value items longer is before read put =
    let y = opening_item (at + 1) value in
    let count : length items ≡ at = length_so_far start at items is before in
    put
    ∙ ap (λ n. insert items n y) (sym count)
    ∙ Rattle.std.proofs.lemmas.List.Edits.insert_end items y
    ∙ ap (λ (xs : List (Item ℕ)). xs ++ y ∷ []) is
    ∙ sym (named_from-push 1 (at + 1) (take at start) value (omega (arith, before, length-take-le at start)))
    ∙ ap (λ v. named_from 1 (take at start ++ v ∷ [])) read
    ∙ ap (λ cs. named_from 1 cs) (sym (take_more start at value before))
