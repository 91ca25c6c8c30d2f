-- No item of a star's board has the number of a site that was not given one.
use Rattle.std.proofs.Common.{◌&&◌, ◌≡◌, ℕ, ◌+◌, Bool, true, false, cond, List, [], ◌∷◌, ◌++◌, refl, arith, eq-eqb, ne_eqb, zero, suc, ◌<◌, ◌==◌, take, drop, insert, remove, eqb-true, inl, inr}
use Rattle.std.proofs.lemmas.Bool.{or_parts, or_from, and_from, and_parts}
use Rattle.jup_site.specs.Prelude.{Name, Item, name_eq, InsertOp as Insert, DeleteOp as Delete, RelabelOp as Relabel, NoOp as NoSeqOp, has_site, only_site, BoardBatch, list_any, list_all}
use Rattle.jup_value.specs.Items.{with_value}
use Rattle.jup_window.specs.Entries.{change_at}
use Rattle.jup_window.specs.Widgets as widget
use Rattle.jup_window.specs.Kinds as kind
use Rattle.jup_window.specs.Boards as board
use Rattle.jup_batch.specs.Boards as batch
use Rattle.jup_batch.specs.Prelude.{WidgetOp, OnText, OnList, BoardOp, Widget, Text, Labels}

-- # Items

none_take : {X : Type 0} (p : X → Bool) (xs : List X) (n : ℕ) → list_any p xs ≡ false → list_any p (take n xs) ≡ false
none_take p [] zero none = refl
none_take p [] (suc n) none = refl
none_take p (x ∷ xs) zero none = refl
none_take p (x ∷ xs) (suc n) none = let both = or_parts (p x) (list_any p xs) none in or_from (p x) (list_any p (take n xs)) both.0 (none_take p xs n both.1)

none_drop : {X : Type 0} (p : X → Bool) (xs : List X) (n : ℕ) → list_any p xs ≡ false → list_any p (drop n xs) ≡ false
none_drop p [] zero none = refl
none_drop p [] (suc n) none = refl
none_drop p (x ∷ xs) zero none = none
none_drop p (x ∷ xs) (suc n) none = none_drop p xs n (or_parts (p x) (list_any p xs) none).1

none_append : {X : Type 0} (p : X → Bool) (xs ys : List X) → list_any p xs ≡ false → list_any p ys ≡ false → list_any p (xs ++ ys) ≡ false
none_append p [] ys one two = two
none_append p (x ∷ xs) ys one two = let both = or_parts (p x) (list_any p xs) one in or_from (p x) (list_any p (xs ++ ys)) both.0 (none_append p xs ys both.1 two)

none_insert : {X : Type 0} (p : X → Bool) (xs : List X) (n : ℕ) (y : X) → list_any p xs ≡ false → p y ≡ false → list_any p (insert xs n y) ≡ false
none_insert p xs n y none new = none_append p (take n xs) (y ∷ drop n xs) (none_take p xs n none) (or_from (p y) (list_any p (drop n xs)) new (none_drop p xs n none))

none_remove : {X : Type 0} (p : X → Bool) (xs : List X) (n : ℕ) → list_any p xs ≡ false → list_any p (remove xs n) ≡ false
none_remove p xs n none = none_append p (take n xs) (drop (suc n) xs) (none_take p xs n none) (none_drop p xs (suc n) none)

-- names stay as they are if a value is changed
none_relabel : {V : Type 0} (p : Name → Bool) (xs : List (Item V)) (n : ℕ) (v : V) → list_any (λ z. p z.name) xs ≡ false → list_any (λ z. p z.name) (with_value xs n v) ≡ false
none_relabel p [] n v none = none
none_relabel p (x ∷ xs) zero v none = none
none_relabel p (x ∷ xs) (suc n) v none =
    let both = or_parts (p x.name) (list_any (λ z. p z.name) xs) none in
    or_from (p x.name) (list_any (λ z. p z.name) (with_value xs n v)) both.0 (none_relabel p xs n v both.1)

-- # Widgets and boards

name_eq_self : (n : Name) → name_eq n n ≡ true
name_eq_self n = and_from (n.site == n.site) (n.number == n.number) (eq-eqb n.site n.site refl) (eq-eqb n.number n.number refl)

-- an operation that inserts no name of a site leaves none if there was none
widget_none : (i : ℕ) (o : WidgetOp) (w : Widget) → ((n : Name) → kind.InsertsName (kind.edit_of o) n → n.site ≡ i → ⊥) → board.some_in_widget i w ≡ false → board.some_in_widget i (widget.after o w) ≡ false
widget_none i (OnText (Insert p y)) (Text x) other none = none_insert (λ z. z.name.site == i) x.items p y none (ne_eqb y.name.site i (other y.name (name_eq_self y.name)))
widget_none i (OnText (Delete p n)) (Text x) other none = none_remove (λ z. z.name.site == i) x.items p none
widget_none i (OnText (Relabel p n v)) (Text x) other none = none_relabel (λ m. m.site == i) x.items p v none
widget_none i (OnText NoSeqOp) (Text x) other none = none
widget_none i (OnList (Insert p y)) (Labels x) other none = none_insert (λ z. z.name.site == i) x.items p y none (ne_eqb y.name.site i (other y.name (name_eq_self y.name)))
widget_none i (OnList (Delete p n)) (Labels x) other none = none_remove (λ z. z.name.site == i) x.items p none
widget_none i (OnList (Relabel p n v)) (Labels x) other none = none_relabel (λ m. m.site == i) x.items p v none
widget_none i (OnList NoSeqOp) (Labels x) other none = none
widget_none i o (Text x) other none = none
widget_none i o w other none = none

-- what an id has is changed
none_change : {A : Type 0} (p : A → Bool) (f : A → A) (k : ℕ) → ((a : A) → p a ≡ false → p (f a) ≡ false) → (es : List (ℕ × A)) → list_any (λ e. p e.1) es ≡ false → list_any (λ e. p e.1) (change_at k f es) ≡ false
none_change p f k keeps [] none = refl
none_change {A = A} p f k keeps (e ∷ es) none = step (e.0 == k) (or_parts (p e.1) (list_any (λ x. p x.1) es) none) (none_change p f k keeps es (or_parts (p e.1) (list_any (λ x. p x.1) es) none).1)
  where
    step : (b : Bool) → (p e.1 ≡ false) × (list_any (λ x. p x.1) es ≡ false) → list_any (λ x. p x.1) (change_at k f es) ≡ false
        → list_any (λ x. p x.1) (cond {A = List (ℕ × A)} b ((e.0, f e.1) ∷ es) (e ∷ change_at k f es)) ≡ false
    step true both rest = or_from (p (f e.1)) (list_any (λ x. p x.1) es) (keeps e.1 both.0) both.1
    step false both rest = or_from (p e.1) (list_any (λ x. p x.1) (change_at k f es)) both.0 rest

board_none : (i : ℕ) (o : BoardOp) (b : board.Windows) → ((n : board.Placed) → board.Inserts (board.edit_of o) n → n.name.site ≡ i → ⊥) → has_site i b ≡ false → has_site i (board.after o b) ≡ false
board_none i o b other none =
    none_change (board.some_in_window i) (λ ws. change_at o.wid (widget.after o.op) ws) o.win (λ ws. none_change (board.some_in_widget i) (widget.after o.op) o.wid (λ w. widget_none i o.op w inserted) ws) b none
  where
    here : ((o.win == o.win) && (o.wid == o.wid)) ≡ true
    here = and_from (o.win == o.win) (o.wid == o.wid) (eq-eqb o.win o.win refl) (eq-eqb o.wid o.wid refl)

    inserted : (n : Name) → kind.InsertsName (kind.edit_of o.op) n → n.site ≡ i → ⊥
    inserted n put is = other (record { at = (o.win, o.wid); name = n }) (here, put) is

-- and so do those of a batch
pub batch_none : (i : ℕ) (os : BoardBatch) (b : board.Windows) → ((n : board.Placed) → batch.Inserts (batch.edit_of os) n → n.name.site ≡ i → ⊥) → has_site i b ≡ false
    → has_site i (batch.after os b) ≡ false
batch_none i [] b other none = none
batch_none i (o ∷ os) b other none =
    batch_none i os (board.after o b) (λ n put own. other n (inr put) own) (board_none i o b (λ n put own. other n (inl put) own) none)

-- # Layouts

-- if each element passes one test, and what passes it fails the other
all_none : {X : Type 0} (p q : X → Bool) → ((x : X) → p x ≡ true → q x ≡ false) → (xs : List X) → list_all p xs ≡ true → list_any q xs ≡ false
all_none p q fails [] all = refl
all_none p q fails (x ∷ xs) all = let both = and_parts (p x) (list_all p xs) all in or_from (q x) (list_any q xs) (fails x both.0) (all_none p q fails xs both.1)

-- a site of 0 is no other
other_site : {V : Type 0} (i : ℕ) → 0 < i → (x : Item V) → (x.name.site == 0) ≡ true → (x.name.site == i) ≡ false
other_site i above x is = ne_eqb x.name.site i (λ same. let none : x.name.site ≡ 0 = eqb-true x.name.site 0 is in absurd (omega arith))

other_widget : (i : ℕ) → 0 < i → (w : Widget) → board.every_in_widget 0 w ≡ true → board.some_in_widget i w ≡ false
other_widget i above (Text x) all = all_none (λ y. y.name.site == 0) (λ y. y.name.site == i) (other_site i above) x.items all
other_widget i above (Labels x) all = all_none (λ y. y.name.site == 0) (λ y. y.name.site == i) (other_site i above) x.items all
other_widget i above other all = refl

pub layout_none : (i : ℕ) (b : board.Windows) → 0 < i → only_site 0 b ≡ true → has_site i b ≡ false
layout_none i b above all =
    all_none (λ e. board.every_in_window 0 e.1) (λ e. board.some_in_window i e.1)
    (λ ws each. all_none (λ e. board.every_in_widget 0 e.1) (λ e. board.some_in_widget i e.1) (λ e one. other_widget i above e.1 one) ws.1 each) b all
