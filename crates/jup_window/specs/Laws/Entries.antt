-- The laws of entries, and of boards without their room.
use Rattle.std.proofs.Common.{◌≡◌, ℕ, true, false, ◌&&◌, ◌==◌, List, [], ◌∷◌, Option, Some, None, ◌⊎◌, cond, if◌then◌else◌, refl, sym, ap, ◌∙◌, inl, inr, Bool, ◌||◌}
use Rattle.std.specs.Option.{option_and_then, option_map, IfSome}
use Rattle.std.proofs.lemmas.Bool.{cases_Bool, eqb-true, eqb-false, eq-eqb, ne_eqb, and_parts, and_from, or_parts, or_cases, false≢true}
use Rattle.std.specs.List.{list_any, list_all}
use Rattle.jup_window.specs.Prelude.{Name, Item, name_eq, has_name, name_eq_same, Widget, Text, Labels}
use Rattle.jup_window.specs.Entries.{at_id, change_at, map_values, Each, Place, same_place, Grouped, widget_at, change_widget, EachWidget}
use Rattle.jup_window.specs.Boards.{some_item, every_item, some_in_widget, every_in_widget, some_in_window, every_in_window, has_site, only_site}
use Rattle.jup_window.specs.Widgets as widget
use Rattle.jup_window.specs.Boards as board

-- Entries under ids: changes at one id, at two, and facts of all.

-- one level

-- the value under the changed id
pub at_id-same : {A : Type 0} → (k : ℕ) (f : A → A) (es : List (ℕ × A)) → at_id k (change_at k f es) ≡ option_map f (at_id k es)
at_id-same k f [] = refl
at_id-same k f (e ∷ es) = elim (cases_Bool (e.0 == k)) [ inl here ↦ simp here refl | inr there ↦ simp there (at_id-same k f es) ]

-- an id that is another than one of two equal ids
other_id : (i j k : ℕ) → (i == j) ≡ true → (j == k) ≡ false → (i == k) ≡ false
other_id i j k same other = ap (λ n. n == k) (eqb-true i j same) ∙ other

-- the value under another id
pub at_id-other : {A : Type 0} → (j k : ℕ) (f : A → A) (es : List (ℕ × A)) → (j == k) ≡ false → at_id k (change_at j f es) ≡ at_id k es
at_id-other j k f [] other = refl
at_id-other j k f (e ∷ es) other =
    elim (cases_Bool (e.0 == j)) [
      | inl here ↦ simp (here, other_id e.0 j k here other) refl
      | inr there ↦ simp there (ap (λ o. cond (e.0 == k) (Some e.1) o) (at_id-other j k f es other))
    ]

-- two changes under one id
pub change_at-same : {A : Type 0} → (k : ℕ) (f g : A → A) (es : List (ℕ × A)) → change_at k g (change_at k f es) ≡ change_at k (λ a. g (f a)) es
change_at-same k f g [] = refl
change_at-same k f g (e ∷ es) =
    elim (cases_Bool (e.0 == k)) [ inl here ↦ simp here refl | inr there ↦ simp there (ap (λ rest. e ∷ rest) (change_at-same k f g es)) ]

-- changes under two ids in either order
pub change_at-other : {A : Type 0} → (j k : ℕ) (f g : A → A) (es : List (ℕ × A)) → (j == k) ≡ false
    → change_at k g (change_at j f es) ≡ change_at j f (change_at k g es)
change_at-other j k f g [] other = refl
change_at-other j k f g (e ∷ es) other =
    elim (cases_Bool (e.0 == j)) [
      | inl here ↦ simp (here, other_id e.0 j k here other) refl
      | inr there ↦ elim (cases_Bool (e.0 == k)) [
        | inl at_k ↦ simp (there, at_k) refl
        | inr past_k ↦ simp (there, past_k) (ap (λ rest. e ∷ rest) (change_at-other j k f g es other))
      ]
    ]

-- two changes that agree on the value
pub change_at-agree : {A : Type 0} → (k : ℕ) (f g : A → A) (es : List (ℕ × A)) → IfSome (at_id k es) (λ a. f a ≡ g a) → change_at k f es ≡ change_at k g es
change_at-agree k f g [] agree = refl
change_at-agree k f g (e ∷ es) agree =
    elim (cases_Bool (e.0 == k)) [
      | inl here ↦ rw here (ap (λ a. (e.0, a) ∷ es) (rw here at agree))
      | inr there ↦ rw there (ap (λ rest. e ∷ rest) (change_at-agree k f g es (rw there at agree)))
    ]

-- what is so of each value stays so
pub change_at-all : {A : Type 0} → (P : A → Type 0) (k : ℕ) (f : A → A) (es : List (ℕ × A)) → Each P es
    → IfSome (at_id k es) (λ a. P a → P (f a)) → Each P (change_at k f es)
change_at-all P k f [] all kept = tt
change_at-all P k f (e ∷ es) all kept =
    elim (cases_Bool (e.0 == k)) [
      | inl here ↦ let kept_here : P e.1 → P (f e.1) = rw here at kept in rw here (kept_here all.0, all.1)
      | inr there ↦ rw there (all.0, change_at-all P k f es all.1 (rw there at kept))
    ]

-- what is so of each value is so of the one under an id
pub at_id-all : {A : Type 0} → (P : A → Type 0) (k : ℕ) (es : List (ℕ × A)) → Each P es → IfSome (at_id k es) P
at_id-all P k [] all = tt
at_id-all P k (e ∷ es) all = elim (cases_Bool (e.0 == k)) [ inl here ↦ rw here all.0 | inr there ↦ rw there (at_id-all P k es all.1) ]

-- the value of an id, if each value is changed
pub at_id-map : {A B : Type 0} → (g : A → B) (k : ℕ) (es : List (ℕ × A)) → at_id k (map_values g es) ≡ option_map g (at_id k es)
at_id-map g k [] = refl
at_id-map g k (e ∷ es) = elim (cases_Bool (e.0 == k)) [ inl here ↦ simp here refl | inr there ↦ simp there (at_id-map g k es) ]

-- two levels

-- equality of numbers is symmetric
eqb-comm : (a b : ℕ) → (a == b) ≡ (b == a)
eqb-comm a b =
    elim (cases_Bool (a == b)) [
      | inl same ↦ same ∙ sym (eq-eqb b a (sym (eqb-true a b same)))
      | inr other ↦ other ∙ sym (ne_eqb b a (λ e. eqb-false a b other (sym e)))
    ]

-- places that are the same are equal
pub same_place-true : (p q : Place) → same_place p q ≡ true → p ≡ q
same_place-true p q same =
    let ids = and_parts (p.0 == q.0) (p.1 == q.1) same in
    let win = eqb-true p.0 q.0 ids.0 in
    let wid = eqb-true p.1 q.1 ids.1 in
    λ i. (win i, wid i)

-- a place is the same as itself
pub same_place-refl : (p : Place) → same_place p p ≡ true
same_place-refl p = and_from (p.0 == p.0) (p.1 == p.1) (eq-eqb p.0 p.0 refl) (eq-eqb p.1 p.1 refl)

-- being the same place is symmetric
pub same_place-comm : (p q : Place) → same_place p q ≡ same_place q p
same_place-comm p q = ap (λ b. b && (p.1 == q.1)) (eqb-comm p.0 q.0) ∙ ap (λ b. (q.0 == p.0) && b) (eqb-comm p.1 q.1)

-- two places differ in their window, or in their widget alone
which_differs : (p q : Place) → same_place p q ≡ false → ((p.0 == q.0) ≡ false) ⊎ ((p.0 ≡ q.0) × ((p.1 == q.1) ≡ false))
which_differs p q other =
    elim (cases_Bool (p.0 == q.0)) [ inl here ↦ inr (eqb-true p.0 q.0 here, rw here at other) | inr there ↦ inl there ]

-- a value that is not changed
map_none : {A : Type 0} (o : Option A) → o ≡ option_map (λ a. a) o
map_none None = refl
map_none (Some a) = refl

-- in the window that is found, if one is

-- the changed widget in the window
same_in : {A : Type 0} (k : ℕ) (f : A → A) (o : Option (List (ℕ × A)))
    → option_and_then (λ ws. at_id k ws) (option_map (λ ws. change_at k f ws) o) ≡ option_map f (option_and_then (λ ws. at_id k ws) o)
same_in k f None = refl
same_in k f (Some ws) = at_id-same k f ws

-- another widget in the window
other_in : {A : Type 0} (j k : ℕ) (f : A → A) (o : Option (List (ℕ × A))) → (j == k) ≡ false
    → option_and_then (λ ws. at_id k ws) (option_map (λ ws. change_at j f ws) o) ≡ option_and_then (λ ws. at_id k ws) o
other_in j k f None other = refl
other_in j k f (Some ws) other = at_id-other j k f ws other

-- two changes that agree on the widget in the window
agree_in : {A : Type 0} (k : ℕ) (f g : A → A) (o : Option (List (ℕ × A))) → IfSome (option_and_then (λ ws. at_id k ws) o) (λ a. f a ≡ g a)
    → IfSome o (λ ws. change_at k f ws ≡ change_at k g ws)
agree_in k f g None agree = tt
agree_in k f g (Some ws) agree = change_at-agree k f g ws agree

-- what is kept of the widget is kept of the window
kept_in : {A : Type 0} (P : A → Type 0) (k : ℕ) (f : A → A) (o : Option (List (ℕ × A))) → IfSome (option_and_then (λ ws. at_id k ws) o) (λ a. P a → P (f a))
    → IfSome o (λ ws. Each P ws → Each P (change_at k f ws))
kept_in P k f None kept = tt
kept_in P k f (Some ws) kept = λ each. change_at-all P k f ws each kept

-- what is so of each widget is so of the one in the window
each_in : {A : Type 0} (P : A → Type 0) (k : ℕ) (o : Option (List (ℕ × A))) → IfSome o (λ ws. Each P ws) → IfSome (option_and_then (λ ws. at_id k ws) o) P
each_in P k None each = tt
each_in P k (Some ws) each = at_id-all P k ws each

-- the widget at the changed place
pub widget_at-same : {A : Type 0} → (p : Place) (f : A → A) (b : Grouped A) → widget_at p (change_widget p f b) ≡ option_map f (widget_at p b)
widget_at-same p f b =
    ap (λ o. option_and_then (λ ws. at_id p.1 ws) o) (at_id-same p.0 (λ ws. change_at p.1 f ws) b) ∙ same_in p.1 f (at_id p.0 b)

-- the widget at another place
pub widget_at-other : {A : Type 0} → (p q : Place) (f : A → A) (b : Grouped A) → same_place p q ≡ false
    → widget_at q (change_widget p f b) ≡ widget_at q b
widget_at-other p q f b other =
    elim (which_differs p q other) [
      | inl windows ↦ ap (λ o. option_and_then (λ ws. at_id q.1 ws) o) (at_id-other p.0 q.0 (λ ws. change_at p.1 f ws) b windows)
      | inr widgets ↦ rw widgets.0 (
          ap (λ o. option_and_then (λ ws. at_id q.1 ws) o) (at_id-same q.0 (λ ws. change_at p.1 f ws) b)
          ∙ other_in p.1 q.1 f (at_id q.0 b) widgets.1)
    ]

-- the widget at one place after a change at another or the same
pub widget_at-change : {A : Type 0} → (p q : Place) (f : A → A) (b : Grouped A)
    → widget_at q (change_widget p f b) ≡ option_map (λ a. if same_place p q then f a else a) (widget_at q b)
widget_at-change p q f b =
    elim (cases_Bool (same_place p q)) [
      | inl same ↦ rw same (rw (same_place-true p q same) (widget_at-same q f b))
      | inr other ↦ rw other (widget_at-other p q f b other ∙ map_none (widget_at q b))
    ]

-- two changes at one place
pub change_widget-same : {A : Type 0} → (p : Place) (f g : A → A) (b : Grouped A)
    → change_widget p g (change_widget p f b) ≡ change_widget p (λ a. g (f a)) b
change_widget-same p f g b =
    change_at-same p.0 (λ ws. change_at p.1 f ws) (λ ws. change_at p.1 g ws) b
    ∙ ap (λ h. change_at p.0 h b) (λ i ws. change_at-same p.1 f g ws i)

-- changes at two places in either order
pub change_widget-other : {A : Type 0} → (p q : Place) (f g : A → A) (b : Grouped A) → same_place p q ≡ false
    → change_widget q g (change_widget p f b) ≡ change_widget p f (change_widget q g b)
change_widget-other p q f g b other =
    elim (which_differs p q other) [
      | inl windows ↦ change_at-other p.0 q.0 (λ ws. change_at p.1 f ws) (λ ws. change_at q.1 g ws) b windows
      | inr widgets ↦ rw widgets.0 (
          change_at-same q.0 (λ ws. change_at p.1 f ws) (λ ws. change_at q.1 g ws) b
          ∙ ap (λ h. change_at q.0 h b) (λ i ws. change_at-other p.1 q.1 f g ws widgets.1 i)
          ∙ sym (change_at-same q.0 (λ ws. change_at q.1 g ws) (λ ws. change_at p.1 f ws) b))
    ]

-- what two changes do alike to the widget that is there
pub change_widget-agree : {A : Type 0} → (p : Place) (f g : A → A) (b : Grouped A) → IfSome (widget_at p b) (λ a. f a ≡ g a)
    → change_widget p f b ≡ change_widget p g b
change_widget-agree p f g b agree =
    change_at-agree p.0 (λ ws. change_at p.1 f ws) (λ ws. change_at p.1 g ws) b (agree_in p.1 f g (at_id p.0 b) agree)

-- what is so of each widget stays so
pub change_widget-each : {A : Type 0} → (P : A → Type 0) (p : Place) (f : A → A) (b : Grouped A) → EachWidget P b
    → IfSome (widget_at p b) (λ a. P a → P (f a)) → EachWidget P (change_widget p f b)
change_widget-each P p f b each kept =
    change_at-all (λ ws. Each P ws) p.0 (λ ws. change_at p.1 f ws) b each (kept_in P p.1 f (at_id p.0 b) kept)

-- what is so of each widget is so of the one at a place
pub widget_at-each : {A : Type 0} → (P : A → Type 0) (p : Place) (b : Grouped A) → EachWidget P b → IfSome (widget_at p b) P
widget_at-each P p b each = each_in P p.1 (at_id p.0 b) (at_id-all (λ ws. Each P ws) p.0 b each)

-- what follows of each value
pub each-implies : {A : Type 0} → (P Q : A → Type 0) (es : List (ℕ × A)) → ((a : A) → P a → Q a) → Each P es → Each Q es
each-implies P Q [] h each = tt
each-implies P Q (e ∷ es) h each = (h e.1 each.0, each-implies P Q es h each.1)

-- P of each after a change gives Q of each before it, if it does so of each alone
change_at-back : {A : Type 0} (P Q : A → Type 0) (k : ℕ) (f : A → A) (es : List (ℕ × A)) → ((a : A) → P a → Q a)
    → IfSome (at_id k es) (λ a. P (f a) → Q a) → Each P (change_at k f es) → Each Q es
change_at-back P Q k f [] h back each = tt
change_at-back P Q k f (e ∷ es) h back each =
    elim (cases_Bool (e.0 == k)) [
      | inl here ↦
          let back_here : P (f e.1) → Q e.1 = rw here at back in
          let each_here : P (f e.1) × Each P es = rw here at each in
          (back_here each_here.0, each-implies P Q es h each_here.1)
      | inr there ↦
          let each_there : P e.1 × Each P (change_at k f es) = rw there at each in
          (h e.1 each_there.0, change_at-back P Q k f es h (rw there at back) each_there.1)
    ]

-- the same of the widget in a window
back_in : {A : Type 0} (P Q : A → Type 0) (k : ℕ) (f : A → A) (o : Option (List (ℕ × A))) → ((a : A) → P a → Q a)
    → IfSome (option_and_then (λ ws. at_id k ws) o) (λ a. P (f a) → Q a) → IfSome o (λ ws. Each P (change_at k f ws) → Each Q ws)
back_in P Q k f None h back = tt
back_in P Q k f (Some ws) h back = λ each. change_at-back P Q k f ws h back each

-- the same of the widgets of a board
pub change_widget-back : {A : Type 0} → (P Q : A → Type 0) (p : Place) (f : A → A) (b : Grouped A) → ((a : A) → P a → Q a)
    → IfSome (widget_at p b) (λ a. P (f a) → Q a) → EachWidget P (change_widget p f b) → EachWidget Q b
change_widget-back P Q p f b h back each =
    change_at-back (λ ws. Each P ws) (λ ws. Each Q ws) p.0 (λ ws. change_at p.1 f ws) b (λ ws every. each-implies P Q ws h every)
    (back_in P Q p.1 f (at_id p.0 b) h back) each

-- What does not depend on the room that a board keeps.

-- what a board shows does not depend on its room

-- the widget in a window that may be absent
bare_in : (k : ℕ) (o : Option (List (ℕ × Widget))) → option_and_then (λ ws. at_id k ws) (option_map board.bare_widgets o) ≡ option_map widget.bare (option_and_then (λ ws. at_id k ws) o)
bare_in k None = refl
bare_in k (Some ws) = at_id-map widget.bare k ws

-- the widget at a place of a board without its room
pub widget_at-bare : (p : Place) (b : board.Windows) → widget_at p (board.bare b) ≡ option_map widget.bare (widget_at p b)
widget_at-bare p b = ap (λ o. option_and_then (λ ws. at_id p.1 ws) o) (at_id-map board.bare_widgets p.0 b) ∙ bare_in p.1 (at_id p.0 b)

-- a widget holds the same names
held_bare : (n : Name) (o : Option Widget) → board.held_in n (option_map widget.bare o) ≡ board.held_in n o
held_bare n None = refl
held_bare n (Some (Text x)) = refl
held_bare n (Some (Labels x)) = refl
held_bare n (Some other) = refl

-- and so does a board
pub held-bare : (p : Place) (n : Name) (b : board.Windows) → board.held p n (board.bare b) ≡ board.held p n b
held-bare p n b = ap (λ o. board.held_in n o) (widget_at-bare p b) ∙ held_bare n (widget_at p b)

-- the sites of the names that a board holds

-- a name of items of one site has that site
every_named : {V : Type 0} (site : ℕ) (n : Name) (xs : List (Item V)) → every_item site xs ≡ true → has_name n xs ≡ true → n.site ≡ site
every_named site n [] every h = absurd (false≢true h)
every_named site n (x ∷ xs) every h =
    let parts = and_parts (x.name.site == site) (every_item site xs) every in
    elim (or_cases (name_eq x.name n) (has_name n xs) h) [
      | inl here ↦ ap (λ m. m.site) (sym (name_eq_same x.name n here)) ∙ eqb-true x.name.site site parts.0
      | inr there ↦ every_named site n xs parts.1 there
    ]

-- so has a name that a widget holds
every_held : (site : ℕ) (n : Name) (w : Widget) → every_in_widget site w ≡ true → widget.holds n w ≡ true → n.site ≡ site
every_held site n (Text x) every h = every_named site n x.items every h
every_held site n (Labels x) every h = every_named site n x.items every h
every_held site n other every h = absurd (false≢true h)

-- what is so of each value is so of the one under an id
at_id-every : {A : Type 0} (p : A → Bool) (k : ℕ) (es : List (ℕ × A)) → list_all (λ e. p e.1) es ≡ true → IfSome (at_id k es) (λ a. p a ≡ true)
at_id-every p k [] every = tt
at_id-every p k (e ∷ es) every =
    let parts = and_parts (p e.1) (list_all (λ x. p x.1) es) every in
    elim (cases_Bool (e.0 == k)) [ inl here ↦ rw here parts.0 | inr there ↦ rw there (at_id-every p k es parts.1) ]

-- and one that a window holds
every_in : (site : ℕ) (k : ℕ) (n : Name) (o : Option (List (ℕ × Widget))) → IfSome o (λ ws. every_in_window site ws ≡ true)
    → board.held_in n (option_and_then (λ ws. at_id k ws) o) ≡ true → n.site ≡ site
every_in site k n None every h = absurd (false≢true h)
every_in site k n (Some ws) every h = every_there (at_id k ws) (at_id-every (λ w. every_in_widget site w) k ws every) h
  where
    every_there : (o : Option Widget) → IfSome o (λ w. every_in_widget site w ≡ true) → board.held_in n o ≡ true → n.site ≡ site
    every_there None every h = absurd (false≢true h)
    every_there (Some w) every h = every_held site n w every h

-- if each item has the site, so has each name that is held
pub only_site-held : (site : ℕ) (b : board.Windows) (n : board.Placed) → only_site site b ≡ true → board.Holds b n → n.name.site ≡ site
only_site-held site b n every h =
    every_in site n.at.1 n.name (at_id n.at.0 b) (at_id-every (λ ws. every_in_window site ws) n.at.0 b every) h

-- a name of items of other sites does not have the site
none_named : {V : Type 0} (site : ℕ) (n : Name) (xs : List (Item V)) → some_item site xs ≡ false → has_name n xs ≡ true → n.site ≡ site → ⊥
none_named site n [] none h is = false≢true h
none_named site n (x ∷ xs) none h is =
    let parts = or_parts (x.name.site == site) (some_item site xs) none in
    elim (or_cases (name_eq x.name n) (has_name n xs) h) [
      | inl here ↦ eqb-false x.name.site site parts.0 (ap (λ m. m.site) (name_eq_same x.name n here) ∙ is)
      | inr there ↦ none_named site n xs parts.1 there is
    ]

-- nor has one that a widget holds
none_held : (site : ℕ) (n : Name) (w : Widget) → some_in_widget site w ≡ false → widget.holds n w ≡ true → n.site ≡ site → ⊥
none_held site n (Text x) none h is = none_named site n x.items none h is
none_held site n (Labels x) none h is = none_named site n x.items none h is
none_held site n other none h is = false≢true h

-- what is so of no value is not so of the one under an id
at_id-none : {A : Type 0} (p : A → Bool) (k : ℕ) (es : List (ℕ × A)) → list_any (λ e. p e.1) es ≡ false → IfSome (at_id k es) (λ a. p a ≡ false)
at_id-none p k [] none = tt
at_id-none p k (e ∷ es) none =
    let parts = or_parts (p e.1) (list_any (λ x. p x.1) es) none in
    elim (cases_Bool (e.0 == k)) [ inl here ↦ rw here parts.0 | inr there ↦ rw there (at_id-none p k es parts.1) ]

-- nor has one that a window holds
none_in : (site : ℕ) (k : ℕ) (n : Name) (o : Option (List (ℕ × Widget))) → IfSome o (λ ws. some_in_window site ws ≡ false)
    → board.held_in n (option_and_then (λ ws. at_id k ws) o) ≡ true → n.site ≡ site → ⊥
none_in site k n None none h is = false≢true h
none_in site k n (Some ws) none h is = none_there (at_id k ws) (at_id-none (λ w. some_in_widget site w) k ws none) h is
  where
    none_there : (o : Option Widget) → IfSome o (λ w. some_in_widget site w ≡ false) → board.held_in n o ≡ true → n.site ≡ site → ⊥
    none_there None none h is = false≢true h
    none_there (Some w) none h is = none_held site n w none h is

-- if no item has the site, no name that is held has it
pub has_site-held : (site : ℕ) (b : board.Windows) (n : board.Placed) → has_site site b ≡ false → board.Holds b n → n.name.site ≡ site → ⊥
has_site-held site b n none h is =
    none_in site n.at.1 n.name (at_id n.at.0 b) (at_id-none (λ ws. some_in_window site ws) n.at.0 b none) h is

-- the tests do not see the room either

-- for some item of a widget
some_bare : (site : ℕ) (w : Widget) → some_in_widget site (widget.bare w) ≡ some_in_widget site w
some_bare site (Text x) = refl
some_bare site (Labels x) = refl
some_bare site other = refl

-- for each item of a widget
every_bare : (site : ℕ) (w : Widget) → every_in_widget site (widget.bare w) ≡ every_in_widget site w
every_bare site (Text x) = refl
every_bare site (Labels x) = refl
every_bare site other = refl

-- for some item of a window
some_in_window-bare : (site : ℕ) (ws : List (ℕ × Widget)) → some_in_window site (board.bare_widgets ws) ≡ some_in_window site ws
some_in_window-bare site [] = refl
some_in_window-bare site (e ∷ es) = λ i. some_bare site e.1 i || some_in_window-bare site es i

-- for each item of a window
every_in_window-bare : (site : ℕ) (ws : List (ℕ × Widget)) → every_in_window site (board.bare_widgets ws) ≡ every_in_window site ws
every_in_window-bare site [] = refl
every_in_window-bare site (e ∷ es) = λ i. every_bare site e.1 i && every_in_window-bare site es i

-- for some item of a board
pub has_site-bare : (site : ℕ) (b : board.Windows) → has_site site (board.bare b) ≡ has_site site b
has_site-bare site [] = refl
has_site-bare site (e ∷ es) = λ i. some_in_window-bare site e.1 i || has_site-bare site es i

-- for each item of a board
pub only_site-bare : (site : ℕ) (b : board.Windows) → only_site site (board.bare b) ≡ only_site site b
only_site-bare site [] = refl
only_site-bare site (e ∷ es) = λ i. every_in_window-bare site e.1 i && only_site-bare site es i
