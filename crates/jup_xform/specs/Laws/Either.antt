-- The laws of operations of one of two kinds.
use Rattle.std.proofs.Common.{◌≡◌, ℕ, ◌+◌, refl, ap, ◌⊎◌, [], ◌∷◌, inl, inr, Bool, List, ◌++◌, sym, ◌∙◌}
use Rattle.jup_xform.specs.declared.one_of.OneOf.{OneOf}
use Rattle.jup_xform.specs.declared.one_of.OneOf.TheVariants.{First, Second}
use Rattle.jup_xform.specs.declared.Transform.{Ghosts}
use Rattle.jup_xform.specs.Grids.{SquareMeets, IsLawful, KeepsFresh, KeepsMeaning, KeepsRest}
use Rattle.jup_xform.specs.Either.{of_each, Alike, IfAlike, moved, either, in_each, firsts, seconds}
use Rattle.jup_xform.specs.Rows.{SomeOf, row_operation}

-- The laws of a transform for operations of one of two kinds, from those of each kind.

-- what a move keeps in each kind, it keeps in either
module _ {A B : Type 0} (P : A → A → Type 0) (Q : B → B → Type 0) (f : A → A → A) (g : B → B → B) where
  pub left_kept : ((c s o : A) → P c o → P (f c s) o) → ((c s o : B) → Q c o → Q (g c s) o)
      → (c s o : OneOf A B) → IfAlike P Q c o → IfAlike P Q (moved f g c s) o
  left_kept p q (First c) (First s) (First o) r = p c s o r
  left_kept p q (First c) (First s) (Second o) r = tt
  left_kept p q (First c) (Second s) o r = r
  left_kept p q (Second c) (First s) o r = r
  left_kept p q (Second c) (Second s) (First o) r = tt
  left_kept p q (Second c) (Second s) (Second o) r = q c s o r

  pub right_kept : ((c s o : A) → P o c → P o (f c s)) → ((c s o : B) → Q o c → Q o (g c s))
      → (c s o : OneOf A B) → IfAlike P Q o c → IfAlike P Q o (moved f g c s)
  right_kept p q (First c) (First s) (First o) r = p c s o r
  right_kept p q (First c) (First s) (Second o) r = tt
  right_kept p q (First c) (Second s) o r = r
  right_kept p q (Second c) (First s) o r = r
  right_kept p q (Second c) (Second s) (First o) r = tt
  right_kept p q (Second c) (Second s) (Second o) r = q c s o r

module _ {A X E B Y F : Type 0} (a : Ghosts A X E) (b : Ghosts B Y F) where
  square : IsLawful a → IsLawful b → (x : OneOf X Y) (c s : OneOf A B) → of_each a.is_distinct b.is_distinct x → of_each (a.is_small 1) (b.is_small 1) x
      → Alike a.is_valid b.is_valid c x → Alike a.is_valid b.is_valid s x → IfAlike a.are_apart b.are_apart c s → SquareMeets (either a b) c s x
  square la lb (First x) (First c) (First s) d l vc vs p = let q = la.square x c s d l vc vs p in (q.0, q.1, ap (λ y. First y) q.2)
  square la lb (Second x) (Second c) (Second s) d l vc vs p = let q = lb.square x c s d l vc vs p in (q.0, q.1, ap (λ y. Second y) q.2)
  square la lb (First x) (First c) (Second s) d l vc vs p = absurd vs
  square la lb (First x) (Second c) s d l vc vs p = absurd vc
  square la lb (Second x) (Second c) (First s) d l vc vs p = absurd vs
  square la lb (Second x) (First c) s d l vc vs p = absurd vc

  distinct_after : IsLawful a → IsLawful b → (x : OneOf X Y) (c : OneOf A B) → of_each a.is_distinct b.is_distinct x → Alike a.is_valid b.is_valid c x
      → of_each a.is_distinct b.is_distinct ((either a b).after c x)
  distinct_after la lb (First x) (First c) d v = la.distinct_after x c d v
  distinct_after la lb (Second x) (Second c) d v = lb.distinct_after x c d v
  distinct_after la lb (First x) (Second c) d v = absurd v
  distinct_after la lb (Second x) (First c) d v = absurd v

  small_after : IsLawful a → IsLawful b → (n : ℕ) (x : OneOf X Y) (c : OneOf A B) → of_each (a.is_small (n + 1)) (b.is_small (n + 1)) x
      → Alike a.is_valid b.is_valid c x → of_each (a.is_small n) (b.is_small n) ((either a b).after c x)
  small_after la lb n (First x) (First c) l v = la.small_after n x c l v
  small_after la lb n (Second x) (Second c) l v = lb.small_after n x c l v
  small_after la lb n (First x) (Second c) l v = absurd v
  small_after la lb n (Second x) (First c) l v = absurd v

  small_below : IsLawful a → IsLawful b → (n : ℕ) (x : OneOf X Y) → of_each (a.is_small (n + 1)) (b.is_small (n + 1)) x → of_each (a.is_small n) (b.is_small n) x
  small_below la lb n (First x) l = la.small_below n x l
  small_below la lb n (Second x) l = lb.small_below n x l

  small_before : IsLawful a → IsLawful b → (n : ℕ) (x : OneOf X Y) (c : OneOf A B) → Alike a.is_valid b.is_valid c x
      → of_each (a.is_small (n + 1)) (b.is_small (n + 1)) ((either a b).after c x) → of_each (a.is_small n) (b.is_small n) x
  small_before la lb n (First x) (First c) v l = la.small_before n x c v l
  small_before la lb n (Second x) (Second c) v l = lb.small_before n x c v l
  small_before la lb n (First x) (Second c) v l = absurd v
  small_before la lb n (Second x) (First c) v l = absurd v

  apart_swap : IsLawful a → IsLawful b → (c s : OneOf A B) → IfAlike a.are_apart b.are_apart c s → IfAlike a.are_apart b.are_apart s c
  apart_swap la lb (First c) (First s) p = la.apart_swap c s p
  apart_swap la lb (First c) (Second s) p = tt
  apart_swap la lb (Second c) (First s) p = tt
  apart_swap la lb (Second c) (Second s) p = lb.apart_swap c s p

  pub either_is_lawful : IsLawful a → IsLawful b → IsLawful (either a b)
  either_is_lawful la lb = record {
    square = square la lb;
    distinct_after = distinct_after la lb;
    small_after = small_after la lb;
    small_below = small_below la lb;
    small_before = small_before la lb;
    apart_swap = apart_swap la lb;
    apart_client = left_kept a.are_apart b.are_apart a.client_past b.client_past la.apart_client lb.apart_client;
    apart_server = left_kept a.are_apart b.are_apart a.server_past b.server_past la.apart_server lb.apart_server;
  }

  pub either_keeps_fresh : KeepsFresh a → KeepsFresh b → KeepsFresh (either a b)
  either_keeps_fresh ka kb = record {
    fresh_client = left_kept a.is_fresh b.is_fresh a.client_past b.client_past ka.fresh_client kb.fresh_client;
    fresh_server = left_kept a.is_fresh b.is_fresh a.server_past b.server_past ka.fresh_server kb.fresh_server;
    fresh_of_client = right_kept a.is_fresh b.is_fresh a.client_past b.client_past ka.fresh_of_client kb.fresh_of_client;
    fresh_of_server = right_kept a.is_fresh b.is_fresh a.server_past b.server_past ka.fresh_of_server kb.fresh_of_server;
  }

-- The laws of names, order and room for operations of one of two kinds.

-- a name that the one has, and one or the other of two others has, where both kinds have it so
module _ {A X E B Y F : Type 0} (a : Ghosts A X E) (b : Ghosts B Y F) (ka : KeepsMeaning a) (kb : KeepsMeaning b) where
  pub effect_one : (x : OneOf X Y) (c : OneOf A B) → of_each a.is_distinct b.is_distinct x → Alike a.is_valid b.is_valid c x
      → (either a b).content ((either a b).after c x) ≡ (either a b).meaning ((either a b).content x) ((either a b).edit_of c ∷ [])
  effect_one (First x) (First c) d v = ap (λ k. First k) (ka.effect_one x c d v)
  effect_one (Second x) (Second c) d v = ap (λ k. Second k) (kb.effect_one x c d v)
  effect_one (First x) (Second c) d v = absurd v
  effect_one (Second x) (First c) d v = absurd v

  pub order : (x : OneOf X Y) (c : OneOf A B) → of_each a.is_distinct b.is_distinct x → Alike a.is_valid b.is_valid c x
      → Alike a.keeps_order b.keeps_order x ((either a b).after c x)
  order (First x) (First c) d v = ka.order x c d v
  order (Second x) (Second c) d v = kb.order x c d v
  order (First x) (Second c) d v = absurd v
  order (Second x) (First c) d v = absurd v

  pub order_self : (x : OneOf X Y) → Alike a.keeps_order b.keeps_order x x
  order_self (First x) = ka.order_self x
  order_self (Second x) = kb.order_self x

  pub order_chain : (x y z : OneOf X Y) → Alike a.keeps_order b.keeps_order x y → Alike a.keeps_order b.keeps_order y z
      → ((n : OneOf a.Name b.Name) → Alike a.holds b.holds x n → Alike a.holds b.holds z n → Alike a.holds b.holds y n)
      → Alike a.keeps_order b.keeps_order x z
  order_chain (First x) (First y) (First z) p q h = ka.order_chain x y z p q (λ n. h (First n))
  order_chain (Second x) (Second y) (Second z) p q h = kb.order_chain x y z p q (λ n. h (Second n))
  order_chain (First x) (First y) (Second z) p q h = absurd q
  order_chain (First x) (Second y) z p q h = absurd p
  order_chain (Second x) (Second y) (First z) p q h = absurd q
  order_chain (Second x) (First y) z p q h = absurd p

  pub inserts_client : (c s : OneOf A B) (n : OneOf a.Name b.Name) → (either a b).inserts ((either a b).edit_of ((either a b).client_past c s)) n
      → (either a b).inserts ((either a b).edit_of c) n
  inserts_client (First c) (First s) (First n) i = ka.inserts_client c s n i
  inserts_client (First c) (First s) (Second n) i = i
  inserts_client (First c) (Second s) n i = i
  inserts_client (Second c) (First s) n i = i
  inserts_client (Second c) (Second s) (First n) i = i
  inserts_client (Second c) (Second s) (Second n) i = kb.inserts_client c s n i

  pub inserts_server : (s c : OneOf A B) (n : OneOf a.Name b.Name) → (either a b).inserts ((either a b).edit_of ((either a b).server_past s c)) n
      → (either a b).inserts ((either a b).edit_of s) n
  inserts_server (First s) (First c) (First n) i = ka.inserts_server s c n i
  inserts_server (First s) (First c) (Second n) i = i
  inserts_server (First s) (Second c) n i = i
  inserts_server (Second s) (First c) n i = i
  inserts_server (Second s) (Second c) (First n) i = i
  inserts_server (Second s) (Second c) (Second n) i = kb.inserts_server s c n i

  pub changes_client : (c s : OneOf A B) (n : OneOf a.Name b.Name) → (either a b).changes ((either a b).edit_of c) n
      → (either a b).changes ((either a b).edit_of ((either a b).client_past c s)) n ⊎ (either a b).changes ((either a b).edit_of s) n
  changes_client (First c) (First s) (First n) h = ka.changes_client c s n h
  changes_client (First c) s (Second n) h = absurd h
  changes_client (First c) (Second s) (First n) h = inl h
  changes_client (Second c) (First s) (Second n) h = inl h
  changes_client (Second c) s (First n) h = absurd h
  changes_client (Second c) (Second s) (Second n) h = kb.changes_client c s n h

  pub changes_server : (s c : OneOf A B) (n : OneOf a.Name b.Name) → (either a b).changes ((either a b).edit_of ((either a b).server_past s c)) n
      → (either a b).changes ((either a b).edit_of s) n
  changes_server (First s) (First c) (First n) h = ka.changes_server s c n h
  changes_server (First s) (First c) (Second n) h = h
  changes_server (First s) (Second c) n h = h
  changes_server (Second s) (First c) n h = h
  changes_server (Second s) (Second c) (First n) h = h
  changes_server (Second s) (Second c) (Second n) h = kb.changes_server s c n h

  pub apart_names : (c s : OneOf A B) (n : OneOf a.Name b.Name) → IfAlike a.are_apart b.are_apart c s
      → (either a b).inserts ((either a b).edit_of c) n → (either a b).inserts ((either a b).edit_of s) n → ⊥
  apart_names (First c) (First s) (First n) p i j = ka.apart_names c s n p i j
  apart_names (First c) s (Second n) p i j = i
  apart_names (First c) (Second s) (First n) p i j = j
  apart_names (Second c) (First s) (Second n) p i j = j
  apart_names (Second c) s (First n) p i j = i
  apart_names (Second c) (Second s) (Second n) p i j = kb.apart_names c s n p i j

  pub fresh_names : (c e : OneOf A B) (n : OneOf a.Name b.Name) → IfAlike a.is_fresh b.is_fresh c e → (either a b).inserts ((either a b).edit_of c) n
      → ((either a b).inserts ((either a b).edit_of e) n ⊎ (either a b).deletes ((either a b).edit_of e) n) → ⊥
  fresh_names (First c) (First e) (First n) f i h = ka.fresh_names c e n f i h
  fresh_names (First c) e (Second n) f i h = i
  fresh_names (First c) (Second e) (First n) f i h = elim h [ inl j ↦ j | inr j ↦ j ]
  fresh_names (Second c) (First e) (Second n) f i h = elim h [ inl j ↦ j | inr j ↦ j ]
  fresh_names (Second c) e (First n) f i h = i
  fresh_names (Second c) (Second e) (Second n) f i h = kb.fresh_names c e n f i h

  pub inserts_new : (x : OneOf X Y) (c : OneOf A B) (n : OneOf a.Name b.Name) → Alike a.is_valid b.is_valid c x
      → (either a b).inserts ((either a b).edit_of c) n → Alike a.holds b.holds x n → ⊥
  inserts_new (First x) (First c) (First n) v i h = ka.inserts_new x c n v i h
  inserts_new (First x) c (Second n) v i h = h
  inserts_new (First x) (Second c) (First n) v i h = v
  inserts_new (Second x) (First c) (Second n) v i h = v
  inserts_new (Second x) c (First n) v i h = h
  inserts_new (Second x) (Second c) (Second n) v i h = kb.inserts_new x c n v i h

  pub changes_held : (x : OneOf X Y) (c : OneOf A B) (n : OneOf a.Name b.Name) → Alike a.is_valid b.is_valid c x
      → (either a b).changes ((either a b).edit_of c) n → Alike a.holds b.holds x n ⊎ (either a b).inserts ((either a b).edit_of c) n
  changes_held (First x) (First c) (First n) v h = ka.changes_held x c n v h
  changes_held (First x) (First c) (Second n) v h = absurd h
  changes_held (First x) (Second c) n v h = absurd v
  changes_held (Second x) (First c) n v h = absurd v
  changes_held (Second x) (Second c) (First n) v h = absurd h
  changes_held (Second x) (Second c) (Second n) v h = kb.changes_held x c n v h

  pub held_before : (x : OneOf X Y) (c : OneOf A B) (n : OneOf a.Name b.Name) → Alike a.is_valid b.is_valid c x
      → Alike a.holds b.holds ((either a b).after c x) n → Alike a.holds b.holds x n ⊎ (either a b).inserts ((either a b).edit_of c) n
  held_before (First x) (First c) (First n) v h = ka.held_before x c n v h
  held_before (First x) (First c) (Second n) v h = absurd h
  held_before (First x) (Second c) n v h = absurd v
  held_before (Second x) (First c) n v h = absurd v
  held_before (Second x) (Second c) (First n) v h = absurd h
  held_before (Second x) (Second c) (Second n) v h = kb.held_before x c n v h

  pub held_after : (x : OneOf X Y) (c : OneOf A B) (n : OneOf a.Name b.Name) → Alike a.is_valid b.is_valid c x
      → Alike a.holds b.holds x n → Alike a.holds b.holds ((either a b).after c x) n ⊎ (either a b).deletes ((either a b).edit_of c) n
  held_after (First x) (First c) (First n) v h = ka.held_after x c n v h
  held_after (First x) (First c) (Second n) v h = absurd h
  held_after (First x) (Second c) n v h = absurd v
  held_after (Second x) (First c) n v h = absurd v
  held_after (Second x) (Second c) (First n) v h = absurd h
  held_after (Second x) (Second c) (Second n) v h = kb.held_after x c n v h

-- the rest of the laws: two operations' effect, room and shape
module _ {A X E B Y F : Type 0} (a : Ghosts A X E) (b : Ghosts B Y F) where
  effect_two : KeepsRest a → KeepsRest b → (x : OneOf X Y) (c s : OneOf A B) → (either a b).is_distinct x → (either a b).is_small 1 x
      → (either a b).is_valid c x → (either a b).is_valid s x → (either a b).are_apart c s
      → (either a b).content ((either a b).after ((either a b).server_past s c) ((either a b).after c x))
      ≡ (either a b).meaning ((either a b).content x) ((either a b).edit_of s ∷ (either a b).edit_of c ∷ [])
  effect_two ra rb (First x) (First c) (First s) d l vc vs p = ap (λ k. First k) (ra.effect_two x c s d l vc vs p)
  effect_two ra rb (Second x) (Second c) (Second s) d l vc vs p = ap (λ k. Second k) (rb.effect_two x c s d l vc vs p)
  effect_two ra rb (First x) (First c) (Second s) d l vc vs p = absurd vs
  effect_two ra rb (First x) (Second c) s d l vc vs p = absurd vc
  effect_two ra rb (Second x) (Second c) (First s) d l vc vs p = absurd vs
  effect_two ra rb (Second x) (First c) s d l vc vs p = absurd vc

  room_less : KeepsRest a → KeepsRest b → (n : ℕ) (x : OneOf X Y) (c : OneOf A B) → (either a b).has_room c (n + 1) x → (either a b).has_room c n x
  room_less ra rb n (First x) (First c) r = ra.room_less n x c r
  room_less ra rb n (First x) (Second c) r = r
  room_less ra rb n (Second x) (First c) r = r
  room_less ra rb n (Second x) (Second c) r = rb.room_less n x c r

  room_client : KeepsRest a → KeepsRest b → (n : ℕ) (x : OneOf X Y) (c s : OneOf A B) → (either a b).has_room c n x → (either a b).has_room ((either a b).client_past c s) n x
  room_client ra rb n (First x) (First c) (First s) r = ra.room_client n x c s r
  room_client ra rb n (Second x) (First c) (First s) r = r
  room_client ra rb n x (First c) (Second s) r = r
  room_client ra rb n x (Second c) (First s) r = r
  room_client ra rb n (First x) (Second c) (Second s) r = r
  room_client ra rb n (Second x) (Second c) (Second s) r = rb.room_client n x c s r

  room_server : KeepsRest a → KeepsRest b → (n : ℕ) (x : OneOf X Y) (s c : OneOf A B) → (either a b).has_room s n x → (either a b).has_room ((either a b).server_past s c) n x
  room_server ra rb n (First x) (First s) (First c) r = ra.room_server n x s c r
  room_server ra rb n (Second x) (First s) (First c) r = r
  room_server ra rb n x (First s) (Second c) r = r
  room_server ra rb n x (Second s) (First c) r = r
  room_server ra rb n (First x) (Second s) (Second c) r = r
  room_server ra rb n (Second x) (Second s) (Second c) r = rb.room_server n x s c r

  pub shape_moved : {C D G H : Type 0} (f : A → C → A) (g : B → D → B) (p : A → G) (q : B → H) → ((c : A) (s : C) → p (f c s) ≡ p c) → ((c : B) (s : D) → q (g c s) ≡ q c)
      → (c : OneOf A B) (s : OneOf C D) → in_each p q (moved f g c s) ≡ in_each p q c
  shape_moved f g p q k l (First c) (First s) = ap (λ h. First h) (k c s)
  shape_moved f g p q k l (First c) (Second s) = refl
  shape_moved f g p q k l (Second c) (First s) = refl
  shape_moved f g p q k l (Second c) (Second s) = ap (λ h. Second h) (l c s)

  pub either_keeps_rest : KeepsRest a → KeepsRest b → KeepsRest (either a b)
  either_keeps_rest ra rb = record {
    effect_two = effect_two ra rb;
    room_less = room_less ra rb;
    room_client = room_client ra rb;
    room_server = room_server ra rb;
    shape_client = shape_moved a.client_past b.client_past a.shape b.shape ra.shape_client rb.shape_client;
    shape_server = shape_moved a.server_past b.server_past a.shape b.shape ra.shape_server rb.shape_server;
  }

-- The laws of edits for operations of one of two kinds: a content of one kind passes over the edits of the other.

firsts-append : {A B : Type 0} (es fs : List (OneOf A B)) → firsts (es ++ fs) ≡ firsts es ++ firsts fs
firsts-append [] fs = refl
firsts-append (First a ∷ es) fs = ap (λ r. a ∷ r) (firsts-append es fs)
firsts-append (Second b ∷ es) fs = firsts-append es fs

seconds-append : {A B : Type 0} (es fs : List (OneOf A B)) → seconds (es ++ fs) ≡ seconds es ++ seconds fs
seconds-append [] fs = refl
seconds-append (First a ∷ es) fs = seconds-append es fs
seconds-append (Second b ∷ es) fs = ap (λ r. b ∷ r) (seconds-append es fs)

some_first : {E F M N : Type 0} (P : E → M → Type 0) (Q : F → N → Type 0) (n : M) (es : List (OneOf E F)) → SomeOf (λ e. P e n) (firsts es) → SomeOf (λ e. Alike P Q e (First n)) es
some_first P Q n [] h = h
some_first P Q n (First e ∷ es) (inl h) = inl h
some_first P Q n (First e ∷ es) (inr h) = inr (some_first P Q n es h)
some_first P Q n (Second e ∷ es) h = inr (some_first P Q n es h)

some_second : {E F M N : Type 0} (P : E → M → Type 0) (Q : F → N → Type 0) (n : N) (es : List (OneOf E F)) → SomeOf (λ e. Q e n) (seconds es) → SomeOf (λ e. Alike P Q e (Second n)) es
some_second P Q n [] h = h
some_second P Q n (First e ∷ es) h = inr (some_second P Q n es h)
some_second P Q n (Second e ∷ es) (inl h) = inl h
some_second P Q n (Second e ∷ es) (inr h) = inr (some_second P Q n es h)

row_first : {A B : Type 0} (f : A → A → A) (g : B → B → B) (o : A) (es : List (OneOf A B)) → row_operation (moved f g) (First o) es ≡ First (row_operation f o (firsts es))
row_first f g o [] = refl
row_first f g o (First e ∷ es) = row_first f g (f o e) es
row_first f g o (Second e ∷ es) = row_first f g o es

row_second : {A B : Type 0} (f : A → A → A) (g : B → B → B) (o : B) (es : List (OneOf A B)) → row_operation (moved f g) (Second o) es ≡ Second (row_operation g o (seconds es))
row_second f g o [] = refl
row_second f g o (First e ∷ es) = row_second f g o es
row_second f g o (Second e ∷ es) = row_second f g (g o e) es

module _ {A X E B Y F : Type 0} (a : Ghosts A X E) (b : Ghosts B Y F) (ka : KeepsMeaning a) (kb : KeepsMeaning b) where
  meaning_none : (k : OneOf a.Content b.Content) → (either a b).meaning k [] ≡ k
  meaning_none (First k) = ap (λ k. First k) (ka.meaning_none k)
  meaning_none (Second k) = ap (λ k. Second k) (kb.meaning_none k)

  meaning_more : (k : OneOf a.Content b.Content) (es fs : List (OneOf E F))
      → ((n : OneOf a.Name b.Name) → SomeOf (λ f. (either a b).inserts f n) fs → SomeOf (λ e. (either a b).changes e n) es → ⊥)
      → (either a b).meaning ((either a b).meaning k es) fs ≡ (either a b).meaning k (es ++ fs)
  meaning_more (First k) es fs fresh =
      ap (λ k. First k) (ka.meaning_more k (firsts es) (firsts fs)
      (λ n i d. fresh (First n) (some_first a.inserts b.inserts n fs i) (some_first a.changes b.changes n es d))
      ∙ ap (a.meaning k) (sym (firsts-append es fs)))
  meaning_more (Second k) es fs fresh =
      ap (λ k. Second k) (kb.meaning_more k (seconds es) (seconds fs)
      (λ n i d. fresh (Second n) (some_second a.inserts b.inserts n fs i) (some_second a.changes b.changes n es d))
      ∙ ap (b.meaning k) (sym (seconds-append es fs)))

  edit_client : (c s : OneOf A B) (past : List (OneOf A B)) (k : OneOf a.Content b.Content) (before between later : List (OneOf E F))
      → (either a b).meaning k (before ++ (either a b).edit_of s ∷ (between ++ (either a b).edit_of ((either a b).client_past c (row_operation (either a b).server_past s past)) ∷ later))
      ≡ (either a b).meaning k (before ++ (either a b).edit_of s ∷ (between ++ (either a b).edit_of c ∷ later))
  edit_client (First c) (First s) past (First k) before between later =
      simp (row_first, firsts-append) (ap (λ k. First k) (ka.edit_client c s (firsts past) k (firsts before) (firsts between) (firsts later)))
  edit_client (First c) (First s) past (Second k) before between later = simp (row_first, seconds-append) refl
  edit_client (First c) (Second s) past k before between later = simp (row_second) refl
  edit_client (Second c) (First s) past k before between later = simp (row_first) refl
  edit_client (Second c) (Second s) past (First k) before between later = simp (row_second, firsts-append) refl
  edit_client (Second c) (Second s) past (Second k) before between later =
      simp (row_second, seconds-append) (ap (λ k. Second k) (kb.edit_client c s (seconds past) k (seconds before) (seconds between) (seconds later)))

  edit_server : (c s : OneOf A B) → (either a b).are_apart c s → (k : OneOf a.Content b.Content) (before later : List (OneOf E F))
      → (either a b).meaning k (before ++ (either a b).edit_of c ∷ (either a b).edit_of ((either a b).server_past s c) ∷ later)
      ≡ (either a b).meaning k (before ++ (either a b).edit_of s ∷ (either a b).edit_of c ∷ later)
  edit_server (First c) (First s) p (First k) before later = simp firsts-append (ap (λ k. First k) (ka.edit_server c s p k (firsts before) (firsts later)))
  edit_server (First c) (First s) p (Second k) before later = simp seconds-append refl
  edit_server (First c) (Second s) p (First k) before later = simp firsts-append refl
  edit_server (First c) (Second s) p (Second k) before later = simp seconds-append refl
  edit_server (Second c) (First s) p (First k) before later = simp firsts-append refl
  edit_server (Second c) (First s) p (Second k) before later = simp seconds-append refl
  edit_server (Second c) (Second s) p (First k) before later = simp firsts-append refl
  edit_server (Second c) (Second s) p (Second k) before later = simp seconds-append (ap (λ k. Second k) (kb.edit_server c s p k (seconds before) (seconds later)))

  pub either_keeps_meaning : KeepsMeaning (either a b)
  either_keeps_meaning = record {
    effect_one = effect_one a b ka kb;
    order = order a b ka kb;
    order_self = order_self a b ka kb;
    order_chain = order_chain a b ka kb;
    inserts_client = inserts_client a b ka kb;
    inserts_server = inserts_server a b ka kb;
    changes_client = changes_client a b ka kb;
    changes_server = changes_server a b ka kb;
    apart_names = apart_names a b ka kb;
    fresh_names = fresh_names a b ka kb;
    inserts_new = inserts_new a b ka kb;
    changes_held = changes_held a b ka kb;
    held_before = held_before a b ka kb;
    held_after = held_after a b ka kb;
    meaning_none = meaning_none;
    meaning_more = meaning_more;
    edit_client = edit_client;
    edit_server = edit_server;
  }
