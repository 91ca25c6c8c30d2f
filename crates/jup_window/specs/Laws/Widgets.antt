-- The laws of operations on widgets.
use Rattle.std.proofs.Common.{◌≡◌, ℕ, ◌+◌, List, [], ◌∷◌, IsTrue, refl, ap, subst, true, false, Option, Some, None, sym, ◌∙◌, ◌⊎◌, inl, not}
use Rattle.std.proofs.lemmas.Bool.{false≢true, not-true, not_from_false, false_from_ne_true}
use Rattle.jup_window.specs.Prelude.{First, Second, Name, Items, name_eq_refl, SeqOp, Insert, Delete, Relabel, NoSeqOp, is_no_relabel, Widget, Text, Labels, WidgetOp, OnText, OnList, name_eq, name_eq_same}
use Rattle.jup_value.proofs.Items.{name_eq_sym}
use Rattle.jup_seq.specs.Operations.{inserted_by}
use Rattle.jup_seq.specs.Laws.Kinds.{put_name-text, texts_keep_meaning, text_changes_own}
use Rattle.jup_seq.specs.Operations as seq
use Rattle.jup_seq.specs.Laws.Squares as seq_effects
use Rattle.jup_seq.specs.Names as seq_names
use Rattle.jup_window.specs.Kinds.{kinds, kinds_are_lawful, kinds_keep_meaning, kinds_keep_rest, op_kind, op_kind-of, kind_of, widget_of, kind_of-widget, content, edit_of, meaning, WidgetEdit, inserted_name, deleted_name, InsertsName, DeletesName, ChangesName, HasNoItems, value_after, value_names}
use Rattle.jup_window.specs.Widgets.{bare, IsValid, relabels_no_text, after, HasRoom, HasDistinctNames, IsSmall, KeepsOrder, client_past, server_past, names_differ, AreApart, holds, stands, inserted, deleted, IsFresh}

-- The laws of operations on widgets: those of all kinds as one.

-- what holds of operations on texts, on lists and on widgets without items holds of every one that is valid
pub of_valid : (P : WidgetOp → Widget → Type 0)
    → ((c : SeqOp ℕ) (x : Items ℕ) → IsTrue (is_no_relabel c) × seq.IsValid c x → P (OnText c) (Text x))
    → ((c : SeqOp (List ℕ)) (x : Items (List ℕ)) → seq.IsValid c x → P (OnList c) (Labels x))
    → ((c : WidgetOp) (w : Widget) → HasNoItems w → IsValid c w → P c w)
    → (c : WidgetOp) (w : Widget) → IsValid c w → P c w
of_valid P texts lists others (OnText c) (Text x) vc = texts c x vc
of_valid P texts lists others (OnList c) (Labels x) vc = lists c x vc
of_valid P texts lists others c (Text x) vc = absurd vc
of_valid P texts lists others c (Labels x) vc = absurd vc
of_valid P texts lists others c w vc = others c w tt vc

-- operations and widgets as those of their kinds

-- a widget after an operation
pub after-kinds : (o : WidgetOp) (w : Widget) → kind_of (after o w) ≡ kinds.after (op_kind o) (kind_of w)
after-kinds o w = kind_of-widget (kinds.after (op_kind o) (kind_of w))

-- an operation past another
pub client-kinds : (c s : WidgetOp) → op_kind (client_past c s) ≡ kinds.client_past (op_kind c) (op_kind s)
client-kinds c s = op_kind-of (kinds.client_past (op_kind c) (op_kind s))

pub server-kinds : (s c : WidgetOp) → op_kind (server_past s c) ≡ kinds.server_past (op_kind s) (op_kind c)
server-kinds s c = op_kind-of (kinds.server_past (op_kind s) (op_kind c))

-- a valid operation relabels no text
pub valid-relabels_no_text : (o : WidgetOp) (w : Widget) → IsValid o w → IsTrue (relabels_no_text o)
valid-relabels_no_text (OnText o) (Text x) v = v.0
valid-relabels_no_text (OnText o) w v = absurd v
valid-relabels_no_text o w v = refl

-- operations of which the names are apart are apart on their sequence
pub apart_names : {V : Type 0} → (c s : SeqOp V) → IsTrue (names_differ (inserted_by c) (inserted_by s)) → seq.AreApart c s
apart_names (Insert p y) (Insert q z) apart = not-true (name_eq y.name z.name) apart
apart_names (Insert p y) (Delete q n) apart = tt
apart_names (Insert p y) (Relabel q n v) apart = tt
apart_names (Insert p y) NoSeqOp apart = tt
apart_names (Delete p m) s apart = tt
apart_names (Relabel p n v) s apart = tt
apart_names NoSeqOp s apart = tt

-- and so they are of their kind
pub apart-kinds : (c s : WidgetOp) → AreApart c s → kinds.are_apart (op_kind c) (op_kind s)
apart-kinds (OnText c) (OnText s) apart = apart_names c s (rw (put_name-text c, put_name-text s) at apart)
apart-kinds (OnList c) (OnList s) apart = apart_names c s apart
apart-kinds c (OnText s) apart = tt
apart-kinds c s apart = tt

-- what a transform keeps

-- a property of operations that does not depend on places, and that another operation on the same widget without items has too
pub record IsKept (P : WidgetOp → Type 0) : Type 0 where
  pub texts : seq.IgnoresPlaces (λ (o : SeqOp ℕ). P (OnText o))
  pub lists : seq.IgnoresPlaces (λ (o : SeqOp (List ℕ)). P (OnList o))
  pub others : (o p : WidgetOp) → inserted p ≡ inserted o → deleted p ≡ deleted o → P o → P p

-- a client's operation keeps it past a server's
pub kept_client : (P : WidgetOp → Type 0) → IsKept P → (c s : WidgetOp) → P c → P (client_past c s)
kept_client P k (OnText c) (OnText s) h = seq.kept_client (λ o. P (OnText o)) k.texts c s h
kept_client P k (OnList c) (OnList s) h = seq.kept_client (λ o. P (OnList o)) k.lists c s h
kept_client P k c (OnText s) h = h
kept_client P k c s h = h

-- and a server's past a client's
pub kept_server : (P : WidgetOp → Type 0) → IsKept P → (s c : WidgetOp) → P s → P (server_past s c)
kept_server P k (OnText s) (OnText c) h = seq.kept_server (λ o. P (OnText o)) k.texts s c h
kept_server P k (OnList s) (OnList c) h = seq.kept_server (λ o. P (OnList o)) k.lists s c h
kept_server P k s (OnText c) h = h
kept_server P k s c h = k.others s (server_past s c) refl refl h

-- the laws

-- both ways round are valid and leave one widget
abbrev pub Meets : WidgetOp → WidgetOp → Widget → Type 0
Meets c s w =
    IsValid (server_past s c) (after c w) × IsValid (client_past c s) (after s w)
    × (after (server_past s c) (after c w) ≡ after (client_past c s) (after s w))

-- both ways round two operations are valid and leave one widget
pub square : (w : Widget) (c s : WidgetOp) → HasDistinctNames w → IsSmall 1 w → IsValid c w → IsValid s w → AreApart c s → Meets c s w
square w c s distinct small vc vs apart =
    let meets = kinds_are_lawful.square (kind_of w) (op_kind c) (op_kind s) distinct small vc vs (apart-kinds c s apart) in (
      rw (server-kinds s c, after-kinds c w) meets.0,
      rw (client-kinds c s, after-kinds s w) meets.1,
      rw (server-kinds s c, after-kinds c w, client-kinds c s, after-kinds s w) (ap widget_of meets.2),
    )

-- of two concurrent operations the client's edit counts as the later
pub effect_two : (w : Widget) (c s : WidgetOp) → HasDistinctNames w → IsSmall 1 w → IsValid c w → IsValid s w → AreApart c s
    → content (after (server_past s c) (after c w)) ≡ meaning (content w) (edit_of s ∷ edit_of c ∷ [])
effect_two w c s distinct small vc vs apart =
    rw (after-kinds (server_past s c) (after c w), server-kinds s c, after-kinds c w)
    (kinds_keep_rest.effect_two (kind_of w) (op_kind c) (op_kind s) distinct small vc vs (apart-kinds c s apart))

-- an operation has the effect of its edit
pub effect_one : (w : Widget) (c : WidgetOp) → HasDistinctNames w → IsValid c w → content (after c w) ≡ meaning (content w) (edit_of c ∷ [])
effect_one w c distinct vc = rw (after-kinds c w) (kinds_keep_meaning.effect_one (kind_of w) (op_kind c) distinct vc)

-- names stay distinct
pub distinct_after : (w : Widget) (c : WidgetOp) → HasDistinctNames w → IsValid c w → HasDistinctNames (after c w)
distinct_after w c distinct vc = rw (after-kinds c w) (kinds_are_lawful.distinct_after (kind_of w) (op_kind c) distinct vc)

-- an operation lengthens a sequence by one at most
pub small_after : (n : ℕ) (w : Widget) (c : WidgetOp) → IsSmall (n + 1) w → IsValid c w → IsSmall n (after c w)
small_after n w c small vc = rw (after-kinds c w) (kinds_are_lawful.small_after n (kind_of w) (op_kind c) small vc)

-- small by more is small by less
pub small_below : (n : ℕ) (w : Widget) → IsSmall (n + 1) w → IsSmall n w
small_below n w small = kinds_are_lawful.small_below n (kind_of w) small

-- a sequence is shortened by one at most
pub small_before : (n : ℕ) (w : Widget) (c : WidgetOp) → IsValid c w → IsSmall (n + 1) (after c w) → IsSmall n w
small_before n w c vc small = kinds_are_lawful.small_before n (kind_of w) (op_kind c) vc (rw (after-kinds c w) at small)

-- a widget without items holds no name
holds_none : (n : Name) (w : Widget) → HasNoItems w → holds n w ≡ false
holds_none n (Text x) none = absurd none
holds_none n (Labels x) none = absurd none
holds_none n w none = refl

-- and none before another
stands_none : (m n : Name) (w : Widget) → HasNoItems w → stands m n w ≡ false
stands_none m n (Text x) none = absurd none
stands_none m n (Labels x) none = absurd none
stands_none m n w none = refl

-- and has no room
pub bare_none : (w : Widget) → HasNoItems w → bare w ≡ w
bare_none (Text x) none = absurd none
bare_none (Labels x) none = absurd none
bare_none w none = refl

-- the order of items is kept
pub order : (w : Widget) (c : WidgetOp) → HasDistinctNames w → IsValid c w → KeepsOrder w (after c w)
order w c distinct vc =
    of_valid (λ c w. HasDistinctNames w → KeepsOrder w (after c w))
    (λ c x vc distinct. seq_effects.order x c distinct vc.1)
    (λ c x vc distinct. seq_effects.order x c distinct vc)
    (λ c w none vc distinct m n hm hn gm gn. stands_none m n w none ∙ sym (stands_none m n (after c w) (value_after c w none)))
    c w vc distinct

-- the room that an operation needs

-- room for more is room for less
pub room_less : (n : ℕ) (c : WidgetOp) (w : Widget) → HasRoom c (n + 1) w → HasRoom c n w
room_less n c w room = kinds_keep_rest.room_less n (kind_of w) (op_kind c) room

-- a client's operation needs no more room past a server's
pub room_client : (n : ℕ) (c s : WidgetOp) (w : Widget) → HasRoom c n w → HasRoom (client_past c s) n w
room_client n c s w room = rw (client-kinds c s) (kinds_keep_rest.room_client n (kind_of w) (op_kind c) (op_kind s) room)

-- nor a server's past a client's
pub room_server : (n : ℕ) (s c : WidgetOp) (w : Widget) → HasRoom s n w → HasRoom (server_past s c) n w
room_server n s c w room = rw (server-kinds s c) (kinds_keep_rest.room_server n (kind_of w) (op_kind s) (op_kind c) room)

-- The names that operations on widgets insert, delete and change.

-- names that are there or not

-- to differ is symmetric
pub apart_swap : (m n : Option Name) → IsTrue (names_differ m n) → IsTrue (names_differ n m)
apart_swap (Some m) (Some n) apart = not_from_false (name_eq n m) (name_eq_sym m n (not-true (name_eq m n) apart))
apart_swap (Some m) None apart = refl
apart_swap None (Some n) apart = refl
apart_swap None None apart = refl

-- no name differs from any
apart_none : (m : Option Name) → IsTrue (names_differ m None)
apart_none None = refl
apart_none (Some m) = refl

-- names that differ are not both one name
pub apart_is : (m n : Option Name) (k : Name) → IsTrue (names_differ m n) → m ≡ Some k → n ≡ Some k → ⊥
apart_is m n k apart first second = let differ : not (name_eq k k) ≡ true = rw (first, second) at apart in false≢true (sym (not-true (name_eq k k) differ) ∙ name_eq_refl k)

-- and those that are not differ
pub differ_from : (m n : Option Name) → ((j k : Name) → m ≡ Some j → n ≡ Some k → j ≡ k → ⊥) → IsTrue (names_differ m n)
differ_from (Some m) (Some n) h = not_from_false (name_eq m n) (false_from_ne_true (name_eq m n) (λ same. h m n refl refl (name_eq_same m n same)))
differ_from (Some m) None h = refl
differ_from None n h = refl

-- the name that an edit inserts is the one that it has there, and the other way round
pub inserts_name : (e : WidgetEdit) (n : Name) → InsertsName e n → inserted_name e ≡ Some n
inserts_name (First e) n i = seq_names.inserts_put e n i
inserts_name (Second (First e)) n i = seq_names.inserts_put e n i
inserts_name (Second (Second e)) n i = absurd i

pub name_inserts : (e : WidgetEdit) (n : Name) → inserted_name e ≡ Some n → InsertsName e n
name_inserts (First e) n is = seq_names.put_inserts e n is
name_inserts (Second (First e)) n is = seq_names.put_inserts e n is
name_inserts (Second (Second e)) n is = absurd cc

-- so is the name that it deletes
pub deletes_name : (e : WidgetEdit) (n : Name) → DeletesName e n → deleted_name e ≡ Some n
deletes_name (First e) n d = seq_names.deletes_deleted e n d
deletes_name (Second (First e)) n d = seq_names.deletes_deleted e n d
deletes_name (Second (Second e)) n d = absurd d

pub name_deletes : (e : WidgetEdit) (n : Name) → deleted_name e ≡ Some n → DeletesName e n
name_deletes (First e) n is = seq_names.deleted_deletes e n is
name_deletes (Second (First e)) n is = seq_names.deleted_deletes e n is
name_deletes (Second (Second e)) n is = absurd cc

-- what a transform keeps of names

-- an operation whose insertion is apart from a name
apart_from : (m : Option Name) → IsKept (λ o. IsTrue (names_differ (inserted o) m))
apart_from m = record {
  texts = record { insertion = λ p q y h. h; deletion = λ p q n h. h; dropped = λ p n h. h; relabelling = λ p q n v h. h; forgotten = λ p n v h. h };
  lists = record { insertion = λ p q y h. h; deletion = λ p q n h. h; dropped = λ p n h. h; relabelling = λ p q n v h. h; forgotten = λ p n v h. h };
  others = λ o p same_put same_gone h. subst (λ n. IsTrue (names_differ n m)) (sym same_put) h;
}

-- an operation after which the insertion of a name is fresh
fresh_after : (m : Option Name) → IsKept (λ o. IsTrue (names_differ m (inserted o)) × IsTrue (names_differ m (deleted o)))
fresh_after m = record {
  texts = record { insertion = λ p q y h. h; deletion = λ p q n h. h; dropped = λ p n h. (h.0, apart_none m); relabelling = λ p q n v h. h; forgotten = λ p n v h. h };
  lists = record { insertion = λ p q y h. h; deletion = λ p q n h. h; dropped = λ p n h. (h.0, apart_none m); relabelling = λ p q n v h. h; forgotten = λ p n v h. h };
  others = λ o p same_put same_gone h. (subst (λ n. IsTrue (names_differ m n)) (sym same_put) h.0, subst (λ n. IsTrue (names_differ m n)) (sym same_gone) h.1);
}

-- an operation stays apart from another past a third
pub apart_client : (c s o : WidgetOp) → AreApart c o → AreApart (client_past c s) o
apart_client c s o apart = kept_client _ (apart_from (inserted o)) c s apart

pub apart_server : (s c o : WidgetOp) → AreApart s o → AreApart (server_past s c) o
apart_server s c o apart = kept_server _ (apart_from (inserted o)) s c apart

-- it stays fresh
pub fresh_client : (c s o : WidgetOp) → IsFresh c o → IsFresh (client_past c s) o
fresh_client c s o fresh = (kept_client _ (apart_from (inserted o)) c s fresh.0, kept_client _ (apart_from (deleted o)) c s fresh.1)

pub fresh_server : (s c o : WidgetOp) → IsFresh s o → IsFresh (server_past s c) o
fresh_server s c o fresh = (kept_server _ (apart_from (inserted o)) s c fresh.0, kept_server _ (apart_from (deleted o)) s c fresh.1)

-- and another stays fresh after it
pub fresh_of_client : (c s o : WidgetOp) → IsFresh o c → IsFresh o (client_past c s)
fresh_of_client c s o fresh = kept_client _ (fresh_after (inserted o)) c s fresh

pub fresh_of_server : (s c o : WidgetOp) → IsFresh o s → IsFresh o (server_past s c)
fresh_of_server s c o fresh = kept_server _ (fresh_after (inserted o)) s c fresh

-- past another operation an operation inserts nothing else
pub inserts_client : (c s : WidgetOp) (n : Name) → InsertsName (edit_of (client_past c s)) n → InsertsName (edit_of c) n
inserts_client (OnText c) (OnText s) n i = texts_keep_meaning.inserts_client c s n i
inserts_client (OnList c) (OnList s) n i = seq_names.inserts_client c s n i
inserts_client c (OnText s) n i = i
inserts_client c s n i = i

pub inserts_server : (s c : WidgetOp) (n : Name) → InsertsName (edit_of (server_past s c)) n → InsertsName (edit_of s) n
inserts_server (OnText s) (OnText c) n i = texts_keep_meaning.inserts_server s c n i
inserts_server (OnList s) (OnList c) n i = seq_names.inserts_server s c n i
inserts_server s (OnText c) n i = i
inserts_server s c n i = i

-- a client's changes what it changed, except what the server's changes; a server's changes nothing else
pub changes_client : (c s : WidgetOp) (n : Name) → ChangesName (edit_of c) n → ChangesName (edit_of (client_past c s)) n ⊎ ChangesName (edit_of s) n
changes_client (OnText c) (OnText s) n d = texts_keep_meaning.changes_client c s n d
changes_client (OnList c) (OnList s) n d = seq_names.changes_client c s n d
changes_client c (OnText s) n d = inl d
changes_client c s n d = inl d

pub changes_server : (s c : WidgetOp) (n : Name) → ChangesName (edit_of (server_past s c)) n → ChangesName (edit_of s) n
changes_server (OnText s) (OnText c) n d = texts_keep_meaning.changes_server s c n d
changes_server (OnList s) (OnList c) n d = seq_names.changes_server s c n d
changes_server s (OnText c) n d = d
changes_server s c n d = d

-- what a widget holds before and after a valid operation

-- what it holds afterwards it held, or the operation inserts it
pub held_before : (n : Name) (c : WidgetOp) (w : Widget) → IsValid c w → holds n (after c w) ≡ true → (holds n w ≡ true) ⊎ InsertsName (edit_of c) n
held_before n c w vc =
    of_valid (λ c w. holds n (after c w) ≡ true → (holds n w ≡ true) ⊎ InsertsName (edit_of c) n)
    (λ c x vc h. texts_keep_meaning.held_before x c n vc h) (λ c x vc h. seq_names.held_before x c n vc h)
    (λ c w none vc h. absurd (false≢true (sym (holds_none n (after c w) (value_after c w none)) ∙ h)))
    c w vc

-- what it held it holds afterwards, or the operation deletes it
pub held_after : (n : Name) (c : WidgetOp) (w : Widget) → IsValid c w → holds n w ≡ true → (holds n (after c w) ≡ true) ⊎ DeletesName (edit_of c) n
held_after n c w vc =
    of_valid (λ c w. holds n w ≡ true → (holds n (after c w) ≡ true) ⊎ DeletesName (edit_of c) n)
    (λ c x vc h. texts_keep_meaning.held_after x c n vc h) (λ c x vc h. seq_names.held_after x c n vc h)
    (λ c w none vc h. absurd (false≢true (sym (holds_none n w none) ∙ h)))
    c w vc

-- a name that it inserts is new
pub inserts_new : (n : Name) (c : WidgetOp) (w : Widget) → IsValid c w → InsertsName (edit_of c) n → holds n w ≡ true → ⊥
inserts_new n c w vc =
    of_valid (λ c w. InsertsName (edit_of c) n → holds n w ≡ true → ⊥)
    (λ c x vc i h. texts_keep_meaning.inserts_new x c n vc i h) (λ c x vc i h. seq_names.inserts_new x c n vc i h)
    (λ c w none vc i h. (value_names c w none vc n).0 i)
    c w vc

-- and one that it changes is held
pub changes_own : (n : Name) (c : WidgetOp) (w : Widget) → IsValid c w → ChangesName (edit_of c) n → holds n w ≡ true
changes_own n c w vc =
    of_valid (λ c w. ChangesName (edit_of c) n → holds n w ≡ true)
    (λ c x vc d. text_changes_own x c n vc d) (λ c x vc d. seq_names.changes_own x c n vc d)
    (λ c w none vc d. absurd ((value_names c w none vc n).1 d))
    c w vc
