-- The laws of operations on lists and on texts.
use Rattle.std.proofs.Common.{refl, ◌≡◌, Bool, true, false, if◌then◌else◌, List, [], ◌∷◌, ◌++◌, map, IsTrue, sym, ap, ◌∙◌, ◌⊎◌, inl, inr}
use Rattle.std.proofs.lemmas.Bool.{false≢true}
use Rattle.std.proofs.lemmas.List.{map-append}
use Rattle.jup_xform.specs.Grids.{IsLawful, KeepsMeaning, KeepsRest}
use Rattle.jup_seq.specs.Prelude.{SomeOf, row_operation, Name, Items, name_eq, SeqOp, Insert, Delete, Relabel, Nothing, SeqEdit, Put, Deleted, Relabelled, NoEdit}
use Rattle.jup_seq.specs.Kinds.{sequences, text_op, text_edit, texts}
use Rattle.jup_seq.specs.Operations.{is_no_relabel, inserted_by, deleted_by, IsValid, after, AreApart, client_past, server_past, IgnoresPlaces, kept_client, kept_server, Content, content, meaning, edit_of, put_name, deleted_name}
use Rattle.jup_seq.specs.Names as names
use Rattle.jup_seq.specs.Laws.Squares as squares
use Rattle.jup_seq.specs.Laws.EditLists as edit_lists

-- The laws of `Transform` for operations on sequences, as the records that lemmas take.

-- those on which a grid relies
pub sequences_are_lawful : {V : Type 0} → IsLawful (sequences {V = V})
sequences_are_lawful = record {
  square = squares.square;
  distinct_after = squares.distinct_after;
  small_after = squares.small_after;
  small_below = squares.small_below;
  small_before = squares.small_before;
  apart_swap = squares.apart_swap;
  apart_client = squares.apart_client;
  apart_server = squares.apart_server;
}

-- those on names, order and edits
pub sequences_keep_meaning : {V : Type 0} → KeepsMeaning (sequences {V = V})
sequences_keep_meaning = record {
  effect_one = squares.effect_one;
  order = squares.order;
  order_self = λ x m n hm hn gm gn. refl;
  order_chain = squares.order_chain;
  inserts_client = names.inserts_client;
  inserts_server = names.inserts_server;
  changes_client = names.changes_client;
  changes_server = names.changes_server;
  apart_names = names.apart_names;
  fresh_names = names.fresh_names;
  inserts_new = names.inserts_new;
  changes_held = names.changes_held;
  held_before = names.held_before;
  held_after = names.held_after;
  meaning_none = λ k. refl;
  meaning_more = names.meaning_more;
  edit_client = edit_lists.edit_client;
  edit_server = edit_lists.edit_server;
}

-- and the rest
pub sequences_keep_rest : {V : Type 0} → KeepsRest (sequences {V = V})
sequences_keep_rest = record {
  effect_two = squares.effect_two;
  room_less = squares.room_less;
  room_client = squares.room_client;
  room_server = squares.room_server;
  shape_client = λ c s. refl;
  shape_server = λ s c. refl;
}

-- The laws of `Transform` for operations on texts: those of sequences, for operations as a text takes them.

-- operations as a text takes them

-- one that is no relabel is taken as it is
same : {V : Type 0} (o : SeqOp V) → IsTrue (is_no_relabel o) → text_op o ≡ o
same (Insert p y) kept = refl
same (Delete p n) kept = refl
same (Relabel p n v) kept = absurd (false≢true kept)
same Nothing kept = refl

-- its edit is of a text
own : {V : Type 0} (o : SeqOp V) → text_edit (edit_of (text_op o)) ≡ edit_of (text_op o)
own (Insert p y) = refl
own (Delete p n) = refl
own (Relabel p n v) = refl
own Nothing = refl

-- and has the same names
pub put_name-text : {V : Type 0} (o : SeqOp V) → put_name (edit_of (text_op o)) ≡ inserted_by o
put_name-text (Insert p y) = refl
put_name-text (Delete p n) = refl
put_name-text (Relabel p n v) = refl
put_name-text Nothing = refl

pub deleted_name-text : {V : Type 0} (o : SeqOp V) → deleted_name (edit_of (text_op o)) ≡ deleted_by o
deleted_name-text (Insert p y) = refl
deleted_name-text (Delete p n) = refl
deleted_name-text (Relabel p n v) = refl
deleted_name-text Nothing = refl

-- what is no relabel stays so
no_relabel : {V : Type 0} → IgnoresPlaces {V = V} (λ o. IsTrue (is_no_relabel o))
no_relabel = record { insertion = λ p q y h. h; deletion = λ p q n h. h; dropped = λ p n h. h; relabelling = λ p q n v h. h; forgotten = λ p n v h. refl }

-- what is taken of a deletion or a relabel that may have become a no-op
of_deletion : {V : Type 0} (b : Bool) (o : SeqOp V) → text_op o ≡ o → text_op (if b then Nothing else o) ≡ (if b then Nothing else o)
of_deletion true o kept = refl
of_deletion false o kept = kept

of_relabel : {V : Type 0} (b : Bool) (o : SeqOp V) → text_op o ≡ Nothing → text_op (if b then Nothing else o) ≡ Nothing
of_relabel true o none = refl
of_relabel false o none = none

-- past another operation
client : {V : Type 0} (c s : SeqOp V) → text_op (client_past c s) ≡ client_past (text_op c) (text_op s)
client (Insert p y) (Insert q z) = refl
client (Insert p y) (Delete q n) = refl
client (Insert p y) (Relabel q n v) = refl
client (Insert p y) Nothing = refl
client (Delete p m) (Insert q z) = refl
client (Delete p m) (Delete q n) = of_deletion (name_eq m n) (Delete _ m) refl
client (Delete p m) (Relabel q n v) = refl
client (Delete p m) Nothing = refl
client (Relabel p n v) (Insert q z) = refl
client (Relabel p n v) (Delete q m) = of_relabel (name_eq n m) (Relabel _ n v) refl
client (Relabel p n v) (Relabel q m w) = refl
client (Relabel p n v) Nothing = refl
client Nothing s = refl

server : {V : Type 0} (s c : SeqOp V) → text_op (server_past s c) ≡ server_past (text_op s) (text_op c)
server (Insert q z) (Insert p y) = refl
server (Insert q z) (Delete p n) = refl
server (Insert q z) (Relabel p n v) = refl
server (Insert q z) Nothing = refl
server (Delete q n) c = client (Delete q n) c
server (Relabel q m w) (Insert p y) = refl
server (Relabel q m w) (Delete p n) = of_relabel (name_eq m n) (Relabel _ m w) refl
server (Relabel q m w) (Relabel p n v) = of_relabel (name_eq m n) (Relabel q m w) refl
server (Relabel q m w) Nothing = refl
server Nothing c = refl

-- and past a row of others
row : {V : Type 0} (s : SeqOp V) (past : List (SeqOp V)) → text_op (row_operation server_past s past) ≡ row_operation server_past (text_op s) (map text_op past)
row s [] = refl
row s (c ∷ past) = row (server_past s c) past ∙ ap (λ o. row_operation server_past o (map text_op past)) (server s c)

-- what is apart or fresh stays so
apart : {V : Type 0} (c s : SeqOp V) → AreApart c s → AreApart (text_op c) (text_op s)
apart (Insert p y) (Insert q z) h = h
apart (Insert p y) (Delete q n) h = tt
apart (Insert p y) (Relabel q n v) h = tt
apart (Insert p y) Nothing h = tt
apart (Delete p m) s h = tt
apart (Relabel p n v) s h = tt
apart Nothing s h = tt

fresh : {V : Type 0} (c e : SeqOp V) → names.IsFresh c e → names.IsFresh (text_op c) (text_op e)
fresh (Insert p y) (Insert q z) h = h
fresh (Insert p y) (Delete q n) h = h
fresh (Insert p y) (Relabel q n v) h = tt
fresh (Insert p y) Nothing h = tt
fresh (Delete p m) e h = tt
fresh (Relabel p n v) e h = tt
fresh Nothing e h = tt

-- the laws

-- those on which a grid relies
pub texts_are_lawful : {V : Type 0} → IsLawful (texts {V = V})
texts_are_lawful = record {
  square = λ x c s distinct small vc vs apart.
      let meets = squares.square x c s distinct small vc.1 vs.1 apart in (
        (kept_server (λ o. IsTrue (is_no_relabel o)) no_relabel s c vs.0, meets.0),
        (kept_client (λ o. IsTrue (is_no_relabel o)) no_relabel c s vc.0, meets.1),
        meets.2,
      );
  distinct_after = λ x c distinct vc. squares.distinct_after x c distinct vc.1;
  small_after = λ n x c small vc. squares.small_after n x c small vc.1;
  small_below = squares.small_below;
  small_before = λ n x c vc small. squares.small_before n x c vc.1 small;
  apart_swap = squares.apart_swap;
  apart_client = squares.apart_client;
  apart_server = squares.apart_server;
}

-- an edit of a text inserts and deletes what it did
inserted : {V : Type 0} (e : SeqEdit V) (n : Name) → names.InsertsName (text_edit e) n → names.InsertsName e n
inserted (Put m v) n i = i
inserted (Deleted m) n i = i
inserted (Relabelled m v) n i = i
inserted NoEdit n i = i

deleted : {V : Type 0} (e : SeqEdit V) (n : Name) → names.ChangesName (text_edit e) n → names.DeletesName e n
deleted (Put m v) n d = d
deleted (Deleted m) n d = d
deleted (Relabelled m v) n d = d
deleted NoEdit n d = d

-- one of a mapped list has a property if one of the list has another that follows
some_of : {A B : Type 0} (f : A → B) (P : B → Type 0) (Q : A → Type 0) (xs : List A) → ((x : A) → P (f x) → Q x) → SomeOf P (map f xs) → SomeOf Q xs
some_of f P Q [] h some = some
some_of f P Q (x ∷ xs) h (inl here) = inl (h x here)
some_of f P Q (x ∷ xs) h (inr there) = inr (some_of f P Q xs h there)

-- lists of edits

meaning_more : {V : Type 0} (k : Content V) (es fs : List (SeqEdit V)) → ((n : Name) → SomeOf (λ f. names.InsertsName f n) fs → SomeOf (λ e. names.DeletesName e n) es → ⊥)
    → meaning (meaning k (map text_edit es)) (map text_edit fs) ≡ meaning k (map text_edit (es ++ fs))
meaning_more k es fs new =
    rw (map-append text_edit es fs) (names.meaning_more k (map text_edit es) (map text_edit fs) (λ n put gone.
    new n (some_of text_edit (λ f. names.InsertsName f n) (λ f. names.InsertsName f n) fs (λ f i. inserted f n i) put)
    (some_of text_edit (λ e. names.ChangesName e n) (λ e. names.DeletesName e n) es (λ e d. deleted e n d) gone)))

in_five : {V : Type 0} (before between later : List (SeqEdit V)) (one two : SeqEdit V)
    → map text_edit (before ++ one ∷ (between ++ two ∷ later)) ≡ map text_edit before ++ text_edit one ∷ (map text_edit between ++ text_edit two ∷ map text_edit later)
in_five before between later one two =
    map-append text_edit before (one ∷ (between ++ two ∷ later)) ∙ ap (λ es. map text_edit before ++ text_edit one ∷ es) (map-append text_edit between (two ∷ later))

edit_client : {V : Type 0} (c s : SeqOp V) (past : List (SeqOp V)) (k : Content V) (before between later : List (SeqEdit V))
    → meaning k (map text_edit (before ++ edit_of (text_op s) ∷ (between ++ edit_of (text_op (client_past c (row_operation server_past s past))) ∷ later)))
    ≡ meaning k (map text_edit (before ++ edit_of (text_op s) ∷ (between ++ edit_of (text_op c) ∷ later)))
edit_client {V} c s past k before between later =
    let moved : SeqOp V = row_operation server_past s past in
    ap (meaning k) (in_five before between later (edit_of (text_op s)) (edit_of (text_op (client_past c moved))))
    ∙ rw (own s, own (client_past c moved), own c, client c moved, row s past)
    (edit_lists.edit_client (text_op c) (text_op s) (map text_op past) k (map text_edit before) (map text_edit between) (map text_edit later))
    ∙ ap (meaning k) (sym (in_five before between later (edit_of (text_op s)) (edit_of (text_op c))))

edit_server : {V : Type 0} (c s : SeqOp V) → AreApart c s → (k : Content V) (before later : List (SeqEdit V))
    → meaning k (map text_edit (before ++ edit_of (text_op c) ∷ edit_of (text_op (server_past s c)) ∷ later))
    ≡ meaning k (map text_edit (before ++ edit_of (text_op s) ∷ edit_of (text_op c) ∷ later))
edit_server c s h k before later =
    ap (meaning k) (map-append text_edit before (edit_of (text_op c) ∷ edit_of (text_op (server_past s c)) ∷ later))
    ∙ rw (own c, own (server_past s c), own s, server s c) (edit_lists.edit_server (text_op c) (text_op s) (apart c s h) k (map text_edit before) (map text_edit later))
    ∙ ap (meaning k) (sym (map-append text_edit before (edit_of (text_op s) ∷ edit_of (text_op c) ∷ later)))

-- what a valid operation changes is held
pub text_changes_own : {V : Type 0} (x : Items V) (c : SeqOp V) (n : Name) → (texts {V = V}).is_valid c x → names.DeletesName (edit_of (text_op c)) n → names.Holds x n
text_changes_own x c n vc d = names.changes_own x c n vc.1 (names.deletes_changes (edit_of c) n (rw (same c vc.0) at d))

-- those on names, order and edits
pub texts_keep_meaning : {V : Type 0} → KeepsMeaning (texts {V = V})
texts_keep_meaning = record {
  effect_one = λ x c distinct vc. rw (own c, same c vc.0) (squares.effect_one x c distinct vc.1);
  order = λ x c distinct vc. squares.order x c distinct vc.1;
  order_self = λ x m n hm hn gm gn. refl;
  order_chain = squares.order_chain;
  inserts_client = λ c s n i. names.inserts_client (text_op c) (text_op s) n (rw (client c s) at i);
  inserts_server = λ s c n i. names.inserts_server (text_op s) (text_op c) n (rw (server s c) at i);
  changes_client = λ c s n d. rw (client c s) (names.deletes_client (text_op c) (text_op s) n d);
  changes_server = λ s c n d. names.deletes_server (text_op s) (text_op c) n (rw (server s c) at d);
  apart_names = λ c s n h i j. names.apart_names (text_op c) (text_op s) n (apart c s h) i j;
  fresh_names = λ c e n h i j. names.fresh_names (text_op c) (text_op e) n (fresh c e h) i j;
  inserts_new = λ x c n vc i h. names.inserts_new x c n vc.1 (rw (same c vc.0) at i) h;
  changes_held = λ x c n vc d. inl (text_changes_own x c n vc d);
  held_before = λ x c n vc h. rw (same c vc.0) (names.held_before x c n vc.1 h);
  held_after = λ x c n vc h. rw (same c vc.0) (names.held_after x c n vc.1 h);
  meaning_none = λ k. refl;
  meaning_more = meaning_more;
  edit_client = edit_client;
  edit_server = edit_server;
}

-- and the rest
pub texts_keep_rest : {V : Type 0} → KeepsRest (texts {V = V})
texts_keep_rest = record {
  effect_two = λ x c s distinct small vc vs h. rw (own s, own c, same s vs.0, same c vc.0) (squares.effect_two x c s distinct small vc.1 vs.1 h);
  room_less = squares.room_less;
  room_client = squares.room_client;
  room_server = squares.room_server;
  shape_client = λ c s. refl;
  shape_server = λ s c. refl;
}
