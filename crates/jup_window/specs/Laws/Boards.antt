-- The laws of operations on boards.
use Rattle.std.proofs.Common.{◌≡◌, Bool, true, false, List, [], ◌∷◌, ◌++◌, Option, Some, None, if◌then◌else◌, refl, sym, ap, ◌∙◌, inl, inr, ℕ, ◌+◌, subst, ◌⊎◌}
use Rattle.std.specs.Option.{option_map, IfSome, IsSomeAnd}
use Rattle.std.proofs.lemmas.Bool.{cases_Bool, false≢true}
use Rattle.jup_window.specs.Prelude.{First, Second, Name, WidgetOp, BoardOp, BoardEdit, Widget}
use Rattle.jup_xform.specs.Rows.{SomeOf, row_operation}
use Rattle.jup_window.specs.Entries.{Place, same_place, Each, widget_at, change_widget}
use Rattle.jup_window.specs.Laws.Entries.{same_place-true, same_place-comm, widget_at-same, widget_at-other, widget_at-change, change_widget-same, change_widget-other, change_widget-agree, change_widget-each, change_widget-back, widget_at-each, each-implies}
use Rattle.jup_window.specs.Kinds.{WidgetEdit, KindOp, kinds, nameless, kinds_keep_meaning, op_kind}
use Rattle.jup_window.specs.Boards.{with_if, edits_at, Windows, place, IsValid, after, HasRoom, HasDistinctNames, IsSmall, AreApart, IsFresh, client_past, server_past, held_in, stands_in, KeepsOrder, content, edit_of, meaning, Placed, Holds, IsAt, Inserts, Deletes, Changes}
use Rattle.jup_window.specs.Laws.Widgets.{client-kinds, server-kinds, apart-kinds}
use Rattle.jup_window.specs.Kinds as kind
use Rattle.jup_window.specs.Widgets as widget
use Rattle.jup_window.specs.Boards as board
use Rattle.jup_window.specs.Laws.Widgets as widget_names

-- What lists of edits mean for a board, and what is left of an edit past others.

-- the edits of the widget at a place

-- those of two lists in a row
pub edits_at-append : (p : Place) (es fs : List BoardEdit) → edits_at p (es ++ fs) ≡ edits_at p es ++ edits_at p fs
edits_at-append p [] fs = refl
edits_at-append p (e ∷ es) fs =
    elim (cases_Bool (same_place (board.edit_place e) p)) [
      | inl here ↦ rw here (ap (λ rest. e.what ∷ rest) (edits_at-append p es fs))
      | inr there ↦ rw there (edits_at-append p es fs)
    ]

-- one of them has a property if one of the list has another that follows
pub some_at : (P : WidgetEdit → Type 0) (Q : BoardEdit → Type 0) (p : Place) (es : List BoardEdit) → ((e : BoardEdit) → board.IsAt e p → P e.what → Q e)
    → SomeOf P (edits_at p es) → SomeOf Q es
some_at P Q p [] h some = some
some_at P Q p (e ∷ es) h some = found (same_place (board.edit_place e) p) refl (some_at P Q p es h) some
  where
    found : (here : Bool) → same_place (board.edit_place e) p ≡ here → (SomeOf P (edits_at p es) → SomeOf Q es) → SomeOf P (with_if here e.what (edits_at p es)) → SomeOf Q (e ∷ es)
    found true here more (inl first) = inl (h e here first)
    found true here more (inr rest) = inr (more rest)
    found false there more rest = inr (more rest)

-- two lists of edits mean the same if they do on each widget
at_each : (X : board.Content) (one two : List BoardEdit) → ((p : Place) (w : kind.Content) → kind.meaning w (edits_at p one) ≡ kind.meaning w (edits_at p two))
    → board.meaning X one ≡ board.meaning X two
at_each X one two h = λ i p. option_map (λ w. h p w i) (X p)

-- an operation past others

-- the operations of a list that are on the widget at a place
abbrev kinds_at : Place → List BoardOp → List KindOp
kinds_at p [] = []
kinds_at p (o ∷ os) = with_if (same_place (board.place o) p) (op_kind o.op) (kinds_at p os)

-- past others an operation stays on its widget
row_place : (s : BoardOp) (past : List BoardOp) → board.place (row_operation board.server_past s past) ≡ board.place s
row_place s [] = refl
row_place s (c ∷ past) = row_place (board.server_past s c) past

-- and is what it is past those on its widget
row-kinds : (s : BoardOp) (past : List BoardOp) → op_kind (row_operation board.server_past s past).op ≡ row_operation kinds.server_past (op_kind s.op) (kinds_at (board.place s) past)
row-kinds s [] = refl
row-kinds s (c ∷ past) = row-kinds (board.server_past s c) past ∙ step (same_place (board.place c) (board.place s))
  where
    step : (here : Bool) → row_operation kinds.server_past (op_kind (if here then widget.server_past s.op c.op else s.op)) (kinds_at (board.place s) past)
        ≡ row_operation kinds.server_past (op_kind s.op) (with_if here (op_kind c.op) (kinds_at (board.place s) past))
    step true = ap (λ o. row_operation kinds.server_past o (kinds_at (board.place s) past)) (server-kinds s.op c.op)
    step false = refl

-- if the client's operation is at a place, the server's is there if both are on one widget
same_at : (c s : BoardOp) (p : Place) → same_place (board.place c) p ≡ true → same_place (board.place c) (board.place s) ≡ same_place (board.place s) p
same_at c s p at_c = ap (λ q. same_place q (board.place s)) (same_place-true (board.place c) p at_c) ∙ same_place-comm p (board.place s)

-- and the client's is there if the server's is
same_at_server : (c s : BoardOp) (p : Place) → same_place (board.place s) p ≡ true → same_place (board.place c) (board.place s) ≡ same_place (board.place c) p
same_at_server c s p at_s = ap (λ q. same_place (board.place c) q) (same_place-true (board.place s) p at_s)

-- on the widget at a place, a client's operation past what is left of a server's means what it meant
client_at : (same at_c at_s : Bool) (c s moved : WidgetOp) (past : List KindOp) → op_kind moved ≡ row_operation kinds.server_past (op_kind s) past
    → (at_c ≡ true → same ≡ at_s) → (w : kind.Content) (before between later : List WidgetEdit)
    → kind.meaning w (before ++ with_if at_s (kind.edit_of s) (between ++ with_if at_c (kind.edit_of (if same then widget.client_past c moved else c)) later))
    ≡ kind.meaning w (before ++ with_if at_s (kind.edit_of s) (between ++ with_if at_c (kind.edit_of c) later))
client_at same false at_s c s moved past is h w before between later = refl
client_at false true at_s c s moved past is h w before between later = refl
client_at true true true c s moved past is h w before between later = rw (client-kinds c moved, is) (kinds_keep_meaning.edit_client (op_kind c) (op_kind s) past w before between later)
client_at true true false c s moved past is h w before between later = absurd (false≢true (sym (h refl)))

-- the edits at a place of a list with two edits named
in_five : (p : Place) (before between later : List BoardEdit) (one two : BoardEdit)
    → edits_at p (before ++ one ∷ (between ++ two ∷ later))
    ≡ edits_at p before ++ with_if (same_place (board.edit_place one) p) one.what (edits_at p between ++ with_if (same_place (board.edit_place two) p) two.what (edits_at p later))
in_five p before between later one two =
    edits_at-append p before (one ∷ (between ++ two ∷ later))
    ∙ ap (λ es. edits_at p before ++ with_if (same_place (board.edit_place one) p) one.what es) (edits_at-append p between (two ∷ later))

-- a client's operation past what is left of a server's means what it meant, anywhere after the server's edit
pub edit_client : (c s : BoardOp) (past : List BoardOp) (X : board.Content) (before between later : List BoardEdit)
    → board.meaning X (before ++ board.edit_of s ∷ (between ++ board.edit_of (board.client_past c (row_operation board.server_past s past)) ∷ later))
    ≡ board.meaning X (before ++ board.edit_of s ∷ (between ++ board.edit_of c ∷ later))
edit_client c s past X before between later =
    let moved : BoardOp = row_operation board.server_past s past in
    at_each X (before ++ board.edit_of s ∷ (between ++ board.edit_of (board.client_past c moved) ∷ later)) (before ++ board.edit_of s ∷ (between ++ board.edit_of c ∷ later)) (λ p w.
    ap (kind.meaning w) (in_five p before between later (board.edit_of s) (board.edit_of (board.client_past c moved)))
    ∙ client_at (same_place (board.place c) (board.place moved)) (same_place (board.place c) p) (same_place (board.place s) p) c.op s.op moved.op (kinds_at (board.place s) past) (row-kinds s past)
    (λ at_c. ap (λ q. same_place (board.place c) q) (row_place s past) ∙ same_at c s p at_c) w (edits_at p before) (edits_at p between) (edits_at p later)
    ∙ ap (kind.meaning w) (sym (in_five p before between later (board.edit_of s) (board.edit_of c))))

-- on the widget at a place, a server's operation past a client's, after the client's edit, means the server's edit before the client's
server_at : (same at_c at_s : Bool) (c s : WidgetOp) → (at_c ≡ true → same ≡ at_s) → (at_s ≡ true → same ≡ at_c) → widget.AreApart c s → (w : kind.Content) (before later : List WidgetEdit)
    → kind.meaning w (before ++ with_if at_c (kind.edit_of c) (with_if at_s (kind.edit_of (if same then widget.server_past s c else s)) later))
    ≡ kind.meaning w (before ++ with_if at_s (kind.edit_of s) (with_if at_c (kind.edit_of c) later))
server_at true true true c s hc hs apart w before later = rw (server-kinds s c) (kinds_keep_meaning.edit_server (op_kind c) (op_kind s) (apart-kinds c s apart) w before later)
server_at false true true c s hc hs apart w before later = absurd (false≢true (hc refl))
server_at same true false c s hc hs apart w before later = refl
server_at true false true c s hc hs apart w before later = absurd (false≢true (sym (hs refl)))
server_at false false true c s hc hs apart w before later = refl
server_at same false false c s hc hs apart w before later = refl

-- a server's operation past a client's, after the client's edit, means the server's edit before the client's
pub edit_server : (c s : BoardOp) → board.AreApart c s → (X : board.Content) (before later : List BoardEdit)
    → board.meaning X (before ++ board.edit_of c ∷ board.edit_of (board.server_past s c) ∷ later) ≡ board.meaning X (before ++ board.edit_of s ∷ board.edit_of c ∷ later)
edit_server c s apart X before later =
    at_each X (before ++ board.edit_of c ∷ board.edit_of (board.server_past s c) ∷ later) (before ++ board.edit_of s ∷ board.edit_of c ∷ later) (λ p w.
    ap (kind.meaning w) (edits_at-append p before (board.edit_of c ∷ board.edit_of (board.server_past s c) ∷ later))
    ∙ server_at (same_place (board.place c) (board.place s)) (same_place (board.place c) p) (same_place (board.place s) p) c.op s.op (same_at c s p) (same_at_server c s p) apart
    w (edits_at p before) (edits_at p later)
    ∙ ap (kind.meaning w) (sym (edits_at-append p before (board.edit_of s ∷ board.edit_of c ∷ later))))

-- no edit, and lists of edits in turn

-- no edit changes nothing at a place
none_at : (o : Option kind.Content) → option_map (λ w. kind.meaning w []) o ≡ o
none_at None = refl
none_at (Some w) = ap (λ y. Some y) (kinds_keep_meaning.meaning_none w)

-- nor on a board
pub meaning_none : (X : board.Content) → board.meaning X [] ≡ X
meaning_none X = λ i p. none_at (X p) i

-- a name without its kind
abbrev plain : kinds.Name → Name
plain (First n) = n
plain (Second (First n)) = n
plain (Second (Second n)) = absurd (nameless n)

-- an edit inserts it, and changes it
plain_inserts : (e : WidgetEdit) (m : kinds.Name) → kinds.inserts e m → kind.InsertsName e (plain m)
plain_inserts (First e) (First n) i = i
plain_inserts (Second (First e)) (Second (First n)) i = i
plain_inserts (Second (Second e)) (Second (Second n)) i = absurd (nameless n)
plain_inserts e m i = absurd i

plain_changes : (e : WidgetEdit) (m : kinds.Name) → kinds.changes e m → kind.ChangesName e (plain m)
plain_changes (First e) (First n) i = i
plain_changes (Second (First e)) (Second (First n)) i = i
plain_changes (Second (Second e)) (Second (Second n)) i = absurd (nameless n)
plain_changes e m i = absurd i

-- a list after another means what the two mean in one, if no name that is inserted later is changed earlier
abbrev pub AreFresh : List BoardEdit → List BoardEdit → Type 0
AreFresh fs es = (n : board.Placed) → SomeOf (λ f. board.Inserts f n) fs → SomeOf (λ e. board.Changes e n) es → ⊥

-- at a place
more_at : (o : Option kind.Content) (p : Place) (es fs : List BoardEdit) → AreFresh fs es
    → option_map (λ w. kind.meaning w (edits_at p fs)) (option_map (λ w. kind.meaning w (edits_at p es)) o) ≡ option_map (λ w. kind.meaning w (edits_at p (es ++ fs))) o
more_at None p es fs fresh = refl
more_at (Some w) p es fs fresh =
    ap (λ y. Some y) (kinds_keep_meaning.meaning_more w (edits_at p es) (edits_at p fs) (λ m put gone.
    let n : board.Placed = record { at = p; name = plain m } in
    fresh n
    (some_at (λ e. kinds.inserts e m) (λ e. board.Inserts e n) p fs (λ e here i. (here, plain_inserts e.what m i)) put)
    (some_at (λ e. kinds.changes e m) (λ e. board.Changes e n) p es (λ e here d. (here, plain_changes e.what m d)) gone))
    ∙ ap (kind.meaning w) (sym (edits_at-append p es fs)))

-- and on a board
pub meaning_more : (X : board.Content) (es fs : List BoardEdit) → AreFresh fs es → board.meaning (board.meaning X es) fs ≡ board.meaning X (es ++ fs)
meaning_more X es fs fresh = λ i p. more_at (X p) p es fs fresh i

-- The laws of operations on boards, lifted from those on widgets.

-- what holds of a widget that is there

-- two facts of a widget that is there
both_some : {A : Type 0} (P Q : A → Type 0) (o : Option A) → IsSomeAnd o P → IsSomeAnd o Q → IsSomeAnd o (λ a. P a × Q a)
both_some P Q None p q = p
both_some P Q (Some a) p q = (p, q)

-- a fact of a widget if it is there, and one of it being there
and_some : {A : Type 0} (P Q : A → Type 0) (o : Option A) → IfSome o P → IsSomeAnd o Q → IsSomeAnd o (λ a. P a × Q a)
and_some P Q None p q = q
and_some P Q (Some a) p q = (p, q)

-- a fact that follows
some_then : {A : Type 0} (P Q : A → Type 0) (o : Option A) → IsSomeAnd o P → ((a : A) → P a → Q a) → IsSomeAnd o Q
some_then P Q None p h = p
some_then P Q (Some a) p h = h a p

-- a fact that follows, if the widget is there
if_some : {A : Type 0} (P Q : A → Type 0) (o : Option A) → IsSomeAnd o P → ((a : A) → P a → Q a) → IfSome o Q
if_some P Q None p h = tt
if_some P Q (Some a) p h = h a p

-- a fact of the changed widget
some_map : {A : Type 0} (P : A → Type 0) (f : A → A) (o : Option A) → IsSomeAnd o (λ a. P (f a)) → IsSomeAnd (option_map f o) P
some_map P f None p = p
some_map P f (Some a) p = p

-- two operations on one widget, or on two
abbrev Meets : Place → Place → WidgetOp → WidgetOp → WidgetOp → WidgetOp → Windows → Type 0
Meets p q c s past_c past_s b =
    IsSomeAnd (widget_at q (change_widget p (widget.after c) b)) (widget.IsValid past_s)
    × IsSomeAnd (widget_at p (change_widget q (widget.after s) b)) (widget.IsValid past_c)
    × (change_widget q (widget.after past_s) (change_widget p (widget.after c) b) ≡ change_widget p (widget.after past_c) (change_widget q (widget.after s) b))

-- both are valid on the widget, which is small and has distinct names
abbrev BothValid : WidgetOp → WidgetOp → Widget → Type 0
BothValid c s w = (widget.HasDistinctNames w × widget.IsSmall 1 w) × (widget.IsValid c w × widget.IsValid s w)

-- two operations that are valid on a board are so on the widget
both_valid : (p : Place) (c s : WidgetOp) (b : Windows) → HasDistinctNames b → IsSmall 1 b
    → IsSomeAnd (widget_at p b) (widget.IsValid c) → IsSomeAnd (widget_at p b) (widget.IsValid s) → IsSomeAnd (widget_at p b) (BothValid c s)
both_valid p c s b distinct small vc vs =
    let both = both_some (widget.IsValid c) (widget.IsValid s) (widget_at p b) vc vs in
    let small_both = and_some (widget.IsSmall 1) (λ w. widget.IsValid c w × widget.IsValid s w) (widget_at p b) (widget_at-each (widget.IsSmall 1) p b small) both in
    let all = and_some widget.HasDistinctNames (λ w. widget.IsSmall 1 w × (widget.IsValid c w × widget.IsValid s w)) (widget_at p b) (widget_at-each widget.HasDistinctNames p b distinct) small_both in
    some_then (λ w. widget.HasDistinctNames w × (widget.IsSmall 1 w × (widget.IsValid c w × widget.IsValid s w))) (BothValid c s) (widget_at p b) all
    (λ w h. ((h.0, h.1.0), (h.1.1.0, h.1.1.1)))

-- two operations on one widget
meets_here : (p : Place) (c s : WidgetOp) (b : Windows) → HasDistinctNames b → IsSmall 1 b
    → IsSomeAnd (widget_at p b) (widget.IsValid c) → IsSomeAnd (widget_at p b) (widget.IsValid s) → widget.AreApart c s
    → Meets p p c s (widget.client_past c s) (widget.server_past s c) b
meets_here p c s b distinct small vc vs apart =
    let meets : IsSomeAnd (widget_at p b) (widget_names.Meets c s) =
    some_then (BothValid c s) (widget_names.Meets c s) (widget_at p b) (both_valid p c s b distinct small vc vs)
    (λ w h. widget_names.square w c s h.0.0 h.0.1 h.1.0 h.1.1 apart) in (
      rw (widget_at-same p (widget.after c) b) (some_map (widget.IsValid (widget.server_past s c)) (widget.after c) (widget_at p b)
          (some_then (widget_names.Meets c s) (λ w. widget.IsValid (widget.server_past s c) (widget.after c w)) (widget_at p b) meets (λ w m. m.0))),
      rw (widget_at-same p (widget.after s) b) (some_map (widget.IsValid (widget.client_past c s)) (widget.after s) (widget_at p b)
          (some_then (widget_names.Meets c s) (λ w. widget.IsValid (widget.client_past c s) (widget.after s w)) (widget_at p b) meets (λ w m. m.1))),
      change_widget-same p (widget.after c) (widget.after (widget.server_past s c)) b
          ∙ change_widget-agree p (λ w. widget.after (widget.server_past s c) (widget.after c w)) (λ w. widget.after (widget.client_past c s) (widget.after s w)) b
          (if_some (widget_names.Meets c s) (λ w. widget.after (widget.server_past s c) (widget.after c w) ≡ widget.after (widget.client_past c s) (widget.after s w)) (widget_at p b) meets (λ w m. m.2))
          ∙ sym (change_widget-same p (widget.after s) (widget.after (widget.client_past c s)) b),
    )

-- on two widgets
meets_apart : (p q : Place) (c s : WidgetOp) (b : Windows) → same_place p q ≡ false
    → IsSomeAnd (widget_at p b) (widget.IsValid c) → IsSomeAnd (widget_at q b) (widget.IsValid s) → Meets p q c s c s b
meets_apart p q c s b other vc vs = (
  rw (widget_at-other p q (widget.after c) b other) vs,
  rw (widget_at-other q p (widget.after s) b (same_place-comm q p ∙ other)) vc,
  change_widget-other p q (widget.after c) (widget.after s) b other,
)

-- on one or two
meets : (same : Bool) (p q : Place) (c s : WidgetOp) (b : Windows) → same_place p q ≡ same → HasDistinctNames b → IsSmall 1 b
    → IsSomeAnd (widget_at p b) (widget.IsValid c) → IsSomeAnd (widget_at q b) (widget.IsValid s) → widget.AreApart c s
    → Meets p q c s (if same then widget.client_past c s else c) (if same then widget.server_past s c else s) b
meets true p q c s b same distinct small vc vs apart =
    let e = same_place-true p q same in rw e (meets_here q c s b distinct small (rw e at vc) vs apart)
meets false p q c s b other distinct small vc vs apart = meets_apart p q c s b other vc vs

-- both ways round two operations are valid and leave one board
pub square : (b : Windows) (c s : BoardOp) → HasDistinctNames b → IsSmall 1 b → IsValid c b → IsValid s b → AreApart c s
    → IsValid (server_past s c) (after c b) × IsValid (client_past c s) (after s b)
    × (after (server_past s c) (after c b) ≡ after (client_past c s) (after s b))
square b c s distinct small vc vs apart =
    meets (same_place (place c) (place s)) (place c) (place s) c.op s.op b refl distinct small vc vs apart

-- what an operation keeps of a board

-- names stay distinct
pub distinct_after : (b : Windows) (c : BoardOp) → HasDistinctNames b → IsValid c b → HasDistinctNames (after c b)
distinct_after b c distinct vc =
    change_widget-each widget.HasDistinctNames (place c) (widget.after c.op) b distinct
    (if_some (widget.IsValid c.op) (λ w. widget.HasDistinctNames w → widget.HasDistinctNames (widget.after c.op w)) (widget_at (place c) b) vc
    (λ w v d. widget_names.distinct_after w c.op d v))

-- small by more is small by less
pub small_below : (n : ℕ) (b : Windows) → IsSmall (n + 1) b → IsSmall n b
small_below n b small =
    each-implies (λ ws. Each (widget.IsSmall (n + 1)) ws) (λ ws. Each (widget.IsSmall n) ws) b
    (λ ws each. each-implies (widget.IsSmall (n + 1)) (widget.IsSmall n) ws (λ w s. widget_names.small_below n w s) each) small

-- an operation lengthens a sequence by one at most
pub small_after : (n : ℕ) (b : Windows) (c : BoardOp) → IsSmall (n + 1) b → IsValid c b → IsSmall n (after c b)
small_after n b c small vc =
    let p : Place = place c in
    let both = and_some (widget.IsSmall (n + 1)) (widget.IsValid c.op) (widget_at p b) (widget_at-each (widget.IsSmall (n + 1)) p b small) vc in
    change_widget-each (widget.IsSmall n) p (widget.after c.op) b (small_below n b small)
    (if_some (λ w. widget.IsSmall (n + 1) w × widget.IsValid c.op w) (λ w. widget.IsSmall n w → widget.IsSmall n (widget.after c.op w)) (widget_at p b) both
    (λ w h below. widget_names.small_after n w c.op h.0 h.1))

-- and shortens one by one at most
pub small_before : (n : ℕ) (b : Windows) (c : BoardOp) → IsValid c b → IsSmall (n + 1) (after c b) → IsSmall n b
small_before n b c vc small =
    change_widget-back (widget.IsSmall (n + 1)) (widget.IsSmall n) (place c) (widget.after c.op) b (λ w s. widget_names.small_below n w s)
    (if_some (widget.IsValid c.op) (λ w. widget.IsSmall (n + 1) (widget.after c.op w) → widget.IsSmall n w) (widget_at (place c) b) vc
    (λ w v s. widget_names.small_before n w c.op v s))
    small

-- what holds at each place, whether the operation is at that place or not

-- an operation is valid on the widget at its place
valid_at : (c : BoardOp) (p : Place) (b : Windows) → IsValid c b → same_place (place c) p ≡ true → IsSomeAnd (widget_at p b) (widget.IsValid c.op)
valid_at c p b vc same = subst (λ q. IsSomeAnd (widget_at q b) (widget.IsValid c.op)) (same_place-true (place c) p same) vc

-- the order of items is kept in a widget that may be absent
order_in : (here : Bool) (c : WidgetOp) (o : Option Widget) (m n : Name) → IfSome o widget.HasDistinctNames → (here ≡ true → IsSomeAnd o (widget.IsValid c))
    → held_in m o ≡ true → held_in n o ≡ true
    → held_in m (option_map (λ w. if here then widget.after c w else w) o) ≡ true → held_in n (option_map (λ w. if here then widget.after c w else w) o) ≡ true
    → stands_in m n o ≡ stands_in m n (option_map (λ w. if here then widget.after c w else w) o)
order_in here c None m n distinct valid hm hn gm gn = refl
order_in true c (Some w) m n distinct valid hm hn gm gn = widget_names.order w c distinct (valid refl) m n hm hn gm gn
order_in false c (Some w) m n distinct valid hm hn gm gn = refl

-- and on a board
pub order : (b : Windows) (c : BoardOp) → HasDistinctNames b → IsValid c b → KeepsOrder b (after c b)
order b c distinct vc = λ p m n hm hn gm gn.
    let moved = widget_at-change (place c) p (widget.after c.op) b in
    rw moved (order_in (same_place (place c) p) c.op (widget_at p b) m n (widget_at-each widget.HasDistinctNames p b distinct) (valid_at c p b vc)
    hm hn (rw moved at gm) (rw moved at gn))

-- an operation has the effect of its edit on a widget that may be absent
effect_one_in : (here : Bool) (c : WidgetOp) (o : Option Widget) → IfSome o widget.HasDistinctNames → (here ≡ true → IsSomeAnd o (widget.IsValid c))
    → option_map kind.content (option_map (λ w. if here then widget.after c w else w) o)
    ≡ option_map (λ had. kind.meaning had (with_if here (kind.edit_of c) [])) (option_map kind.content o)
effect_one_in here c None distinct valid = refl
effect_one_in true c (Some w) distinct valid = ap (λ y. Some y) (widget_names.effect_one w c distinct (valid refl))
effect_one_in false c (Some w) distinct valid = ap (λ y. Some y) (sym (kinds_keep_meaning.meaning_none (kind.content w)))

-- so it has at a place
effect_one_at : (b : Windows) (c : BoardOp) (p : Place) → HasDistinctNames b → IsValid c b → content (after c b) p ≡ meaning (content b) (edit_of c ∷ []) p
effect_one_at b c p distinct vc =
    ap (λ o. option_map kind.content o) (widget_at-change (place c) p (widget.after c.op) b)
    ∙ effect_one_in (same_place (place c) p) c.op (widget_at p b) (widget_at-each widget.HasDistinctNames p b distinct) (valid_at c p b vc)

-- and on a board
pub effect_one : (b : Windows) (c : BoardOp) → HasDistinctNames b → IsValid c b → content (after c b) ≡ meaning (content b) (edit_of c ∷ [])
effect_one b c distinct vc = λ i p. effect_one_at b c p distinct vc i

-- two concurrent operations: at the places of both, of one, of none
abbrev TwoIn : Bool → Bool → Bool → WidgetOp → WidgetOp → Option Widget → Type 0
TwoIn same at_c at_s c s o =
    option_map kind.content (option_map (λ w. if at_s then widget.after (if same then widget.server_past s c else s) w else w) (option_map (λ w. if at_c then widget.after c w else w) o))
    ≡ option_map (λ had. kind.meaning had (with_if at_s (kind.edit_of s) (with_if at_c (kind.edit_of c) []))) (option_map kind.content o)

-- two concurrent operations, on a widget that may be absent
effect_two_in : (same at_c at_s : Bool) (c s : WidgetOp) (o : Option Widget) → (at_c ≡ true → same ≡ at_s) → (at_s ≡ true → same ≡ at_c)
    → IfSome o (λ w. widget.HasDistinctNames w × widget.IsSmall 1 w) → (at_c ≡ true → IsSomeAnd o (widget.IsValid c)) → (at_s ≡ true → IsSomeAnd o (widget.IsValid s)) → widget.AreApart c s
    → TwoIn same at_c at_s c s o
effect_two_in same at_c at_s c s None hc hs small vc vs apart = refl
effect_two_in true true true c s (Some w) hc hs small vc vs apart = ap (λ y. Some y) (widget_names.effect_two w c s small.0 small.1 (vc refl) (vs refl) apart)
effect_two_in false true true c s (Some w) hc hs small vc vs apart = absurd (false≢true (hc refl))
effect_two_in same true false c s (Some w) hc hs small vc vs apart = ap (λ y. Some y) (widget_names.effect_one w c small.0 (vc refl))
effect_two_in true false true c s (Some w) hc hs small vc vs apart = absurd (false≢true (sym (hs refl)))
effect_two_in false false true c s (Some w) hc hs small vc vs apart = ap (λ y. Some y) (widget_names.effect_one w s small.0 (vs refl))
effect_two_in same false false c s (Some w) hc hs small vc vs apart = ap (λ y. Some y) (sym (kinds_keep_meaning.meaning_none (kind.content w)))

-- two facts of a widget if it is there
both_if : {A : Type 0} (P Q : A → Type 0) (o : Option A) → IfSome o P → IfSome o Q → IfSome o (λ a. P a × Q a)
both_if P Q None p q = tt
both_if P Q (Some a) p q = (p, q)

-- at a place
effect_two_at : (b : Windows) (c s : BoardOp) (p : Place) → HasDistinctNames b → IsSmall 1 b → IsValid c b → IsValid s b → AreApart c s
    → content (after (server_past s c) (after c b)) p ≡ meaning (content b) (edit_of s ∷ edit_of c ∷ []) p
effect_two_at b c s p distinct small vc vs apart =
    let past_s : WidgetOp = if same_place (place c) (place s) then widget.server_past s.op c.op else s.op in
    ap (λ o. option_map kind.content o) (widget_at-change (place s) p (widget.after past_s) (after c b)
    ∙ ap (λ o. option_map (λ w. if same_place (place s) p then widget.after past_s w else w) o) (widget_at-change (place c) p (widget.after c.op) b))
    ∙ effect_two_in (same_place (place c) (place s)) (same_place (place c) p) (same_place (place s) p) c.op s.op (widget_at p b)
    (λ at_c. ap (λ q. same_place q (place s)) (same_place-true (place c) p at_c) ∙ same_place-comm p (place s))
    (λ at_s. ap (λ q. same_place (place c) q) (same_place-true (place s) p at_s))
    (both_if widget.HasDistinctNames (widget.IsSmall 1) (widget_at p b) (widget_at-each widget.HasDistinctNames p b distinct) (widget_at-each (widget.IsSmall 1) p b small))
    (valid_at c p b vc) (valid_at s p b vs) apart

-- of two concurrent operations the client's edit counts as the later
pub effect_two : (b : Windows) (c s : BoardOp) → HasDistinctNames b → IsSmall 1 b → IsValid c b → IsValid s b → AreApart c s
    → content (after (server_past s c) (after c b)) ≡ meaning (content b) (edit_of s ∷ edit_of c ∷ [])
effect_two b c s distinct small vc vs apart = λ i p. effect_two_at b c s p distinct small vc vs apart i

-- what a transform keeps of an operation

-- being apart is symmetric
pub apart_swap : (c s : BoardOp) → AreApart c s → AreApart s c
apart_swap c s apart = widget_names.apart_swap (widget.inserted c.op) (widget.inserted s.op) apart

-- what holds of an operation as it was and past another holds of it past one on the same widget or on another
either_way : (P : WidgetOp → Type 0) (same : Bool) (past own : WidgetOp) → P past → P own → P (if same then past else own)
either_way P true past own p q = p
either_way P false past own p q = q

-- a client's operation stays apart from another past a server's
pub apart_client : (c s o : BoardOp) → AreApart c o → AreApart (client_past c s) o
apart_client c s o apart =
    either_way (λ w. widget.AreApart w o.op) (same_place (place c) (place s)) (widget.client_past c.op s.op) c.op (widget_names.apart_client c.op s.op o.op apart) apart

-- and a server's past a client's
pub apart_server : (s c o : BoardOp) → AreApart s o → AreApart (server_past s c) o
apart_server s c o apart =
    either_way (λ w. widget.AreApart w o.op) (same_place (place c) (place s)) (widget.server_past s.op c.op) s.op (widget_names.apart_server s.op c.op o.op apart) apart

-- a client's operation stays fresh past a server's
pub fresh_client : (c s o : BoardOp) → IsFresh c o → IsFresh (client_past c s) o
fresh_client c s o fresh =
    either_way (λ w. widget.IsFresh w o.op) (same_place (place c) (place s)) (widget.client_past c.op s.op) c.op (widget_names.fresh_client c.op s.op o.op fresh) fresh

-- and a server's past a client's
pub fresh_server : (s c o : BoardOp) → IsFresh s o → IsFresh (server_past s c) o
fresh_server s c o fresh =
    either_way (λ w. widget.IsFresh w o.op) (same_place (place c) (place s)) (widget.server_past s.op c.op) s.op (widget_names.fresh_server s.op c.op o.op fresh) fresh

-- another stays fresh after a client's operation past a server's
pub fresh_of_client : (c s o : BoardOp) → IsFresh o c → IsFresh o (client_past c s)
fresh_of_client c s o fresh =
    either_way (widget.IsFresh o.op) (same_place (place c) (place s)) (widget.client_past c.op s.op) c.op (widget_names.fresh_of_client c.op s.op o.op fresh) fresh

-- and after a server's past a client's
pub fresh_of_server : (s c o : BoardOp) → IsFresh o s → IsFresh o (server_past s c)
fresh_of_server s c o fresh =
    either_way (widget.IsFresh o.op) (same_place (place c) (place s)) (widget.server_past s.op c.op) s.op (widget_names.fresh_of_server s.op c.op o.op fresh) fresh

-- the room that an operation needs

-- a fact of a widget, if it is there, that follows
room_if : (P Q : Widget → Type 0) (o : Option Widget) → ((w : Widget) → P w → Q w) → IfSome o P → IfSome o Q
room_if P Q None h p = tt
room_if P Q (Some w) h p = h w p

-- room for more is room for less
pub room_less : (n : ℕ) (b : Windows) (c : BoardOp) → HasRoom c (n + 1) b → HasRoom c n b
room_less n b c room =
    room_if (widget.HasRoom c.op (n + 1)) (widget.HasRoom c.op n) (widget_at (place c) b) (λ w r. widget_names.room_less n c.op w r) room

-- a client's operation needs no more room past a server's
pub room_client : (n : ℕ) (b : Windows) (c s : BoardOp) → HasRoom c n b → HasRoom (client_past c s) n b
room_client n b c s room =
    either_way (λ w. IfSome (widget_at (place c) b) (widget.HasRoom w n)) (same_place (place c) (place s)) (widget.client_past c.op s.op) c.op
    (room_if (widget.HasRoom c.op n) (widget.HasRoom (widget.client_past c.op s.op) n) (widget_at (place c) b) (λ w r. widget_names.room_client n c.op s.op w r) room) room

-- nor a server's past a client's
pub room_server : (n : ℕ) (b : Windows) (s c : BoardOp) → HasRoom s n b → HasRoom (server_past s c) n b
room_server n b s c room =
    either_way (λ w. IfSome (widget_at (place s) b) (widget.HasRoom w n)) (same_place (place c) (place s)) (widget.server_past s.op c.op) s.op
    (room_if (widget.HasRoom s.op n) (widget.HasRoom (widget.server_past s.op c.op) n) (widget_at (place s) b) (λ w r. widget_names.room_server n s.op c.op w r) room) room

-- The names that operations on boards insert and delete.

-- what an operation's edit inserts is the name that the operation inserts
pub inserted_there : (o : BoardOp) (n : Placed) → Inserts (edit_of o) n → widget.inserted o.op ≡ Some n.name
inserted_there o n i = widget_names.inserts_name (kind.edit_of o.op) n.name i.1

-- what it deletes is the name that the operation deletes
pub deleted_there : (o : BoardOp) (n : Placed) → Deletes (edit_of o) n → widget.deleted o.op ≡ Some n.name
deleted_there o n d = widget_names.deletes_name (kind.edit_of o.op) n.name d.1

-- what a transform keeps, on one widget or on two

-- a transform inserts no other name
pub inserts_client : (c s : BoardOp) (n : Placed) → Inserts (edit_of (client_past c s)) n → Inserts (edit_of c) n
inserts_client c s n i = (
  i.0,
  either_way (λ o. kind.InsertsName (kind.edit_of o) n.name → kind.InsertsName (kind.edit_of c.op) n.name) (same_place (place c) (place s)) (widget.client_past c.op s.op) c.op
      (widget_names.inserts_client c.op s.op n.name) (λ i. i) i.1,
)

pub inserts_server : (s c : BoardOp) (n : Placed) → Inserts (edit_of (server_past s c)) n → Inserts (edit_of s) n
inserts_server s c n i = (
  i.0,
  either_way (λ o. kind.InsertsName (kind.edit_of o) n.name → kind.InsertsName (kind.edit_of s.op) n.name) (same_place (place c) (place s)) (widget.server_past s.op c.op) s.op
      (widget_names.inserts_server s.op c.op n.name) (λ i. i) i.1,
)

-- a client's operation, on the server's widget or another, changes what it changed, or the server's does
client_changed : (same : Bool) (c s : BoardOp) (n : Placed) → (same ≡ true → place c ≡ place s) → Changes (edit_of c) n
    → (IsAt (edit_of c) n.at × kind.ChangesName (kind.edit_of (if same then widget.client_past c.op s.op else c.op)) n.name) ⊎ Changes (edit_of s) n
client_changed false c s n one d = inl d
client_changed true c s n one d =
    elim (widget_names.changes_client c.op s.op n.name d.1) [
      | inl still ↦ inl (d.0, still)
      | inr gone ↦ inr (subst (λ p. same_place p n.at ≡ true) (one refl) d.0, gone)
    ]

pub changes_client : (c s : BoardOp) (n : Placed) → Changes (edit_of c) n → Changes (edit_of (client_past c s)) n ⊎ Changes (edit_of s) n
changes_client c s n d = client_changed (same_place (place c) (place s)) c s n (λ same. same_place-true (place c) (place s) same) d

-- a server's past a client's changes nothing else
pub changes_server : (s c : BoardOp) (n : Placed) → Changes (edit_of (server_past s c)) n → Changes (edit_of s) n
changes_server s c n d = (
  d.0,
  either_way (λ o. kind.ChangesName (kind.edit_of o) n.name → kind.ChangesName (kind.edit_of s.op) n.name) (same_place (place c) (place s)) (widget.server_past s.op c.op) s.op
      (widget_names.changes_server s.op c.op n.name) (λ d. d) d.1,
)

-- operations that are apart, or of which one is fresh, insert no name in common

-- two that are apart
pub apart_names : (c s : BoardOp) (n : Placed) → AreApart c s → Inserts (edit_of c) n → Inserts (edit_of s) n → ⊥
apart_names c s n apart first second =
    widget_names.apart_is (widget.inserted c.op) (widget.inserted s.op) n.name apart (inserted_there c n first) (inserted_there s n second)

-- one that is fresh, and none that the other deletes
pub fresh_names : (c e : BoardOp) (n : Placed) → IsFresh c e → Inserts (edit_of c) n → Inserts (edit_of e) n ⊎ Deletes (edit_of e) n → ⊥
fresh_names c e n fresh put (inl again) =
    widget_names.apart_is (widget.inserted c.op) (widget.inserted e.op) n.name fresh.0 (inserted_there c n put) (inserted_there e n again)
fresh_names c e n fresh put (inr gone) =
    widget_names.apart_is (widget.inserted c.op) (widget.deleted e.op) n.name fresh.1 (inserted_there c n put) (deleted_there e n gone)

-- what is held before and after an operation, at its place or another

-- an operation is valid on the widget at its place
valid_there : (c : BoardOp) (p : Place) (b : Windows) → IsValid c b → IsAt (edit_of c) p → IsSomeAnd (widget_at p b) (widget.IsValid c.op)
valid_there c p b vc same = subst (λ q. IsSomeAnd (widget_at q b) (widget.IsValid c.op)) (same_place-true (place c) p same) vc

-- a name that is inserted is not held by a widget that may be absent
new_in : (n : Name) (c : WidgetOp) (o : Option Widget) → IsSomeAnd o (widget.IsValid c) → kind.InsertsName (kind.edit_of c) n → held_in n o ≡ true → ⊥
new_in n c None vc put held = vc
new_in n c (Some w) vc put held = widget_names.inserts_new n c w vc put held

-- a valid operation inserts no name that the board holds there
pub inserts_new : (b : Windows) (c : BoardOp) (n : Placed) → IsValid c b → Inserts (edit_of c) n → Holds b n → ⊥
inserts_new b c n vc put held = new_in n.name c.op (widget_at n.at b) (valid_there c n.at b vc put.0) put.1 held

-- a name that is changed is held by a widget that may be absent
changed_in : (n : Name) (c : WidgetOp) (o : Option Widget) → IsSomeAnd o (widget.IsValid c) → kind.ChangesName (kind.edit_of c) n → held_in n o ≡ true
changed_in n c None vc gone = absurd vc
changed_in n c (Some w) vc gone = widget_names.changes_own n c w vc gone

-- a valid operation changes a name that the board holds there, or that it inserts
pub changes_held : (b : Windows) (c : BoardOp) (n : Placed) → IsValid c b → Changes (edit_of c) n → Holds b n ⊎ Inserts (edit_of c) n
changes_held b c n vc gone = inl (changed_in n.name c.op (widget_at n.at b) (valid_there c n.at b vc gone.0) gone.1)

-- what a widget that may be absent holds afterwards it held or is inserted
before_in : (here : Bool) (n : Name) (c : WidgetOp) (o : Option Widget) → (here ≡ true → IsSomeAnd o (widget.IsValid c))
    → held_in n (option_map (λ w. if here then widget.after c w else w) o) ≡ true
    → (held_in n o ≡ true) ⊎ ((here ≡ true) × kind.InsertsName (kind.edit_of c) n)
before_in here n c None vc held = absurd (false≢true held)
before_in true n c (Some w) vc held = elim (widget_names.held_before n c w (vc refl) held) [ inl had ↦ inl had | inr put ↦ inr (refl, put) ]
before_in false n c (Some w) vc held = inl held

-- what a board holds afterwards it held or is inserted
pub held_before : (b : Windows) (c : BoardOp) (n : Placed) → IsValid c b → Holds (after c b) n → Holds b n ⊎ Inserts (edit_of c) n
held_before b c n vc held =
    before_in (same_place (place c) n.at) n.name c.op (widget_at n.at b) (valid_there c n.at b vc)
    (ap (λ o. held_in n.name o) (sym (widget_at-change (place c) n.at (widget.after c.op) b)) ∙ held)

-- what a widget that may be absent held it holds afterwards or is deleted
after_in : (here : Bool) (n : Name) (c : WidgetOp) (o : Option Widget) → (here ≡ true → IsSomeAnd o (widget.IsValid c)) → held_in n o ≡ true
    → (held_in n (option_map (λ w. if here then widget.after c w else w) o) ≡ true)
    ⊎ ((here ≡ true) × kind.DeletesName (kind.edit_of c) n)
after_in here n c None vc held = absurd (false≢true held)
after_in true n c (Some w) vc held = elim (widget_names.held_after n c w (vc refl) held) [ inl has ↦ inl has | inr gone ↦ inr (refl, gone) ]
after_in false n c (Some w) vc held = inl held

-- what a board held it holds afterwards or is deleted
pub held_after : (b : Windows) (c : BoardOp) (n : Placed) → IsValid c b → Holds b n → Holds (after c b) n ⊎ Deletes (edit_of c) n
held_after b c n vc held =
    rw (widget_at-change (place c) n.at (widget.after c.op) b)
    (after_in (same_place (place c) n.at) n.name c.op (widget_at n.at b) (valid_there c n.at b vc) held)

-- order kept chains if what both ends hold is held in between

-- order is kept if nothing changes
pub order_self : (b : Windows) → KeepsOrder b b
order_self b = λ p m n hm hn gm gn. refl

-- order kept from x to y and from y to z is kept from x to z
pub order_chain : (x y z : Windows) → KeepsOrder x y → KeepsOrder y z → ((n : Placed) → Holds x n → Holds z n → Holds y n) → KeepsOrder x z
order_chain x y z first second shared = λ p m n hm hn gm gn.
    let ym = shared (record { at = p; name = m }) hm gm in
    let yn = shared (record { at = p; name = n }) hn gn in
    first p m n hm hn ym yn ∙ second p m n ym yn gm gn
