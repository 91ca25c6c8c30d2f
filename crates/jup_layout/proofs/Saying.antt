-- What the lines so far describe is what they say.
use Rattle.std.proofs.Common.{◌≡◌, ◌≢◌, ℕ, suc, ◌+◌, ◌<◌, ◌≤◌, Bool, true, false, ◌==◌, cond, List, [], ◌∷◌, ◌++◌, length, Option, Some, None, Result, Ok, Err, refl, sym, ap, subst, ◌∙◌, ◌⊎◌, inl, inr, arith, IsTrue, nat_le, if◌then◌else◌}
use Rattle.std.proofs.lemmas.Bool.{cases_Bool, eqb-true, eqb-false, eq-eqb, ne_eqb, lt-leb, leb-false}
use Rattle.std.proofs.lemmas.Option.{none-some, same_Some}
use Rattle.jup_layout.specs.Prelude.{Added, AddedChar, AddedLabel, longest_sequence, most_entries, Name, Item, Items, name_eq, has_name, BoardFault, Widget, Text, Labels, Windows, Naming, Distinct, Numbered, Refusal, Misplaced, BadBounds, BadItemName, TooMany, Line, LayoutFault, said_widget, option_map, option_and_then, is_none, IsSome}
use Rattle.jup_window.specs.declared.faults.BoardFault.TheVariants as fault
use Rattle.jup_window.specs.Entries.{double_fault, entry_fault, fault_in, widget_fault, at_id, change_at, with_entry, Place, same_place, widget_at}
use Rattle.jup_window.specs.Laws.Entries.{at_id-same, at_id-other}
use Rattle.jup_wire.specs.declared.line.Line.TheVariants as line
use Rattle.jup_layout.specs.Drafts.{refusal_number, ◌>>?◌, at_line, lines_taken, board_from, refusal_of, next_naming, first_refusal, naming_refusal, item_refusal, Drafted, blank, whole, unless, with_window, with_widget_in, with_said, with_item, with_added, taken, is_free}
use Rattle.jup_layout.specs.Said.{Part, SaysWindow, SaysWidget, SaysItem, last_window, last_place, window_ids, widget_ids, named_by, is_place, widget_said, extended, IsFreeId, IsNamed, IsNextItem, MayExtend, MayCome, MayFollow, AreIdsOf, Shows, history, part_of, says_value, no_items}
use Rattle.jup_layout.proofs.Drafting.{same_Ok, fresh-id, entry_fault-whole, free-more, whole-more, put-same, put-other, put-kept, put-length, put-again, changed-absent, changed-back, changed-length}
use Rattle.jup_window.specs.Prelude.{name_eq_refl, name_eq_same}

-- # Ids

full_none : (full : Bool) → cond full (Some fault.TooMany) None ≡ None → full ≡ false
full_none true e = absurd cc
full_none false e = refl

-- an entry that is not refused has a free id
not_refused : {A : Type 0} (k : ℕ) (es : List (ℕ × A)) → entry_fault k es ≡ None → (0 < k) × (at_id k es ≡ None) × (length es < most_entries)
not_refused {A} k es free =
    let absent = fresh-id k es free in
    elim (cases_Bool (k == 0)) [
      | inl bad ↦ absurd (let no : Some fault.BadId ≡ None = rw bad at free in cc)
      | inr other ↦
          let some : 0 < k = let ne = eqb-false k 0 other in omega (arith, ne) in
          let room : double_fault (at_id k es) es ≡ None = rw other at free in
          (some, absent, leb-false most_entries (length es) (full_none (nat_le most_entries (length es)) (ap (λ (o : Option A). double_fault o es) (sym absent) ∙ room)))
    ]

pub none_due : {A : Type 0} (k : ℕ) (es : List (ℕ × A)) → 0 < k → at_id k es ≡ None → length es < most_entries → entry_fault k es ≡ None
none_due k es some absent room = rw (ne_eqb k 0 (λ e. absurd (omega (arith, e, some))), absent, lt-leb most_entries (length es) room) refl

free_id : {A : Type 0} (k : ℕ) (ids : List ℕ) (es : List (ℕ × A)) → AreIdsOf ids es → entry_fault k es ≡ None → IsFreeId k ids
free_id k ids es are free =
    let parts = not_refused k es free in
    let count = are.count in
    (parts.0, (are.present k parts.1, omega (arith, parts.2, count)))

free_entry : {A : Type 0} (k : ℕ) (ids : List ℕ) (es : List (ℕ × A)) → AreIdsOf ids es → IsFreeId k ids → entry_fault k es ≡ None
free_entry k ids es are free = let count = are.count in none_due k es free.0 (are.absent k free.1.0) (omega (arith, free.1.1, count))

no_ids : {A : Type 0} → AreIdsOf {A = A} [] []
no_ids = record { absent = λ id others. refl; present = λ id none. tt; count = refl }

ids_put : {A : Type 0} (k : ℕ) (a : A) (ids : List ℕ) (es : List (ℕ × A)) → AreIdsOf ids es → at_id k es ≡ None → AreIdsOf (k ∷ ids) (with_entry k a es)
ids_put k a ids es are none =
    let count = are.count in
    record {
      absent = λ id others. put-other k id a es (λ e. others.0 (sym e)) (are.absent id others.1);
      present = λ id gone.
          let other : k ≢ id = λ e. none-some a (sym gone ∙ ap (λ j. at_id j (with_entry k a es)) (sym e) ∙ put-same k a es none) in
          (other, are.present id (sym (put-kept k id a es other) ∙ gone));
      count = omega (arith, count, put-length k a es);
    }

ids_changed : {A : Type 0} (k : ℕ) (f : A → A) (ids : List ℕ) (es : List (ℕ × A)) → AreIdsOf ids es → AreIdsOf ids (change_at k f es)
ids_changed k f ids es are = record {
  absent = λ id others. changed-absent k id f es (are.absent id others);
  present = λ id gone. are.present id (changed-back k id f es gone);
  count = changed-length k f es ∙ are.count;
}

ids_unchanged : {A : Type 0} (k : ℕ) (f : A → A) (ids : List ℕ) (es : List (ℕ × A)) → AreIdsOf ids (change_at k f es) → AreIdsOf ids es
ids_unchanged k f ids es are = record {
  absent = λ id others. changed-back k id f es (are.absent id others);
  present = λ id gone. are.present id (changed-absent k id f es gone);
  count = sym (changed-length k f es) ∙ are.count;
}

ids_again : {A : Type 0} (k : ℕ) (a b : A) (ids : List ℕ) (es : List (ℕ × A)) → AreIdsOf ids (with_entry k a es) → AreIdsOf ids (with_entry k b es)
ids_again k a b ids es are = record {
  absent = λ id others. put-again k id a b es (are.absent id others);
  present = λ id gone. are.present id (put-again k id b a es gone);
  count = put-length k b es ∙ sym (put-length k a es) ∙ are.count;
}

-- # Widgets at places

opened_at : {A : Type 0} (win : ℕ) (p : Place) (b : List (ℕ × List (ℕ × A))) → at_id win b ≡ None → widget_at p (with_entry win [] b) ≡ widget_at p b
opened_at {A} win p b none =
    let look : Option (List (ℕ × A)) → Option A = λ o. option_and_then (λ ws. at_id p.1 ws) o in
    elim (cases_Bool (win == p.0)) [
      | inl here ↦
          let same = eqb-true win p.0 here in
          ap (λ k. look (at_id k (with_entry win [] b))) (sym same) ∙ ap look (put-same win [] b none) ∙ ap look (sym none) ∙ ap (λ k. look (at_id k b)) same
      | inr there ↦ ap look (put-kept win p.0 [] b (eqb-false win p.0 there))
    ]

-- a widget that was put into its window, and all others
put_at : {A : Type 0} (win wid : ℕ) (a : A) (ws : List (ℕ × A)) (p : Place) (b : List (ℕ × List (ℕ × A))) → at_id win b ≡ Some ws → at_id wid ws ≡ None
    → widget_at p (change_at win (with_entry wid a) b) ≡ (if same_place (win, wid) p then Some a else widget_at p b)
put_at {A} win wid a ws p b there none =
    let look : Option (List (ℕ × A)) → Option A = λ o. option_and_then (λ es. at_id p.1 es) o in
    elim (cases_Bool (win == p.0)) [
      | inl here ↦
          let same = eqb-true win p.0 here in
          let new : at_id p.0 (change_at win (with_entry wid a) b) ≡ Some (with_entry wid a ws) =
          ap (λ k. at_id k (change_at win (with_entry wid a) b)) (sym same) ∙ at_id-same win (with_entry wid a) b ∙ ap (λ o. option_map (with_entry wid a) o) there in
          let old : widget_at p b ≡ at_id p.1 ws = ap (λ k. look (at_id k b)) (sym same) ∙ ap look there in
          elim (cases_Bool (wid == p.1)) [
            | inl at_wid ↦ rw (here, at_wid) (ap look new ∙ ap (λ k. at_id k (with_entry wid a ws)) (sym (eqb-true wid p.1 at_wid)) ∙ put-same wid a ws none)
            | inr past ↦ rw (here, past) (ap look new ∙ put-kept wid p.1 a ws (eqb-false wid p.1 past) ∙ sym old)
          ]
      | inr other ↦ rw other (ap look (at_id-other win p.0 (with_entry wid a) b other))
    ]

-- # What a draft says

-- no widget was there yet, or this is the last
abbrev Last : List Part → Drafted → Type 0
Last older d = ((d.last ≡ None) × (last_place older ≡ None)) ⊎ ((home wid : ℕ) × (w : Widget) × (d.home ≡ Some home) × (d.last ≡ Some (wid, w)) × (last_place older ≡ Some (home, wid)))

pub record Agrees (naming : Naming) (older : List Part) (d : Drafted) : Type 0 where
  pub window : d.window ≡ last_window older
  pub ids : AreIdsOf (window_ids older) (whole d)
  pub widgets : (win : ℕ) → last_window older ≡ Some win → (ws : List (ℕ × Widget)) × (at_id win (whole d) ≡ Some ws) × AreIdsOf (widget_ids older) ws
  pub last : Last older d
  pub shows : (p : Place) → widget_at p (whole d) ≡ widget_said p older
  pub free : IsTrue (is_free d.home d.last d.board)
  pub named : d.naming ≡ named_by naming older

pub agrees_blank : (naming : Naming) → Agrees naming [] (blank naming)
agrees_blank naming = record {
  window = refl;
  ids = no_ids;
  widgets = λ win e. absurd (none-some win e);
  last = inl (refl, refl);
  shows = λ p. refl;
  free = refl;
  named = refl;
}

-- what is not refused
allowed : (due : Option BoardFault) (a next : Drafted) → unless (option_map refusal_of due) a ≡ Ok next → (due ≡ None) × (a ≡ next)
allowed None a next e = (refl, same_Ok a next e)
allowed (Some f) a next e = absurd cc

-- # A window

module _ (naming : Naming) (older : List Part) (d : Drafted) (agrees : Agrees naming older d) (win : ℕ) where
  abbrev opened : Drafted
  opened = record { board = with_entry win [] d.board; window = Some win; home = d.home; last = d.last; naming = d.naming }

  window_agrees : entry_fault win d.board ≡ None → Agrees naming (SaysWindow win ∷ older) opened
  window_agrees free =
      let none : entry_fault win (whole d) ≡ None = entry_fault-whole d.home d.last d.board win ∙ free in
      let absent = fresh-id win (whole d) none in
      let now : whole opened ≡ with_entry win [] (whole d) = whole-more d.home d.last d.board win free agrees.free in
      record {
        window = refl;
        ids = subst (λ (b : Windows). AreIdsOf (win ∷ window_ids older) b) (sym now) (ids_put win [] (window_ids older) (whole d) agrees.ids absent);
        widgets = λ other same.
            let at_win : at_id win (whole opened) ≡ Some [] = ap (λ (b : Windows). at_id win b) now ∙ put-same win [] (whole d) absent in
            ([], ap (λ k. at_id k (whole opened)) (sym (same_Some win other same)) ∙ at_win, no_ids);
        last = agrees.last;
        shows = λ p. ap (λ (b : Windows). widget_at p b) now ∙ opened_at win p (whole d) absent ∙ agrees.shows p;
        free = free-more d.home d.last d.board win free agrees.free;
        named = agrees.named;
      }

  window_said : (next : Drafted) → with_window win d ≡ Ok next → MayCome naming older (SaysWindow win) × Agrees naming (SaysWindow win ∷ older) next
  window_said next e =
      let parts = allowed (entry_fault win d.board) opened next e in
      (free_id win (window_ids older) (whole d) agrees.ids (entry_fault-whole d.home d.last d.board win ∙ parts.0), subst (λ (x : Drafted). Agrees naming (SaysWindow win ∷ older) x) parts.1 (window_agrees parts.0))

  window_taken : MayCome naming older (SaysWindow win) → (next : Drafted) × (with_window win d ≡ Ok next)
  window_taken may =
      let free : entry_fault win d.board ≡ None = sym (entry_fault-whole d.home d.last d.board win) ∙ free_entry win (window_ids older) (whole d) agrees.ids may in
      (opened, ap (λ f. unless (option_map refusal_of f) opened) free)

-- # A widget

module _ (naming : Naming) (older : List Part) (d : Drafted) (agrees : Agrees naming older d) (wid : ℕ) (w : Widget) (win : ℕ) (in_win : last_window older ≡ Some win) where
  abbrev begun : Drafted
  begun = record { board = whole d; window = Some win; home = Some win; last = Some (wid, w); naming = d.naming }

  abbrev there : (ws : List (ℕ × Widget)) × (at_id win (whole d) ≡ Some ws) × AreIdsOf (widget_ids older) ws
  there = agrees.widgets win in_win

  widget_agrees : widget_fault win wid (whole d) ≡ None → Agrees naming (SaysWidget wid w ∷ older) begun
  widget_agrees free =
      let inside : entry_fault wid there.0 ≡ None = ap (λ o. fault_in wid o) (sym there.1) ∙ free in
      let absent = fresh-id wid there.0 inside in
      record {
        window = sym in_win;
        ids = ids_changed win (with_entry wid w) (window_ids older) (whole d) agrees.ids;
        widgets = λ other same.
            let is : win ≡ other = same_Some win other (sym in_win ∙ same) in
            let now : at_id win (change_at win (with_entry wid w) (whole d)) ≡ Some (with_entry wid w there.0) = at_id-same win (with_entry wid w) (whole d) ∙ ap (λ o. option_map (with_entry wid w) o) there.1 in
            (with_entry wid w there.0, ap (λ k. at_id k (change_at win (with_entry wid w) (whole d))) (sym is) ∙ now, ids_put wid w (widget_ids older) there.0 there.2 absent);
        last = inr (win, wid, w, refl, refl, ap (λ o. option_map (λ k. (k, wid)) o) in_win);
        shows = λ p.
            put_at win wid w there.0 p (whole d) there.1 absent
            ∙ ap (λ (o : Option Widget). if same_place (win, wid) p then Some w else o) (agrees.shows p)
            ∙ ap (λ o. if is_place p (option_map (λ k. (k, wid)) o) then Some w else widget_said p older) (sym in_win);
        free = subst (λ o. IsTrue (is_none o)) (sym free) refl;
        named = agrees.named;
      }

  widget_said_there : (next : Drafted) → unless (option_map refusal_of (widget_fault win wid (whole d))) begun ≡ Ok next → IsFreeId wid (widget_ids older) × Agrees naming (SaysWidget wid w ∷ older) next
  widget_said_there next e =
      let parts = allowed (widget_fault win wid (whole d)) begun next e in
      (free_id wid (widget_ids older) there.0 there.2 (ap (λ o. fault_in wid o) (sym there.1) ∙ parts.0), subst (λ (x : Drafted). Agrees naming (SaysWidget wid w ∷ older) x) parts.1 (widget_agrees parts.0))

  widget_free : IsFreeId wid (widget_ids older) → widget_fault win wid (whole d) ≡ None
  widget_free may = ap (λ o. fault_in wid o) there.1 ∙ free_entry wid (widget_ids older) there.0 there.2 may

-- # An item

-- the draft whose last widget is this
abbrev ending : Windows → Option ℕ → ℕ → ℕ → Naming → Widget → Drafted
ending board window home wid naming w = record { board = board; window = window; home = Some home; last = Some (wid, w); naming = naming }

-- what an item of the last widget leaves as it was: the ids, and all widgets except that one
record Extends (older : List Part) (add : Widget → Widget) (d : Drafted) : Type 0 where
  pub ids : AreIdsOf (window_ids older) (whole d)
  pub widgets : (win : ℕ) → last_window older ≡ Some win → (ws : List (ℕ × Widget)) × (at_id win (whole d) ≡ Some ws) × AreIdsOf (widget_ids older) ws
  pub shows : (p : Place) → widget_at p (whole d) ≡ (if is_place p (last_place older) then option_map add (widget_said p older) else widget_said p older)

free_home : (home wid : ℕ) (b : Windows) → IsTrue (is_none (widget_fault home wid b)) → (ws : List (ℕ × Widget)) × (at_id home b ≡ Some ws) × (at_id wid ws ≡ None)
free_home home wid b free = go (at_id home b) refl
  where
    go : (o : Option (List (ℕ × Widget))) → at_id home b ≡ o → (ws : List (ℕ × Widget)) × (at_id home b ≡ Some ws) × (at_id wid ws ≡ None)
    go None is = absurd (let no : false ≡ true = subst (λ o. IsTrue (is_none (fault_in wid o))) is free in cc)
    go (Some ws) is = (ws, is, fresh-id wid ws (none (entry_fault wid ws) (subst (λ o. IsTrue (is_none (fault_in wid o))) is free)))
      where
        none : (o : Option BoardFault) → IsTrue (is_none o) → o ≡ None
        none None t = refl
        none (Some f) t = absurd cc

module _ (naming : Naming) (older : List Part) (board : Windows) (window : Option ℕ) (home wid : ℕ) (named next_named : Naming) (w new : Widget)
    (agrees : Agrees naming older (ending board window home wid named w)) (place : last_place older ≡ Some (home, wid)) (add : Widget → Widget) (adds : add w ≡ new) where
  abbrev before : Windows
  before = change_at home (with_entry wid w) board

  abbrev after : Windows
  after = change_at home (with_entry wid new) board

  rewidgeted : (win : ℕ) (ws : List (ℕ × Widget)) → at_id win before ≡ Some ws → AreIdsOf (widget_ids older) ws → (vs : List (ℕ × Widget)) × (at_id win after ≡ Some vs) × AreIdsOf (widget_ids older) vs
  rewidgeted win ws at are =
      elim (cases_Bool (home == win)) [
        | inl here ↦
            let same = eqb-true home win here in
            go (at_id home board) refl (sym (at_id-same home (with_entry wid w) board) ∙ ap (λ k. at_id k (change_at home (with_entry wid w) board)) same ∙ at) same
        | inr other ↦ (ws, at_id-other home win (with_entry wid new) board other ∙ sym (at_id-other home win (with_entry wid w) board other) ∙ at, are)
      ]
    where
      go : (o : Option (List (ℕ × Widget))) → at_id home board ≡ o → option_map (with_entry wid w) (at_id home board) ≡ Some ws → home ≡ win
          → (vs : List (ℕ × Widget)) × (at_id win (change_at home (with_entry wid new) board) ≡ Some vs) × AreIdsOf (widget_ids older) vs
      go None is found same = absurd (none-some ws (sym (ap (λ o. option_map (with_entry wid w) o) is) ∙ found))
      go (Some es) is found same =
          let had : with_entry wid w es ≡ ws = same_Some (with_entry wid w es) ws (sym (ap (λ o. option_map (with_entry wid w) o) is) ∙ found) in (
            with_entry wid new es,
            ap (λ k. at_id k (change_at home (with_entry wid new) board)) (sym same) ∙ at_id-same home (with_entry wid new) board ∙ ap (λ o. option_map (with_entry wid new) o) is,
            ids_again wid w new (widget_ids older) es (subst (λ (xs : List (ℕ × Widget)). AreIdsOf (widget_ids older) xs) (sym had) are),
          )

  item_extends : Extends older add (ending board window home wid next_named new)
  item_extends =
      let at_home = free_home home wid board agrees.free in
      record {
        ids = ids_changed home (with_entry wid new) (window_ids older) board (ids_unchanged home (with_entry wid w) (window_ids older) board agrees.ids);
        widgets = λ win same. let had = agrees.widgets win same in rewidgeted win had.0 had.1 had.2;
        shows = λ p.
            let now = put_at home wid new at_home.0 p board at_home.1 at_home.2 in
            let said : (if same_place (home, wid) p then Some w else widget_at p board) ≡ widget_said p older = sym (put_at home wid w at_home.0 p board at_home.1 at_home.2) ∙ agrees.shows p in
            now ∙ extended p (same_place (home, wid) p) refl (widget_at p board) (widget_said p older) said ∙ ap (λ o. if is_place p o then option_map add (widget_said p older) else widget_said p older) (sym place);
      }
    where
      extended : (p : Place) (here : Bool) → same_place (home, wid) p ≡ here → (o said : Option Widget) → cond (same_place (home, wid) p) (Some w) o ≡ said
          → cond (same_place (home, wid) p) (Some new) o ≡ cond (same_place (home, wid) p) (option_map add said) said
      extended p true is o said e = rw is (ap (λ (v : Widget). Some v) (sym adds) ∙ ap (λ s. option_map add s) (rw is at e))
      extended p false is o said e = rw is (rw is at e)

-- # Names of items

named_free : (naming : Naming) (name : Name) (place : ℕ) → naming_refusal naming name place ≡ None → IsNamed naming name place
named_free Distinct name place none = tt
named_free (Numbered count) name place none =
    elim (cases_Bool (name_eq name (record { site = 0; number = suc count }))) [
      | inl same ↦ elim (cases_Bool (nat_le longest_sequence place)) [
        | inl full ↦ absurd (let no : Some TooMany ≡ None = rw full at (rw same at none) in cc)
        | inr less ↦ (name_eq_same name (record { site = 0; number = suc count }) same, leb-false longest_sequence place less)
      ]
      | inr other ↦ absurd (let no : Some BadItemName ≡ None = rw other at none in cc)
    ]

free_named : (naming : Naming) (name : Name) (place : ℕ) → IsNamed naming name place → naming_refusal naming name place ≡ None
free_named Distinct name place is = refl
free_named (Numbered count) name place is =
    let next : Name = record { site = 0; number = suc count } in
    let same : name_eq name next ≡ true = ap (λ n. name_eq n next) is.0 ∙ name_eq_refl next in
    rw (same, lt-leb longest_sequence place is.1) refl

-- an item that is not refused
item_allowed : {V : Type 0} (naming : Naming) (name : Name) (items : List (Item V)) (a next : Drafted) → unless (item_refusal naming name items) a ≡ Ok next → IsNextItem naming name items × (a ≡ next)
item_allowed naming name items a next e = go (naming_refusal naming name (length items)) refl (has_name name items) refl e
  where
    go : (due : Option Refusal) → naming_refusal naming name (length items) ≡ due → (held : Bool) → has_name name items ≡ held → unless (first_refusal due held) a ≡ Ok next → IsNextItem naming name items × (a ≡ next)
    go None is false new f = ((named_free naming name (length items) is, new), same_Ok a next f)
    go None is true new f = absurd cc
    go (Some refusal) is held new f = absurd cc

item_free : {V : Type 0} (naming : Naming) (name : Name) (items : List (Item V)) → IsNextItem naming name items → item_refusal naming name items ≡ None
item_free naming name items is = rw (free_named naming name (length items) is.0, is.1) refl

-- the draft whose last widget is known
as_ending : (d : Drafted) (home wid : ℕ) (w : Widget) → d.home ≡ Some home → d.last ≡ Some (wid, w) → d ≡ ending d.board d.window home wid d.naming w
as_ending d home wid w home_is last_is =
    let at_home : Option ℕ → Drafted = λ h. record { board = d.board; window = d.window; home = h; last = d.last; naming = d.naming } in
    let at_last : Option (ℕ × Widget) → Drafted = λ l. record { board = d.board; window = d.window; home = Some home; last = l; naming = d.naming } in
    ap at_home home_is ∙ ap at_last last_is

-- what the last widget shows
shown_last : (naming : Naming) (older : List Part) (board : Windows) (window : Option ℕ) (home wid : ℕ) (named : Naming) (w : Widget) → Agrees naming older (ending board window home wid named w)
    → widget_said (home, wid) older ≡ Some w
shown_last naming older board window home wid named w agrees =
    let at_home = free_home home wid board agrees.free in
    sym (agrees.shows (home, wid)) ∙ put_at home wid w at_home.0 (home, wid) board at_home.1 at_home.2 ∙ rw (eq-eqb home home refl, eq-eqb wid wid refl) refl

-- # One more item

module _ (naming : Naming) (older : List Part) (board : Windows) (window : Option ℕ) (home wid : ℕ) (named : Naming) (w : Widget) (agrees : Agrees naming older (ending board window home wid named w)) (place : last_place older ≡ Some (home, wid)) where
  item_agrees : (added : Added) → Agrees naming (SaysItem added ∷ older) (ending board window home wid (next_naming named) (extended added w))
  item_agrees added =
      let kept = item_extends naming older board window home wid named (next_naming named) w (extended added w) agrees place (extended added) refl in
      record {
        window = agrees.window;
        ids = kept.ids;
        widgets = kept.widgets;
        last = inr (home, wid, extended added w, refl, refl, place);
        shows = kept.shows;
        free = agrees.free;
        named = ap next_naming agrees.named;
      }

  -- an item that its widget takes if nothing is wrong with it
  item_said_by : {V : Type 0} (added : Added) (item : Item V) (items : List (Item V)) (next : Drafted) → ((n : Naming) → IsNextItem n item.name items → MayExtend n added w)
      → unless (item_refusal named item.name items) (ending board window home wid (next_naming named) (extended added w)) ≡ Ok next → MayCome naming older (SaysItem added) × Agrees naming (SaysItem added ∷ older) next
  item_said_by added item items next may e =
      let parts = item_allowed named item.name items (ending board window home wid (next_naming named) (extended added w)) next e in (
        ((home, wid), w, place, shown_last naming older board window home wid named w agrees, subst (λ (n : Naming). MayExtend n added w) agrees.named (may named parts.0)),
        subst (λ (d : Drafted). Agrees naming (SaysItem added ∷ older) d) parts.1 (item_agrees added),
      )

item_said_in : (naming : Naming) (older : List Part) (board : Windows) (window : Option ℕ) (home wid : ℕ) (named : Naming) (w : Widget) (added : Added) (next : Drafted) → Agrees naming older (ending board window home wid named w)
    → last_place older ≡ Some (home, wid) → with_added (Some (wid, w)) added (ending board window home wid named w) ≡ Ok next → MayCome naming older (SaysItem added) × Agrees naming (SaysItem added ∷ older) next
item_said_in naming older board window home wid named (Text x) (AddedChar item) next agrees place e = item_said_by naming older board window home wid named (Text x) agrees place (AddedChar item) item x.items next (λ n may. may) e
item_said_in naming older board window home wid named (Text x) (AddedLabel item) next agrees place e = absurd cc
item_said_in naming older board window home wid named (Labels x) (AddedChar item) next agrees place e = absurd cc
item_said_in naming older board window home wid named (Labels x) (AddedLabel item) next agrees place e = item_said_by naming older board window home wid named (Labels x) agrees place (AddedLabel item) item x.items next (λ n may. may) e
item_said_in naming older board window home wid named other added next agrees place e = absurd cc

item_said : (naming : Naming) (older : List Part) (d : Drafted) (added : Added) (next : Drafted) → Agrees naming older d → with_added d.last added d ≡ Ok next → MayCome naming older (SaysItem added) × Agrees naming (SaysItem added ∷ older) next
item_said naming older d added next agrees e =
    elim agrees.last [
      | inl none ↦ absurd (let no : Err Misplaced ≡ Ok next = ap (λ l. with_added l added d) (sym none.0) ∙ e in cc)
      | inr last ↦
          let same = as_ending d last.0 last.1 last.2 last.3 last.4 in
          item_said_in naming older d.board d.window last.0 last.1 d.naming last.2 added next (subst (λ (x : Drafted). Agrees naming older x) same agrees) last.5 (ap (λ (x : Drafted). with_added x.last added x) (sym same) ∙ e)
    ]

item_taken_by : {V : Type 0} (make : Items V → Widget) (wid : ℕ) (x : Items V) (item : Item V) (d : Drafted) → IsNextItem d.naming item.name x.items → (next : Drafted) × (with_item make wid x item d ≡ Ok next)
item_taken_by make wid x item d may =
    let more : Drafted = record d { last = Some (wid, make (record x { items = x.items ++ item ∷ [] })); naming = next_naming d.naming } in
    (more, ap (λ due. unless due more) (item_free d.naming item.name x.items may))

item_taken_in : (wid : ℕ) (w : Widget) (added : Added) (d : Drafted) → MayExtend d.naming added w → (next : Drafted) × (with_added (Some (wid, w)) added d ≡ Ok next)
item_taken_in wid (Text x) (AddedChar item) d may = item_taken_by Text wid x item d may
item_taken_in wid (Text x) (AddedLabel item) d may = absurd may
item_taken_in wid (Labels x) (AddedChar item) d may = absurd may
item_taken_in wid (Labels x) (AddedLabel item) d may = item_taken_by Labels wid x item d may
item_taken_in wid other (AddedChar item) d may = absurd may
item_taken_in wid other (AddedLabel item) d may = absurd may

item_taken : (naming : Naming) (older : List Part) (d : Drafted) (added : Added) → Agrees naming older d → MayCome naming older (SaysItem added) → (next : Drafted) × (with_added d.last added d ≡ Ok next)
item_taken naming older d added agrees (p, w, place, shown, may) =
    elim agrees.last [
      | inl none ↦ absurd (none-some p (sym none.1 ∙ place))
      | inr last ↦
          let same = as_ending d last.0 last.1 last.2 last.3 last.4 in
          let home_place : Place = (last.0, last.1) in
          let at_last : home_place ≡ p = same_Some home_place p (sym last.5 ∙ place) in
          let is : last.2 ≡ w = same_Some last.2 w (sym (shown_last naming older d.board d.window last.0 last.1 d.naming last.2 (subst (λ (y : Drafted). Agrees naming older y) same agrees)) ∙ ap (λ q. widget_said q older) at_last ∙ shown) in
          let next = item_taken_in last.1 w added d (subst (λ (n : Naming). MayExtend n added w) (sym agrees.named) may) in
          (next.0, ap (λ l. with_added l added d) (last.4 ∙ ap (λ (v : Widget). Some (last.1, v)) is) ∙ next.1)
    ]

-- # A line

widget_said_in : (naming : Naming) (older : List Part) (d : Drafted) (wid : ℕ) (w : Widget) (next : Drafted) → Agrees naming older d → with_widget_in d.window wid w d ≡ Ok next
    → MayCome naming older (SaysWidget wid w) × Agrees naming (SaysWidget wid w ∷ older) next
widget_said_in naming older d wid w next agrees e = go d.window refl
  where
    go : (o : Option ℕ) → d.window ≡ o → MayCome naming older (SaysWidget wid w) × Agrees naming (SaysWidget wid w ∷ older) next
    go None is = absurd (let no : Err Misplaced ≡ Ok next = ap (λ o. with_widget_in o wid w d) (sym is) ∙ e in cc)
    go (Some win) is =
        let in_win : last_window older ≡ Some win = sym agrees.window ∙ is in
        let said = widget_said_there naming older d agrees wid w win in_win next (ap (λ o. with_widget_in o wid w d) (sym is) ∙ e) in
        ((subst (λ (o : Option ℕ). IsSome o) (sym in_win) refl, said.0), said.1)

widget_taken_in : (naming : Naming) (older : List Part) (d : Drafted) (wid : ℕ) (w : Widget) → Agrees naming older d → MayCome naming older (SaysWidget wid w) → (next : Drafted) × (with_widget_in d.window wid w d ≡ Ok next)
widget_taken_in naming older d wid w agrees may = go (last_window older) refl
  where
    go : (o : Option ℕ) → last_window older ≡ o → (next : Drafted) × (with_widget_in d.window wid w d ≡ Ok next)
    go None is = absurd (let no : false ≡ true = subst (λ (o : Option ℕ). IsSome o) is may.0 in cc)
    go (Some win) is =
        let free = widget_free naming older d agrees wid w win is may.1 in
        let after : Drafted = record { board = whole d; window = Some win; home = Some win; last = Some (wid, w); naming = d.naming } in
        (after, ap (λ o. with_widget_in o wid w d) (agrees.window ∙ is) ∙ ap (λ f. unless (option_map refusal_of f) after) free)

value_said_in : (naming : Naming) (older : List Part) (d : Drafted) (wid : ℕ) (said : Option Widget) (next : Drafted) → Agrees naming older d → with_said d.window said wid d ≡ Ok next
    → MayCome naming older (says_value wid said) × Agrees naming (says_value wid said ∷ older) next
value_said_in naming older d wid said next agrees e = go d.window refl said e
  where
    go : (o : Option ℕ) → d.window ≡ o → (said : Option Widget) → with_said d.window said wid d ≡ Ok next → MayCome naming older (says_value wid said) × Agrees naming (says_value wid said ∷ older) next
    go None is said e = absurd (let no : Err Misplaced ≡ Ok next = ap (λ o. with_said o said wid d) (sym is) ∙ e in cc)
    go (Some win) is None e = absurd (let no : Err BadBounds ≡ Ok next = ap (λ o. with_said o None wid d) (sym is) ∙ e in cc)
    go (Some win) is (Some w) e = widget_said_in naming older d wid w next agrees (ap (λ o. with_said o (Some w) wid d) (sym is) ∙ e)

value_taken_in : (naming : Naming) (older : List Part) (d : Drafted) (wid : ℕ) (said : Option Widget) → Agrees naming older d → MayCome naming older (says_value wid said) → (next : Drafted) × (with_said d.window said wid d ≡ Ok next)
value_taken_in naming older d wid None agrees may = absurd may
value_taken_in naming older d wid (Some w) agrees may = go (last_window older) refl
  where
    go : (o : Option ℕ) → last_window older ≡ o → (next : Drafted) × (with_said d.window (Some w) wid d ≡ Ok next)
    go None is = absurd (let no : false ≡ true = subst (λ (o : Option ℕ). IsSome o) is may.0 in cc)
    go (Some win) is = let taken_there = widget_taken_in naming older d wid w agrees may in (taken_there.0, ap (λ o. with_said o (Some w) wid d) (agrees.window ∙ is) ∙ taken_there.1)

line_said : (naming : Naming) (older : List Part) (d next : Drafted) (l : Line) → Agrees naming older d → taken d l ≡ Ok next → MayCome naming older (part_of l) × Agrees naming (part_of l ∷ older) next
line_said naming older d next (line.Window win) agrees e = window_said naming older d agrees win next e
line_said naming older d next (line.Text wid) agrees e = widget_said_in naming older d wid (Text no_items) next agrees e
line_said naming older d next (line.List wid) agrees e = widget_said_in naming older d wid (Labels no_items) next agrees e
line_said naming older d next (line.Value wid value) agrees e = value_said_in naming older d wid (said_widget value) next agrees e
line_said naming older d next (line.Char name value) agrees e = item_said naming older d (AddedChar (record { name = name; value = value })) next agrees e
line_said naming older d next (line.Item name value) agrees e = item_said naming older d (AddedLabel (record { name = name; value = value })) next agrees e
line_said naming older d next line.Hello agrees e = absurd cc
line_said naming older d next (line.Welcome site limit) agrees e = absurd cc
line_said naming older d next line.Ready agrees e = absurd cc
line_said naming older d next (line.Batch mine heard count) agrees e = absurd cc
line_said naming older d next (line.Do op) agrees e = absurd cc
line_said naming older d next (line.Ack n) agrees e = absurd cc
line_said naming older d next (line.Ping n) agrees e = absurd cc
line_said naming older d next (line.Pong n) agrees e = absurd cc
line_said naming older d next line.Bye agrees e = absurd cc
line_said naming older d next (line.Error n) agrees e = absurd cc

line_may : (naming : Naming) (older : List Part) (d : Drafted) (l : Line) → Agrees naming older d → MayCome naming older (part_of l) → (next : Drafted) × (taken d l ≡ Ok next)
line_may naming older d (line.Window win) agrees may = window_taken naming older d agrees win may
line_may naming older d (line.Text wid) agrees may = widget_taken_in naming older d wid (Text no_items) agrees may
line_may naming older d (line.List wid) agrees may = widget_taken_in naming older d wid (Labels no_items) agrees may
line_may naming older d (line.Value wid value) agrees may = value_taken_in naming older d wid (said_widget value) agrees may
line_may naming older d (line.Char name value) agrees may = item_taken naming older d (AddedChar (record { name = name; value = value })) agrees may
line_may naming older d (line.Item name value) agrees may = item_taken naming older d (AddedLabel (record { name = name; value = value })) agrees may
line_may naming older d line.Hello agrees may = absurd may
line_may naming older d (line.Welcome site limit) agrees may = absurd may
line_may naming older d line.Ready agrees may = absurd may
line_may naming older d (line.Batch mine heard count) agrees may = absurd may
line_may naming older d (line.Do op) agrees may = absurd may
line_may naming older d (line.Ack n) agrees may = absurd may
line_may naming older d (line.Ping n) agrees may = absurd may
line_may naming older d (line.Pong n) agrees may = absurd may
line_may naming older d line.Bye agrees may = absurd may
line_may naming older d (line.Error n) agrees may = absurd may

-- # All lines

lines_said : (naming : Naming) (lines : List Line) (number : ℕ) (older : List Part) (d end : Drafted) → Agrees naming older d → lines_taken number d lines ≡ Ok end → MayFollow naming older lines × Agrees naming (history older lines) end
lines_said naming [] number older d end agrees e = (tt, subst (λ (x : Drafted). Agrees naming older x) (same_Ok d end e) agrees)
lines_said naming (l ∷ ls) number older d end agrees e =
    elim (cases_Bool (number == 4294967295)) [
      | inl last ↦ absurd (let no : Err (record { line = number; number = 11 }) ≡ Ok end = rw last at e in cc)
      | inr other ↦ go (taken d l) refl (rw other at e) (λ next agreed f. lines_said naming ls (suc number) (part_of l ∷ older) next end agreed f)
    ]
  where
    go : (r : Result Drafted Refusal) → taken d l ≡ r → (at_line number (taken d l) >>? λ next. lines_taken (suc number) next ls) ≡ Ok end
        → ((next : Drafted) → Agrees naming (part_of l ∷ older) next → lines_taken (suc number) next ls ≡ Ok end → MayFollow naming (part_of l ∷ older) ls × Agrees naming (history (part_of l ∷ older) ls) end)
        → MayFollow naming older (l ∷ ls) × Agrees naming (history older (l ∷ ls)) end
    go (Ok next) is f rest =
        let said = line_said naming older d next l agrees is in
        let others = rest next said.1 (ap (λ r. at_line number r >>? λ x. lines_taken (suc number) x ls) (sym is) ∙ f) in
        ((said.0, others.0), others.1)
    go (Err refusal) is f rest = absurd (let no : Err (record { line = number; number = refusal_number refusal }) ≡ Ok end = ap (λ r. at_line number r >>? λ x. lines_taken (suc number) x ls) (sym is) ∙ f in cc)

lines_may : (naming : Naming) (lines : List Line) (number : ℕ) (older : List Part) (d : Drafted) → Agrees naming older d → MayFollow naming older lines → number + length lines ≤ 4294967295 → (end : Drafted) × (lines_taken number d lines ≡ Ok end)
lines_may naming [] number older d agrees may fits = (d, refl)
lines_may naming (l ∷ ls) number older d agrees may fits =
    let one = line_may naming older d l agrees may.0 in
    let said = line_said naming older d one.0 l agrees one.1 in
    let rest = lines_may naming ls (suc number) (part_of l ∷ older) one.0 said.1 may.1 (omega (arith, fits)) in
    (rest.0, rw (ne_eqb number 4294967295 (λ e. absurd (omega (arith, e, fits)))) (ap (λ r. at_line number r >>? λ x. lines_taken (suc number) x ls) one.1 ∙ rest.1))

-- # Boards

of_whole : (r : Result Drafted LayoutFault) (windows : Windows) → (r >>? λ d. Ok (whole d)) ≡ Ok windows → (end : Drafted) × (r ≡ Ok end) × (whole end ≡ windows)
of_whole (Ok end) windows e = (end, refl, same_Ok (whole end) windows e)
of_whole (Err fault) windows e = absurd cc

pub board_said : (naming : Naming) (lines : List Line) (windows : Windows) → board_from naming lines ≡ Ok windows → MayFollow naming [] lines × Shows lines windows
board_said naming lines windows e =
    let end = of_whole (lines_taken 1 (blank naming) lines) windows e in
    let said = lines_said naming lines 1 [] (blank naming) end.0 (agrees_blank naming) end.1 in
    (said.0, subst (λ (b : Windows). Shows lines b) end.2 (record { ids = said.1.ids; widgets = said.1.shows }))

pub board_may : (naming : Naming) (lines : List Line) → MayFollow naming [] lines → length lines < 4294967295 → (windows : Windows) × (board_from naming lines ≡ Ok windows)
board_may naming lines may few =
    let end = lines_may naming lines 1 [] (blank naming) (agrees_blank naming) may (omega (arith, few)) in
    (whole end.0, ap (λ r. r >>? λ d. Ok (whole d)) end.1)
