-- The lines of a board are taken back as that board.
use Rattle.std.proofs.Common.{◌≡◌, ◌==◌, ℕ, suc, ◌+◌, ◌<◌, ◌≤◌, false, List, [], ◌∷◌, ◌++◌, length, Some, None, Ok, Err, refl, sym, ap, subst, ◌∙◌, append_assoc, arith, IsTrue, insert, nat_lt, Result, inl, inr, MatchResult, length-append, append-nil}
use Rattle.std.specs.List.{flat_map, AllByRecursion}
use Rattle.std.proofs.lemmas.Bool.{ne_eqb, lt-ltb, eq-eqb, lt-leb, or_parts}
use Rattle.std.proofs.lemmas.List.Sums.{take_while-cons}
use Rattle.std.proofs.lemmas.List.Concat.{flat_map-cons}
use Rattle.jup_layout.specs.Prelude.{most_entries, Name, Item, Items, name_eq, has_name, AreDistinct, Widget, WidgetValue, Text, Labels, Line, Distinct, LayoutFault, value_of, said_widget, value_there, option_map, is_none}
use Rattle.jup_value.proofs.Items.{name_eq_sym}
use Rattle.jup_window.specs.Entries.{entry_fault, fault_in, widget_fault, at_id, change_at, slot_of, with_entry, AreOver}
use Rattle.jup_window.specs.Boards as board
use Rattle.jup_window.specs.Widgets as widget
use Rattle.jup_wire.specs.declared.line.Line.TheVariants as line
use Rattle.jup_window.specs.Kinds.{HasNoItems}
use Rattle.jup_window.specs.Laws.Widgets.{bare_none}
use Rattle.jup_layout.specs.Drafts.{item_lines, widget_lines, window_lines, board_lines, IsWidget, IsWindow, IsBoard, refusal_of, Drafted, blank, whole, unless, is_free, with_widget_in, with_said, value_lines, with_item, taken, ◌>>?◌, at_line, lines_taken, board_with, no_memory, Makes}
use Rattle.jup_layout.proofs.Drafting.{entry_fault-whole, free-more, whole-more, same_Ok}

-- A board's lines describe that board.

-- # Entries in ascending order go to the end

-- each id is at most this number
abbrev pub AtMost : {A : Type 0} → ℕ → List (ℕ × A) → Type 0
AtMost high [] = Unit {0}
AtMost high (e ∷ es) = (e.0 ≤ high) × AtMost high es

raised : {A : Type 0} (low high : ℕ) (es : List (ℕ × A)) → low ≤ high → AtMost low es → AtMost high es
raised low high [] le all = tt
raised low high (e ∷ es) le all = (omega (arith, all.0), raised low high es le all.1)

AtMost-push : {A : Type 0} (high : ℕ) (es : List (ℕ × A)) (e : ℕ × A) → AtMost high es → e.0 ≤ high → AtMost high (es ++ e ∷ [])
AtMost-push high [] e all le = (le, tt)
AtMost-push high (x ∷ es) e all le = (all.0, AtMost-push high es e all.1 le)

not_held : {A : Type 0} (id high : ℕ) (es : List (ℕ × A)) → high < id → AtMost high es → at_id id es ≡ None
not_held id high [] lt all = refl
not_held id high (e ∷ es) lt all = rw (ne_eqb e.0 id (λ same. absurd (omega (arith, all.0, same, lt)))) (not_held id high es lt all.1)

slot_of-last : {A : Type 0} (id high : ℕ) (es : List (ℕ × A)) → high < id → AtMost high es → slot_of id es ≡ length es
slot_of-last id high [] lt all = refl
slot_of-last id high (e ∷ es) lt all =
    ap (λ xs. length xs) (take_while-cons (λ x. nat_lt x.0 id) e es)
    ∙ rw (lt-ltb e.0 id (omega (arith, all.0, lt))) (ap suc (slot_of-last id high es lt all.1))

insert-last : {A : Type 0} (es : List A) (a : A) → insert es (length es) a ≡ es ++ a ∷ []
insert-last [] a = refl
insert-last (e ∷ es) a = ap (λ xs. e ∷ xs) (insert-last es a)

with_entry-last : {A : Type 0} (id high : ℕ) (a : A) (es : List (ℕ × A)) → high < id → AtMost high es → with_entry id a es ≡ es ++ (id, a) ∷ []
with_entry-last id high a es lt all = ap (λ i. insert es i (id, a)) (slot_of-last id high es lt all) ∙ insert-last es (id, a)

entry_fault-last : {A : Type 0} (id high : ℕ) (es : List (ℕ × A)) → high < id → AtMost high es → length es < most_entries → entry_fault id es ≡ None
entry_fault-last id high es lt all room =
    rw (ne_eqb id 0 (λ same. absurd (omega (arith, same, lt))), not_held id high es lt all, lt-leb most_entries (length es) (omega arith)) refl

change_at-last : {A : Type 0} (id high : ℕ) (f : A → A) (a : A) (es : List (ℕ × A)) → high < id → AtMost high es → change_at id f (es ++ (id, a) ∷ []) ≡ es ++ (id, f a) ∷ []
change_at-last id high f a [] lt all = rw (eq-eqb id id refl) refl
change_at-last id high f a (x ∷ es) lt all = rw (ne_eqb x.0 id (λ same. absurd (omega (arith, all.0, same, lt)))) (ap (λ xs. x ∷ xs) (change_at-last id high f a es lt all.1))

at_id-last : {A : Type 0} (id high : ℕ) (a : A) (es : List (ℕ × A)) → high < id → AtMost high es → at_id id (es ++ (id, a) ∷ []) ≡ Some a
at_id-last id high a [] lt all = rw (eq-eqb id id refl) refl
at_id-last id high a (x ∷ es) lt all = rw (ne_eqb x.0 id (λ same. absurd (omega (arith, all.0, same, lt)))) (at_id-last id high a es lt all.1)

-- # Lines that are taken, whatever their numbers

-- these lines are taken, and this is what they and those before them describe
abbrev pub Passes : Drafted → List Line → Drafted → Type 0
Passes d lines after = (number : ℕ) (more : List Line) → number + length lines ≤ 4294967295 → lines_taken number d (lines ++ more) ≡ lines_taken (number + length lines) after more

passes_none : (d : Drafted) → Passes d [] d
passes_none d number more fits = ap (λ n. lines_taken n d more) (let same : number ≡ number + 0 = omega arith in same)

passes_cons : (d next after : Drafted) (line : Line) (lines : List Line) → taken d line ≡ Ok next → Passes next lines after → Passes d (line ∷ lines) after
passes_cons d next after line lines e passes number more fits =
    let other : (number == 4294967295) ≡ false = ne_eqb number 4294967295 (λ same. absurd (omega (arith, fits, same))) in
    let count : suc number + length lines ≡ number + suc (length lines) = omega arith in
    rw other (ap (λ r. at_line number r >>? λ n. lines_taken (suc number) n (lines ++ more)) e)
    ∙ passes (suc number) more (omega (arith, fits))
    ∙ ap (λ n. lines_taken n after more) count

passes_append : (d next after : Drafted) (xs ys : List Line) → Passes d xs next → Passes next ys after → Passes d (xs ++ ys) after
passes_append d next after xs ys first second number more fits =
    let long = length-append xs ys in
    let count : (number + length xs) + length ys ≡ number + length (xs ++ ys) = omega (arith, long) in
    ap (lines_taken number d) (append_assoc xs ys more)
    ∙ first number (ys ++ more) (omega (arith, fits, long))
    ∙ second (number + length xs) more (omega (arith, fits, long))
    ∙ ap (λ n. lines_taken n after more) count

-- # Items

in_back : {V : Type 0} (m : Name) (before : List (Item V)) (item : Item V) (items : List (Item V)) → has_name m (before ++ item ∷ items) ≡ false → name_eq item.name m ≡ false
in_back m [] item items none = (or_parts (name_eq item.name m) (has_name m items) none).0
in_back m (x ∷ before) item items none = in_back m before item items (or_parts (name_eq x.name m) (has_name m (before ++ item ∷ items)) none).1

fresh : {V : Type 0} (before : List (Item V)) (item : Item V) (items : List (Item V)) → AreDistinct (before ++ item ∷ items) → has_name item.name before ≡ false
fresh [] item items distinct = refl
fresh (x ∷ before) item items distinct =
    rw (name_eq_sym item.name x.name (in_back x.name before item items distinct.0)) (fresh before item items distinct.1)

-- what is described once a widget line's widget has these items
abbrev filled : {V : Type 0} → (Items V → Widget) → board.Windows → ℕ → ℕ → List (Item V) → Drafted
filled make windows win wid items = record { board = windows; window = Some win; home = Some win; last = Some (wid, make (record { items = items; spare = 0 })); naming = Distinct }

module _ {V : Type 0} (make : Items V → Widget) (line_of : Name → V → Line) (windows : board.Windows) (win wid : ℕ)
    (reads : (items : List (Item V)) (item : Item V) → taken (filled make windows win wid items) (line_of item.name item.value)
    ≡ with_item make wid (record { items = items; spare = 0 }) item (filled make windows win wid items)) where
  items_pass : (items before : List (Item V)) → AreDistinct (before ++ items) → Passes (filled make windows win wid before) (item_lines line_of items) (filled make windows win wid (before ++ items))
  items_pass [] before distinct =
      subst (λ xs. Passes (filled make windows win wid before) [] (filled make windows win wid xs)) (sym (append-nil before)) (passes_none (filled make windows win wid before))
  items_pass (item ∷ items) before distinct =
      let put = reads before item ∙ rw (fresh before item items distinct) refl in
      let rest = items_pass items (before ++ item ∷ []) (subst AreDistinct (sym (append_assoc before (item ∷ []) items)) distinct) in
      subst (λ xs. Passes (filled make windows win wid before) (item_lines line_of (item ∷ items)) (filled make windows win wid xs)) (append_assoc before (item ∷ []) items)
      (passes_cons (filled make windows win wid before) (filled make windows win wid (before ++ item ∷ [])) (filled make windows win wid ((before ++ item ∷ []) ++ items)) (line_of item.name item.value) (item_lines line_of items) put rest)

-- # Widgets

-- the board that is described ends in a window with these widgets, which is the last window line's
pub record Holds (d : Drafted) (front : board.Windows) (win : ℕ) (ws : List (ℕ × Widget)) : Type 0 where
  pub all : whole d ≡ front ++ (win, ws) ∷ []
  pub free : IsTrue (is_free d.home d.last d.board)
  pub window : d.window ≡ Some win
  pub naming : d.naming ≡ Distinct

-- what is described once the line of a widget was taken
abbrev opened : board.Windows → ℕ → ℕ → Widget → Drafted
opened windows win wid w = record { board = windows; window = Some win; home = Some win; last = Some (wid, w); naming = Distinct }

module _ (front : board.Windows) (win low : ℕ) (above : low < win) (front_below : AtMost low front) where
  free_in : (ws : List (ℕ × Widget)) (wid high : ℕ) → high < wid → AtMost high ws → length ws < most_entries → widget_fault win wid (front ++ (win, ws) ∷ []) ≡ None
  free_in ws wid high lt below room = ap (λ o. fault_in wid o) (at_id-last win low ws front above front_below) ∙ entry_fault-last wid high ws lt below room

  opens : (d : Drafted) (ws : List (ℕ × Widget)) (wid high : ℕ) (w : Widget) → Holds d front win ws → high < wid → AtMost high ws → length ws < most_entries
      → with_widget_in d.window wid w d ≡ Ok (opened (front ++ (win, ws) ∷ []) win wid w)
  opens d ws wid high w holds lt below room =
      let free : widget_fault win wid (whole d) ≡ None =
      ap (λ b. widget_fault win wid b) holds.all ∙ free_in ws wid high lt below room in
      ap (λ o. with_widget_in o wid w d) holds.window
      ∙ ap (λ f. unless (option_map refusal_of f) (record { board = whole d; window = Some win; home = Some win; last = Some (wid, w); naming = d.naming })) free
      ∙ ap (λ b. Ok (record { board = b; window = Some win; home = Some win; last = Some (wid, w); naming = d.naming })) holds.all
      ∙ ap (λ n. Ok (record { board = front ++ (win, ws) ∷ []; window = Some win; home = Some win; last = Some (wid, w); naming = n })) holds.naming

  holds_opened : (ws : List (ℕ × Widget)) (wid high : ℕ) (w : Widget) → high < wid → AtMost high ws → length ws < most_entries → Holds (opened (front ++ (win, ws) ∷ []) win wid w) front win (ws ++ (wid, w) ∷ [])
  holds_opened ws wid high w lt below room = record {
    all = change_at-last win low (with_entry wid w) ws front above front_below ∙ ap (λ xs. front ++ (win, xs) ∷ []) (with_entry-last wid high w ws lt below);
    free = subst (λ o. IsTrue (is_none o)) (sym (free_in ws wid high lt below room)) refl;
    window = refl;
    naming = refl;
  }

  -- the line of a widget without items
  value_pass : (d : Drafted) (ws : List (ℕ × Widget)) (wid high : ℕ) (w : Widget) → HasNoItems w → Holds d front win ws → high < wid → AtMost high ws → length ws < most_entries
      → ((value : WidgetValue) → value_of w ≡ Some value → said_widget value ≡ Some w) → Passes d (value_lines wid (value_of w)) (opened (front ++ (win, ws) ∷ []) win wid (widget.bare w))
  value_pass d ws wid high w none holds lt below room is =
      let value = value_there w none in
      let after = opened (front ++ (win, ws) ∷ []) win wid w in
      let taken_there : taken d (line.Value wid value.0) ≡ Ok after =
      ap (λ o. with_said o (said_widget value.0) wid d) holds.window ∙ ap (λ said. with_said (Some win) said wid d) (is value.0 value.1) ∙ opens d ws wid high w holds lt below room in
      subst (λ v. Passes d (value_lines wid v) (opened (front ++ (win, ws) ∷ []) win wid (widget.bare w))) (sym value.1)
      (subst (λ u. Passes d (line.Value wid value.0 ∷ []) (opened (front ++ (win, ws) ∷ []) win wid u)) (sym (bare_none w none)) (passes_cons d after after (line.Value wid value.0) [] taken_there (passes_none after)))

  -- a widget's lines
  widget_pass : (d : Drafted) (ws : List (ℕ × Widget)) (wid high : ℕ) (w : Widget) → Holds d front win ws → high < wid → AtMost high ws → length ws < most_entries → IsWidget (wid, w)
      → Passes d (widget_lines (wid, w)) (opened (front ++ (win, ws) ∷ []) win wid (widget.bare w))
  widget_pass d ws wid high (Text x) holds lt below room is =
      passes_cons d (filled Text (front ++ (win, ws) ∷ []) win wid []) (filled Text (front ++ (win, ws) ∷ []) win wid x.items) (line.Text wid) (item_lines line.Char x.items)
      (opens d ws wid high (Text (record { items = []; spare = 0 })) holds lt below room)
      (items_pass Text line.Char (front ++ (win, ws) ∷ []) win wid (λ items item. refl) x.items [] is)
  widget_pass d ws wid high (Labels x) holds lt below room is =
      passes_cons d (filled Labels (front ++ (win, ws) ∷ []) win wid []) (filled Labels (front ++ (win, ws) ∷ []) win wid x.items) (line.List wid) (item_lines line.Item x.items)
      (opens d ws wid high (Labels (record { items = []; spare = 0 })) holds lt below room)
      (items_pass Labels line.Item (front ++ (win, ws) ∷ []) win wid (λ items item. refl) x.items [] is)
  widget_pass d ws wid high other holds lt below room is = value_pass d ws wid high other tt holds lt below room is

  -- the lines of a window's widgets
  widgets_pass : (vs ws : List (ℕ × Widget)) (d : Drafted) (high : ℕ) → Holds d front win ws → AreOver high vs → AtMost high ws → length ws + length vs ≤ most_entries → AllByRecursion IsWidget vs
      → (after : Drafted) × Passes d (flat_map widget_lines vs) after × Holds after front win (ws ++ board.bare_widgets vs)
  widgets_pass [] ws d high holds over below fits each = (d, passes_none d, subst (λ xs. Holds d front win xs) (sym (append-nil ws)) holds)
  widgets_pass (v ∷ vs) ws d high holds over below fits each =
      let next = opened (front ++ (win, ws) ∷ []) win v.0 (widget.bare v.1) in
      let one = widget_pass d ws v.0 high v.1 holds over.0 below (omega (arith, fits)) each.0 in
      let longer = length-append ws ((v.0, widget.bare v.1) ∷ []) in
      let pushed = AtMost-push v.0 ws (v.0, widget.bare v.1) (raised high v.0 ws (omega (arith, over.0)) below) (omega arith) in
      let rest = widgets_pass vs (ws ++ (v.0, widget.bare v.1) ∷ []) next v.0 (holds_opened ws v.0 high (widget.bare v.1) over.0 below (omega (arith, fits))) over.1 pushed (omega (arith, longer, fits)) each.1 in (
        rest.0,
        subst (λ ls. Passes d ls rest.0) (sym (flat_map-cons widget_lines v vs)) (passes_append d next rest.0 (widget_lines v) (flat_map widget_lines vs) one rest.1),
        subst (λ xs. Holds rest.0 front win xs) (append_assoc ws ((v.0, widget.bare v.1) ∷ []) (board.bare_widgets vs)) rest.2,
      )

-- # Windows

-- the lines of windows
windows_pass : (vs front : board.Windows) (d : Drafted) (high : ℕ) → whole d ≡ front → IsTrue (is_free d.home d.last d.board) → d.naming ≡ Distinct → AreOver high vs → AtMost high front → length front + length vs ≤ most_entries → AllByRecursion IsWindow vs
    → (after : Drafted) × Passes d (flat_map window_lines vs) after × (whole after ≡ front ++ board.bare vs)
windows_pass [] front d high all held naming over below fits each = (d, passes_none d, all ∙ sym (append-nil front))
windows_pass (v ∷ vs) front d high all held naming over below fits each =
    let next : Drafted = record { board = with_entry v.0 [] d.board; window = Some v.0; home = d.home; last = d.last; naming = Distinct } in
    let free : entry_fault v.0 d.board ≡ None =
    sym (entry_fault-whole d.home d.last d.board v.0) ∙ ap (λ b. entry_fault v.0 b) all ∙ entry_fault-last v.0 high front over.0 below (omega (arith, fits)) in
    let begun : taken d (line.Window v.0) ≡ Ok next =
    ap (λ f. unless (option_map refusal_of f) (record { board = with_entry v.0 [] d.board; window = Some v.0; home = d.home; last = d.last; naming = d.naming })) free
    ∙ ap (λ n. Ok (record { board = with_entry v.0 [] d.board; window = Some v.0; home = d.home; last = d.last; naming = n })) naming in
    let now : whole next ≡ front ++ (v.0, []) ∷ [] =
    whole-more d.home d.last d.board v.0 free held ∙ ap (λ b. with_entry v.0 [] b) all ∙ with_entry-last v.0 high [] front over.0 below in
    let inside = widgets_pass front v.0 high over.0 below v.1 [] next 0 (record { all = now; free = free-more d.home d.last d.board v.0 free held; window = refl; naming = refl }) each.0.0.0 tt (omega (arith, each.0.0.1)) each.0.1 in
    let window : Passes d (window_lines v) inside.0 = passes_cons d next inside.0 (line.Window v.0) (flat_map widget_lines v.1) begun inside.1 in
    let longer = length-append front ((v.0, board.bare_widgets v.1) ∷ []) in
    let pushed = AtMost-push v.0 front (v.0, board.bare_widgets v.1) (raised high v.0 front (omega (arith, over.0)) below) (omega arith) in
    let rest = windows_pass vs (front ++ (v.0, board.bare_widgets v.1) ∷ []) inside.0 v.0 inside.2.all inside.2.free inside.2.naming over.1 pushed (omega (arith, longer, fits)) each.1 in (
      rest.0,
      subst (λ ls. Passes d ls rest.0) (sym (flat_map-cons window_lines v vs)) (passes_append d inside.0 rest.0 (window_lines v) (flat_map window_lines vs) window rest.1),
      rest.2 ∙ append_assoc front ((v.0, board.bare_widgets v.1) ∷ []) (board.bare vs),
    )

-- a board's lines describe it
pub round_trip : (b : board.Windows) → IsBoard b → length (board_lines b) < 4294967295 → board_with (board_lines b) ≡ Ok (board.bare b)
round_trip b is few =
    let all = windows_pass b [] (blank Distinct) 0 refl refl refl is.0.0 tt (omega (arith, is.0.1)) is.1 in
    ap (λ ls. lines_taken 1 (blank Distinct) ls >>? λ d. Ok (whole d)) (sym (append-nil (board_lines b)))
    ∙ ap (λ r. r >>? λ d. Ok (whole d)) (all.1 1 [] (omega (arith, few)))
    ∙ ap Ok all.2

-- if a board is due that board is made, or an allocation failed
pub made_as_due : (r : Result board.Windows LayoutFault) (due : Result board.Windows LayoutFault) (windows : board.Windows) → Makes r due → due ≡ Ok windows
    → MatchResult r (λ made. board.bare made ≡ windows) (λ fault. fault ≡ no_memory)
made_as_due (Ok made) due windows makes is = same_Ok _ _ (sym makes ∙ is)
made_as_due (Err fault) due windows makes is = elim makes [ inl none ↦ none | inr other ↦ absurd (let no : Ok windows ≡ Err fault = sym is ∙ other in cc) ]

pub back : (r : Result board.Windows LayoutFault) (lines : List Line) → Makes r (board_with lines) → (windows : board.Windows) → IsBoard windows → lines ≡ board_lines windows → length lines < 4294967295
    → MatchResult r (λ made. board.bare made ≡ board.bare windows) (λ fault. fault ≡ no_memory)
back r lines makes windows is same few =
    made_as_due r (board_with lines) (board.bare windows) makes
    (ap board_with same ∙ round_trip windows is (subst (λ ls. length ls < 4294967295) same few))
