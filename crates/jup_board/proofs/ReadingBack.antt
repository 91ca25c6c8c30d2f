-- A board that is read from what another is printed as prints the same.
use Rattle.std.proofs.Common.{◌≡◌, ℕ, ◌+◌, ◌<◌, ◌≤◌, nat_lt, ◌==◌, true, false, List, [], ◌∷◌, ◌++◌, length, Some, refl, sym, ap, subst, ◌∙◌, append_assoc, append-nil, arith, inl, inr, codes, decimal, le_refl}
use Rattle.std.specs.List.{flat_map, AllByRecursion, prefix_len}
use Rattle.std.proofs.lemmas.List.{length-append, append_cancel_right}
use Rattle.std.proofs.Math.Seq.{take-length, drop-length}
use Rattle.std.proofs.lemmas.List.Concat.{flat_map-append}
use Rattle.std.proofs.lemmas.Bool.Decides.{nat_tests}
use Rattle.std.proofs.lemmas.Option.{same_Some}
use Rattle.jup_board.specs.Prelude.{Widget, Windows, IsId}
use Rattle.jup_window.specs.Entries.{AreOver, change_at, with_entry}
use Rattle.jup_text.specs.Boards.{line_of, widget_line, window_lines, board_text, Draft, IsTaken}
use Rattle.jup_text.proofs.BoardLines.{window_first}
use Rattle.jup_text.proofs.Quotes.{same_parts}
use Rattle.jup_board.specs.Boards.{lines_text, blank, Lacks, AreTaken, IsHeading, IsPrintOf, Ascends, AreAscending}
use Rattle.jup_board.proofs.Texts.{widget_plain, window_plain, plain_line, order_otherwise, listening_otherwise}
use Rattle.jup_board.proofs.FollowingLines.{window_text, widget_text, widgets_then, lines_of, lines_spelled, no_window, same_window, same_widget}

-- ---- a printed board has no heading

no_heading : (windows : Windows) (heading lines : List ℕ) → IsHeading heading → board_text windows ≡ heading ++ lines → board_text windows ≡ lines
no_heading windows heading lines is same = elim is.first [
  | inr listening ↦ absurd (listening_otherwise [] windows (inl refl) is.listening (is.order ++ lines) listening
      (same ∙ ap (λ (t : List ℕ). t ++ lines) is.whole ∙ append_assoc is.listening is.order lines))
  | inl none ↦ elim is.second [
    | inr order ↦ absurd (order_otherwise windows is.order lines order (same ∙ ap (λ (t : List ℕ). t ++ lines) (is.whole ∙ ap (λ (t : List ℕ). t ++ is.order) none)))
    | inl empty ↦ same ∙ ap (λ (t : List ℕ). t ++ lines) (is.whole ∙ ap (λ (t : List ℕ). t ++ is.order) none ∙ empty)
  ]
]

-- ---- a text has one list of lines

same_lines : (xs ys : List (List ℕ)) → AllByRecursion (λ line. Lacks 10 line) xs → AllByRecursion (λ line. Lacks 10 line) ys → lines_text xs ≡ lines_text ys → xs ≡ ys
same_lines [] [] one two same = refl
same_lines [] (y ∷ ys) one two same = absurd (let long = ap (λ (t : List ℕ). length t) same in omega (arith, long, length-append (y ++ 10 ∷ []) (lines_text ys), length-append y (10 ∷ [])))
same_lines (x ∷ xs) [] one two same = absurd (let long = ap (λ (t : List ℕ). length t) same in omega (arith, long, length-append (x ++ 10 ∷ []) (lines_text xs), length-append x (10 ∷ [])))
same_lines (x ∷ xs) (y ∷ ys) one two same =
    let parts = same_parts 10 x y (lines_text xs) (lines_text ys) one.0 two.0 (sym (append_assoc x (10 ∷ []) (lines_text xs)) ∙ same ∙ append_assoc y (10 ∷ []) (lines_text ys)) in
    let behind = same_lines xs ys one.1 two.1 parts.1 in
    ap (λ (line : List ℕ). line ∷ xs) parts.0 ∙ ap (λ (lines : List (List ℕ)). y ∷ lines) behind

taken_line : (old new : Draft) (line : List ℕ) → IsTaken old line new → Lacks 10 line
taken_line old new line (inl window) =
    subst (λ (t : List ℕ). Lacks 10 t) (sym (append_cancel_right line (window_text window.win) (10 ∷ []) window.spelled)) (plain_line (window_text window.win) (window_plain window.win))
taken_line old new line (inr widget) =
    subst (λ (t : List ℕ). Lacks 10 t) (sym (append_cancel_right line (widget_text (widget.wid, widget.widget)) (10 ∷ []) widget.spelled.0))
    (plain_line (widget_text (widget.wid, widget.widget)) (widget_plain widget.wid widget.widget))

taken_lines : (old new : Draft) (lines : List (List ℕ)) → AreTaken old lines new → AllByRecursion (λ line. Lacks 10 line) lines
taken_lines old new [] taken = tt
taken_lines old new (line ∷ lines) (next, first, later) = (taken_line old next line first, taken_lines next new lines later)

widgets_lack : (vs : List (ℕ × Widget)) (more : List (List ℕ)) → AllByRecursion (λ line. Lacks 10 line) more → AllByRecursion (λ line. Lacks 10 line) (widgets_then vs more)
widgets_lack [] more lack = lack
widgets_lack (v ∷ vs) more lack = (plain_line (widget_text v) (widget_plain v.0 v.1), widgets_lack vs more lack)

windows_lack : (ws : Windows) → AllByRecursion (λ line. Lacks 10 line) (lines_of ws)
windows_lack [] = tt
windows_lack (w ∷ ws) = (plain_line (window_text w.0) (window_plain w.0), widgets_lack w.1 (lines_of ws) (windows_lack ws))

-- ---- an entry over all others comes last

-- no id is over this one
abbrev AllTo : {A : Type 0} → ℕ → List (ℕ × A) → Type 0
AllTo n entries = AllByRecursion (λ entry. entry.0 ≤ n) entries

all_under : {A : Type 0} (n k : ℕ) (xs : List (ℕ × A)) → AllTo n xs → n < k → prefix_len (λ entry. nat_lt entry.0 k) xs ≡ length xs
all_under n k [] to less = refl
all_under n k (x ∷ xs) to less =
    let under : nat_lt x.0 k ≡ true = (let first = to.0 in grind (arith, nat_tests)) in
    let rest = all_under n k xs to.1 less in
    rw under (omega (arith, rest))

put_last : {A : Type 0} (n k : ℕ) (a : A) (xs : List (ℕ × A)) → AllTo n xs → n < k → with_entry k a xs ≡ xs ++ (k, a) ∷ []
put_last n k a xs to less = rw (all_under n k xs to less, take-length xs, take-length xs, drop-length xs) refl

change_last : {A : Type 0} (n k : ℕ) (f : A → A) (a : A) (xs : List (ℕ × A)) → AllTo n xs → n < k → change_at k f (xs ++ (k, a) ∷ []) ≡ xs ++ (k, f a) ∷ []
change_last n k f a [] to less = let here : (k == k) ≡ true = grind (arith, nat_tests) in rw here refl
change_last {A = A} n k f a (x ∷ xs) to less =
    let other : (x.0 == k) ≡ false = (let first = to.0 in grind (arith, nat_tests)) in
    rw other (ap (λ (l : List (ℕ × A)). x ∷ l) (change_last n k f a xs to.1 less))

to_more : {A : Type 0} (n k : ℕ) (a : A) (xs : List (ℕ × A)) → AllTo n xs → n < k → AllTo k (xs ++ (k, a) ∷ [])
to_more n k a [] to less = (le_refl k, tt)
to_more n k a (x ∷ xs) to less = let first = to.0 in (omega (arith, first), to_more n k a xs to.1 less)

-- ---- what was read prints the lines that were read

module _ (win : ℕ) (ws : Windows) (more : List (List ℕ)) (new : Draft) (xs : Windows) (n : ℕ) (to : AllTo n xs) (less : n < win)
    (after : (draft : Draft) (ys : Windows) → draft.0 ≡ ys → AllTo win ys → AreTaken draft more new → board_text new.0 ≡ board_text ys ++ board_text ws) where
  -- the text up to the widgets of this window, and that of all
  abbrev head : List ℕ
  head = line_of (codes "window" ∷ decimal win ∷ [])

  abbrev whole : List ℕ → List ℕ
  whole widgets = (board_text xs ++ (head ++ widgets)) ++ board_text ws

  widgets_back : (vs held : List (ℕ × Widget)) (m : ℕ) (draft : Draft) → draft.0 ≡ xs ++ (win, held) ∷ [] → draft.1 ≡ Some win → AllTo m held → AreOver m vs → AllByRecursion (λ v. IsId v.0) vs
      → AreTaken draft (widgets_then vs more) new → board_text new.0 ≡ whole (flat_map widget_line held ++ flat_map widget_line vs)
  widgets_back [] held m draft is last under over ids taken =
      after draft (xs ++ (win, held) ∷ []) is (to_more n win held xs to less) taken
      ∙ ap (λ (t : List ℕ). t ++ board_text ws) (flat_map-append window_lines xs ((win, held) ∷ []) ∙ ap (λ (t : List ℕ). board_text xs ++ t) (append-nil (window_lines (win, held))))
      ∙ ap whole (sym (append-nil (flat_map widget_line held)))
  widgets_back (v ∷ vs) held m draft is last under over ids (next, first, later) = elim first [
    | inl window ↦ absurd (no_window (widget_text v) window.win v.0 v.1 (window_first (widget_text v) window.win window.spelled) refl)
    | inr widget ↦
        let in_win : widget.win ≡ win = same_Some widget.win win (sym widget.in_last ∙ last) in
        let same : widget.wid ≡ v.0 = same_widget (widget_text v) widget.wid v.0 widget.widget v.1 ids.0 widget.spelled.0 refl in
        let added : ℕ × Widget = (v.0, widget.widget) in
        let there : next.0 ≡ xs ++ (win, held ++ added ∷ []) ∷ [] =
        widget.board ∙ ap (λ k. change_at k (with_entry widget.wid widget.widget) draft.0) in_win ∙ ap (λ k. change_at win (with_entry k widget.widget) draft.0) same
        ∙ ap (λ (b : Windows). change_at win (with_entry v.0 widget.widget) b) is ∙ change_last n win (with_entry v.0 widget.widget) held xs to less
        ∙ ap (λ (l : List (ℕ × Widget)). xs ++ (win, l) ∷ []) (put_last m v.0 widget.widget held under over.0) in
        let line : widget_line added ≡ widget_line v = ap (λ k. widget_line (k, widget.widget)) (sym same) ∙ sym widget.spelled.0 in
        let lines : flat_map widget_line (held ++ added ∷ []) ≡ flat_map widget_line held ++ widget_line v =
        flat_map-append widget_line held (added ∷ []) ∙ ap (λ (t : List ℕ). flat_map widget_line held ++ t) (append-nil (widget_line added) ∙ line) in
        widgets_back vs (held ++ added ∷ []) v.0 next there (widget.window ∙ ap (λ (k : ℕ). Some k) in_win) (to_more m v.0 widget.widget held under over.0) over.1 ids.1 later
        ∙ ap whole (ap (λ (t : List ℕ). t ++ flat_map widget_line vs) lines ∙ append_assoc (flat_map widget_line held) (widget_line v) (flat_map widget_line vs))
  ]

windows_back : (ws xs : Windows) (n : ℕ) (old new : Draft) → old.0 ≡ xs → AllTo n xs → AreOver n ws → AllByRecursion (λ w. IsId w.0) ws → AllByRecursion (λ w. Ascends w.1) ws
    → AreTaken old (lines_of ws) new → board_text new.0 ≡ board_text xs ++ board_text ws
windows_back [] xs n old new is to over ids windows taken = ap (λ (d : Draft). board_text d.0) (sym taken) ∙ ap board_text is ∙ sym (append-nil (board_text xs))
windows_back (w ∷ ws) xs n old new is to over ids windows (next, first, later) = elim first [
  | inl window ↦
      let same : window.win ≡ w.0 = same_window window.win w.0 ids.0 (window_first (window_text w.0) window.win window.spelled) in
      let opened : next ≡ (with_entry w.0 [] old.0, Some w.0, old.2) = window.taken ∙ ap (λ (k : ℕ). (with_entry k [] old.0, Some k, old.2)) same in
      let there : next.0 ≡ xs ++ (w.0, []) ∷ [] =
      ap (λ (d : Draft). d.0) opened ∙ ap (λ (b : Windows). with_entry w.0 [] b) is ∙ put_last n w.0 [] xs to over.0 in
      widgets_back w.0 ws (lines_of ws) new xs n to over.0 (λ draft ys same_ys all taken. windows_back ws ys w.0 draft new same_ys all over.1 ids.1 windows.1 taken)
      w.1 [] 0 next there (ap (λ (d : Draft). d.1) opened) tt windows.0.0 windows.0.1 later
      ∙ append_assoc (board_text xs) (window_lines w) (board_text ws)
  | inr widget ↦ absurd (no_window (window_text w.0) w.0 widget.wid widget.widget refl widget.spelled.0)
]

pub reads_back : (windows made : Windows) (text : List ℕ) → AreAscending windows → text ≡ board_text windows → IsPrintOf made text → board_text made ≡ text
reads_back windows made text ascending is print =
    let all : board_text windows ≡ print.lines = no_heading windows print.heading print.lines print.is_heading (sym is ∙ print.whole) in
    let spelled : lines_text print.read.lines ≡ lines_text (lines_of windows) =
    sym (append-nil (lines_text print.read.lines)) ∙ sym print.read.spelled ∙ sym all ∙ sym (lines_spelled windows) in
    let same = same_lines print.read.lines (lines_of windows) (taken_lines blank print.draft print.read.lines print.read.taken) (windows_lack windows) spelled in
    ap board_text (sym print.board)
    ∙ windows_back windows [] 0 blank print.draft refl tt ascending.0.0 ascending.0.1 ascending.1 (subst (λ (lines : List (List ℕ)). AreTaken blank lines print.draft) same print.read.taken)
    ∙ sym is
