-- A board is printed alike with the room that it keeps and without it.
use Rattle.std.proofs.Common.{◌≡◌, ℕ, List, [], ◌∷◌, ◌++◌, refl, ap, ◌∙◌, codes, decimal}
use Rattle.std.specs.List.{flat_map}
use Rattle.jup_window.specs.Widgets as widget
use Rattle.jup_window.specs.Boards as board
use Rattle.jup_text.specs.Boards.{line_of, widget_line, window_lines, board_text}
use Rattle.jup_layout.specs.Prelude.{Widget, Text, Labels}

widget_line-bare : (id : ℕ) (w : Widget) → widget_line (id, widget.bare w) ≡ widget_line (id, w)
widget_line-bare id (Text x) = refl
widget_line-bare id (Labels x) = refl
widget_line-bare id other = refl

-- lists of entries that are printed alike, one by one
alike : {A : Type 0} (f : A → List ℕ) (x y : A) (xs ys : List A) → f y ≡ f x → flat_map f ys ≡ flat_map f xs → flat_map f (y ∷ ys) ≡ flat_map f (x ∷ xs)
alike f x y xs ys first rest = ap (λ (l : List ℕ). l ++ flat_map f ys) first ∙ ap (λ (l : List ℕ). f x ++ l) rest

widgets-bare : (ws : List (ℕ × Widget)) → flat_map widget_line (board.bare_widgets ws) ≡ flat_map widget_line ws
widgets-bare [] = refl
widgets-bare (w ∷ ws) =
    alike widget_line w (w.0, widget.bare w.1) ws (board.bare_widgets ws) (widget_line-bare w.0 w.1) (widgets-bare ws)

pub board_text-bare : (b : board.Windows) → board_text (board.bare b) ≡ board_text b
board_text-bare [] = refl
board_text-bare (w ∷ b) =
    alike window_lines w (w.0, board.bare_widgets w.1) b (board.bare b)
    (ap (λ (l : List ℕ). line_of (codes "window" ∷ decimal w.0 ∷ []) ++ l) (widgets-bare w.1)) (board_text-bare b)
