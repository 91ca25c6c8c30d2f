use Rattle.std.proofs.Common.{◌≡◌, ◌++◌, ◌∙◌, ◌∷◌, [], List, ℕ, length, sym, ap, codes, decimal}
use Rattle.jup_text.specs.Boards.{line_of, board_text}
use Rattle.jup_daemon.proofs.Reports.{board_text-bare}
use Rattle.jup_daemon.proofs.report.report_text.Goals as goal

pub returns : goal.returns
returns c =
    let count : List ℕ = line_of (codes "order" ∷ decimal c.order_len.result ∷ []) in
    let is_count : c.append_count.new.text.items ≡ count = c.in_ok-append_count.ensures ∙ ap (λ (l : List ℕ). l ++ count) c.new-text.ensures.items in
    c.in_ok-write_board.ensures.appended
    ∙ ap (λ (l : List ℕ). l ++ board_text c.board.result.now) is_count
    ∙ ap (λ (count : ℕ). line_of (codes "order" ∷ decimal count ∷ []) ++ board_text c.board.result.now) c.order_len.ensures
    ∙ ap (λ (l : List ℕ). line_of (codes "order" ∷ decimal (length c.args.star.now.order) ∷ []) ++ l)
    (sym (board_text-bare c.board.result.now) ∙ ap (λ board. board_text board) c.board.ensures)
