-- What a daemon may be asked for, and what it prints at its end.
use Rattle.std.specs.Prelude.{ℕ, List, [], ◌∷◌, ◌++◌, length, codes, decimal}
use Rattle.jup_star.specs.Stars.{BoardStar}
use Rattle.jup_text.specs.Boards.{line_of, board_text}

-- sessions that it may be asked to serve
abbrev pub most_sessions : ℕ
most_sessions = 1024

-- seconds for which it may be asked to let a link wait: a day
abbrev pub most_grace : ℕ
most_grace = 86400

-- how many edits were taken, and then the board
abbrev pub report_text : BoardStar → List ℕ
report_text star = line_of (codes "order" ∷ decimal (length star.order) ∷ []) ++ board_text star.board

-- that sessions may come
abbrev pub listening_text : List ℕ → List ℕ
listening_text address = line_of (codes "listening" ∷ address ∷ [])
