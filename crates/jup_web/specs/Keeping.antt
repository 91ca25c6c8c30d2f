-- The text of a board that a star had.
use Rattle.std.specs.Prelude.{◌≡◌, ℕ, List}
use Rattle.jup_window.specs.Boards.{Windows, bare}
use Rattle.jup_text.specs.Boards.{board_text}
use Rattle.jup_star.specs.Stars.{BoardStar}

-- the text prints the board of the star
pub record IsTextOf (text : List ℕ) (star : BoardStar) : Type 0 where
  pub board : Windows
  pub shown : bare board ≡ star.board
  pub printed : text ≡ board_text board
