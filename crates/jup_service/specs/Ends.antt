-- Why a server of browsers ends early, by what was refused.
use Rattle.std.specs.Prelude.{◌≡◌, ◌≢◌}
use Rattle.std.specs.IoError.{error_kind}
use Rattle.std.specs.declared.io.ErrorKind.TheVariants.{OutOfMemory}
use Rattle.jup_board.specs.declared.ending.BoardEnd.{BoardEnd}
use Rattle.jup_board.specs.declared.ending.BoardEnd.TheVariants as boards
use Rattle.jup_service.specs.declared.end.Attempt.TheVariants.{OpenBoard}
use Rattle.jup_service.specs.declared.end.ServiceEnd.{ServiceEnd}
use Rattle.jup_service.specs.declared.end.ServiceEnd.TheVariants as ends
use Rattle.jup_service.specs.declared.kept_file.KeptFileFault.{KeptFileFault}
use Rattle.jup_service.specs.declared.kept_file.KeptFileFault.TheVariants.{Taken, Io}

-- another program has the file, there was no memory, or it can't be opened
abbrev pub IsEndOfFile : KeptFileFault → ServiceEnd → Type 0
IsEndOfFile Taken end = end ≡ ends.BoardTaken
IsEndOfFile (Io error) end = (error_kind error ≡ OutOfMemory → end ≡ ends.NoMemory) × (error_kind error ≢ OutOfMemory → end ≡ ends.Io OpenBoard)

-- a line of the board is bad, there was no memory, or the board is too long
abbrev pub end_of_board : BoardEnd → ServiceEnd
end_of_board (boards.Line line fault) = ends.BadBoard line fault
end_of_board boards.NoMemory = ends.NoMemory
end_of_board boards.LongBoard = ends.LongBoard
end_of_board (boards.Layout fault) = ends.LongBoard
end_of_board boards.LongInput = ends.LongBoard
end_of_board (boards.LongLayout fault) = ends.LongBoard
end_of_board boards.Unread = ends.LongBoard
end_of_board boards.Unprinted = ends.LongBoard
