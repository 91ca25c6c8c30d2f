-- Why a daemon ends, by what was refused, with its exit status, and what it serves.
use Rattle.std.specs.Prelude.{◌≡◌, ◌≢◌, ◌==◌, ◌⊎◌, ℕ, List, Some, Ok, Err, if◌then◌else◌, Bool, true, false}
use Rattle.std.specs.declared.io.ErrorKind.{ErrorKind}
use Rattle.std.specs.declared.io.ErrorKind.TheVariants.{OutOfMemory}
use Rattle.jup_window.specs.Boards.{Windows, bare}
use Rattle.jup_window.specs.Entries.{EachWidget}
use Rattle.jup_window.specs.Commands.{board_fault_number}
use Rattle.jup_window.specs.declared.faults.BoardFault.TheVariants.{TooMany}
use Rattle.jup_star.specs.Faults.{open_fault_number}
use Rattle.jup_star.specs.Stars.{IsShort, BoardStar, star_open_fault, opened_counting}
use Rattle.jup_star.specs.declared.faults.OpenFault.{OpenFault}
use Rattle.jup_layout.specs.declared.layouts.LayoutFault.{LayoutFault}
use Rattle.jup_layout.specs.Drafts.{Describes}
use Rattle.jup_daemon.specs.declared.ends.Attempt.{Attempt}
use Rattle.jup_daemon.specs.declared.ends.Attempt.TheVariants.{ReadLayout, Listen, Accept, Print}
use Rattle.jup_daemon.specs.declared.ends.DaemonEnd.{DaemonEnd}
use Rattle.jup_daemon.specs.declared.ends.DaemonEnd.TheVariants.{Held, Io, Layout, LongLayout, NoMemory}

-- 1 for a failed read, write, bind or accept, 2 for the words, 3 for memory, 5 for the layout, 6 if the hub can't be closed
abbrev pub daemon_end_status : DaemonEnd → ℕ
daemon_end_status (Layout fault) = 5
daemon_end_status LongLayout = 5
daemon_end_status (Io attempt) = 1
daemon_end_status NoMemory = 3
daemon_end_status Held = 6

-- Which ends have a second line, which explains them to people.

-- the caller knows where it was to listen
abbrev pub attempt_is_explained : Attempt → Bool
attempt_is_explained ReadLayout = true
attempt_is_explained Listen = false
attempt_is_explained Accept = true
attempt_is_explained Print = true

-- a fault of the layout, and what was tried
abbrev pub daemon_end_is_explained : DaemonEnd → Bool
daemon_end_is_explained (Layout fault) = true
daemon_end_is_explained LongLayout = false
daemon_end_is_explained (Io attempt) = attempt_is_explained attempt
daemon_end_is_explained NoMemory = false
daemon_end_is_explained Held = false

-- a failed allocation, or what was tried
abbrev pub IsEndOfFailure : Attempt → ErrorKind → DaemonEnd → Type 0
IsEndOfFailure attempt kind end = (kind ≡ OutOfMemory → end ≡ NoMemory) × (kind ≢ OutOfMemory → end ≡ Io attempt)

-- What was refused, and what is served.

-- no memory has the line 0
abbrev pub end_of_layout : LayoutFault → DaemonEnd
end_of_layout fault = if fault.line == 0 then NoMemory else Layout fault

-- the star over the board of a layout, with this limit, which only counts its order
pub record IsStarOf (text : List ℕ) (limit : ℕ) (star : BoardStar) : Type 0 where
  pub windows : Windows
  pub described : Describes text (Ok windows)
  pub is : star ≡ opened_counting windows limit

-- why no star is opened over the board of a layout: a sequence is too long for one, or a star refuses the board or the limit
pub record IsUnopened (text : List ℕ) (limit number : ℕ) : Type 0 where
  pub windows : Windows
  pub described : Describes text (Ok (bare windows))
  pub why : ((EachWidget IsShort windows → ⊥) × (number ≡ board_fault_number TooMany))
      ⊎ ((fault : OpenFault) × (star_open_fault (bare windows) limit ≡ Some fault) × (number ≡ open_fault_number fault))

-- a fault of a line is that of the text, and one of no line is of the whole
pub record IsFaultOf (text : List ℕ) (limit : ℕ) (fault : LayoutFault) : Type 0 where
  pub of_line : fault.line ≢ 0 → Describes text (Err fault)
  pub of_whole : fault.line ≡ 0 → IsUnopened text limit fault.number

-- no memory, or a fault of the layout
abbrev pub IsRefusalOf : List ℕ → ℕ → DaemonEnd → Type 0
IsRefusalOf text limit end = (end ≡ NoMemory) ⊎ ((fault : LayoutFault) × (end ≡ Layout fault) × IsFaultOf text limit fault)
