-- What a server of browsers decides.
use Rattle.std.specs.Prelude.{◌≡◌, ◌⊎◌, ℕ, List, [], ◌∷◌, ◌++◌, decimal, Bool, true, false, Option, None, Some, option_to_list, ◌==◌, if◌then◌else◌, codes}
use Rattle.std.specs.List.{flat_map, AllByRecursion}
use Rattle.jup_window.specs.Boards.{Windows, bare}
use Rattle.jup_text.specs.Commands.{IsId}
use Rattle.jup_text.specs.Words.{quoted, AreScalars}
use Rattle.jup_star.specs.Stars.{BoardStar, opened_counting}
use Rattle.jup_board.specs.Boards.{IsPrintOf}
use Rattle.jup_http.specs.declared.ending.Ending.{Ending}
use Rattle.jup_http.specs.Frames.{answer_code}
use Rattle.jup_http.specs.declared.refusal.Refusal.{Refusal}
use Rattle.jup_http.specs.declared.refusal.Refusal.TheVariants.{Busy}
use Rattle.jup_service.specs.declared.closing.Parted.{Parted}
use Rattle.jup_service.specs.declared.closing.Parted.TheVariants.{Over, Away}
use Rattle.jup_service.specs.declared.end.ServiceEnd.{ServiceEnd}
use Rattle.jup_service.specs.declared.end.ServiceEnd.TheVariants.{NoOrigin, Io, BoardTaken, NoMemory, BadBoard, LongBoard, BadCaptions}
use Rattle.jup_service.specs.declared.notices.Notice.{Notice}
use Rattle.jup_service.specs.declared.notices.Notice.TheVariants.{SitesSpent, OrderFull, CannotAccept, CannotWrite}
use Rattle.jup_service.specs.declared.notices.Told.{Told}
use Rattle.jup_service.specs.declared.patience.Heard.{Heard}
use Rattle.jup_service.specs.declared.patience.Heard.TheVariants.{Silence, Gone, Nothing}
use Rattle.jup_service.specs.declared.opening.Opening.{Opening}
use Rattle.jup_service.specs.declared.opening.Opening.TheVariants.{Request, Lines}
use Rattle.jup_service.specs.declared.origins.Address.{Address}
use Rattle.jup_faults.specs.Faults.{fault_number}
use Rattle.jup_faults.specs.declared.table.Fault.TheVariants as faults

-- Captions of windows and widgets, a line each.

-- an id as it is spelled
abbrev pub IsSpelledId : List ℕ → Type 0
IsSpelledId word = (id : ℕ) × IsId id × (word ≡ decimal id)

-- the window, or the widget of a window, that a caption is for
abbrev pub IsTarget : List ℕ → Type 0
IsTarget target =
    IsSpelledId target ⊎ ((win : List ℕ) × (wid : List ℕ) × IsSpelledId win × IsSpelledId wid × (target ≡ win ++ 46 ∷ wid))

-- a line, without its line feed
pub record IsCaption (line : List ℕ) : Type 0 where
  pub target : List ℕ
  pub chars : List ℕ
  pub named : IsTarget target
  pub scalars : AreScalars chars
  pub whole : line ≡ target ++ 32 ∷ quoted chars

-- the lines before the rest are captions
pub record AreCaptionsTo (text rest : List ℕ) : Type 0 where
  pub lines : List (List ℕ)
  pub spelled : text ≡ flat_map (λ line. line ++ 10 ∷ []) lines ++ rest
  pub each : AllByRecursion IsCaption lines

-- a text of captions, each with its line feed
abbrev pub AreCaptions : List ℕ → Type 0
AreCaptions text = AreCaptionsTo text []

-- The close that ends a WebSocket (RFC 6455, sections 5.5.1 and 7.4.1).

-- the server answers a browser's close or breach; else it goes away, or closes normally
abbrev pub close_code : Option Ending → Bool → Option ℕ
close_code (Some ending) stops = answer_code ending
close_code None true = Some 1001
close_code None false = Some 1000

-- whether a server parts without the last line of a session or of a link
abbrev pub is_away : Parted → Bool
is_away Over = false
is_away Away = true

-- the close of a WebSocket: how the browser's frames ended, if they have, and whether the server has sent its close
pub record Closes : Type 0 where
  pub ending : Option Ending
  pub sent : Bool

abbrev pub closes : Option Ending → Bool → Closes
closes ending sent = record { ending = ending; sent = sent }

-- How long links wait.

-- seconds for which a server may be asked to let a link wait: a day
abbrev pub most_grace : ℕ
most_grace = 86400

-- How long a browser may be silent.

-- what it means that a browser has been silent for so many seconds
abbrev pub heard_after : ℕ → Heard
heard_after seconds = if seconds == 20 then Silence else (if seconds == 40 then Gone else Nothing)

-- The exit statuses of a server of browsers.

abbrev pub service_end_status : ServiceEnd → ℕ
service_end_status (Io _) = 1
service_end_status BoardTaken = 1
service_end_status NoOrigin = 2
service_end_status NoMemory = 3
service_end_status (BadBoard _ _) = 5
service_end_status LongBoard = 5
service_end_status (BadCaptions _ _) = 5

-- Which notices a server has reported.

-- the notice for a fault that ends a session, if the fault concerns all later sessions too
abbrev pub notice_of : ℕ → Option Notice
notice_of fault = if fault == fault_number faults.SitesSpent then Some SitesSpent else (if fault == fault_number faults.LogFull then Some OrderFull else None)

abbrev pub is_told : Told → Notice → Bool
is_told t SitesSpent = t.sites
is_told t OrderFull = t.order
is_told t CannotAccept = t.accept
is_told t CannotWrite = t.write

-- the same except for this notice
abbrev pub with_told : Told → Notice → Bool → Told
with_told t SitesSpent b = record t { sites = b }
with_told t OrderFull b = record t { order = b }
with_told t CannotAccept b = record t { accept = b }
with_told t CannotWrite b = record t { write = b }

-- Who is connected.

-- the number of links in a line; and a line `full` after it if the order is known to be full
abbrev pub who_text : ℕ → Bool → List ℕ
who_text links false = decimal links ++ codes "\n"
who_text links true = decimal links ++ codes "\nfull\n"

-- What the first bytes of a connection begin.

-- how each request begins
abbrev pub method : List ℕ
method = codes "GET "

-- the refusal of a connection too many, by what has come of it: lines get none, and what may become a request gets one
abbrev pub surplus_refusal : Option Opening → Option Refusal
surplus_refusal (Some Lines) = None
surplus_refusal (Some Request) = Some Busy
surplus_refusal None = Some Busy

-- The origins under which a server's own pages send requests.

-- the origin of a host with a port, as a browser writes it: it leaves out the port 80
abbrev pub origin_of : List ℕ → ℕ → List ℕ
origin_of host port = if port == 80 then codes "http://" ++ host else (codes "http://" ++ (host ++ (codes ":" ++ decimal port)))

-- the origins at this address: its host and port, and at a loopback address the same with `localhost`. At an address that means all
-- addresses there is none
abbrev pub origins_at : List ℕ → Address → List (List ℕ)
origins_at host at =
    if at.is_wildcard then [] else origin_of host at.port ∷ (if at.is_loopback then origin_of (codes "localhost") at.port ∷ [] else [])

-- first the origin that the command line names, if it does
abbrev pub server_origins : List ℕ → Address → Option (List ℕ) → List (List ℕ)
server_origins host at told = option_to_list told ++ origins_at host at

-- The star of a board that a file keeps.

-- a star without sites over the board that the text prints, with this limit, which only counts its order
pub record IsStarOf (text : List ℕ) (limit : ℕ) (star : BoardStar) : Type 0 where
  pub windows : Windows
  pub printed : IsPrintOf windows text
  pub is : star ≡ opened_counting (bare windows) limit

-- What is known of the file that keeps a board.

-- the text that it has, if that is known; and whether a text is due that was not written
pub record Keeping : Type 0 where
  pub filed : Option (List ℕ)
  pub due : Bool

abbrev pub keeps : Option (List ℕ) → Bool → Keeping
keeps filed due = record { filed = filed; due = due }
