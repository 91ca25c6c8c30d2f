-- Histories of calls, and what passes know of them.
use Rattle.std.specs.Prelude.{◌≡◌, ℕ, ◌+◌, Bool, false, not, ◌||◌, List, [], ◌∷◌, ◌++◌, length, filter, max, true, Option, None, Result, Ok, Err, refl}
use Rattle.std.specs.Str.{bytes_eq}
use Rattle.jup_hub.specs.Prelude.{Call, StarReply, StarFault, BoardStar, lacks_memory, is_no_memory, HubEvent, Tally, View, HubFault, Star, Spent}
use Rattle.jup_star.specs.declared.star.Joined.{Joined}
use Rattle.jup_star.specs.Stars.{reply_of, star_after, asks_memory, opened_star, bare_joined}
use Rattle.jup_star.specs.Faults.{star_fault_number}
use Rattle.jup_faults.specs.Faults.{fault_number}
use Rattle.jup_faults.specs.declared.table.Fault.TheVariants.{HubSpent}

-- Histories of calls on a star: what each call answers, which star they leave, and whose calls they are.

-- a call with its reply, made under a number
abbrev pub entry : List ℕ → Call → StarReply → HubEvent
entry by call reply = record { by = by; call = call; reply = reply }

-- the star after all calls of a history
abbrev pub star_through : BoardStar → List HubEvent → BoardStar
star_through s [] = s
star_through s (e ∷ es) = star_through (star_after e.call s) es

-- each reply is the one that the star after the calls before it gives
abbrev pub IsLegal : BoardStar → List HubEvent → Type 0
IsLegal s [] = Unit {0}
IsLegal s (e ∷ es) = (e.reply ≡ reply_of e.call s) × IsLegal (star_after e.call s) es

-- the calls under a number
abbrev pub calls_by : List ℕ → List HubEvent → List HubEvent
calls_by number log = filter (λ e. bytes_eq e.by number) log

-- the history log begins with the history seen
abbrev pub BeginsWith : List HubEvent → List HubEvent → Type 0
BeginsWith log seen = (rest : List HubEvent) × (log ≡ seen ++ rest)

-- it begins with each of some histories
abbrev pub BeginsWithAll : List HubEvent → List (List HubEvent) → Type 0
BeginsWithAll log [] = Unit {0}
BeginsWithAll log (h ∷ hs) = BeginsWith log h × BeginsWithAll log hs

-- under each number the history has just the calls of its tally, each once, in order
abbrev pub AllTallied : List HubEvent → List Tally → Type 0
AllTallied log [] = Unit {0}
AllTallied log (t ∷ ts) = (calls_by t.number log ≡ t.calls) × AllTallied log ts

-- no tally has the number
abbrev pub IsNew : List ℕ → List Tally → Type 0
IsNew number [] = Unit {0}
IsNew number (t ∷ ts) = ¬ (number ≡ t.number) × IsNew number ts

-- all numbers differ
abbrev pub AllApart : List Tally → Type 0
AllApart [] = Unit {0}
AllApart (t ∷ ts) = IsNew t.number ts × AllApart ts

-- whether some tally has the number
abbrev pub is_among : List ℕ → List Tally → Bool
is_among number [] = false
is_among number (t ∷ ts) = bytes_eq number t.number || is_among number ts

-- the calls under all other numbers
abbrev pub calls_of_others : List Tally → List HubEvent → List HubEvent
calls_of_others ts log = filter (λ e. not (is_among e.by ts)) log

-- how many calls the tallies have
abbrev pub calls_in : List Tally → ℕ
calls_in [] = 0
calls_in (t ∷ ts) = length t.calls + calls_in ts

-- What a pass knows, and what a call adds to it.

-- the calls that were made under a number
abbrev pub tally : List ℕ → List HubEvent → Tally
tally number calls = record { number = number; calls = calls }

-- its own number, and those that it took in, each with its calls
abbrev pub tallies : View → List Tally
tallies v = tally v.number v.made ∷ v.kept

-- a pass of no calls, which has seen nothing
abbrev pub newcomer : BoardStar → View
newcomer star = record { opening = star; is_live = true; turn = None; number = []; splits = 0; seen = [] ∷ []; made = []; kept = [] }

-- a pass that another has taken in
abbrev pub spent : View
spent = record (newcomer (opened_star [] 0)) { is_live = false }

-- the pass after one more was split from it
abbrev pub after_split : View → View
after_split v = record v { splits = v.splits + 1 }

-- the one that was split from it: it has seen the same, and has made nothing
abbrev pub split_from : View → View
split_from v = record { opening = v.opening; is_live = v.is_live; turn = None; number = v.splits ∷ v.number; splits = 0; seen = v.seen; made = []; kept = [] }

-- the pass after it took in another: it has what both have seen, and keeps the other's number with its calls, and what that one took in
abbrev pub joined_with : View → View → View
joined_with v w = record v { seen = v.seen ++ w.seen; kept = v.kept ++ tallies w }

-- the pass with the turn, or without it
abbrev pub at_turn : Option (List HubEvent) → View → View
at_turn turn v = record v { turn = turn }

-- the pass after it has seen a history
abbrev pub having_seen : List HubEvent → View → View
having_seen log v = record v { seen = log ∷ [] }

-- the history log with one more call of the pass
abbrev pub with_call : List HubEvent → View → Call → StarReply → List HubEvent
with_call log v call reply = log ++ entry v.number call reply ∷ []

-- the pass after that call
abbrev pub having_called : List HubEvent → Call → StarReply → View → View
having_called log call reply v = record v { seen = with_call log v call reply ∷ []; made = v.made ++ entry v.number call reply ∷ [] }

-- how long the longest of some histories is
abbrev pub longest : List (List HubEvent) → ℕ
longest [] = 0
longest (h ∷ hs) = max (length h) (longest hs)

-- The history that a pass meets. It is legal and begins with all that the pass has seen. Under the number of the pass, and under each
-- that it took in, it has just the calls that were made, each once, in order; and these numbers differ
pub record Meets (v : View) (log : List HubEvent) : Type 0 where
  pub legal : IsLegal v.opening log
  pub begins : BeginsWithAll log v.seen
  pub tallied : AllTallied log (tallies v)
  pub apart : AllApart (tallies v)

-- A call, with its reply. The pass w has then seen one legal history, which begins with all that the pass v had seen and ends with this call
pub record Called (call : Call) (reply : StarReply) (v w : View) : Type 0 where
  pub before : List HubEvent
  pub begins : BeginsWithAll before v.seen
  pub view : w ≡ having_called before call reply v
  pub meets : Meets w (with_call before v call reply)

-- the history that the pass meets is one after which the call comes to ask for memory
abbrev pub ComesToAsk : Call → View → Type 0
ComesToAsk call v = (log : List HubEvent) × Meets v log × (asks_memory call (star_through v.opening log) ≡ true)

-- the history that the pass meets is as long as a count can be
abbrev pub IsSpent : View → Type 0
IsSpent v = (log : List HubEvent) × Meets v log × (length log ≡ 18446744073709551615)

-- The board of an answer to a join is compared without its room; this hides no refusal.

pub lacks_memory-bare_joined : (r : Result Joined StarFault) → lacks_memory (bare_joined r) ≡ lacks_memory r
lacks_memory-bare_joined (Ok j) = refl
lacks_memory-bare_joined (Err e) = refl

-- What the hub answers if the star refuses, and the numbers of its faults.

-- the star's answer, as the hub reports it
abbrev pub told : {A : Type 0} → Result A StarFault → Result A HubFault
told (Ok x) = Ok x
told (Err e) = Err (Star e)

-- the number of each fault, as messages and printed texts give it
abbrev pub hub_fault_number : HubFault → ℕ
hub_fault_number (Star e) = star_fault_number e
hub_fault_number Spent = fault_number HubSpent

-- whether an allocation failed
abbrev pub is_out_of_memory : {A : Type 0} → Result A HubFault → Bool
is_out_of_memory (Ok x) = false
is_out_of_memory (Err Spent) = false
is_out_of_memory (Err (Star e)) = is_no_memory e
