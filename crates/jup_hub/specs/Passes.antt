-- What the clauses of the hub's calls say of a hub and its passes.
use Rattle.std.specs.Prelude.{◌≡◌, Result, Ok, Err, MatchBool}
use Rattle.jup_hub.specs.Prelude.{BoardStar, is_no_memory, StarFault, Call, StarReply, HubFault, Star, Spent, View}
use Rattle.jup_hub.specs.declared.hub.Hub.{Hub}
use Rattle.jup_hub.specs.declared.hub.Pass.{Pass}
use Rattle.jup_hub.specs.Histories.{Called, ComesToAsk, IsSpent}

-- the star that the hub was opened with
abbrev pub opening_of : Hub → BoardStar
opening_of hub = hub.table.shared.key.value

-- what a pass knows
abbrev pub view_of : Pass → View
view_of pass = pass.seat.me.0

-- a pass calls the hub that it was made for
abbrev pub IsPassOf : Hub → Pass → Type 0
IsPassOf hub pass = (pass.seat.table_id ≡ hub.table.shared.table_id) × ((view_of pass).opening ≡ opening_of hub)

-- What a call did. If an allocation failed or the count is spent, the pass has seen and made what it had, and it had come to that. Any
-- other answer is a call of the one history
abbrev pub Made : {A : Type 0} → (Result A StarFault → StarReply) → Call → View → View → Result A HubFault → Type 0
Made reply call v w (Ok x) = Called call (reply (Ok x)) v w
Made reply call v w (Err (Star e)) = MatchBool (is_no_memory e) ((w ≡ v) × ComesToAsk call v) (Called call (reply (Err e)) v w)
Made reply call v w (Err Spent) = (w ≡ v) × IsSpent v
