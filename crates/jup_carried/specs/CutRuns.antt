-- A run of both ways of one link, over three connections.
use Rattle.std.specs.Prelude.{ℕ, List, [], ◌∷◌, ◌++◌, map, codes}
use Rattle.jup_resume.specs.Ways.{Event, Puts, Stores, Writes, Notes, Saves, Tells, Hears, Begins, Breaks, comes}

-- The first breaks within a line of the client, and the second within a line of the server. The third brings the rest.

-- lines are put and written
abbrev pub put_all : List (List ℕ) → List Event
put_all texts = map (λ text. Puts text) texts ++ Stores ∷ map (λ text. Writes) texts

-- the next connection carries a way; its end that puts lines has heard the count with which it begins
abbrev pub carry : List Event
carry = Breaks ∷ Begins ∷ []

-- the client's lines
abbrev pub up_lines : List (List ℕ)
up_lines = codes "batch 0 0 1" ∷ codes "do 1 1 toggle set on" ∷ codes "ping 7" ∷ []

-- the server's: its greeting, and then what it answers
abbrev pub greeting_lines : List (List ℕ)
greeting_lines = codes "welcome 1 9" ∷ codes "window 1" ∷ codes "toggle 1 off" ∷ codes "ready" ∷ []

abbrev pub answer_lines : List (List ℕ)
answer_lines = codes "batch 0 0 1" ∷ codes "do 1 1 toggle set off" ∷ codes "pong 7" ∷ []

abbrev pub down_lines : List (List ℕ)
down_lines = greeting_lines ++ answer_lines

-- the first connection brings the greeting
abbrev pub downs_first : List Event
downs_first = carry ++ Notes (codes "link 0f1e2d3c4b5a69788796a5b4c3d2e1f0 300") ∷ (put_all greeting_lines ++ comes 82)

-- of the client's lines it brings one and 5 bytes of the next
abbrev pub ups_first : List Event
ups_first = put_all up_lines ++ comes 17

-- the second brings that line and the one after it
abbrev pub ups_second : List Event
ups_second = carry ++ Notes (codes "got 4") ∷ Writes ∷ Writes ∷ (comes 34 ++ Saves ∷ [])

abbrev pub downs_second : List Event
downs_second = Saves ∷ (carry ++ Notes (codes "resumed 1") ∷ Notes (codes "got 0") ∷ Tells ∷ Hears ∷ comes 16)

-- of the server's answer it brings one line and 8 bytes of the next
abbrev pub downs_broken : List Event
downs_broken = put_all answer_lines ++ comes 20

-- the third brings that line and the one after it
abbrev pub ups_third : List Event
ups_third = carry ++ Notes (codes "got 5") ∷ Tells ∷ Hears ∷ comes 6

abbrev pub downs_third : List Event
downs_third = Saves ∷ (carry ++ Notes (codes "resumed 3") ∷ Notes (codes "got 3") ∷ Tells ∷ Hears ∷ Writes ∷ Writes ∷ comes 45)

-- each way as a whole
abbrev pub cut_up : List Event
cut_up = carry ++ ups_first ++ ups_second ++ ups_third

abbrev pub cut_down : List Event
cut_down = downs_first ++ downs_second ++ downs_broken ++ downs_third
