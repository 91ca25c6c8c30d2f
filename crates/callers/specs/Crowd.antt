-- Two sites and a stranger at one star, over a board of one toggle.
use Rattle.std.specs.Prelude.{ℕ, Bool, false, true, List, [], ◌∷◌, ◌++◌}
use Rattle.jup_world.specs.Events.{Join, Edit, Down, JoinStray, Stray}
use Rattle.jup_world.specs.Boards.{BoardWorld, BoardEvent}
use Rattle.jup_world.specs.Worlds.{opened_world, run}
use Rattle.jup_world.specs.Prelude.{BoardBatch, Windows, board_batches, Msg, UpOp}
use Rattle.jup_star.specs.Prelude.{Toggle}
use Rattle.jup_batch.specs.Prelude.{OnToggle, SetValue}
use Rattle.jup_window.specs.Prelude.{SetTo}
use Rattle.jup_window.specs.declared.kinds.Setting.TheVariants.{Toggle as ToToggle}

-- window 1 has toggle 1
abbrev pub board : Bool → Windows
board on = (1, (1, Toggle (record { on = on })) ∷ []) ∷ []

-- a world over it, where the toggle is off, after some events
abbrev pub after : ℕ → List BoardEvent → BoardWorld
after limit events = run board_batches (opened_world board_batches (board false) limit) events

-- sites 1 and 2 join
abbrev pub pair : List BoardEvent
pair = Join ∷ Join ∷ []

-- and then a stranger, as number 3
abbrev pub crowd : List BoardEvent
crowd = pair ++ JoinStray ∷ []

-- its first message turns the toggle on
abbrev pub turns_on : Msg BoardBatch
turns_on = record { mine = 0; heard = 0; op = record { win = 1; wid = 1; op = OnToggle (SetTo true) } ∷ [] }

-- the star takes it, and both sites receive it
abbrev pub told : List BoardEvent
told = crowd ++ Stray 3 (UpOp turns_on) ∷ Down 1 ∷ Down 2 ∷ []

-- site 1 turns it off again
abbrev pub edited : List BoardEvent
edited = told ++ Edit 1 (SetValue 1 1 (ToToggle false) ∷ []) ∷ []
