-- A site with what is on its way to it and from it, and the boards that a star may be opened with.
use Rattle.std.specs.Prelude.{◌≡◌, ℕ, List, [], ◌+◌, ◌∷◌, ◌++◌, take, drop, option_to_list, true}
use Rattle.jup_site.specs.Prelude.{next_message, Operations, only_site, Up, Down, UpOp, UpPing, LinkState, IsShort, SiteState, edited, received, sent_back}
use Rattle.jup_window.specs.Entries.{EachWidget}
use Rattle.jup_window.specs.Boards.{Windows, HasDistinctNames}

-- an attached site, and its streams: what it sent that the star has not taken, and what was fetched for it that it has not
-- received, oldest first
pub record AttachedState (Operation State : Type 0) : Type 0 where
  pub site : SiteState Operation State
  pub up : List (Up Operation)
  pub down : List (Down Operation)

-- A site and its streams, and what becomes of them.

module _ (O : Operations) where
  -- such a site
  abbrev pub AttachedOf : Type 0
  AttachedOf = AttachedState O.Op O.State

  -- a site edits: its message goes last into its up stream
  abbrev pub with_edit : O.Op → AttachedOf → AttachedOf
  with_edit op a = record a { site = edited O op a.site; up = a.up ++ UpOp (next_message a.site.end op) ∷ [] }

  -- the star takes the oldest message of an up stream
  abbrev pub one_taken : AttachedOf → AttachedOf
  one_taken a = record a { up = drop 1 a.up }

  -- the site receives the oldest message on its way down, and sends back what it owes; `downs` is what is left of its down stream
  abbrev pub one_handed : Down O.Op → List (Down O.Op) → AttachedOf → AttachedOf
  one_handed down downs a = record { site = received O down a.site; up = a.up ++ option_to_list (sent_back O down a.site); down = downs }

  -- a site sends a ping
  abbrev pub pinged : ℕ → AttachedOf → AttachedOf
  pinged k a = record a { up = a.up ++ UpPing k ∷ [] }

  -- messages were fetched from its link's outbox
  abbrev pub with_fetched : ℕ → LinkState O.Op → AttachedOf → AttachedOf
  with_fetched n l a = record a { down = a.down ++ take n l.outbox }

-- The boards that a star may be opened with.

-- no two items of a widget have one name, no name is of a site, and no widget is long
pub record IsOpening (b : Windows) : Type 0 where
  pub distinct : HasDistinctNames b
  pub unsigned : only_site 0 b ≡ true
  pub short : EachWidget IsShort b
