-- Worlds of boards, and what all sites show at last.
use Rattle.std.specs.Prelude.{ℕ, List, ◌≡◌, ◌≤◌, ◌<◌, length, Some}
use Rattle.jup_world.specs.Prelude.{highest_limit, answer_after, BoardEdits, board_batches, BoardBatch, Windows, Entry, LinkState, most_batches}
use Rattle.jup_batch.specs.Boards.{content, meaning}
use Rattle.jup_world.specs.Worlds.{HappenedOf, WorldOf, EventOf, ReplyOf, opened_world, run, attached, IsOpening, AttachedOf}
use Rattle.jup_world.specs.Traces.{order_of as order_told, view as view_told, IsTallied, made, turns, edits, own_edits}
use Rattle.jup_world.specs.Sound.{IsSound, KnowsStrays}

-- What is read off a trace of boards.

-- the star's order
abbrev pub order_of : List (HappenedOf board_batches) → List (Entry BoardEdits)
order_of trace = order_told board_batches trace

-- the view of a site
abbrev pub view : ℕ → List (HappenedOf board_batches) → List BoardEdits
view i trace = view_told board_batches i trace

-- Worlds of boards.

-- such a world
abbrev pub BoardWorld : Type 0
BoardWorld = WorldOf board_batches

-- one of its sites
abbrev pub BoardAttached : Type 0
BoardAttached = AttachedOf board_batches

-- the link of one
abbrev pub BoardLink : Type 0
BoardLink = LinkState BoardBatch

-- what may happen in it
abbrev pub BoardEvent : Type 0
BoardEvent = EventOf board_batches

-- and what that answers
abbrev pub BoardReply : Type 0
BoardReply = ReplyOf board_batches

-- what holds of every world of boards
pub record IsBoardWorld (w : BoardWorld) : Type 0 where
  pub sound : IsSound board_batches most_batches w
  pub tallied : IsTallied board_batches w
  pub strays : KnowsStrays board_batches w

-- a world that some events made of one that was opened
pub record IsReached (w : BoardWorld) : Type 0 where
  pub board : Windows
  pub limit : ℕ
  pub events : List BoardEvent
  pub opening : IsOpening board
  pub limited : limit ≤ highest_limit
  pub is : w ≡ run board_batches (opened_world board_batches board limit) events

-- What all sites show, once no message is on its way.

-- After whatever has happened, if no message is on its way:
pub record AllAgree (w : BoardWorld) : Type 0 where
  -- the server and all attached sites hold equal windows
  pub equal : (i : ℕ) (a : BoardAttached) → attached i w.sites ≡ Some a → a.site.board ≡ w.star.board
  -- each text and list holds exactly the items inserted and not deleted in the server's order, and each toggle and slider holds
  -- its last setting in that order
  pub content : content w.star.board ≡ meaning (content w.opening) (edits (turns 0 (order_of w.trace)))
  -- that order has every edit of each attached site once, in that site's order
  pub whole : (i : ℕ) (a : BoardAttached) → attached i w.sites ≡ Some a → own_edits (turns i (order_of w.trace)) ≡ made i w.trace
  -- and no site has as many as `answer_after` edits of which it does not know that they are taken
  pub backlog : (i : ℕ) (a : BoardAttached) → attached i w.sites ≡ Some a → length a.site.end.outgoing < answer_after
