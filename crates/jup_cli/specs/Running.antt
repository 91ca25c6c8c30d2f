-- What a client does between two waits: for a request of its user, and for a line of its server.
use Rattle.std.specs.Prelude.{◌≡◌, ℕ, List, [], ◌∷◌, Option, None, Some, Bool, true, false, Ok}
use Rattle.jup_window.specs.Boards.{Windows, bare}
use Rattle.jup_wire.specs.declared.line.Line.{Line}
use Rattle.jup_gather.specs.Gathering.{piece_lines}
use Rattle.jup_stream.specs.Saying.{said_piece}
use Rattle.jup_stream.specs.declared.saying.Said.{Said}
use Rattle.jup_stream.specs.Streams.{Sourced, HandsOn, Put, PutsLines}
use Rattle.jup_client.specs.declared.asking.Request.{Request}
use Rattle.jup_client.specs.declared.asking.Request.TheVariants.{Bad, Batch, Edit, Quit, Show, Sync}
use Rattle.jup_client.specs.declared.client.Answer.{Answer}
use Rattle.jup_client.specs.declared.client.ClientState.{ClientState}
use Rattle.jup_client.specs.declared.client.Heard.{Heard}
use Rattle.jup_client.specs.Clients.{Answers, Hears, told_text}
use Rattle.jup_cli.specs.declared.after.After.{After}
use Rattle.jup_cli.specs.declared.after.After.TheVariants as after

-- what it waits for after a request: only a ping is answered, and only `quit` ends it
abbrev pub after_of : Request → After
after_of (Edit command) = after.Request
after_of (Batch commands) = after.Request
after_of Sync = after.Pong
after_of Show = after.Request
after_of Quit = after.Nothing
after_of Bad = after.Request

-- the lines of what it says, if anything
abbrev pub said_lines : Option Said → List Line
said_lines None = []
said_lines (Some said) = piece_lines (said_piece said)

-- It did what its user asked for, and put this for its server. It is to print this text, of the board that its site shows
pub record Does (request : Request) (a : ClientState) (p : Put) (text : List ℕ) (b : ClientState) (q : Put) : Type 0 where
  pub answer : Answer
  pub answers : Answers request a (Ok answer) b
  pub said : PutsLines p (said_lines answer.said) q
  pub board : Windows
  pub shown : bare board ≡ b.site.board
  pub text_is : text ≡ told_text answer.told board

-- it heard the next line of its server, and put what it owes for that; and whether the line answers its ping
pub record HearsNext (s : Sourced) (a : ClientState) (p : Put) (synced : Bool) (t : Sourced) (b : ClientState) (q : Put) : Type 0 where
  pub line : Line
  pub handed : HandsOn s (line ∷ []) t
  pub heard : Heard
  pub hears : Hears line a (Ok heard) b
  pub said : PutsLines p (said_lines heard.said) q
  pub synced_is : heard.is_synced ≡ synced

-- it heard lines one after the other, and none of them answers its ping
pub data HearsOn (s : Sourced) (a : ClientState) (p : Put) : Sourced → ClientState → Put → Type 0 where
  NoneYet : HearsOn s a p s a p
  OneMore : (r t : Sourced) (c b : ClientState) (o q : Put) → HearsOn s a p r c o → HearsNext r c o false t b q → HearsOn s a p t b q

-- it heard lines up to the first that answers its ping
pub record Syncs (s : Sourced) (a : ClientState) (p : Put) (t : Sourced) (b : ClientState) (q : Put) : Type 0 where
  pub source : Sourced
  pub state : ClientState
  pub output : Put
  pub before : HearsOn s a p source state output
  pub last : HearsNext source state output true t b q
