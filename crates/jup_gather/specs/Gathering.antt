-- Messages of several lines, and how they are gathered.
use Rattle.std.specs.Prelude.{◌≡◌, ◌≢◌, Bool, true, false, IsTrue, List, [], ◌∷◌, ◌++◌, length, map, Option, MatchOption, Some, None, ◌≤◌, Result, Err, refl}
use Rattle.std.specs.List.{flat_map, AllByRecursion}
use Rattle.std.specs.Option.{ok_or}
use Rattle.jup_gather.specs.Prelude.{Msg, BoardOp, Line, Batch, Do, Gathered, Whole, Plain, Held, Misplaced}
use Rattle.jup_star.specs.Messages.{RelabelNoText, UpRelabelsNoText, DownRelabelsNoText}
use Rattle.jup_wire.specs.declared.line.Line.TheVariants.{Ack, Ping, Pong}
use Rattle.jup_wire.specs.Fields.{IsCount}
use Rattle.jup_gather.specs.declared.part.Part.{Part}
use Rattle.jup_gather.specs.declared.taken.State.{State}
use Rattle.jup_gather.specs.declared.taken.State.TheVariants.{Nothing, Begun, Stopped}
use Rattle.jup_gather.specs.declared.ways.Shape.{Shape}
use Rattle.jup_gather.specs.declared.ways.Shape.TheVariants as shape
use Rattle.jup_star.specs.Prelude.{BoardBatch}
use Rattle.jup_star.specs.declared.messages.Up.{Up}
use Rattle.jup_star.specs.declared.messages.Up.TheVariants.{Op as UpOp, Ack as UpAck, Ping as UpPing}
use Rattle.jup_star.specs.declared.messages.Down.{Down}
use Rattle.jup_star.specs.declared.messages.Down.TheVariants.{Op as DownOp, Ack as DownAck, Pong as DownPong}

-- The lines of a link by what they say: messages of several lines, and lines that stand alone.

-- the lines of a message: how many operations it has, and each of them
abbrev pub message_lines : Msg (List BoardOp) → List Line
message_lines m = Batch m.mine m.heard (length m.op) ∷ map (λ op. Do op) m.op

-- the lines that are no part of a message
abbrev pub stands_alone : Line → Bool
stands_alone (Batch mine heard count) = false
stands_alone (Do op) = false
stands_alone line = true

-- what a link says, piece by piece
pub data Piece : Type 0 where
  Message : Msg (List BoardOp) → Piece
  Alone : Line → Piece

abbrev pub piece_lines : Piece → List Line
piece_lines (Message m) = message_lines m
piece_lines (Alone line) = line ∷ []

abbrev pub IsPiece : Piece → Type 0
IsPiece (Message m) = IsCount (length m.op)
IsPiece (Alone line) = IsTrue (stands_alone line)

-- the lines of pieces, one after the other
abbrev pub all_lines : List Piece → List Line
all_lines pieces = flat_map piece_lines pieces

-- lines that begin a message, of which some are missing; it has not begun if there is none
pub record IsPart (part : List Line) : Type 0 where
  pub message : Msg (List BoardOp)
  pub rest : List Line
  pub is : IsPiece (Message message)
  pub missing : rest ≢ []
  pub lines : part ++ rest ≡ message_lines message

-- no piece begins these lines
abbrev pub BeginsNone : List Line → Type 0
BeginsNone lines = (piece : Piece) (later : List Line) → IsPiece piece → lines ≢ piece_lines piece ++ later

-- whatever comes after it, a line makes no piece of such a part
abbrev pub HasNoPlace : List Line → Line → Type 0
HasNoPlace part line = (more : List Line) → BeginsNone (part ++ line ∷ more)

-- after pieces and a part a line has no place
pub record IsMisplaced (lines : List Line) (pieces : List Piece) : Type 0 where
  pub part : List Line
  pub line : Line
  pub more : List Line
  pub begun : IsPart part
  pub no_place : HasNoPlace part line
  pub come : lines ≡ all_lines pieces ++ (part ++ line ∷ more)

-- these lines are pieces, and then a part of a message that is held; nothing is held if a line is misplaced
pub record HasGathered (lines : List Line) (pieces : List Piece) (held : Option (List Line)) : Type 0 where
  pub sound : AllByRecursion IsPiece pieces
  pub rest : MatchOption held (IsMisplaced lines pieces) (λ part. (lines ≡ all_lines pieces ++ part) × IsPart part)

-- The lines that a gathering holds.

abbrev pub part_lines : Part → List Line
part_lines part = Batch part.mine part.heard part.count ∷ map (λ op. Do op) part.ops.items

abbrev pub held : State → Option (List Line)
held Nothing = Some []
held (Begun part) = Some (part_lines part)
held Stopped = None

-- What a line gives, after those that are held.

-- after the lines that were held, the line gives this, and these are held then
abbrev pub Gathers : Option (List Line) → Line → Gathered → Option (List Line) → Type 0
Gathers None line gathered new = (gathered ≡ Misplaced) × (new ≡ None)
Gathers (Some part) line (Whole m) new = IsPiece (Message m) × (part ++ line ∷ [] ≡ message_lines m) × (new ≡ Some [])
Gathers (Some part) line (Plain plain) new = (part ≡ []) × IsTrue (stands_alone line) × (plain ≡ line) × (new ≡ Some [])
Gathers (Some part) line Held new = IsPart (part ++ line ∷ []) × (new ≡ Some (part ++ line ∷ []))
Gathers (Some part) line Misplaced new = HasNoPlace part line × (new ≡ None)

-- the lines that memory is asked for: batch lines of two operations or more
abbrev pub AsksMemory : Line → Type 0
AsksMemory (Batch mine heard count) = 2 ≤ count
AsksMemory line = ⊥

-- the piece that a line completes, if any
abbrev pub pieces_of : Gathered → List Piece
pieces_of (Whole m) = Message m ∷ []
pieces_of (Plain line) = Alone line ∷ []
pieces_of Held = []
pieces_of Misplaced = []

-- what lines give one by one, and what is held after the last
abbrev pub GathersAll : Option (List Line) → List Line → List Gathered → Option (List Line) → Type 0
GathersAll old [] [] new = new ≡ old
GathersAll old [] (gathered ∷ others) new = ⊥
GathersAll old (line ∷ lines) [] new = ⊥
GathersAll old (line ∷ lines) (gathered ∷ others) new = (held : Option (List Line)) × (Gathers old line gathered held × GathersAll held lines others new)

-- What the two ways of a link carry: an edit is a message of several lines, and everything else is a line that stands alone.

-- a message up, and the one that a piece is
abbrev pub up_piece : Up BoardBatch → Piece
up_piece (UpOp msg) = Message msg
up_piece (UpAck count) = Alone (Ack count)
up_piece (UpPing number) = Alone (Ping number)

abbrev pub up_in : Piece → Option (Up BoardBatch)
up_in (Message msg) = Some (UpOp msg)
up_in (Alone (Ack count)) = Some (UpAck count)
up_in (Alone (Ping number)) = Some (UpPing number)
up_in other = None

-- a message down, and the one that a piece is
abbrev pub down_piece : Down BoardBatch → Piece
down_piece (DownOp msg) = Message msg
down_piece (DownAck count) = Alone (Ack count)
down_piece (DownPong number) = Alone (Pong number)

abbrev pub down_in : Piece → Option (Down BoardBatch)
down_in (Message msg) = Some (DownOp msg)
down_in (Alone (Ack count)) = Some (DownAck count)
down_in (Alone (Pong number)) = Some (DownPong number)
down_in other = None

-- the piece of a shape
abbrev pub shape_piece : Shape → Piece
shape_piece (shape.Edit msg) = Message msg.now
shape_piece (shape.Alone line) = Alone line

-- a line that is a message alone is no part of another
abbrev pub IsSound : Piece → Type 0
IsSound (Message msg) = Unit {0}
IsSound (Alone line) = IsTrue (stands_alone line)

-- the pieces that have a spelling, where a program holds them: an edit must relabel no text
abbrev pub MayGo : Piece → Type 0
MayGo (Message msg) = RelabelNoText msg.op
MayGo (Alone line) = Unit {0}

-- what holds of each message of a way: it is what its piece is, and what may be sent has a spelling
pub record IsWay {M : Type 0} (piece : M → Piece) (back : Piece → Option M) (may_go : M → Type 0) (m : M) : Type 0 where
  pub again : back (piece m) ≡ Some m
  pub sound : IsSound (piece m)
  pub goes : may_go m → MayGo (piece m)

pub up_way : (up : Up BoardBatch) → IsWay up_piece up_in UpRelabelsNoText up
up_way (UpOp msg) = record { again = refl; sound = tt; goes = λ is. is }
up_way (UpAck count) = record { again = refl; sound = refl; goes = λ is. tt }
up_way (UpPing number) = record { again = refl; sound = refl; goes = λ is. tt }

pub down_way : (down : Down BoardBatch) → IsWay down_piece down_in DownRelabelsNoText down
down_way (DownOp msg) = record { again = refl; sound = tt; goes = λ is. is }
down_way (DownAck count) = record { again = refl; sound = refl; goes = λ is. tt }
down_way (DownPong number) = record { again = refl; sound = refl; goes = λ is. tt }

-- the message that lines give, or what they give if it is none, by the message that a piece is
abbrev pub message_given : {M : Type 0} → (Piece → Option M) → Gathered → Result M Gathered
message_given back (Whole msg) = ok_or (back (Message msg)) (Whole msg)
message_given back (Plain line) = ok_or (back (Alone line)) (Plain line)
message_given back Held = Err Held
message_given back Misplaced = Err Misplaced
