-- What streams and outboxes carry.
use Rattle.std.specs.Prelude.{List, [], ◌∷◌, ℕ, IsTrue}
use Rattle.std.specs.List.{AllByRecursion}
use Rattle.jup_star.specs.Prelude.{Message, Ack, sent, BoardBatch, Up, Op as UpOp, UpAck, UpPing, Down, DownOp, DownAck, DownPong}
use Rattle.jup_window.specs.Widgets.{relabels_no_text}

-- What streams carry for the two ends of a link: pings and pongs are none of it.

-- what goes up
abbrev pub ups : {Op : Type 0} → List (Up Op) → List (Message Op)
ups [] = []
ups (UpOp m ∷ us) = sent m ∷ ups us
ups (UpAck n ∷ us) = Ack n ∷ ups us
ups (UpPing k ∷ us) = ups us

-- what goes down
abbrev pub downs : {Op : Type 0} → List (Down Op) → List (Message Op)
downs [] = []
downs (DownOp m ∷ ds) = sent m ∷ downs ds
downs (DownAck n ∷ ds) = Ack n ∷ downs ds
downs (DownPong k ∷ ds) = downs ds

-- Outboxes as contracts see them.

-- messages that wait to be fetched, oldest first, and how many more there is room for
pub record OutboxState (Operation : Type 0) : Type 0 where
  pub messages : List (Down Operation)
  pub spare : ℕ

-- Batches and messages that bear no relabel of a text: no board takes one, so none is sent, and no line bears one.

-- the operations of a batch
abbrev pub RelabelNoText : BoardBatch → Type 0
RelabelNoText os = AllByRecursion (λ o. IsTrue (relabels_no_text o.op)) os

-- a message up
abbrev pub UpRelabelsNoText : Up BoardBatch → Type 0
UpRelabelsNoText (UpOp m) = RelabelNoText m.op
UpRelabelsNoText (UpAck n) = Unit {0}
UpRelabelsNoText (UpPing k) = Unit {0}

-- a message down
abbrev pub DownRelabelsNoText : Down BoardBatch → Type 0
DownRelabelsNoText (DownOp m) = RelabelNoText m.op
DownRelabelsNoText (DownAck n) = Unit {0}
DownRelabelsNoText (DownPong k) = Unit {0}
