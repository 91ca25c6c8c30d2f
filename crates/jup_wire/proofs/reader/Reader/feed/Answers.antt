use Rattle.std.proofs.Common.{sym}
use Rattle.jup_wire.specs.Streams.{part_bytes}
use Rattle.jup_wire.proofs.Spellings.{none_is}
use Rattle.jup_wire.proofs.Streams.{stands, reads_on}
use Rattle.jup_wire.proofs.reader.Reader.feed.Goals as goal

pub returns-then-is_some-clause-read : goal.returns-then-is_some-clause-read
returns-then-is_some-clause-read c =
    rw (← c.self.view_is) (λ bytes lines read. stands (part_bytes c.self.inside.part) c.self.inside.fault c.args.piece.now (sym c.if-is_some.ensures) bytes lines _ c.new.ensures read)

pub returns-clause-read : goal.returns-clause-read
returns-clause-read c =
    rw (← c.self.view_is) (reads_on (record { part = part_bytes c.self.inside.part; fault = c.self.inside.fault }) c.args.piece.now _ _ _ (none_is c.self.inside.fault (sym c.if-is_some.ensures)) c.in_ok-fed.ensures.read)
