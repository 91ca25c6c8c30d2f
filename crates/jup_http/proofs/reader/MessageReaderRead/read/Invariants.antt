use Rattle.std.proofs.Common.{[]}
use Rattle.jup_http.specs.Readers.{told_left, written, ended_by, Hears, EndsBy}
use Rattle.jup_http.proofs.reader.MessageReaderRead.read.Given as goal

abbrev pub invariant-loop : goal.invariant-loop
invariant-loop g l =
    Hears (told_left g.I.Read.remaining l.fn.self) (told_left g.I.Read.remaining l.self) (written g.O.Write.contents l.fn.self) (written g.O.Write.contents l.self) []
    × EndsBy (told_left g.I.Read.remaining l.fn.self) (told_left g.I.Read.remaining l.self) (ended_by l.fn.self) (ended_by l.self)
