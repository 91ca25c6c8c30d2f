use Rattle.std.proofs.Common.{Ok, sym, ap}
use Rattle.jup_wire.proofs.Readings.{line_found, line_same, line_missed, refused}
use Rattle.jup_wire.proofs.parse.read_line.Goals as goal

pub returns-in-Some-clause-line : goal.returns-in-Some-clause-line
returns-in-Some-clause-line c = line_found c.args.bytes.now c.in-Some.line c.in-Some.ensures

pub returns-in-Some-clause-every : goal.returns-in-Some-clause-every
returns-in-Some-clause-every c = λ line is text. ap Ok (line_same c.args.bytes.now c.in-Some.line line c.in-Some.ensures is text)

pub returns-in-None-clause-every : goal.returns-in-None-clause-every
returns-in-None-clause-every c = λ line is text. absurd (line_missed c.args.bytes.now line c.in-None.ensures is text)

pub returns-in-None-clause-fault : goal.returns-in-None-clause-fault
returns-in-None-clause-fault c = rw c.refusal.ensures (refused c.args.bytes.now c.version.result (sym c.in-None.ensures) c.version.ensures)
