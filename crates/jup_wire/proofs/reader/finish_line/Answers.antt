use Rattle.std.proofs.Common.{◌∷◌, arith}
use Rattle.jup_wire.proofs.Streams.{long_text, ends_is}
use Rattle.jup_wire.proofs.reader.finish_line.Goals as goal

pub returns-then-text-gt-MOST_PART : goal.returns-then-text-gt-MOST_PART
returns-then-text-gt-MOST_PART c = λ more. long_text c.args.text.now (10 ∷ more) c.requires (omega arith)

pub returns : goal.returns
returns c = ends_is c.args.text.now c.read_line.result (record { short = omega arith; open_ended = c.requires }) c.read_line.ensures.line c.read_line.ensures.fault
