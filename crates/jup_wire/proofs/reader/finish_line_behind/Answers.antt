use Rattle.std.proofs.Common.{◌∷◌, ◌++◌, ◌∙◌, arith, length-append}
use Rattle.jup_wire.specs.Streams.{part_bytes}
use Rattle.jup_wire.proofs.Streams.{long_text, ends_there, both_open}
use Rattle.jup_wire.proofs.reader.finish_line_behind.Goals as goal

pub returns-then-text-held-clause-ended : goal.returns-then-text-held-clause-ended
returns-then-text-held-clause-ended c =
    let both = length-append (part_bytes c.args.part.now) c.args.text.now in
    λ more. long_text (part_bytes c.args.part.now ++ c.args.text.now) (10 ∷ more) (both_open (part_bytes c.args.part.now) c.args.text.now c.requires.part c.requires.text) (omega (arith, both))

pub returns-clause-ended : goal.returns-clause-ended
returns-clause-ended c =
    let both = length-append (part_bytes c.args.part.now) c.args.text.now in
    ends_there (part_bytes c.args.part.now ++ c.args.text.now) c.bytes.result.now c.read_line-line.result
    (record { short = omega (arith, both); open_ended = both_open (part_bytes c.args.part.now) c.args.text.now c.requires.part c.requires.text })
    (c.bytes.ensures ∙ c.extend.ensures) c.read_line-line.ensures.line c.read_line-line.ensures.fault
