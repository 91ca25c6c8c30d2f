use Rattle.std.proofs.Common.{List, ℕ, [], ◌++◌, subst, append-nil, arith, length-append}
use Rattle.jup_wire.specs.Prelude.{LongLine}
use Rattle.jup_wire.specs.Streams.{part_bytes, Faults}
use Rattle.jup_wire.proofs.Streams.{long_text, both_open}
use Rattle.jup_wire.proofs.reader.hold.Goals as goal

pub returns-then-bytes-len : goal.returns-then-bytes-len
returns-then-bytes-len c =
    let whole = part_bytes c.args.part.now ++ c.args.bytes.now in
    let both = length-append (part_bytes c.args.part.now) c.args.bytes.now in
    record {
      spelled = tt;
      rest = subst (λ (t : List ℕ). Faults LongLine t []) (append-nil whole) (long_text whole [] (both_open (part_bytes c.args.part.now) c.args.bytes.now c.requires.part c.requires.bytes) (omega (arith, both)));
    }
