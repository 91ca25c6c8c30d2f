use Rattle.std.proofs.Common.{◌≤◌, ◌∷◌, length, length-append, ap, arith, rules}
use Rattle.jup_links.proofs.Beginnings.{first_lack, none_early}
use Rattle.jup_links.proofs.first_bytes.of_carrier.Goals as goal

pub returns-else-bytes-lt-LONGEST_FIRST : goal.returns-else-bytes-lt-LONGEST_FIRST
returns-else-bytes-lt-LONGEST_FIRST c =
    let long : 64 ≤ length c.args.bytes.now = search rules in
    (c.requires, record { long = long; open_ended = first_lack 10 64 c.args.bytes.now c.in_default.ensures })

pub returns-else-line-lt-LONGEST_FIRST : goal.returns-else-line-lt-LONGEST_FIRST
returns-else-line-lt-LONGEST_FIRST c =
    let line = c.in-Some.line.now in
    let rest = c.in-Some.field-0-1.now in
    let long : 64 ≤ length line = search rules in
    let cut = c.in-Some.ensures in (
      c.requires,
      record {
        long = omega (arith, long, ap length cut.whole, length-append line (10 ∷ rest));
        open_ended = none_early 64 c.args.bytes.now line rest cut long;
      },
    )
