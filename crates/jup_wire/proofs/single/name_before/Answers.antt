use Rattle.std.specs.Prelude.{decimal}
use Rattle.jup_wire.proofs.Readings.{number_there, two_fields}
use Rattle.jup_wire.proofs.single.name_before.Goals as goal

pub returns : goal.returns
returns c =
    let site = number_there 46 c.args.bytes.now c.in_ok-site.rest.now c.in_ok-site.site c.in_ok-site.ensures in
    let number = number_there c.args.separator c.in_ok-site.rest.now c.in_ok-number.rest.now c.in_ok-number.number c.in_ok-number.ensures in
    ((site.0, number.0), two_fields c.args.bytes.now (decimal c.in_ok-site.site) c.in_ok-site.rest.now (decimal c.in_ok-number.number) c.in_ok-number.rest.now 46 c.args.separator site.1 number.1)
