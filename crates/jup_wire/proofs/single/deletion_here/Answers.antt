use Rattle.std.proofs.Common.{refl, ap, ◌++◌, codes, decimal}
use Rattle.jup_wire.specs.Fields.{name_text}
use Rattle.jup_wire.proofs.Readings.{number_there, two_fields}
use Rattle.jup_wire.proofs.single.deletion_here.Goals as goal

pub returns : goal.returns
returns c =
    let place = number_there 32 c.args.bytes.now c.in_ok-place.rest.now c.in_ok-place.place c.in_ok-place.ensures in
    let name = c.in_ok-name.ensures in
    ((refl, (place.0, name.0)), ap (λ t. codes "del " ++ t) (two_fields c.args.bytes.now (decimal c.in_ok-place.place) c.in_ok-place.rest.now (name_text c.in_ok-name.name) c.in_ok-name.rest.now 32 10 place.1 name.1))
