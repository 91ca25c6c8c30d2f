use Rattle.std.proofs.Common.{◌≡◌, ◌++◌, ◌∷◌, refl, sym, ap, subst, ◌∙◌, codes, decimal}
use Rattle.std.specs.Char.{IsScalar}
use Rattle.jup_wire.specs.Fields.{name_text}
use Rattle.jup_wire.proofs.Readings.{number_there, two_fields}
use Rattle.jup_wire.proofs.single.insertion_here.Goals as goal

pub returns : goal.returns
returns c =
    let place = number_there 32 c.args.bytes.now c.in_ok-place.rest.now c.in_ok-place.place c.in_ok-place.ensures in
    let name = c.in_ok-name.ensures in
    let scalar = number_there 10 c.in_ok-name.rest.now c.in_ok-scalar.rest.now c.in_ok-scalar.scalar c.in_ok-scalar.ensures in
    let value = c.in_ok-value.ensures.value in
    let last : c.in_ok-name.rest.now ≡ decimal c.in_ok-value.value ++ 10 ∷ c.in_ok-scalar.rest.now = scalar.1 ∙ ap (λ n. decimal n ++ 10 ∷ c.in_ok-scalar.rest.now) (sym value.1) in
    let named = two_fields c.in_ok-place.rest.now (name_text c.in_ok-name.name) c.in_ok-name.rest.now (decimal c.in_ok-value.value) c.in_ok-scalar.rest.now 32 10 name.1 last in
    let all = two_fields c.args.bytes.now (decimal c.in_ok-place.place) c.in_ok-place.rest.now (name_text c.in_ok-name.name ++ 32 ∷ decimal c.in_ok-value.value) c.in_ok-scalar.rest.now 32 10 place.1 named in
    ((refl, (place.0, (name.0, subst IsScalar (sym value.1) value.0))), ap (λ t. codes "ins " ++ t) all)
