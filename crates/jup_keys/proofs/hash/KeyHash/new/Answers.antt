use Rattle.std.proofs.Common.{◌≡◌, arith, rules}
use Rattle.hex.specs.Hex.{encode_lower, IsBytes}
use Rattle.jup_keys.proofs.KeyringReadings.{hash_of_bytes}
use Rattle.jup_keys.proofs.hash.KeyHash.new.Goals as goal

pub invariant_of-result : goal.invariant_of-result
invariant_of-result c =
    let fits : IsBytes c.args.bytes.now = λ i. let f = c.fits-bytes i in omega arith in
    let long = c.told-bytes in
    let out : c.encode_to_slice.new.output ≡ encode_lower c.args.bytes.now = search rules in
    hash_of_bytes c.args.bytes.now c.encode_to_slice.new.output out (omega (arith, long)) fits
