use Rattle.std.proofs.Common.{length, drop}
use Rattle.std.proofs.lemmas.Slice.Eq.{starts_is}
use Rattle.std.proofs.lemmas.Bool.Decides.{Decides-eqb}
use Rattle.jup_links.proofs.first_bytes.begins_with.Goals as goal

pub returns : goal.returns
returns c =
    let is = starts_is Decides-eqb c.args.bytes.now c.args.front.now c.starts_with.result c.starts_with.ensures.value in
    ((λ true. (drop (length c.args.front.now) c.args.bytes.now, is.0 true)), (λ begins. is.1 begins.0 begins.1))
