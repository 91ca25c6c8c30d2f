use Rattle.std.proofs.Common.{rules, ◌≡◌, ◌<◌, None, is_none, true, subst}
use Rattle.std.proofs.lemmas.List.Elements.{All-from_get_or}
use Rattle.std.proofs.lemmas.List.Sums.{list_all-from_AllPass}
use Rattle.jup_service.proofs.places.Places.new.Goals as goal

pub returns-clause-free : goal.returns-clause-free
returns-clause-free g c =
    let made = c.from_fn.ensures.items in
    let each = All-from_get_or (λ held. is_none held ≡ true) c.from_fn.result None (λ at within.
    let one = made.at at None (subst (λ many. at < many) made.long within) in search rules) in
    list_all-from_AllPass is_none c.from_fn.result each
