use Rattle.std.proofs.Common.{ap, ◌∙◌, refl, take, Ok}
use Rattle.jup_star.specs.declared.link.Link.{Link}
use Rattle.jup_star.specs.declared.calls.StarReply.TheVariants.{Fetched}
use Rattle.jup_star.specs.Stars.{link_fetched, with_links, bare_link}
use Rattle.jup_star.specs.contracts.star.Star.{the_view}
use Rattle.jup_star.proofs.LinkChanges.{found_new}
use Rattle.jup_star.proofs.Stars as stars
use Rattle.jup_star.proofs.star.Star.fetch_one.Goals as goal

pub returns-in_default-clause-call : goal.returns-in_default-clause-call
returns-in_default-clause-call c =
    let new = rw c.deref.ensures.value at c.in_default.ensures.place in
    rw (← c.self.view_is) (stars.fetch_no_link c.args.site 1 (the_view c.self.inside) (found_new _ _ new))

pub invariant_of-self : goal.invariant_of-self
invariant_of-self c =
    let place = rw c.deref.ensures.value at c.in-Some.ensures.place in
    let made = c.fetch_one.ensures.link ∙ ap (λ (l : Link). link_fetched 1 (bare_link l)) c.index_mut.ensures.value in
    stars.changed_star (link_fetched 1) (the_view c.self.inside) c.args.site c.self.inside.links.items c.in-Some.at c.index_mut.result.now c.fetch_one.new.self
    place made (λ l. refl) (stars.fetched_bounded 1 _ _ _) c.self.invariant

pub returns-clause-call : goal.returns-clause-call
returns-clause-call c =
    let place = rw c.deref.ensures.value at c.in-Some.ensures.place in
    let made = c.fetch_one.ensures.link ∙ ap (λ (l : Link). link_fetched 1 (bare_link l)) c.index_mut.ensures.value in
    let links = stars.changed (link_fetched 1) c.args.site c.self.inside.links.items c.in-Some.at c.index_mut.result.now c.fetch_one.new.self c.self.invariant.apart place made in
    let first = c.fetch_one.ensures.fetched ∙ ap (λ (l : Link). take 1 (bare_link l).outbox) c.index_mut.ensures.value in
    let call = stars.fetch_fetched c.args.site 1 (the_view c.self.inside) _ _
    (stars.place_found c.args.site c.self.inside.links.items c.in-Some.at c.index_mut.result.now place) (ap (with_links (the_view c.self.inside)) links) in
    rw (← c.self.view_is) (ap (λ ds. Fetched (Ok ds)) first ∙ call.0, call.1)
