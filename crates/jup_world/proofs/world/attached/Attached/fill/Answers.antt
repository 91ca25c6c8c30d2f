use Rattle.std.proofs.Common.{◌≡◌, ◌++◌, ◌∙◌, List, [], refl, sym, ap, subst, is_some, option_to_list}
use Rattle.jup_world.specs.Prelude.{BoardBatch, Down, link_of, fetched}
use Rattle.jup_lane.specs.Lanes.{bytes_of_all, Way, messages, sent, Carries, downs}
use Rattle.jup_world.specs.Insides.{bare_attached}
use Rattle.jup_world.proofs.Answers as answers
use Rattle.jup_world.proofs.Lanes.Sites.{fetched_site, fetched_star, fetched_way}
use Rattle.jup_world.proofs.world.attached.Attached.fill.Goals as goal

pub unreachable-requires : goal.unreachable-requires
unreachable-requires c =
    let linked = ap (λ n. is_some (link_of n c.args.star.now.links)) c.number-number.ensures ∙ c.requires in
    answers.fetch_linked c.number-number.result _ _ c.in_default.field-0 linked c.in_default.ensures.memory c.in_default.ensures.call

pub returns-in-Ok-clause-site : goal.returns-in-Ok-clause-site
returns-in-Ok-clause-site c l found =
    let empty : c.args.self.now.down.way.stream ≡ [] = c.is_stream_empty.ensures.0 c.if-is_stream_empty.true in
    let link = ap (λ n. link_of n c.args.star.now.links) c.number-number.ensures ∙ found in
    let waits = answers.some_wait c.number-number.result c.args.star.now l c.waiting.result link c.waiting.ensures (sym c.ne.ensures ∙ c.if-ne.true) in
    let one = (answers.fetch_fetched c.number-number.result _ _ l (option_to_list c.in-Ok.fetched) link c.in-Ok.ensures.call).0 in
    let ds = c.send_one.ensures.messages ∙ ap (λ (w : Way). messages downs w ++ option_to_list c.in-Ok.fetched) c.reserve.ensures.way
    ∙ ap (λ (ds : List (Down BoardBatch)). messages downs c.args.self.now.down.way ++ ds) one in
    fetched_site (bare_attached c.args.self.now) _ c.args.self.now.down.way.stream l empty waits (λ j. record (bare_attached c.args.self.now) { down = ds j })

pub returns-in-Ok-clause-star : goal.returns-in-Ok-clause-star
returns-in-Ok-clause-star c l found =
    let empty : c.args.self.now.down.way.stream ≡ [] = c.is_stream_empty.ensures.0 c.if-is_stream_empty.true in
    let link = ap (λ n. link_of n c.args.star.now.links) c.number-number.ensures ∙ found in
    let waits = answers.some_wait c.number-number.result c.args.star.now l c.waiting.result link c.waiting.ensures (sym c.ne.ensures ∙ c.if-ne.true) in
    fetched_star c.args.self.now.site.number c.args.self.now.down.way.stream l.outbox c.args.star.now _ empty waits
    ((answers.fetch_fetched c.number-number.result _ _ l (option_to_list c.in-Ok.fetched) link c.in-Ok.ensures.call).1 ∙ ap (λ n. fetched n 1 c.args.star.now) c.number-number.ensures)

pub returns-in-Ok-clause-filled : goal.returns-in-Ok-clause-filled
returns-in-Ok-clause-filled c l found =
    let empty : c.args.self.now.down.way.stream ≡ [] = c.is_stream_empty.ensures.0 c.if-is_stream_empty.true in
    let link = ap (λ n. link_of n c.args.star.now.links) c.number-number.ensures ∙ found in
    let waits = answers.some_wait c.number-number.result c.args.star.now l c.waiting.result link c.waiting.ensures (sym c.ne.ensures ∙ c.if-ne.true) in
    let one = (answers.fetch_fetched c.number-number.result _ _ l (option_to_list c.in-Ok.fetched) link c.in-Ok.ensures.call).0 in
    record {
      site = refl;
      up = refl;
      down = fetched_way c.args.self.now.down.way _ c.args.self.now.down.way.stream l.outbox (option_to_list c.in-Ok.fetched) empty waits one
          (c.send_one.ensures.way ∙ ap (λ (w : Way). sent (bytes_of_all downs (option_to_list c.in-Ok.fetched)) w) c.reserve.ensures.way);
      carry = λ is. c.send_one.ensures.carry (subst (Carries downs) (sym c.reserve.ensures.way) is);
    }
