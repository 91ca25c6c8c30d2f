use Rattle.std.proofs.Common.{◌≡◌, ◌++◌, map, take, drop, cond}
use Rattle.jup_star.specs.Stars.{is_of, link_sent, bare_link, OthersHaveRoom, AllCount}
use Rattle.jup_star.specs.Prelude.{shape}
use Rattle.jup_star.proofs.links.send_others.Given as goal

abbrev pub invariant-loop-link : goal.invariant-loop-link
invariant-loop-link l = record {
  sent : map bare_link (take l.link-index l.links) ++ map (λ k. cond (is_of l.site k) k (link_sent l.op k)) (map bare_link (drop l.link-index l.links)) ≡ map (λ k. cond (is_of l.site k) k (link_sent l.op k)) (map bare_link l.initial.links);
  room : OthersHaveRoom (shape l.op) l.site (drop l.link-index l.links);
  counted : AllCount (map bare_link (drop l.link-index l.links));
}
