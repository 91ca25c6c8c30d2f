use Rattle.std.proofs.Common.{◌≡◌, map, take}
use Rattle.jup_star.specs.Prelude.{shape}
use Rattle.jup_star.specs.Stars.{bare_link, AllHaveRoom}
use Rattle.jup_star.proofs.links.reserve_all.Given as goal

abbrev pub invariant-loop-link : goal.invariant-loop-link
invariant-loop-link l = record {
  same : map bare_link l.links ≡ map bare_link l.initial.links;
  room : AllHaveRoom (shape l.op) (take l.link-index l.links);
}
