use Rattle.std.specs.Prelude.{codes, ◌≡◌, drop}
use Rattle.websocket.specs.Headers.{fields_of}
use Rattle.jup_http.specs.Heads.{each_value, is_own_host}
use Rattle.jup_http.proofs.origins.each_host_is_own.Given as goal

abbrev pub invariant-loop-span : goal.invariant-loop-span
invariant-loop-span l =
    each_value (codes "Host") (is_own_host l.origins) (fields_of l.bytes l.spans)
    ≡ each_value (codes "Host") (is_own_host l.origins) (fields_of l.bytes (drop l.span-index l.spans))
