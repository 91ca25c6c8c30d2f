use Rattle.std.specs.Prelude.{codes, ◌≡◌, drop}
use Rattle.websocket.specs.Headers.{fields_of}
use Rattle.jup_http.specs.Heads.{each_value, is_own_origin}
use Rattle.jup_http.proofs.origins.each_origin_is_own.Given as goal

abbrev pub invariant-loop-span : goal.invariant-loop-span
invariant-loop-span l =
    each_value (codes "Origin") (is_own_origin l.origins) (fields_of l.bytes l.spans)
    ≡ each_value (codes "Origin") (is_own_origin l.origins) (fields_of l.bytes (drop l.span-index l.spans))
