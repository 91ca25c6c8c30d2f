use Rattle.std.specs.Prelude.{count_by, ◌≡◌, ◌+◌, ◌≤◌, drop}
use Rattle.websocket.specs.Headers.{fields_of}
use Rattle.jup_http.specs.Heads.{is_named}
use Rattle.jup_http.proofs.origins.count_named.Given as goal

abbrev pub invariant-loop-span : goal.invariant-loop-span
invariant-loop-span l = record {
  inside : l.count ≤ l.span-index;
  counted : l.count + count_by (is_named l.name) (fields_of l.bytes (drop l.span-index l.spans)) ≡ count_by (is_named l.name) (fields_of l.bytes l.spans);
}
