use Rattle.std.proofs.Common.{◌≡◌, ◌<◌, ◌≤◌, length, take}
use Rattle.jup_limits.specs.Limits.{longest_label}
use Rattle.jup_text.proofs.Quotes.{HasRead}
use Rattle.jup_text.proofs.quoted.next_quoted_label.Given as goal

-- the bytes so far have room, and are what was read
abbrev pub invariant-loop-value : goal.invariant-loop-value
invariant-loop-value l = record {
  held : length l.bytes ≡ longest_label;
  room : l.len ≤ longest_label;
  read : HasRead l.text (take l.len l.bytes) l.rest;
  shorter : length l.rest < length l.text;
}

abbrev pub decreases-loop-value : goal.decreases-loop-value
decreases-loop-value l = length l.rest
