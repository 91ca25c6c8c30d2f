use Rattle.std.proofs.Common.{◌+◌, ◌≤◌, length, vec_len}
use Rattle.jup_text.proofs.Quotes.{HasRead}
use Rattle.jup_text.proofs.quoted.read_quoted.Given as goal

-- the characters so far, each of a byte at least, and what follows them
abbrev pub invariant-loop-value : goal.invariant-loop-value
invariant-loop-value l = record {
  read : HasRead l.word l.chars.items l.rest;
  short : vec_len l.chars + length l.rest ≤ length l.word;
}

abbrev pub decreases-loop-value : goal.decreases-loop-value
decreases-loop-value l = length l.rest
