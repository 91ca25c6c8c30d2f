use Rattle.std.proofs.Common.{◌≤◌, length}
use Rattle.jup_resume.proofs.KeptLines.{IsSizeOf}
use Rattle.jup_resume.proofs.keeper.size_of_lines.Given as goal

abbrev pub invariant-loop : goal.invariant-loop
invariant-loop l = record {
  within : l.size ≤ length l.bytes;
  so_far : IsSizeOf l.bytes l.count l.counter l.size;
}
