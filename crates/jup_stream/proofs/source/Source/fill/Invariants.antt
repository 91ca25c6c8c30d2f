use Rattle.std.proofs.Common.{◌≤◌}
use Rattle.jup_stream.specs.Streams.{most_reads, ReadsOn}
use Rattle.jup_stream.proofs.source.Source.fill.Given as goal

abbrev pub invariant-loop : goal.invariant-loop
invariant-loop g l = record {
  reads : ReadsOn l.fn.self l.self;
  counted : l.counter ≤ l.self.reads;
  bounded : l.counter ≤ most_reads;
}
