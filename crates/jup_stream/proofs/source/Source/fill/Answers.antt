use Rattle.jup_stream.proofs.Streams.{stops_after}
use Rattle.jup_stream.proofs.source.Source.fill.Goals as goal

pub returns-in-Err-clause-stop : goal.returns-in-Err-clause-stop
returns-in-Err-clause-stop g c = stops_after c.args.self.now c.loop.self c.read.new.self c.in-Err.stop c.loop.invariant.reads c.in-Err.ensures.stop
