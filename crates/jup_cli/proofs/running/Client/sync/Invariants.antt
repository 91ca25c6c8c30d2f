use Rattle.jup_cli.specs.Running.{HearsOn}
use Rattle.jup_cli.proofs.running.Client.sync.Given as goal

abbrev pub invariant-loop : goal.invariant-loop
invariant-loop g l = HearsOn l.fn.self.source l.fn.self.state l.fn.self.output l.self.source l.self.state l.self.output
