use Rattle.std.proofs.Common.{rules, ◌≡◌, ◌∙◌}
use Rattle.jup_seq.specs.Traces.{length_after, length_is}
use Rattle.jup_seq.proofs.operations.SeqOp.length_after.Goals as goal

pub returns-in-Relabel-clause-counts : goal.returns-in-Relabel-clause-counts
returns-in-Relabel-clause-counts g c =
    let same : length_after c.args.len c.args.self.now ≡ c.args.len = search rules in
    λ x valid long. length_is c.args.len c.args.self.now x valid long ∙ same
