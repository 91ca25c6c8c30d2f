use Rattle.std.proofs.Common.{rules, ◌≡◌, subst}
use Rattle.jup_seq.specs.declared.sources.Source.TheVariants.{Place}
use Rattle.jup_seq.specs.Traces.{source, sourced, IsSource}
use Rattle.jup_seq.proofs.operations.SeqOp.source.Goals as goal

pub returns-in_default-3-clause-told : goal.returns-in_default-3-clause-told
returns-in_default-3-clause-told g c =
    let same : source c.args.place c.args.self.now ≡ Place c.args.place = search rules in
    subst (λ s. IsSource c.args.place c.args.self.now s) same (sourced c.args.place c.args.self.now)
