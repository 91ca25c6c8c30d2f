use Rattle.std.proofs.Common.{◌∙◌, ap, sym, subst, min, rules}
use Rattle.jup_rules.specs.Lags.{IsBehind}
use Rattle.jup_rules.proofs.Lagging.{is_behind_on}
use Rattle.jup_rules.proofs.behind.Lag.acknowledge.Goals as goal

pub returns-clause-kept : goal.returns-clause-kept
returns-clause-kept c = λ besides messages b.
    is_behind_on besides messages _ c.saturating_sub-more.result c.min-fetched.result c.hear-self-inside.result c.hear-self-inside.new.unheard.items
    (c.min-fetched.ensures ∙ ap (λ n. min n c.saturating_sub-more.result) (c.len.ensures ∙ search rules)) c.hear-self-inside.ensures.known c.hear-self-inside.ensures.waiting
    (subst (λ s. IsBehind besides messages s) (sym c.self.view_is) b)
