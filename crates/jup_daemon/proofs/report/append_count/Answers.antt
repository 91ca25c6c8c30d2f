use Rattle.std.proofs.Common.{◌≡◌, ◌++◌, ◌∙◌, ℕ, List, OnOk, subst}
use Rattle.jup_daemon.proofs.report.append_count.Goals as goal

pub returns : goal.returns
returns c =
    subst (λ (line : List ℕ). OnOk c.append.result (c.append.new.text.items ≡ c.args.text.now.items ++ line)) (c.as_bytes.ensures.value ∙ c.in-Ok.ensures.ok) c.append.ensures
