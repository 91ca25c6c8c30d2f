use Rattle.std.proofs.Common.{◌+◌, List, ℕ, Some, take, sym, ap, ◌∙◌}
use Rattle.jup_wire.proofs.Spellings.{split_at, range_from}
use Rattle.jup_wire.proofs.fields.split.Goals as goal

pub returns-in_err-at : goal.returns-in_err-at
returns-in_err-at c = rw c.from_residual.ensures (split_at c.args.separator c.args.bytes.now _ c.in_err-at.ensures.place)

pub returns : goal.returns
returns c = split_at c.args.separator c.args.bytes.now _ c.in_ok-at.ensures.place
    ∙ ap (λ (t : List ℕ). Some (take c.in_ok-at.at c.args.bytes.now, t)) (sym (range_from c.args.bytes.now (c.in_ok-at.at + 1)))
