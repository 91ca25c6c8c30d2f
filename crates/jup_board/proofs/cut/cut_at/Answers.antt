use Rattle.std.proofs.Common.{◌∷◌, ◌++◌, ◌+◌, List, ℕ, take, sym, ap, ◌∙◌}
use Rattle.jup_number.proofs.Numbers.{range_from}
use Rattle.jup_text.proofs.Quotes.{lacks_all, byte_here, lacks_before}
use Rattle.jup_board.proofs.cut.cut_at.Goals as goal

pub returns-in_err-end : goal.returns-in_err-end
returns-in_err-end c = rw c.from_residual.ensures (lacks_all c.args.byte c.args.text.now c.in_err-end.ensures.place)

pub returns : goal.returns
returns c =
    let found = c.in_ok-end.ensures.place in (
      lacks_before c.args.byte c.args.text.now c.in_ok-end.end found,
      byte_here c.args.byte c.args.text.now c.in_ok-end.end found
          ∙ ap (λ (t : List ℕ). take c.in_ok-end.end c.args.text.now ++ c.args.byte ∷ t) (sym (range_from c.args.text.now (c.in_ok-end.end + 1))),
    )
