use Rattle.std.proofs.Common.{sym, ap, ◌∙◌, ok_or}
use Rattle.jup_gather.specs.Prelude.{Whole}
use Rattle.jup_gather.specs.Gathering.{message_given}
use Rattle.jup_gather.proofs.ways.message_of.Goals as goal

pub returns-in-Whole : goal.returns-in-Whole
returns-in-Whole g c =
    let found = ap g.M.Message.of_piece (sym c.edit.ensures) ∙ (g.M.Message.way c.edit.result).again in
    sym (ap (λ o. ok_or o (Whole c.in-Whole.msg)) found) ∙ ap (message_given g.M.Message.of_piece) (sym c.in-Whole.is)
