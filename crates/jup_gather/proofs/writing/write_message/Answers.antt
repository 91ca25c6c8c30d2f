use Rattle.std.proofs.Common.{sym, ap, subst, ◌∙◌}
use Rattle.jup_gather.specs.Gathering.{shape_piece, IsSound}
use Rattle.jup_gather.proofs.Gathering.{IsPieceWritten, alone_written}
use Rattle.jup_gather.proofs.writing.write_message.Goals as goal

pub returns-in-Edit : goal.returns-in-Edit
returns-in-Edit g c =
    let out = c.write_op in
    let all = subst (IsPieceWritten c.args.out.now.items out.new.out.items) (ap shape_piece (sym c.in-Edit.is) ∙ c.shape.ensures) (out.ensures.items, out.ensures.spelled) in
    record { items = all.0; spelled = λ may_go. all.1 ((g.M.Message.way c.args.message.now).goes may_go); capacity = out.ensures.capacity }

pub returns-in-Alone : goal.returns-in-Alone
returns-in-Alone g c =
    let out = c.write_reserved in
    let way = g.M.Message.way c.args.message.now in
    let same = ap shape_piece (sym c.in-Alone.is) ∙ c.shape.ensures in
    let alone = alone_written c.args.out.now.items out.new.out.items c.in-Alone.line (subst IsSound (sym same) way.sound) out.ensures.line out.ensures.items in
    let all = subst (IsPieceWritten c.args.out.now.items out.new.out.items) same alone in
    record { items = all.0; spelled = λ may_go. all.1 (way.goes may_go); capacity = out.ensures.capacity }
