use Rattle.std.proofs.Common.{sym, ap, subst, ◌∙◌, OnOk}
use Rattle.jup_gather.specs.Gathering.{Piece, piece_lines, shape_piece}
use Rattle.jup_gather.proofs.ways.put_message.Goals as goal

pub returns-in-Edit : goal.returns-in-Edit
returns-in-Edit g c =
    subst (λ (p : Piece). OnOk c.put_op.result (g.S.LineSink.takes c.args.sink.now (piece_lines p) c.put_op.new.sink)) (ap shape_piece (sym c.in-Edit.is) ∙ c.shape.ensures) c.put_op.ensures

pub returns-in-Alone : goal.returns-in-Alone
returns-in-Alone g c =
    subst (λ (p : Piece). OnOk c.put.result (g.S.LineSink.takes c.args.sink.now (piece_lines p) c.put.new.self)) (ap shape_piece (sym c.in-Alone.is) ∙ c.shape.ensures) c.put.ensures.taken
