use Rattle.std.proofs.Common.{sym, subst}
use Rattle.std.proofs.lemmas.Result.{on_ok_weaker}
use Rattle.jup_layout.specs.Drafts.{widget_lines}
use Rattle.jup_layout.proofs.board_lines.put_widget.Goals as goal

pub returns-in_ok-put-in-Text-clause-lines : goal.returns-in_ok-put-in-Text-clause-lines
returns-in_ok-put-in-Text-clause-lines g c = on_ok_weaker _
    (λ items. subst (λ widget. g.S.LineSink.takes c.args.sink.now (widget_lines (c.args.wid, widget)) c.put_items.new.sink) (sym c.in-Text.is)
    (g.S.LineSink.takes_more _ _ _ _ _ c.in_ok-put-in-Text.ensures.taken items))
    c.put_items.ensures.lines

pub returns-in_ok-put-in-List-clause-lines : goal.returns-in_ok-put-in-List-clause-lines
returns-in_ok-put-in-List-clause-lines g c = on_ok_weaker _
    (λ items. subst (λ widget. g.S.LineSink.takes c.args.sink.now (widget_lines (c.args.wid, widget)) c.put_items-in-List.new.sink) (sym c.in-List.is)
    (g.S.LineSink.takes_more _ _ _ _ _ c.in_ok-put-in-List.ensures.taken items))
    c.put_items-in-List.ensures.lines
