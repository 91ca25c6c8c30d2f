use Rattle.std.proofs.Common.{[], ◌∷◌, sym, subst}
use Rattle.jup_layout.specs.Drafts.{item_lines}
use Rattle.jup_layout.proofs.board_lines.put_items.Goals as goal

pub loop-item-preserved : goal.loop-item-preserved
loop-item-preserved g c end rest =
    let taken = subst (λ line. g.S.LineSink.takes c.loop-item.sink (line ∷ []) c.put.new.self) c.line.ensures c.in_ok-put.ensures.taken in
    c.loop-item.invariant end
    (subst (λ items. g.S.LineSink.takes c.loop-item.sink (item_lines g.V.ItemValue.line_of items) end) (sym c.in-Some.ensures.steps)
    (g.S.LineSink.takes_more _ _ _ _ _ taken rest))
