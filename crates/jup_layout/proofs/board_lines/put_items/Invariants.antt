use Rattle.jup_layout.specs.Drafts.{item_lines}
use Rattle.jup_layout.proofs.board_lines.put_items.Given as goal

-- what takes the lines of the items that are left has taken all
abbrev pub invariant-loop-item : goal.invariant-loop-item
invariant-loop-item g l = (end : g.row.S.Denot) →
    g.S.LineSink.takes l.sink (item_lines g.V.ItemValue.line_of l.item-iterator) end →
    g.S.LineSink.takes l.fn.sink (item_lines g.V.ItemValue.line_of l.items.items) end
