use Rattle.std.proofs.Common.{ℕ, List, [], ◌∷◌, ◌++◌, rules, codes, decimal}
use Rattle.std.specs.Fmt.{HasWritten}
use Rattle.std.proofs.lemmas.Grind.{put_three}
use Rattle.jup_text.specs.Prelude.{Item, flat_map}
use Rattle.jup_text.specs.Words.{quoted}
use Rattle.jup_text.proofs.BoardLines.{labels_line}
use Rattle.jup_text.proofs.boards.write_widget.Goals as goal

pub returns-in_ok-write_labels-in-List : goal.returns-in_ok-write_labels-in-List
returns-in_ok-write_labels-in-List g c plain ok =
    let head : HasWritten g.W.Write.write_str_gives c.args.f.now (codes "list " ++ decimal c.args.entry.now.0) c.write.new.self = search rules in
    let middle : HasWritten g.W.Write.write_str_gives c.write.new.self (flat_map (λ item. 32 ∷ quoted item.value) c.in-List.list.items) c.write_labels.new.f = search rules in
    let last : HasWritten g.W.Write.write_str_gives c.write_labels.new.f (10 ∷ []) c.writeln-in-List.new.self = search rules in
    rw c.in-List.is (put_three g.W.Write.write_str_gives c.args.f.now c.write.new.self c.write_labels.new.f c.writeln-in-List.new.self _ _ _ _ head middle last
    (labels_line (λ (item : Item (List ℕ)). quoted item.value) c.args.entry.now.0 c.in-List.list.items))
