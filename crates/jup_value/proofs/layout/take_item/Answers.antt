use Rattle.std.proofs.Common.{◌≡◌, ◌<◌, length, get_or, set, [], map, ap, sym, ◌∙◌, refl, arith, remove, slice_get}
use Rattle.std.proofs.lemmas.Grind.{common_steps}
use Rattle.std.proofs.lemmas.List.{get_or_default, map-set}
use Rattle.jup_value.specs.Items.{joined}
use Rattle.jup_value.proofs.Layouts.{set-take_in, joined-take_in, slice_get-joined, AreBlocks-take_in, AreBlocks-emptied, joined-emptied, table-emptied, take_in_rule, emptied_rule}
use Rattle.jup_value.proofs.layout.take_item.Goals as goal

pub returns-then-left-eq0-clause-value : goal.returns-then-left-eq0-clause-value
returns-then-left-eq0-clause-value g c =
    let within : c.args.at < length c.args.blocks.now.items = grind (arith, common_steps) in
    let here = get_or_default c.args.blocks.now.items c.args.at [] _ within ∙ sym c.index_mut-block.ensures.value in
    slice_get-joined c.args.blocks.now.items c.args.at c.args.offset _ within c.requires.offset refl ∙ ap (λ b. slice_get b c.args.offset) here ∙ c.remove-item.ensures.value

pub returns-else-left-eq0-clause-value : goal.returns-else-left-eq0-clause-value
returns-else-left-eq0-clause-value g c =
    let within : c.args.at < length c.args.blocks.now.items = grind (arith, common_steps) in
    let here = get_or_default c.args.blocks.now.items c.args.at [] _ within ∙ sym c.index_mut-block.ensures.value in
    slice_get-joined c.args.blocks.now.items c.args.at c.args.offset _ within c.requires.offset refl ∙ ap (λ b. slice_get b c.args.offset) here ∙ c.remove-item.ensures.value

pub returns-else-left-eq0-clause-items : goal.returns-else-left-eq0-clause-items
returns-else-left-eq0-clause-items g c =
    let within : c.args.at < length c.args.blocks.now.items = grind (arith, common_steps) in
    let made = ap (λ b. set c.args.blocks.now.items c.args.at b) c.remove-item.ensures.items ∙ set-take_in c.args.blocks.now.items c.args.at c.args.offset _ c.index_mut-block.ensures.value in
    ap joined made ∙ joined-take_in c.args.blocks.now.items c.args.at c.args.offset _ within c.requires.offset refl

pub returns-else-left-eq0-clause-blocks : goal.returns-else-left-eq0-clause-blocks
returns-else-left-eq0-clause-blocks g c =
    let within : c.args.at < length c.args.blocks.now.items = grind (arith, common_steps) in
    let here = get_or_default c.args.blocks.now.items c.args.at [] _ within ∙ sym c.index_mut-block.ensures.value in
    let made = ap (λ b. set c.args.blocks.now.items c.args.at b) c.remove-item.ensures.items ∙ set-take_in c.args.blocks.now.items c.args.at c.args.offset _ c.index_mut-block.ensures.value in
    let count = ap length c.remove-item.ensures.items ∙ ap (λ b. length (remove b c.args.offset)) (sym here) in
    let some : 0 < length (remove (get_or c.args.blocks.now.items c.args.at []) c.args.offset) = omega arith in
    rw made (AreBlocks-take_in c.args.blocks.now.items c.args.at c.args.offset c.requires.blocks within c.requires.offset some)

pub returns-else-left-eq0-clause-table : goal.returns-else-left-eq0-clause-table
returns-else-left-eq0-clause-table g c = rw map-set (rw (c.len-left.ensures.count, c.requires.table) refl)

pub returns-then-left-eq0-clause-items : goal.returns-then-left-eq0-clause-items
returns-then-left-eq0-clause-items g c =
    let within : c.args.at < length c.args.blocks.now.items = grind (arith, common_steps) in
    let here = get_or_default c.args.blocks.now.items c.args.at [] _ within ∙ sym c.index_mut-block.ensures.value in
    let made = ap (λ b. set c.args.blocks.now.items c.args.at b) c.remove-item.ensures.items ∙ set-take_in c.args.blocks.now.items c.args.at c.args.offset _ c.index_mut-block.ensures.value in
    let count = ap length c.remove-item.ensures.items ∙ ap (λ b. length (remove b c.args.offset)) (sym here) in
    let none : length (remove (get_or c.args.blocks.now.items c.args.at []) c.args.offset) ≡ 0 = omega arith in
    ap joined (c.remove-emptied.ensures.items ∙ ap (λ cs. remove cs c.args.at) made) ∙ joined-emptied c.args.blocks.now.items c.args.at c.args.offset none ∙ joined-take_in c.args.blocks.now.items c.args.at c.args.offset _ within c.requires.offset refl

pub returns-then-left-eq0-clause-blocks : goal.returns-then-left-eq0-clause-blocks
returns-then-left-eq0-clause-blocks g c =
    let made = ap (λ b. set c.args.blocks.now.items c.args.at b) c.remove-item.ensures.items ∙ set-take_in c.args.blocks.now.items c.args.at c.args.offset _ c.index_mut-block.ensures.value in
    rw (c.remove-emptied.ensures.items ∙ ap (λ cs. remove cs c.args.at) made) (AreBlocks-emptied c.args.blocks.now.items c.args.at c.args.offset c.requires.blocks)

pub returns-then-left-eq0-clause-table : goal.returns-then-left-eq0-clause-table
returns-then-left-eq0-clause-table g c =
    let made = ap (λ b. set c.args.blocks.now.items c.args.at b) c.remove-item.ensures.items ∙ set-take_in c.args.blocks.now.items c.args.at c.args.offset _ c.index_mut-block.ensures.value in
    c.remove-count.ensures.items ∙ ap (λ ns. remove ns c.args.at) c.requires.table ∙ table-emptied c.args.blocks.now.items c.args.at c.args.offset ∙ ap (λ cs. map length cs) (sym (c.remove-emptied.ensures.items ∙ ap (λ cs. remove cs c.args.at) made))

pub returns-else-left-eq0-clause-rule : goal.returns-else-left-eq0-clause-rule
returns-else-left-eq0-clause-rule g c =
    let within : c.args.at < length c.args.blocks.now.items = grind (arith, common_steps) in
    let here = get_or_default c.args.blocks.now.items c.args.at [] _ within ∙ sym c.index_mut-block.ensures.value in
    let made = ap (λ b. set c.args.blocks.now.items c.args.at b) c.remove-item.ensures.items ∙ set-take_in c.args.blocks.now.items c.args.at c.args.offset _ c.index_mut-block.ensures.value in
    let count = ap length c.remove-item.ensures.items ∙ ap (λ b. length (remove b c.args.offset)) (sym here) in
    let some : 0 < length (remove (get_or c.args.blocks.now.items c.args.at []) c.args.offset) = omega arith in
    made ∙ take_in_rule c.args.blocks.now.items c.args.at c.args.offset _ within c.requires.offset refl some

pub returns-then-left-eq0-clause-rule : goal.returns-then-left-eq0-clause-rule
returns-then-left-eq0-clause-rule g c =
    let within : c.args.at < length c.args.blocks.now.items = grind (arith, common_steps) in
    let here = get_or_default c.args.blocks.now.items c.args.at [] _ within ∙ sym c.index_mut-block.ensures.value in
    let made = ap (λ b. set c.args.blocks.now.items c.args.at b) c.remove-item.ensures.items ∙ set-take_in c.args.blocks.now.items c.args.at c.args.offset _ c.index_mut-block.ensures.value in
    let count = ap length c.remove-item.ensures.items ∙ ap (λ b. length (remove b c.args.offset)) (sym here) in
    let none : length (remove (get_or c.args.blocks.now.items c.args.at []) c.args.offset) ≡ 0 = omega arith in
    c.remove-emptied.ensures.items ∙ ap (λ cs. remove cs c.args.at) made ∙ emptied_rule c.args.blocks.now.items c.args.at c.args.offset _ within c.requires.offset refl none
