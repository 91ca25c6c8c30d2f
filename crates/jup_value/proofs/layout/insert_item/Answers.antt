use Rattle.std.proofs.Common.{◌<◌, ◌≤◌, length, sum, get_or, [], ap, sym, ◌∙◌, arith}
use Rattle.std.proofs.lemmas.Grind.{common_steps}
use Rattle.jup_value.specs.Items.{joined}
use Rattle.jup_value.proofs.Layouts.{sum_lengths, place_in_table, found, joined-put_in, AreBlocks-put_in, AreBlocks-at, count_in_blocks, put_in_rule, split_rule}
use Rattle.jup_value.proofs.layout.insert_item.Goals as goal

pub find_gap-block-requires : goal.find_gap-block-requires
find_gap-block-requires g c =
    let table = c.deref.ensures.value ∙ c.requires.table in
    record {
      total = c.requires.total ∙ sym (ap sum table ∙ sum_lengths c.args.blocks.now.items);
      place = place_in_table c.args.blocks.now.items c.deref.result.now c.args.at table c.requires.place;
    }

pub split-requires-clause-full : goal.split-requires-clause-full
split-requires-clause-full g c =
    let table = c.deref.ensures.value ∙ c.requires.table in
    let l : c.find_gap-block.result.0 < length c.deref.result.now = grind (arith, common_steps) in
    let f = found c.args.blocks.now.items c.deref.result.now _ _ _ table l c.find_gap-block.ensures.place c.find_gap-block.ensures.within in
    let count = count_in_blocks c.args.blocks.now.items c.deref.result.now c.find_gap-block.result.0 table f.within in
    let most = AreBlocks-at c.args.blocks.now.items c.find_gap-block.result.0 c.requires.blocks f.within in
    let above : 128 ≤ length (get_or c.args.blocks.now.items c.find_gap-block.result.0 []) = grind (arith, common_steps, count_in_blocks) in
    omega arith

pub split-requires-clause-offset : goal.split-requires-clause-offset
split-requires-clause-offset g c =
    let table = c.deref.ensures.value ∙ c.requires.table in
    let l : c.find_gap-block.result.0 < length c.deref.result.now = grind (arith, common_steps) in
    let f = found c.args.blocks.now.items c.deref.result.now _ _ _ table l c.find_gap-block.ensures.place c.find_gap-block.ensures.within in
    let most = AreBlocks-at c.args.blocks.now.items c.find_gap-block.result.0 c.requires.blocks f.within in
    omega (arith, f.offset)

pub returns-then-count-lt-LARGEST-clause-items : goal.returns-then-count-lt-LARGEST-clause-items
returns-then-count-lt-LARGEST-clause-items g c =
    let l : c.find_gap-block.result.0 < length c.deref.result.now = grind (arith, common_steps) in
    let f = found c.args.blocks.now.items c.deref.result.now _ _ _ (c.deref.ensures.value ∙ c.requires.table) l c.find_gap-block.ensures.place c.find_gap-block.ensures.within in
    ap joined c.put.ensures.blocks ∙ joined-put_in c.args.blocks.now.items _ _ _ _ f.within f.offset f.place

pub returns-then-count-lt-LARGEST-clause-blocks : goal.returns-then-count-lt-LARGEST-clause-blocks
returns-then-count-lt-LARGEST-clause-blocks g c =
    let l : c.find_gap-block.result.0 < length c.deref.result.now = grind (arith, common_steps) in
    let f = found c.args.blocks.now.items c.deref.result.now _ _ _ (c.deref.ensures.value ∙ c.requires.table) l c.find_gap-block.ensures.place c.find_gap-block.ensures.within in
    let room : length (get_or c.args.blocks.now.items c.find_gap-block.result.0 []) < 128 = grind (arith, common_steps, count_in_blocks) in
    rw c.put.ensures.blocks (AreBlocks-put_in _ _ _ _ c.requires.blocks f.within f.offset room)

pub returns-in-Some-pop-2-clause-items : goal.returns-in-Some-pop-2-clause-items
returns-in-Some-pop-2-clause-items g c =
    let l : c.find_gap-block.result.0 < length c.deref.result.now = grind (arith, common_steps) in
    let f = found c.args.blocks.now.items c.deref.result.now _ _ _ (c.deref.ensures.value ∙ c.requires.table) l c.find_gap-block.ensures.place c.find_gap-block.ensures.within in
    rw f.place c.split.ensures.items

pub returns-then-count-lt-LARGEST-clause-rule : goal.returns-then-count-lt-LARGEST-clause-rule
returns-then-count-lt-LARGEST-clause-rule g c =
    let l : c.find_gap-block.result.0 < length c.deref.result.now = grind (arith, common_steps) in
    let f = found c.args.blocks.now.items c.deref.result.now _ _ _ (c.deref.ensures.value ∙ c.requires.table) l c.find_gap-block.ensures.place c.find_gap-block.ensures.within in
    let room : length (get_or c.args.blocks.now.items c.find_gap-block.result.0 []) < 128 = grind (arith, common_steps, count_in_blocks) in
    c.put.ensures.blocks ∙ put_in_rule c.args.blocks.now.items _ _ _ _ c.requires.blocks f.within f.offset f.place c.find_gap-block.ensures.first room

pub returns-in-Some-pop-2-clause-rule : goal.returns-in-Some-pop-2-clause-rule
returns-in-Some-pop-2-clause-rule g c =
    let table = c.deref.ensures.value ∙ c.requires.table in
    let l : c.find_gap-block.result.0 < length c.deref.result.now = grind (arith, common_steps) in
    let f = found c.args.blocks.now.items c.deref.result.now _ _ _ table l c.find_gap-block.ensures.place c.find_gap-block.ensures.within in
    let count = count_in_blocks c.args.blocks.now.items c.deref.result.now c.find_gap-block.result.0 table f.within in
    let most = AreBlocks-at c.args.blocks.now.items c.find_gap-block.result.0 c.requires.blocks f.within in
    let above : 128 ≤ length (get_or c.args.blocks.now.items c.find_gap-block.result.0 []) = grind (arith, common_steps, count_in_blocks) in
    c.split.ensures.rule ∙ split_rule c.args.blocks.now.items _ _ _ _ c.requires.blocks f.within f.offset f.place c.find_gap-block.ensures.first (omega arith)
