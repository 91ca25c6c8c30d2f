use Rattle.std.proofs.Common.{length, set, sum, map, ap, sym, ◌∙◌, arith}
use Rattle.jup_value.specs.Items.{with_value, joined}
use Rattle.jup_value.proofs.Items.{AreDistinct-with_value, length-with_value}
use Rattle.jup_value.proofs.MarkLists.{AreMarked-with_value}
use Rattle.jup_value.proofs.Layouts.{sum_lengths, found_item, found-set_value, table-set_value, AreBlocks-set_value}
use Rattle.jup_value.proofs.sequence.Seq.set_value.Goals as goal

pub find_item-index-requires : goal.find_item-index-requires
find_item-index-requires g c =
    let total = ap sum (c.deref.ensures.value ∙ c.self.invariant.layout.1) ∙ sum_lengths c.self.inside.blocks.items in
    let size = ap (λ s. length s.items) c.self.view_is in
    omega arith

pub returns-clause-items : goal.returns-clause-items
returns-clause-items g c =
    let bs = c.self.inside.blocks.items in
    let table = c.deref.ensures.value ∙ c.self.invariant.layout.1 in
    let item = found_item bs c.deref.result.now _ _ c.args.at table c.find_item-index.ensures.block c.find_item-index.ensures.place c.find_item-index.ensures.within in
    let put = ap (λ b. joined (set bs c.find_item-index.result.0 b)) c.set_value.ensures ∙ found-set_value bs _ _ c.args.at _ c.args.value item c.index_mut-block.ensures.value in
    put ∙ ap (λ s. with_value s.items c.args.at c.args.value) c.self.view_is

pub invariant_of-self : goal.invariant_of-self
invariant_of-self g c =
    let bs = c.self.inside.blocks.items in
    let table = c.deref.ensures.value ∙ c.self.invariant.layout.1 in
    let item = found_item bs c.deref.result.now _ _ c.args.at table c.find_item-index.ensures.block c.find_item-index.ensures.place c.find_item-index.ensures.within in
    let put = ap (λ b. joined (set bs c.find_item-index.result.0 b)) c.set_value.ensures ∙ found-set_value bs _ _ c.args.at _ c.args.value item c.index_mut-block.ensures.value in
    let size = ap length put ∙ length-with_value (joined bs) c.args.at c.args.value in
    record {
      layout = (
        rw c.set_value.ensures (AreBlocks-set_value bs _ _ _ c.args.value c.index_mut-block.ensures.value c.self.invariant.layout.0),
        c.self.invariant.layout.1 ∙ table-set_value bs _ c.find_item-index.result.1 _ c.args.value c.index_mut-block.ensures.value ∙ ap (λ b. map length (set bs c.find_item-index.result.0 b)) (sym c.set_value.ensures),
      );
      distinct = rw put (AreDistinct-with_value (joined bs) c.args.at c.args.value c.self.invariant.distinct);
      marked = rw put (AreMarked-with_value c.self.inside.marks.items (joined bs) c.args.at c.args.value c.self.invariant.marked);
      ascending = c.self.invariant.ascending;
      count = omega arith;
      few = omega arith;
    }
