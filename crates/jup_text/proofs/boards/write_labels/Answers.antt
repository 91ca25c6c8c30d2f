use Rattle.std.proofs.Common.{ℕ, List, [], ◌∷◌, ◌++◌, sym, ap, ◌∙◌, append_assoc, rules}
use Rattle.std.proofs.Output.{has_written_append, has_written_of_eq}
use Rattle.std.proofs.lemmas.List.{flat_map_more}
use Rattle.jup_text.specs.Prelude.{Item}
use Rattle.jup_text.specs.Words.{quoted}
use Rattle.jup_text.proofs.boards.write_labels.Goals as goal

pub loop-item-preserved : goal.loop-item-preserved
loop-item-preserved g c = λ plain.
    let so_far = c.loop-item.invariant plain in
    let item = c.in-Some.item.now in (
      so_far.0 ++ item ∷ [],
      has_written_of_eq _ _ _ _ _ (flat_map_more (λ (i : Item (List ℕ)). 32 ∷ quoted i.value) [] so_far.0 item) (has_written_append _ _ _ _ _ _ so_far.1 (search rules)),
      append_assoc so_far.0 (item ∷ []) _ ∙ ap (λ (t : List (Item (List ℕ))). so_far.0 ++ t) (sym c.in-Some.ensures.steps) ∙ so_far.2,
    )
