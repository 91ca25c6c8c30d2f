use Rattle.std.proofs.Common.{ℕ, List, [], ◌∷◌, ◌++◌, map, sym, ap, ◌∙◌, append_assoc, append-nil, rules}
use Rattle.std.specs.Fmt.{HasWritten}
use Rattle.std.proofs.Output.{has_written_append, has_written_of_eq}
use Rattle.std.proofs.lemmas.List.{flat_map_more}
use Rattle.jup_text.specs.Prelude.{Item, flat_map}
use Rattle.jup_text.specs.Words.{quoted_char}
use Rattle.jup_text.proofs.quoted.QuotedDisplay.fmt.Goals as goal

values : List (Item ℕ) → List ℕ
values items = map (λ item. item.value) items

pub loop-item-preserved : goal.loop-item-preserved
unfolding values
loop-item-preserved g c = λ plain.
    let so_far = c.loop-item.invariant plain in
    let value = c.in-Some.item.now.value in
    let left = ap values c.in-Some.ensures.steps in (
      so_far.0 ++ value ∷ [],
      has_written_of_eq _ _ _ _ _ (flat_map_more quoted_char [] so_far.0 value) (has_written_append _ _ _ _ _ _ so_far.1 (search rules)),
      append_assoc so_far.0 (value ∷ []) _ ∙ ap (λ (t : List ℕ). so_far.0 ++ t) (sym left) ∙ so_far.2,
    )

pub returns-clause-writes : goal.returns-clause-writes
unfolding values
returns-clause-writes g c = λ plain ok.
    let opened : HasWritten g.W.Write.write_str_gives c.args.f.now (34 ∷ []) c.write.new.self = search rules in
    let so_far = c.loop-item.invariant opened.plain in
    let none = ap values c.in-None.ensures.steps.0 in
    let whole = sym (append-nil so_far.0) ∙ ap (λ (t : List ℕ). so_far.0 ++ t) (sym none) ∙ so_far.2 in
    has_written_of_eq _ _ _ _ _ (ap (λ (t : List ℕ). 34 ∷ (flat_map quoted_char t ++ 34 ∷ [])) whole)
    (has_written_append _ _ _ _ _ _ (has_written_append _ _ _ _ _ _ opened so_far.1) (search rules))
