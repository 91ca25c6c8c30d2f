use Rattle.std.proofs.Common.{inl, refl, sym, ◌∙◌}
use Rattle.jup_resume.proofs.Texts.{tells_difference}
use Rattle.jup_links.proofs.Messages.{other_word}
use Rattle.jup_links.proofs.framing.announced.Goals as goal

pub returns-then-ne : goal.returns-then-ne
returns-then-ne c =
    inl (
      refl,
      other_word c.args.text.now c.in-Some.word.now c.in-Some.fields.now c.in-Some.ensures (λ word. tells_difference c.in-Some.word.now c.as_slice.result.now c.ne.result c.ne.ensures c.if-ne.true (word ∙ sym c.as_slice.ensures)),
    )
