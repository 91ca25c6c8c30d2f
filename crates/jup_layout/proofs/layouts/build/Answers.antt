use Rattle.std.proofs.Common.{◌≡◌, Err, rules, ◌++◌, ◌∷◌, [], ◌+◌, take, inl, inr, sym}
use Rattle.jup_wire.proofs.Streams.{take_one_more}
use Rattle.jup_layout.proofs.Texts.{refused_within}
use Rattle.jup_layout.proofs.layouts.build.Goals as goal

pub returns-in_err-builder : goal.returns-in_err-builder
returns-in_err-builder c =
    let i = c.loop-line.line-index in
    let lines = c.args.lines.now in
    let line = c.line-item.result in
    let is : c.from_residual.result ≡ Err c.in_err-builder.field-0.0 = search rules in
    rw is (elim (c.in_err-builder.ensures.fault c.args.naming (take i lines) c.loop-line.invariant) [
      | inl none ↦ inl none
      | inr refused ↦ inr (refused_within c.args.naming lines (take i lines ++ line ∷ []) (i + 1) c.in_err-builder.field-0.0 (sym (take_one_more lines i line c.loop-line-test.true c.line-item.is)) refused)
    ])
