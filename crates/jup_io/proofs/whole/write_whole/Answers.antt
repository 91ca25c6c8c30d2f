use Rattle.std.proofs.Common.{arith, ◌≡◌, ℕ, List, ◌++◌, sym, ap, ◌∙◌, subst, append_assoc, take, drop, length, ◌-◌, take-append-drop}
use Rattle.std.proofs.lemmas.List.{take_rest}
use Rattle.std.specs.Io.KnownBytes.{Appends}
use Rattle.std.proofs.KnownBytes.{Appends-trans}
use Rattle.jup_io.specs.Appends.{appends_kept}
use Rattle.jup_io.proofs.whole.write_whole.Goals as goal
use Rattle.jup_io.proofs.whole.write_whole.Goals.{in-Ok, in-Err+else-not-is_interrupted}

front_grows : (all done rest : List ℕ) (n : ℕ) → all ≡ done ++ rest → all ≡ (done ++ take n rest) ++ take (length rest - n) (drop n rest)
front_grows all done rest n is =
    is ∙ ap (λ l. done ++ l) (sym (take-append-drop n rest)) ∙ sym (append_assoc done (take n rest) (drop n rest)) ∙ ap (λ l. (done ++ take n rest) ++ l) (sym (take_rest rest n))

pub loop-preserved : goal.loop-preserved
loop-preserved g c =
    let ((done, split, appended), well) = c.loop.invariant in
    let rest = c.loop.rest.now in
    elim c.match-send.branch [
      | in-Ok w ↦ (
        subst (λ r. (x : List ℕ) × (c.args.bytes.now ≡ x ++ r.now) × Appends (g.O.Write.contents c.args.to.now) (g.O.Write.contents c.send.new.self) x) (sym w.rest-is)
            (done ++ take w.in-Ok.len rest, front_grows _ done rest w.in-Ok.len split, Appends-trans _ _ _ _ _ appended w.in-Ok.ensures.bytes),
        λ h. w.in-Ok.ensures.well (omega (arith, w.in-Ok.len-test.1)) (well h),
      )
      | in-Err+else-not-is_interrupted w ↦ (
        subst (λ r. (x : List ℕ) × (c.args.bytes.now ≡ x ++ r.now) × Appends (g.O.Write.contents c.args.to.now) (g.O.Write.contents c.send.new.self) x) (sym w.rest-is)
            (done, split, appends_kept _ _ _ _ appended w.in-Err.ensures.bytes),
        λ h. w.in-Err.ensures.again (w.is_interrupted.ensures.0 w.if-not-is_interrupted.false) (well h),
      )
    ]
