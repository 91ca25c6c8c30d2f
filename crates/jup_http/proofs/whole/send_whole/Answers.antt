use Rattle.std.proofs.Common.{arith, ◌≡◌, ◌<◌, ◌≤◌, ℕ, List, ◌++◌, sym, ap, ◌∙◌, subst, append_assoc, take, drop, length, ◌-◌, take-append-drop, length-drop}
use Rattle.std.proofs.lemmas.List.{take_rest}
use Rattle.std.specs.Io.KnownBytes.{Appends}
use Rattle.std.proofs.KnownBytes.{Appends-trans}
use Rattle.jup_io.specs.Appends.{appends_kept}
use Rattle.jup_http.proofs.whole.send_whole.Goals as goal
use Rattle.jup_http.proofs.whole.send_whole.Goals.{in-Ok-2, in-Err}

front_grows : (all done rest : List ℕ) (n : ℕ) → all ≡ done ++ rest → all ≡ (done ++ take n rest) ++ take (length rest - n) (drop n rest)
front_grows all done rest n is =
    is ∙ ap (λ l. done ++ l) (sym (take-append-drop n rest)) ∙ sym (append_assoc done (take n rest) (drop n rest)) ∙ ap (λ l. (done ++ take n rest) ++ l) (sym (take_rest rest n))

some_left : (rest : List ℕ) (n : ℕ) → n ≤ length rest → (n ≡ length rest → ⊥) → 0 < length (take (length rest - n) (drop n rest))
some_left rest n inside less = subst (λ l. 0 < length l) (sym (take_rest rest n)) (omega (arith, length-drop n rest, inside, less))

pub loop-preserved : goal.loop-preserved
loop-preserved g c =
    let ((done, split, appended), some, well) = c.loop.invariant in
    let rest = c.loop.rest.now in
    elim c.match-send.branch [
      | in-Ok-2 w ↦ (
        subst (λ r. (x : List ℕ) × (c.args.bytes.now ≡ x ++ r.now) × Appends (g.O.Write.contents c.args.to.now) (g.O.Write.contents c.send.new.self) x) (sym w.rest-is)
            (done ++ take w.in-Ok.len rest, front_grows _ done rest w.in-Ok.len split, Appends-trans _ _ _ _ _ appended w.in-Ok.ensures.bytes),
        subst (λ r. 0 < length r.now) (sym w.rest-is) (some_left rest w.in-Ok.len w.in-Ok.ensures.bound w.if-len-rest.false),
        λ h. w.in-Ok.ensures.well (omega (arith, w.in-Ok-2.len-test.1)) (well h),
      )
      | in-Err w ↦ (
        subst (λ r. (x : List ℕ) × (c.args.bytes.now ≡ x ++ r.now) × Appends (g.O.Write.contents c.args.to.now) (g.O.Write.contents c.send.new.self) x) (sym w.rest-is)
            (done, split, appends_kept _ _ _ _ appended w.in-Err.ensures.bytes),
        subst (λ r. 0 < length r.now) (sym w.rest-is) some,
        λ h. w.in-Err.ensures.again (w.is_interrupted.ensures.0 w.if-is_interrupted.true) (well h),
      )
    ]
