use Rattle.std.proofs.Common.{◌<◌, ℕ, ◌+◌, length, arith, sym, ap, ◌∙◌}
use Rattle.std.proofs.lemmas.List.Sums.{count_by_more_yes, count_by_more_no}
use Rattle.jup_rules.specs.Sessions.{is_pong}
use Rattle.jup_rules.proofs.session.pongs_in.Goals as goal
use Rattle.jup_rules.proofs.session.pongs_in.Goals.{then-is_one, else-is_one}

pub loop-down-preserved : goal.loop-down-preserved
loop-down-preserved c =
    let so_far = c.loop-down.invariant in
    let before = so_far.counted in
    let low = so_far.few in
    let down = c.down-item.result in
    let within : c.loop-down.down-index < length c.args.downs.now = omega (arith, c.loop-down-test.true) in
    elim c.if-is_one.branch [
      | then-is_one w ↦ let more = count_by_more_yes is_pong c.args.downs.now c.loop-down.down-index down within (ap is_pong (sym c.down-item.is) ∙ sym c.is_pong-is_one.ensures ∙ w.if-is_one.true) in
          let now = w.pongs-is in
          record { counted = now ∙ ap (λ (n : ℕ). n + 1) before ∙ sym more; few = omega (arith, now, low) }
      | else-is_one w ↦ let more = count_by_more_no is_pong c.args.downs.now c.loop-down.down-index down within (ap is_pong (sym c.down-item.is) ∙ sym c.is_pong-is_one.ensures ∙ w.if-is_one.false) in
          let now = w.pongs-is in
          record { counted = now ∙ before ∙ sym more; few = omega (arith, now, low) }
    ]
