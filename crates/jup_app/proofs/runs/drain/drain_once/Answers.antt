use Rattle.std.proofs.Common.{arith, true≢false, sym, ◌∙◌, false, true, length, ◌<◌, ◌+◌}
use Rattle.jup_app.specs.Prelude.{view_of, get_or_default}
use Rattle.jup_app.specs.Runs.{EndsQuiet}
use Rattle.jup_app.proofs.Passes as passes
use Rattle.jup_app.proofs.runs.drain.drain_once.Goals as goal

pub loop-k-init : goal.loop-k-init
loop-k-init g c = record { fits = c.requires; drained = passes.drained_none _ _ _; quiet = λ _. passes.quiet_none _ _ }

pub loop-k-preserved : goal.loop-k-preserved
loop-k-preserved g c =
    let all = c.loop-k.invariant in
    let inside : c.loop-k.k < length c.loop-k.ends = omega arith in
    let inside_old : c.loop-k.k < length c.args.ends.now = omega (arith, all.drained.long) in
    record {
      fits = c.in_ok-receive.ensures.pass;
      drained = passes.drained_more _ _ _ _ _ _ _ _ _ _ _ inside_old all.drained (λ d. get_or_default c.loop-k.ends c.loop-k.k d c.index-ends-k.result inside) (passes.handles_for _ _ _ _ _ _ _ _ c.number-number.ensures c.in_ok-receive.ensures.handled);
      quiet = λ none. elim c.if-branch.branch as (λ _. EndsQuiet c.args.ends.now (c.loop-k.k + 1) (view_of c.args.caller.now.pass) (view_of c.receive.new.caller.pass)) [
        | goal.then-branch w ↦ absurd (true≢false (sym w.came-is ∙ none))
        | goal.else-branch w ↦ passes.quiet_more _ _ _ _ _ _ (λ numbered. c.number-number.ensures ∙ passes.number_at _ _ _ _ _ _ _ c.index-ends-k.result inside_old all.drained numbered) (all.quiet (sym w.came-is ∙ none)) (c.in_ok-receive.ensures.nothing w.if-branch.false)
      ];
    }
