use Rattle.std.proofs.Common.{sym, ap, ◌∙◌, subst, ◌≡◌, [], ◌∷◌, ◌++◌, append_assoc, All, Result, IfOk}
use Rattle.jup_app.specs.Prelude.{IsPassOf, Player, Halt, into_iter_items}
use Rattle.jup_app.proofs.Calls as calls
use Rattle.jup_app.proofs.runs.joiner.rejoin_all.Goals as goal

pub loop-result-init : goal.loop-result-init
loop-result-init c =
    let gives : into_iter_items c.into_iter-result-iterator.result ≡ c.args.results.items = c.into_iter-result-iterator.ensures.into_iter_gives.0 in
    record {
      can_next = tt;
      is_finite = tt;
      fits = c.requires.pass;
      passes = subst (λ xs. All (λ (r : Result Player Halt). IfOk r (λ p. IsPassOf c.args.hub.now p.caller.pass)) xs) (sym gives) c.requires.passes;
      done = [];
      split = sym gives;
      taken = calls.taken_none _ _ _ c.new-ends.ensures.items;
    }

pub loop-result-preserved : goal.loop-result-preserved
loop-result-preserved c =
    let step = c.in-Some-result.ensures.steps.0 in
    let all = c.loop-result.invariant in
    record {
      can_next = tt;
      is_finite = tt;
      fits = c.in_ok-rejoin.ensures.pass;
      passes = calls.all_tail (λ (r : Result Player Halt). IfOk r (λ p. IsPassOf c.args.hub.now p.caller.pass)) _ _ _ step all.passes;
      done = all.done ++ c.in-Some-result.result ∷ [];
      split = all.split ∙ ap (λ xs. all.done ++ xs) step ∙ sym (append_assoc all.done (c.in-Some-result.result ∷ []) (into_iter_items c.next.new.self));
      taken = calls.taken_more _ _ _ _ _ _ _ _ _ _ _ _ all.taken c.in_ok-result.was c.in_ok-rejoin.ensures.end c.in_ok-rejoin.ensures.count c.in_ok-rejoin.ensures.view c.in_ok-push.ensures.items;
    }
