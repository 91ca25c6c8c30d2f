use Rattle.std.proofs.Common.{sym, ap, ◌∙◌, ◌≡◌, ◌<◌, ◌+◌, [], ◌∷◌, ◌++◌, append_assoc, length, get_or, subst, List}
use Rattle.jup_app.specs.Prelude.{BoardSite, into_iter_items, get_or_default}
use Rattle.jup_app.specs.Runs.{AreJobs}
use Rattle.jup_app.proofs.Passes as passes
use Rattle.jup_app.proofs.runs.seating.seat_all.Goals as goal

pub loop-site-preserved : goal.loop-site-preserved
loop-site-preserved c =
    let all = c.loop-site.invariant in
    let step = c.in-Some.ensures.steps.0 in
    let split : c.args.sites.items ≡ all.done ++ c.in-Some.site ∷ into_iter_items c.next.new.self = all.split ∙ ap (λ xs. all.done ++ xs) step in
    let inside : length c.loop-site.jobs.items < length c.args.scripts.now = passes.script_fits _ _ _ _ _ _ split c.requires.as_many all.long in
    let count : c.len.result ≡ length c.loop-site.jobs.items = c.len.ensures ∙ c.loop-site.jobs.ok.0 in
    record {
      can_next = tt;
      is_finite = tt;
      fits = c.seat-player.ensures.pass;
      same = passes.same_both _ _ _ all.same c.seat-player.ensures.same;
      calls = c.seat-player.ensures.calls ∙ all.calls;
      done = all.done ++ c.in-Some.site ∷ [];
      split = split ∙ sym (append_assoc all.done (c.in-Some.site ∷ []) (into_iter_items c.next.new.self));
      long = ap length c.in_ok-push.ensures.items ∙ passes.length_last _ _ ∙ ap (λ n. n + 1) all.long ∙ sym (passes.length_last all.done c.in-Some.site);
      seated = λ h has. subst (λ (xs : List BoardSite). AreJobs c.args.hub.now h xs c.args.scripts.now c.push.new.self.items) (sym split)
          (passes.jobs_more _ _ _ _ _ _ _ _ _ all.long (subst (λ (xs : List BoardSite). AreJobs c.args.hub.now h xs c.args.scripts.now c.loop-site.jobs.items) split (all.seated h has)) c.in_ok-push.ensures.items
          (λ s. record { seated = c.seat-player.ensures.seated h (passes.met_same _ _ h all.same has); script_is = ap (λ b. b.now) (c.index-scripts-len.is ∙ ap (λ q. get_or c.args.scripts.now q c.index-scripts-len.result) count ∙ get_or_default c.args.scripts.now (length c.loop-site.jobs.items) _ s inside) }));
    }
