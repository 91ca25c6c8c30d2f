use Rattle.std.proofs.Common.{sym, ap, ◌∙◌, subst, List, [], length}
use Rattle.jup_app.specs.Prelude.{Command, view_of, SiteEnd, Bor}
use Rattle.jup_app.specs.Runs.{IsDrained}
use Rattle.jup_app.proofs.Endings as endings
use Rattle.jup_app.proofs.WholeRuns.{agrees}
use Rattle.jup_app.proofs.runs.run.run_sites.Goals as goal

pub play_all-requires-after_bounds : goal.play_all-requires-after_bounds
play_all-requires-after_bounds g c κs within = λ k d inside.
    let joined = c.in_ok-sites.ensures.joined in
    let s : Bor (List Command) = record { ref_ptr = (0, 0); now = [] } in
    let job = c.in_ok-jobs.ensures.seated joined.history joined.met k d s inside in
    record { pass = job.seated.pass; fresh = job.seated.fresh }

pub rejoin_all-requires-clause-passes : goal.rejoin_all-requires-clause-passes
rejoin_all-requires-clause-passes g c = endings.ran_passes _ _ _ c.in_ok-results.ensures.each (sym c.in_ok-results.results.ok.0 ∙ c.in_ok-results.ensures.len ∙ c.in_ok-jobs.jobs.ok.0)

pub returns-in-Ok-close : goal.returns-in-Ok-close
returns-in-Ok-close g c =
    let met = c.news.ensures.met in
    let closed = c.in-Ok-close.ensures.closed in
    let drained = c.in_ok-drain.ensures.drained in
    let here = subst (λ (xs : List SiteEnd). IsDrained (view_of c.news.new.pass) (view_of c.drain.new.caller.pass) c.rejoin_all.new.caller.calls c.drain.new.caller.calls xs c.drain.new.ends) c.as_mut_slice.ensures.value drained in
    let ended = endings.run_ends c.args.star.board c.args.star.limit c.in-Ok.hub _ _ _ _ _ _ _ _ _ _ _ _ c.in_ok-sites.sites.items c.args.scripts.now c.in_ok-jobs.jobs.items c.in_ok-results.results.items c.in_ok-ends.ends.items c.drain.new.ends _ met.0 closed.0
    c.requires.opening c.requires.limited c.join_all.ensures.pass.1 (c.in-Ok.ensures.ok.0 ∙ c.requires.new) c.in_ok-sites.ensures.joined (sym c.in_ok-sites.sites.ok.0 ∙ c.in_ok-sites.ensures.len)
    c.seat_all.ensures.same c.seat_all.ensures.calls c.in_ok-jobs.ensures.seated
    c.in_ok-jobs.ensures.len c.in_ok-results.ensures.each (sym c.in_ok-results.results.ok.0 ∙ c.in_ok-results.ensures.len ∙ c.in_ok-jobs.jobs.ok.0)
    c.in_ok-ends.ensures.taken met.1 met.2 here closed.1 closed.2 closed.3 c.if-close-calls.true
    (endings.take_whole c.in_ok-ends.ends.len c.drain.new.ends _ (c.in_ok-ends.ends.ok.0 ∙ sym (drained.drained.long ∙ ap (λ (xs : List SiteEnd). length xs) c.as_mut_slice.ensures.value))) in
    record {
      agree = agrees c.args.star.board c.args.star.limit _ _ _ _ c.requires.opening c.requires.limited ended;
      run = ended;
    }
