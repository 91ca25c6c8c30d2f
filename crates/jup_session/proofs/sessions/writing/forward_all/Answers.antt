use Rattle.jup_session.specs.Prelude.{view_of}
use Rattle.jup_session.proofs.Calls.{leaves_after, forwards_none, forwards_news, forwards_both, forwards_all, forwards_serves}
use Rattle.jup_session.proofs.sessions.writing.forward_all.Goals as goal

pub loop-init : goal.loop-init
loop-init g c = record {
  pass = c.requires.pass;
  forwards = forwards_none c.args.link.now.site (view_of c.args.pass.now) c.args.output.now;
  flushed = c.requires.flushed;
}

pub returns-then-is_over-clause-forwards : goal.returns-then-is_over-clause-forwards
returns-then-is_over-clause-forwards g c =
    let site = c.args.link.now.site in
    let met = c.news-has_news.ensures.met in
    forwards_all site (view_of c.args.pass.now) (view_of c.news-has_news.new.pass) (view_of c.forward-left.new.pass) c.args.output.now c.loop.output c.forward-left.new.output _
    (forwards_news site (view_of c.args.pass.now) (view_of c.loop.pass) (view_of c.news-has_news.new.pass) c.args.output.now c.loop.output met.0 c.loop.invariant.forwards met.2)
    c.forward-left.ensures.forwards

pub returns-then-is_over-clause-gone : goal.returns-then-is_over-clause-gone
returns-then-is_over-clause-gone g c = λ gone.
    let site = c.args.link.now.site in
    let met = c.news-has_news.ensures.met in
    let news = forwards_news site (view_of c.args.pass.now) (view_of c.loop.pass) (view_of c.news-has_news.new.pass) c.args.output.now c.loop.output met.0 c.loop.invariant.forwards met.2 in
    leaves_after site (view_of c.args.pass.now) (view_of c.news-has_news.new.pass) (view_of c.forward-left.new.pass)
    (forwards_serves site (view_of c.args.pass.now) (view_of c.news-has_news.new.pass) c.args.output.now c.loop.output news) (c.forward-left.ensures.gone (cc))

pub returns-in-Err-clause-forwards : goal.returns-in-Err-clause-forwards
returns-in-Err-clause-forwards g c =
    let site = c.args.link.now.site in
    let met = c.news-has_news.ensures.met in
    forwards_all site (view_of c.args.pass.now) (view_of c.news-has_news.new.pass) (view_of c.forward_news.new.pass) c.args.output.now c.loop.output c.forward_news.new.output _
    (forwards_news site (view_of c.args.pass.now) (view_of c.loop.pass) (view_of c.news-has_news.new.pass) c.args.output.now c.loop.output met.0 c.loop.invariant.forwards met.2)
    c.in-Err.ensures.stopped

pub loop-preserved : goal.loop-preserved
loop-preserved g c =
    let site = c.args.link.now.site in
    let met = c.news-has_news.ensures.met in record {
      pass = c.forward_news.ensures.pass;
      forwards = forwards_both site (view_of c.args.pass.now) (view_of c.news-has_news.new.pass) (view_of c.forward_news.new.pass) c.args.output.now c.loop.output c.forward_news.new.output
          (forwards_news site (view_of c.args.pass.now) (view_of c.loop.pass) (view_of c.news-has_news.new.pass) c.args.output.now c.loop.output met.0 c.loop.invariant.forwards met.2)
          c.forward_news.ensures.forwards;
      flushed = c.forward_news.ensures.flushed;
    }
