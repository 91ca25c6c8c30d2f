use Rattle.std.proofs.Common.{List, sym, ap, subst, ◌∙◌}
use Rattle.jup_hub.specs.declared.view.HubEvent.{HubEvent}
use Rattle.jup_hub.specs.declared.view.View.{View}
use Rattle.jup_hub.specs.Histories.{Meets, BeginsWithAll, having_seen}
use Rattle.jup_hub.specs.Passes.{view_of}
use Rattle.jup_hub.proofs.Histories.{BeginsWithAll-more}
use Rattle.jup_web.proofs.keeping.take_news.Goals as goal

-- a history that a pass meets once it has seen another is one that it met before that
meets_before : (v : View) (seen log : List HubEvent) → Meets v seen → Meets (having_seen seen v) log → Meets v log
meets_before v seen log first later = record {
  legal = later.legal;
  begins = subst (λ (l : List HubEvent). BeginsWithAll l v.seen) (sym later.begins.0.1) (BeginsWithAll-more seen v.seen later.begins.0.0 first.begins);
  tallied = later.tallied;
  apart = later.apart;
}

pub returns-in-Ok-clause-met : goal.returns-in-Ok-clause-met
returns-in-Ok-clause-met g c =
    let one = c.news-has_news.ensures.met in
    let two = c.in-Ok.ensures.met in
    let v = view_of c.args.pass.now in (
      two.0,
      meets_before v one.0 two.0 one.1 (subst (λ (w : View). Meets w two.0) one.2 two.1),
      two.2 ∙ ap (λ (w : View). having_seen two.0 w) one.2,
      two.3,
    )

pub returns-in-Err-clause-met : goal.returns-in-Err-clause-met
returns-in-Err-clause-met g c =
    let one = c.news-has_news.ensures.met in
    let two = c.board_text.ensures.met in
    let v = view_of c.args.pass.now in (
      two.0,
      meets_before v one.0 two.0 one.1 (subst (λ (w : View). Meets w two.0) one.2 two.1),
      two.2 ∙ ap (λ (w : View). having_seen two.0 w) one.2,
      tt,
    )
