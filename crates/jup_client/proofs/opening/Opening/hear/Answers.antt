use Rattle.std.proofs.Common.{◌≡◌, Err, sym, subst, refl, rules}
use Rattle.jup_client.specs.Clients.{HasTold}
use Rattle.jup_client.proofs.opening.Opening.hear.Goals as goal

pub returns-in_err-opened-clause-ready : goal.returns-in_err-opened-clause-ready
returns-in_err-opened-clause-ready c = λ ready lines told.
    let is : c.from_residual.result ≡ Err c.in_err-opened.field-0.0 = search rules in
    rw is (c.in_err-opened.ensures lines (subst (λ b. HasTold lines b) (sym c.replace-board.ensures.value) told))

pub returns : goal.returns
returns c = record {
  ready = λ is. absurd (c.in_default.not-Ready is);
  part = λ of_board lines told. (refl, refl, c.in_ok-self.ensures lines (subst (λ b. HasTold lines b) (sym c.replace-board.ensures.value) told));
  other = λ other not_of_board. absurd (search rules);
}
