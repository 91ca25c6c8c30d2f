use Rattle.std.proofs.Common.{subst, inl, IfOk, IsOkAnd}
use Rattle.jup_http.specs.Asked.{Says, IsSaid}
use Rattle.jup_http.proofs.Heads.{asks}
use Rattle.jup_http.proofs.request.read_request.Goals as goal

pub returns-in-Ok-clause-head : goal.returns-in-Ok-clause-head
returns-in-Ok-clause-head c = λ h rest reads few.
    asks c.args.origins.now h c.in-Ok.asked c.judge.result
    (subst (λ read. IsOkAnd read (Says c.args.origins.now h)) c.in-Ok.is (c.in_ok-asked.ensures.head h rest reads few)) c.judge.ensures

pub returns-in-Ok-clause-asked : goal.returns-in-Ok-clause-asked
returns-in-Ok-clause-asked c =
    let said = subst (λ read. IfOk read (IsSaid c.args.bytes.now c.args.origins.now)) c.in-Ok.is c.in_ok-asked.ensures.whole in
    inl (record {
      head = said.head;
      rest = said.rest;
      reads = said.reads;
      few = said.few;
      asks = asks c.args.origins.now said.head c.in-Ok.asked c.judge.result said.says c.judge.ensures;
    })
