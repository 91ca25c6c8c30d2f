use Rattle.std.proofs.Common.{◌++◌, refl, ap, ◌∙◌, inl}
use Rattle.jup_embed.specs.Prelude.{NoMemory}
use Rattle.jup_embed.specs.Sessions.{kept, operations_in, said_bytes, RefusesLine}
use Rattle.jup_embed.specs.contracts.client.Client.{the_view}
use Rattle.jup_embed.proofs.Sessions.{heard_from, handed_on, refuses_from}
use Rattle.jup_embed.proofs.client.Client.hear.Goals as goal

pub returns-clause-heard : goal.returns-clause-heard
returns-clause-heard c =
    let heard = c.in_ok-said.field-0 in let more = kept c.reserve-2.new.self.watched (operations_in heard.shown) in
    heard_from c.args.line.now heard c.hear.new.self c.args.self.now (the_view c.self.inside) _ c.self.view_is c.in_ok-said.ensures refl refl
    (c.say.ensures.said ∙ ap (λ bytes. bytes ++ said_bytes heard.said) c.in_ok-reserve.ensures.same)
    (c.keep_shown.ensures.untold ∙ ap (λ ops. ops ++ more) c.in_ok-reserve-2.ensures.untold ∙ ap (λ watched. c.self.inside.changes.untold ++ kept watched (operations_in heard.shown)) c.in_ok-reserve-2.ensures.watched)
    (c.keep_shown.ensures.watched ∙ c.in_ok-reserve-2.ensures.watched) refl c.either-self-inside.ensures

pub returns-in_err-reserve-clause-refused : goal.returns-in_err-reserve-clause-refused
returns-in_err-reserve-clause-refused c = handed_on c.from_residual.result NoMemory (RefusesLine c.args.line.now c.args.self.now) c.from_residual.ensures.1 (inl refl)

pub returns-in_err-reserve-2-clause-refused : goal.returns-in_err-reserve-2-clause-refused
returns-in_err-reserve-2-clause-refused c =
    handed_on c.from_residual-in_err-reserve-2.result NoMemory (RefusesLine c.args.line.now c.args.self.now) c.from_residual-in_err-reserve-2.ensures.1 (inl refl)

pub returns-in_err-said-clause-refused : goal.returns-in_err-said-clause-refused
returns-in_err-said-clause-refused c =
    let end = c.in_err-said.field-0.0 in
    handed_on c.from_residual-in_err-said.result end (RefusesLine c.args.line.now c.args.self.now) c.from_residual-in_err-said.ensures.1
    (refuses_from c.args.line.now end c.hear.new.self c.args.self.now (the_view c.self.inside) c.self.view_is c.in_err-said.ensures)
