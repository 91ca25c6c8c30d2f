use Rattle.std.proofs.Common.{◌++◌, refl, ap, ◌∙◌}
use Rattle.jup_embed.specs.Sessions.{kept, operations_said, said_bytes}
use Rattle.jup_embed.specs.contracts.client.Client.{the_view}
use Rattle.jup_embed.proofs.Sessions.{asked_from}
use Rattle.jup_embed.proofs.client.Client.request.Goals as goal

pub returns-clause-asks : goal.returns-clause-asks
returns-clause-asks c =
    let before = c.self.inside in let answer = c.in_ok-said.field-0 in let more = kept c.reserve-2.new.self.watched (operations_said answer.said) in
    asked_from c.args.request.now answer answer.told c.answer_in.new.phase c.args.self.now (the_view before) _ c.self.view_is c.in_ok-said.ensures.answered refl refl refl
    (c.say.ensures.said ∙ ap (λ bytes. bytes ++ said_bytes answer.said) c.in_ok-reserve.ensures.same)
    (c.keep_said.ensures.untold ∙ ap (λ ops. ops ++ more) c.in_ok-reserve-2.ensures.untold ∙ ap (λ watched. before.changes.untold ++ kept watched (operations_said answer.said)) c.in_ok-reserve-2.ensures.watched)
    (c.keep_said.ensures.watched ∙ c.in_ok-reserve-2.ensures.watched) refl c.still_synced-self-inside.ensures
