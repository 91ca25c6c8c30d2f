use Rattle.std.proofs.Common.{Some, ◌++◌, refl, ap, ◌∙◌}
use Rattle.jup_embed.specs.Sessions.{kept, operations_said, said_bytes}
use Rattle.jup_embed.specs.contracts.client.Client.{the_view}
use Rattle.jup_embed.proofs.Sessions.{edited_from}
use Rattle.jup_embed.proofs.client.Client.make.Goals as goal

pub returns-clause-made : goal.returns-clause-made
returns-clause-made c =
    let before = c.self.inside in let said = c.said_of.result in let more = kept c.reserve-2.new.self.watched (operations_said (Some said)) in
    edited_from c.args.commands.now c.in_ok-made.made c.edit_in.new.phase c.args.self.now (the_view before) _ c.self.view_is c.in_ok-made.ensures.made refl refl
    (c.say.ensures.said ∙ ap (λ bytes. bytes ++ said_bytes (Some said)) c.in_ok-reserve.ensures.same ∙ ap (λ s. before.unsent.bytes ++ said_bytes (Some s)) c.said_of.ensures)
    (c.keep_said.ensures.untold ∙ ap (λ ops. ops ++ more) c.in_ok-reserve-2.ensures.untold ∙ ap (λ watched. before.changes.untold ++ kept watched (operations_said (Some said))) c.in_ok-reserve-2.ensures.watched
    ∙ ap (λ s. before.changes.untold ++ kept before.changes.watched (operations_said (Some s))) c.said_of.ensures)
    (c.keep_said.ensures.watched ∙ c.in_ok-reserve-2.ensures.watched) refl refl
