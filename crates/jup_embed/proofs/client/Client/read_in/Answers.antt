use Rattle.std.proofs.Common.{refl, sym, ◌∙◌}
use Rattle.jup_embed.specs.Sessions.{Ends}
use Rattle.jup_embed.specs.contracts.client.Client.{the_view}
use Rattle.jup_embed.proofs.Sessions.{handed_on, read_ends, faulty_ends}
use Rattle.jup_embed.proofs.client.Client.read_in.Goals as goal

pub returns-in_err-hear_all-clause-ends : goal.returns-in_err-hear_all-clause-ends
returns-in_err-hear_all-clause-ends c =
    let end = c.in_err-hear_all.field-0.0 in
    handed_on c.from_residual-in_err-hear_all.result end (λ e. Ends c.args.bytes.now c.args.self.now e c.hear_all.new.self) c.from_residual-in_err-hear_all.ensures.1
    (read_ends c.args.bytes.now c.as_slice.result.now c.in_ok-fed.fed.lines c.args.self.now (the_view c.self.inside) (record (the_view c.self.inside) { progress = c.feed.new.self })
    c.hear_all.new.self end c.self.view_is c.as_slice.ensures refl c.in_ok-fed.ensures.read c.hear_all.ensures.read c.in_err-hear_all.ensures.refused)

pub returns-in-Some-clause-ends : goal.returns-in-Some-clause-ends
returns-in-Some-clause-ends c =
    faulty_ends c.args.bytes.now c.as_slice.result.now c.in_ok-fed.fed.lines c.in-Some.fault c.args.self.now (the_view c.self.inside) (record (the_view c.self.inside) { progress = c.feed.new.self })
    c.hear_all.new.self c.into.result c.self.view_is c.as_slice.ensures refl c.in_ok-fed.ensures.read c.hear_all.ensures.read c.in_ok-hear_all.ensures.heard
    (sym c.in_ok-fed.ensures.fault ∙ c.in-Some.is) c.into.ensures
